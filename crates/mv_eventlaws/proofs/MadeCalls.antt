-- A call on a table that was made is answered as the law says, in each history that goes on from its caller's log.
use Rattle.std.proofs.Common.{◌≡◌, ℕ, ◌<◌, List, [], ◌∷◌, ◌++◌, ◌⊎◌, inl, inr, refl, sym, ap, ◌∙◌, subst, append_assoc}
use Rattle.std.specs.Prelude.{Result, Err}
use Rattle.std.specs.List.{AllByRecursion}
use Rattle.std.proofs.lemmas.Bool.{cases_eq}
use Rattle.mv_latch.specs.declared.operation.Wake.{Wake}
use Rattle.mv_machine.specs.declared.entry.Entry.{Entry}
use Rattle.mv_machine.specs.Legal.{Legal, of}
use Rattle.mv_config.specs.Setup.{Setup}
use Rattle.mv_machine.specs.System.{opening, with_at}
use Rattle.mv_machine.specs.Told.{told}
use Rattle.mv_machine.proofs.Histories.{with_at-same, with_at-other}
use Rattle.mv_machine.proofs.Places.{of_other}
use Rattle.mv_calls.specs.declared.table.Table.{Table}
use Rattle.mv_calls.specs.Events.{Entering, Finding, post_event, next_event}
use Rattle.mv_calls.specs.Keeping.{kept_of, nothing_kept}
use Rattle.mv_calls.specs.Made.{IsMade}
use Rattle.mv_calls.specs.Program.{Heard, IsDoneOn, entries, noted, wakes_then}
use Rattle.mv_calls.specs.Refusal.{Refusal}
use Rattle.mv_calls.specs.Runs.{heard_in}
use Rattle.mv_calls.specs.Table.{IsSoundTable}
use Rattle.mv_calls.proofs.Interleaved.{callers_exist}
use Rattle.mv_calls.proofs.Making.{kept_caller}
use Rattle.mv_eventlaws.specs.Completions.{completions}
use Rattle.mv_eventlaws.specs.Discipline.{Posts, Takes, AreDeeds}
use Rattle.mv_eventlaws.specs.Order.{IsAnswered, IsTableInOrder, IsAnsweredInOrder, MayCome}
use Rattle.mv_eventlaws.proofs.Agreeing.{posts_agree}
use Rattle.mv_eventlaws.proofs.Pieces.{entries_append, cons_same, find_post, Anew, anew}
use Rattle.mv_eventlaws.proofs.Programs.{refused_post, post_begins}
use Rattle.mv_eventlaws.proofs.Steps.{err_answered, err_taken}
use Rattle.mv_eventlaws.proofs.Takings.{refused_take}
use Rattle.mv_eventlaws.proofs.Walk.{table_in_order, table_blocks}

-- what a caller hears are its entries
entries_noted : (es : List Entry) (ws : List (List Wake)) → entries (noted es ws) ≡ es
entries_noted [] ws = refl
entries_noted (e ∷ es) ws = ap (λ l. e ∷ l) (entries_noted es (wakes_then e.object e.op ws))

-- who has an entry is a caller
entry_of_caller : (n k : ℕ) (es : List Entry) (e : Entry) (rest : List Entry) → AllByRecursion (λ x. x.caller < n) es → of k es ≡ e ∷ rest
    → k < n
entry_of_caller n k [] e rest w q = absurd (cc q)
entry_of_caller n k (x ∷ es) e rest w q = elim (cases_eq x.caller k) [
  | inl own ↦ subst (λ z. z < n) own w.0
  | inr other ↦ entry_of_caller n k es e rest w.1 (sym (of_other k x es other) ∙ q)
]

in_front : (front : List Entry) (e : Entry) (rest xs : List Entry) → xs ≡ front ++ e ∷ rest
    → (x : Entry) × (ys : List Entry) × (xs ≡ x ∷ ys)
in_front [] e rest xs q = (e, rest, q)
in_front (x ∷ front) e rest xs q = (x, front ++ e ∷ rest, q)

module _ (c : Setup) (t : Table) (k most : ℕ) (old new : List Entry) (told_before told_since : List (List Wake)) (sound : IsSoundTable c t)
  where
    -- the caller's entries in a history that goes on from the log
    split_log : (es : List Entry) (events : List Heard) (more : List Entry) → new ≡ old ++ entries events → of k es ≡ new ++ more
        → of k es ≡ old ++ (entries events ++ more)
    split_log es events more e q = q ∙ ap (λ z. z ++ more) e ∙ append_assoc old (entries events) more

    below : (es : List Entry) (e : Entry) (rest : List Entry) → Legal c es → of k es ≡ old ++ e ∷ rest → k < c.callers
    below es e rest legal q =
        let x : (x : Entry) × (ys : List Entry) × (of k es ≡ x ∷ ys) = in_front old e rest (of k es) q in
        entry_of_caller c.callers k es x.0 x.1 (callers_exist c (opening c) es legal) x.2

    pub post_answered : (index code : ℕ) (answer : Result Entering Refusal)
        → IsMade most (post_event c t index code) k old new told_before told_since answer
        → IsAnsweredInOrder c t k new (Posts index code answer)
    post_answered index code answer w deeds es legal disciplined begin =
        go w.events w.done (split_log es w.events begin.0 w.longer.logged begin.1) where
          go : (events : List Heard) → IsDoneOn (post_event c t index code (kept_of k old)) events answer
              → of k es ≡ old ++ (entries events ++ begin.0) → IsAnswered (completions t es) (Posts index code answer)
          go [] d q =
              let r : (why : Refusal) × (answer ≡ Err why) × MayCome why = refused_post c t index code (kept_of k old) answer d in
              err_answered (completions t es) index code answer r.0 r.1 r.2
          go (g ∷ events) d q =
              let less : k < c.callers = below es g.entry (entries events ++ begin.0) legal q in
              let law : IsTableInOrder c t deeds es = table_in_order c t deeds es sound legal disciplined in
              let b = post_begins c t index code (kept_of k old) g events answer d in
              let f = find_post c t k (completions t es) g.entry _ (entries events ++ begin.0) b.object b.operation (deeds k)
              (heard_in c k es) old (disciplined k less) (entries_noted (of k es) (told c k es) ∙ q) (law.answers k less) in
              posts_agree c t (table_blocks c t sound) (completions t es) f.index f.code index code f.kept (kept_of k old) f.here g f.piece
              events f.answer answer (record {
                more = entries f.later;
                others = begin.0;
                same = cons_same f.here.entry g.entry (entries f.piece ++ entries f.later) (entries events ++ begin.0) f.is
                    (sym (entries_append f.piece f.later) ∙ f.follow);
              }) f.is_done d f.answered

    pub next_answered : (position : ℕ) (answer : Result Finding Refusal)
        → IsMade most (next_event c t position) k old new told_before told_since answer
        → IsAnsweredInOrder c t k new (Takes position answer)
    next_answered position answer w deeds es legal disciplined begin =
        go w.events w.done (split_log es w.events begin.0 w.longer.logged begin.1) where
          go : (events : List Heard) → IsDoneOn (next_event c t position (kept_of k old)) events answer
              → of k es ≡ old ++ (entries events ++ begin.0) → IsAnswered (completions t es) (Takes position answer)
          go [] d q =
              let r : (why : Refusal) × (answer ≡ Err why) × MayCome why = refused_take c t position (kept_of k old) answer d in
              err_taken (completions t es) position answer r.0 r.1 r.2
          go (g ∷ events) d q = a.has (completions t es)
              (subst (AllByRecursion (IsAnswered (completions t es))) (with_at-same deeds k a.deeds k refl) (law.answers k less)) where
                less : k < c.callers
                less = below es g.entry (entries events ++ begin.0) legal q

                a : Anew c t k position answer (kept_of k old) (kept_caller (nothing_kept k) old) g events begin.0 d (heard_in c k es)
                a = anew c t k position answer (kept_of k old) (kept_caller (nothing_kept k) old) g events begin.0 d (deeds k)
                    (heard_in c k es) old (disciplined k less) (entries_noted (of k es) (told c k es) ∙ q)

                each : (j : ℕ) → j < c.callers → (j ≡ k) ⊎ (j ≡ k → ⊥) → AreDeeds c t j (with_at deeds k a.deeds j) (heard_in c j es)
                each j lt (inl same) = subst (λ z. AreDeeds c t j z (heard_in c j es)) (sym (with_at-same deeds k a.deeds j same))
                    (subst (λ z. AreDeeds c t z a.deeds (heard_in c z es)) (sym same) a.made)
                each j lt (inr other) = subst (λ z. AreDeeds c t j z (heard_in c j es)) (sym (with_at-other deeds k a.deeds j other))
                    (disciplined j lt)

                law : IsTableInOrder c t (with_at deeds k a.deeds) es
                law = table_in_order c t (with_at deeds k a.deeds) es sound legal (λ j lt. each j lt (cases_eq j k))
