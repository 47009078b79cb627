-- A history with one entry more follows if the entry is the machine's next and what its caller's program says, and no wait has ended too
-- soon by it. The converse, from a history that follows to its entries, is Interleaved of mv_calls.
use Rattle.std.proofs.Common.{◌≡◌, ℕ, ◌<◌, List, [], ◌∷◌, ◌++◌, Some, ◌⊎◌, inl, inr, refl, sym, ap, ◌∙◌, subst}
use Rattle.std.proofs.lemmas.Bool.{cases_eq}
use Rattle.mv_machine.specs.declared.entry.Entry.{Entry}
use Rattle.mv_machine.specs.Legal.{IsNext, next, after_from, LegalFrom}
use Rattle.mv_config.specs.Setup.{Setup}
use Rattle.mv_machine.specs.System.{System, opening, with_at}
use Rattle.mv_machine.proofs.Histories.{with_at-same, with_at-other}
use Rattle.mv_calls.specs.Program.{Program, Heard, Done, Early, asks, heard, left, Says, IsDoneOn}
use Rattle.mv_calls.specs.Runs.{left_in, FollowPrograms}
use Rattle.mv_calls.proofs.Hearing.{hearing, heard_from, noted_is, heard_own, heard_other}
use Rattle.mv_calls.proofs.Interleaved.{programs_after, programs_after_is, left_in_is, FollowFrom, follow_from, callers_exist}

-- the residual programs after one entry more
abbrev pub left_after : {A : Type 0} → System → (ℕ → Program A) → Entry → ℕ → Program A
left_after s t e = with_at t e.caller (heard (t e.caller) (hearing s e))

pub programs_push : {A : Type 0} (s : System) (t : ℕ → Program A) (es : List Entry) (e : Entry)
    → programs_after s t (es ++ e ∷ []) ≡ left_after (after_from s es) (programs_after s t es) e
programs_push s t [] e = refl
programs_push s t (x ∷ es) e = programs_push (next s x) (left_after s t x) es e

-- each entry is the machine's next and said by its caller's program
pub follow_push : {A : Type 0} (c : Setup) (s : System) (t : ℕ → Program A) (es : List Entry) (e : Entry) → FollowFrom c s t es
    → IsNext c (after_from s es) e → asks (programs_after s t es e.caller) ≡ Some (e.object, e.op) → FollowFrom c s t (es ++ e ∷ [])
follow_push c s t [] e f n a = (n, a, tt)
follow_push c s t (x ∷ es) e f n a = (f.0, f.1, follow_push c (next s x) (left_after s t x) es e f.2 n a)

-- ---- back to the definition, caller by caller

legal_of : {A : Type 0} (c : Setup) (s : System) (t : ℕ → Program A) (es : List Entry) → FollowFrom c s t es → LegalFrom c s es
legal_of c s t [] f = tt
legal_of c s t (e ∷ es) f = (f.0, legal_of c (next s e) (left_after s t e) es f.2)

-- a caller's program says its entries
says_own : {A : Type 0} (c : Setup) (s : System) (t : ℕ → Program A) (es : List Entry) (k : ℕ) → FollowFrom c s t es
    → Says (t k) (heard_from s k es)
says_own c s t [] k f = tt
says_own {A} c s t (e ∷ es) k f = by (cases_eq e.caller k) (says_own c (next s e) (left_after s t e) es k f.2) where
  by : (e.caller ≡ k) ⊎ (e.caller ≡ k → ⊥) → Says (left_after s t e k) (heard_from (next s e) k es) → Says (t k) (heard_from s k (e ∷ es))
  by (inl own) w = subst (λ hs. Says (t k) hs) (sym (heard_own s k e es own)) (
    ap (λ j. asks (t j)) (sym own) ∙ f.1,
    subst (λ p. Says p (heard_from (next s e) k es))
        (with_at-same t e.caller (heard (t e.caller) (hearing s e)) k (sym own) ∙ ap (λ j. heard (t j) (hearing s e)) own) w,
  )
  by (inr other) w = subst (λ hs. Says (t k) hs) (sym (heard_other s k e es other))
      (subst (λ p. Says p (heard_from (next s e) k es))
      (with_at-other t e.caller (heard (t e.caller) (hearing s e)) k (λ q. other (sym q))) w)

pub follows_by : {A : Type 0} (c : Setup) (programs : ℕ → Program A) (es : List Entry) → FollowFrom c (opening c) programs es
    → ((k : ℕ) → k < c.callers → left_in c programs k es ≡ Early → ⊥) → FollowPrograms c programs es
follows_by c programs es f waits = record {
  legal = legal_of c (opening c) programs es f;
  callers = callers_exist c (opening c) es (legal_of c (opening c) programs es f);
  says = λ k lt. subst (λ hs. Says (programs k) hs) (sym (noted_is (opening c) k es)) (says_own c (opening c) programs es k f);
  waits = waits;
}

-- ---- a prefix of a history that follows, follows

follow_prefix : {A : Type 0} (c : Setup) (s : System) (t : ℕ → Program A) (es rest : List Entry) → FollowFrom c s t (es ++ rest)
    → FollowFrom c s t es
follow_prefix c s t [] rest f = tt
follow_prefix c s t (e ∷ es) rest f = (f.0, f.1, follow_prefix c (next s e) (left_after s t e) es rest f.2)

programs_append : {A : Type 0} (s : System) (t : ℕ → Program A) (es rest : List Entry)
    → programs_after s t (es ++ rest) ≡ programs_after (after_from s es) (programs_after s t es) rest
programs_append s t [] rest = refl
programs_append s t (e ∷ es) rest = programs_append (next s e) (left_after s t e) es rest

-- a program whose wait ended too soon stays so
pub early_stays : {A : Type 0} (hs : List Heard) → left {A = A} Early hs ≡ Early
early_stays [] = refl
early_stays {A} (h ∷ hs) = early_stays {A = A} hs

early_after : {A : Type 0} (s : System) (t : ℕ → Program A) (es : List Entry) (k : ℕ) → t k ≡ Early → programs_after s t es k ≡ Early
early_after s t es k e = programs_after_is s t es k ∙ ap (λ p. left p (heard_from s k es)) e ∙ early_stays (heard_from s k es)

pub prefix_follows : {A : Type 0} (c : Setup) (programs : ℕ → Program A) (es rest : List Entry) → FollowPrograms c programs (es ++ rest)
    → FollowPrograms c programs es
prefix_follows c programs es rest f = follows_by c programs es (follow_prefix c (opening c) programs es rest
    (follow_from c programs (es ++ rest) f))
    (λ k lt early. f.waits k lt (left_in_is c programs (es ++ rest) k
    ∙ ap (λ g. g k) (programs_append (opening c) programs es rest)
    ∙ early_after (after_from (opening c) es) (programs_after (opening c) programs es) rest k (sym (left_in_is c programs es k) ∙ early)))

-- ---- the residual program after a prefix of a history in which its task is done

pub follow_later : {A : Type 0} (c : Setup) (s : System) (t : ℕ → Program A) (es rest : List Entry) → FollowFrom c s t (es ++ rest)
    → FollowFrom c (after_from s es) (programs_after s t es) rest
follow_later c s t [] rest f = f
follow_later c s t (e ∷ es) rest f = follow_later c (next s e) (left_after s t e) es rest f.2

-- it is done on what its caller hears in the rest
pub done_later : {A : Type 0} (c : Setup) (programs : ℕ → Program A) (es rest : List Entry) (k : ℕ) (a : A)
    → FollowPrograms c programs (es ++ rest) → left_in c programs k (es ++ rest) ≡ Done a
    → IsDoneOn (left_in c programs k es) (heard_from (after_from (opening c) es) k rest) a
done_later {A} c programs es rest k a f e = subst (λ p. IsDoneOn p (heard_from (after_from (opening c) es) k rest) a)
    (sym (left_in_is c programs es k)) (record {
      says = says_own c (after_from (opening c) es) later rest k
          (follow_later c (opening c) programs es rest (follow_from c programs (es ++ rest) f));
      done = sym (programs_after_is (after_from (opening c) es) later rest k)
          ∙ ap (λ g. g k) (sym (programs_append (opening c) programs es rest)) ∙ sym (left_in_is c programs (es ++ rest) k) ∙ e;
    }) where
      later : ℕ → Program A
      later = programs_after (opening c) programs es
