-- The parts of a wait.
use Rattle.std.proofs.Common.{◌≡◌, ◌≢◌, ℕ, zero, suc, set, not, ◌+◌, ◌<◌, ◌≤◌, ◌==◌, Bool, true, false, ◌||◌, List, [], ◌∷◌, ◌++◌}
use Rattle.std.proofs.Common.{length, cond, take, drop, ◌⊎◌, inl, inr, refl, sym, ap, ◌∙◌, subst}
use Rattle.std.proofs.Common.{arith}
use Rattle.std.proofs.lemmas.List.{take_more_set}
use Rattle.std.proofs.lemmas.Bool.{false≢true, eq-eqb, eqb-true, ne_eqb, or_left}
use Rattle.std.specs.List.{AllByRecursion, list_any, Contains}
use Rattle.std.proofs.lemmas.List.Elements.{Contains-push}
use Rattle.std.proofs.lemmas.List.Folds.{list_any-append}
use Rattle.mv_latch.proofs.Members.{Found, found, finds}
use Rattle.mv_ecb.specs.declared.operation.EcbOp.{EcbOp}
use Rattle.mv_ecb.specs.declared.operation.EcbOp.TheVariants.{Arm, Settle}
use Rattle.mv_ecb.specs.declared.operation.EcbReply.TheVariants as ecb_reply
use Rattle.mv_machine.specs.declared.entry.Object.TheVariants.{Ecb}
use Rattle.mv_machine.specs.declared.entry.Op.{Op}
use Rattle.mv_machine.specs.declared.entry.Op.TheVariants as op_on
use Rattle.mv_machine.specs.declared.entry.Reply.{Reply}
use Rattle.mv_machine.specs.declared.entry.Reply.TheVariants as reply_of
use Rattle.mv_machine.specs.declared.entry.Entry.{Entry}
use Rattle.mv_machine.specs.System.{with_at}
use Rattle.mv_board.specs.declared.watch.Watch.{Watch}
use Rattle.mv_board.specs.declared.watch.Watch.TheVariants as watch
use Rattle.mv_board.specs.Faces.{CallerFace, HappenedAt, Happened, is_complete_reply}
use Rattle.mv_board.specs.View.{off}
use Rattle.mv_calls.specs.Keeping.{Kept, kept_of, kept_after, nothing_kept}
use Rattle.mv_calls.specs.Rest.{OpenWaits, no_waits, waits_from, waits_after, IsAtRest}
use Rattle.mv_calls.specs.Waits.{AreDistinct, arm_all, armed, settle_all, settled, complete_count}
use Rattle.mv_calls.specs.Program.{Program, on_ecb}
use Rattle.mv_wait.specs.Run.{Runs}
use Rattle.mv_calls.proofs.Making.{kept_from-append, waits_from-append}
use Rattle.mv_wait.specs.Ready.{is_block, has_ready, ready_count}
use Rattle.mv_wait.specs.Waiting.{IsArmedFor, ArePlain, IsComplete, IsBlockSettled, Waited, settle_reply}
use Rattle.mv_calls.specs.declared.outcomes.WaitSlot.{WaitSlot}
use Rattle.mv_calls.specs.declared.outcomes.WaitSlot.TheVariants as slot
use Rattle.mv_wait.proofs.Runs.{entry_of, runs_word}

-- ---- lists

pub distinct_later : (i : ℕ) (es : List ℕ) → AreDistinct es → AreDistinct (drop i es)
distinct_later zero es d = d
distinct_later (suc i) [] d = tt
distinct_later (suc i) (e ∷ es) d = distinct_later i es d.1

-- ---- ready blocks

block_watch : (n : ℕ) (w : Watch) → is_block n w ≡ true → w ≡ watch.Ecb n
block_watch n (watch.Ecb m) e = ap (λ j. watch.Ecb j) (eqb-true m n e)
block_watch n (watch.Element m) e = absurd (false≢true e)
block_watch n (watch.Latch latch id) e = absurd (false≢true e)

pub ready_contains : (ws : List Watch) (n : ℕ) → has_ready ws n ≡ true → Contains ws (watch.Ecb n)
ready_contains ws n e =
    let is : Found (is_block n) ws = found (is_block n) ws e in subst (Contains ws) (block_watch n is.0 is.2) is.1

-- with a watch more, the same blocks are ready, and its own
pub ready_still : (ws : List Watch) (w : Watch) (n : ℕ) → has_ready ws n ≡ true → has_ready (ws ++ w ∷ []) n ≡ true
ready_still ws w n e = list_any-append (is_block n) ws (w ∷ []) ∙ or_left (has_ready ws n) (has_ready (w ∷ []) n) e

pub ready_new : (ws : List Watch) (n : ℕ) → has_ready (ws ++ watch.Ecb n ∷ []) n ≡ true
ready_new ws n = finds (is_block n) (watch.Ecb n) (ws ++ watch.Ecb n ∷ []) (Contains-push ws (watch.Ecb n)) (eq-eqb n n refl)

pub count_one : (ws : List Watch) (e : ℕ) (es : List ℕ) → ready_count ws (e ∷ es) ≡ cond (has_ready ws e) 1 0 + ready_count ws es
count_one ws e es = go (has_ready ws e) refl where
  go : (b : Bool) → has_ready ws e ≡ b → ready_count ws (e ∷ es) ≡ cond b 1 0 + ready_count ws es
  go true is = rw is (omega arith)
  go false is = rw is (omega arith)

-- ---- an event on a block takes its own watch off, and no other block's
off_block : (ws : List Watch) (m e n : ℕ) (op : Op) → n ≢ e → (b : Bool) → (m == e) ≡ b → has_ready (off (Ecb e) op ws) n ≡ has_ready ws n
    → has_ready (cond (not b) (watch.Ecb m ∷ off (Ecb e) op ws) (off (Ecb e) op ws)) n ≡ ((m == n) || has_ready ws n)
off_block ws m e n op differ true is same = same ∙ sym (ap (λ b. b || has_ready ws n) (ne_eqb m n (λ q. differ (sym q ∙ eqb-true m e is))))
off_block ws m e n op differ false is same = ap (λ b. (m == n) || b) same

off_other : (ws : List Watch) (e n : ℕ) (op : Op) → n ≢ e → has_ready (off (Ecb e) op ws) n ≡ has_ready ws n
off_other [] e n op differ = refl
off_other (watch.Ecb m ∷ ws) e n op differ = off_block ws m e n op differ (m == e) refl (off_other ws e n op differ)
off_other (watch.Element m ∷ ws) e n op differ = off_other ws e n op differ
off_other (watch.Latch latch id ∷ ws) e n op differ = off_other ws e n op differ

pub off_counts : (ws : List Watch) (e : ℕ) (op : Op) (es : List ℕ) → AllByRecursion (λ m. m ≡ e → ⊥) es
    → ready_count (off (Ecb e) op ws) es ≡ ready_count ws es
off_counts ws e op [] all = refl
off_counts ws e op (x ∷ es) all =
    count_one (off (Ecb e) op ws) x es
    ∙ (ap (λ b. cond b 1 0 + ready_count (off (Ecb e) op ws) es) (off_other ws e x op all.0)
    ∙ (ap (λ n. cond (has_ready ws x) 1 0 + n) (off_counts ws e op es all.1) ∙ sym (count_one ws x es)))

-- ---- what is armed

any_not : (n : ℕ) (es : List ℕ) → AllByRecursion (λ m. m ≡ n → ⊥) es → list_any (λ e. n == e) es ≡ false
any_not n [] all = refl
any_not n (e ∷ es) all = rw (ne_eqb n e (λ q. all.0 (sym q))) (any_not n es all.1)

armed_one : (armed : ℕ → Bool) (e n : ℕ) (before : Bool) → armed n ≡ before → with_at armed e true n ≡ (before || ((n == e) || false))
armed_one armed e n before is = go (n == e) before is where
  go : (b before : Bool) → armed n ≡ before → cond b true (armed n) ≡ (before || (b || false))
  go true true is = refl
  go true false is = refl
  go false true is = is
  go false false is = is

after_one : (log : List Entry) (x : Entry)
    → waits_from no_waits (log ++ x ∷ []) ≡ waits_after (waits_from no_waits log) x.object x.op x.reply
after_one log x = waits_from-append no_waits log (x ∷ [])

-- one more block is armed
pub armed_more : (es : List ℕ) (log : List Entry) (k e place : ℕ) (reply : Reply) → IsArmedFor es log
    → IsArmedFor (es ++ e ∷ []) (log ++ record { caller = k; object = Ecb e; place = place; op = op_on.Ecb Arm; reply = reply } ∷ [])
armed_more es log k e place reply a =
    let x : Entry = record { caller = k; object = Ecb e; place = place; op = op_on.Ecb Arm; reply = reply } in record {
      armed = λ n. ap (λ w. w.armed n) (after_one log x)
          ∙ (armed_one (waits_from no_waits log).armed e n (list_any (λ m. n == m) es) (a.armed n)
          ∙ sym (list_any-append (λ m. n == m) es (e ∷ [])));
      parked = λ n. ap (λ w. w.parked n) (after_one log x) ∙ a.parked n;
      queued = λ latch id. ap (λ w. w.queued latch id) (after_one log x) ∙ a.queued latch id;
    }

settled_one : (armed : ℕ → Bool) (e n : ℕ) (es : List ℕ) → AllByRecursion (λ m. m ≡ e → ⊥) es
    → armed n ≡ ((n == e) || list_any (λ m. n == m) es)
    → with_at armed e false n ≡ list_any (λ m. n == m) es
settled_one armed e n es differ is = go (n == e) refl is where
  go : (b : Bool) → (n == e) ≡ b → armed n ≡ (b || list_any (λ m. n == m) es) → cond b false (armed n) ≡ list_any (λ m. n == m) es
  go true here is = sym (subst (λ j. list_any (λ m. j == m) es ≡ false) (sym (eqb-true n e here)) (any_not e es differ))
  go false here is = is

-- the first of those that are armed is settled
pub settled_less : (es : List ℕ) (log : List Entry) (k e place : ℕ) (reply : Reply) → AllByRecursion (λ m. m ≡ e → ⊥) es
    → IsArmedFor (e ∷ es) log
    → IsArmedFor es (log ++ record { caller = k; object = Ecb e; place = place; op = op_on.Ecb Settle; reply = reply } ∷ [])
settled_less es log k e place reply differ a =
    let x : Entry = record { caller = k; object = Ecb e; place = place; op = op_on.Ecb Settle; reply = reply } in record {
      armed = λ n. ap (λ w. w.armed n) (after_one log x) ∙ settled_one (waits_from no_waits log).armed e n es differ (a.armed n);
      parked = λ n. ap (λ w. w.parked n) (after_one log x) ∙ a.parked n;
      queued = λ latch id. ap (λ w. w.queued latch id) (after_one log x) ∙ a.queued latch id;
    }

pub rest_is_none : (log : List Entry) → IsAtRest log → IsArmedFor [] log
rest_is_none log r = record { armed = r.armed; parked = r.parked; queued = r.queued }

pub none_is_rest : (log : List Entry) → IsArmedFor [] log → IsAtRest log
none_is_rest log a = record { armed = a.armed; parked = a.parked; queued = a.queued }

-- ---- what is extended stays so through arms and settles

pub kept_one : (k : ℕ) (log : List Entry) (x : Entry) → kept_of k (log ++ x ∷ []) ≡ kept_after (kept_of k log) x.object x.op x.reply
kept_one k log x = kept_from-append (nothing_kept k) log (x ∷ [])

pub event_keeps : (t u : CallerFace) (e place : ℕ) (op : EcbOp) (reply : Reply) (es : List ℕ)
    → HappenedAt t (Ecb e) place (op_on.Ecb op) reply u
    → ((q : Kept) → (kept_after q (Ecb e) (op_on.Ecb op) reply).extended ≡ q.extended) → ArePlain t es → ArePlain u es
event_keeps t u e place op reply es h stays all = subst (λ held. AllByRecursion (λ n. held n ≡ false) es) (sym same) all where
  same : (kept_of u.number u.log).extended ≡ (kept_of t.number t.log).extended
  same = (λ i. (kept_of (h.same.number i) (h.logged i)).extended)
      ∙ (ap (λ (q : Kept). q.extended) (kept_one t.number t.log (entry_of t (Ecb e) place (op_on.Ecb op) reply))
      ∙ stays (kept_of t.number t.log))

pub settled_complete : (found : WaitSlot) → is_complete_reply (reply_of.Ecb (settle_reply found)) ≡ true → IsComplete found
settled_complete (slot.Complete code) e = (code, refl)
settled_complete slot.Open e = absurd (false≢true e)

-- ---- one step of a wait

-- no block of these is armed, by the log
abbrev pub AreIdle : List Entry → List ℕ → Type 0
AreIdle log es = AllByRecursion (λ n. (waits_from no_waits log).armed n ≡ false) es

still_idle : (armed : ℕ → Bool) (e : ℕ) (es : List ℕ) → AllByRecursion (λ m. m ≡ e → ⊥) es → AllByRecursion (λ n. armed n ≡ false) es
    → AllByRecursion (λ n. with_at armed e true n ≡ false) es
still_idle armed e [] differ idle = tt
still_idle armed e (x ∷ es) differ idle = (rw (ne_eqb x e differ.0) idle.0, still_idle armed e es differ.1 idle.1)

pub idle_after : (t u : CallerFace) (e place : ℕ) (reply : Reply) (es : List ℕ) → HappenedAt t (Ecb e) place (op_on.Ecb Arm) reply u
    → AllByRecursion (λ m. m ≡ e → ⊥) es
    → AreIdle t.log es → AreIdle u.log es
idle_after t u e place reply es h differ idle =
    subst (λ log. AreIdle log es) (sym h.logged)
    (subst (λ (w : OpenWaits). AllByRecursion (λ n. w.armed n ≡ false) es)
    (sym (after_one t.log (entry_of t (Ecb e) place (op_on.Ecb Arm) reply)))
    (still_idle (waits_from no_waits t.log).armed e es differ idle))

none_armed : (log : List Entry) (es : List ℕ) → IsAtRest log → AreIdle log es
none_armed log [] r = tt
none_armed log (e ∷ es) r = (r.armed e, none_armed log es r)

pub idle_at_rest : (log : List Entry) (es : List ℕ) → IsAtRest log → AreIdle log es
idle_at_rest log es r = none_armed log es r

armed_next : (r : Reply) (q : Program Waited)
    → (r ≡ reply_of.Ecb ecb_reply.Armed) ⊎ ((code : ℕ) × (r ≡ reply_of.Ecb (ecb_reply.Complete code))) → on_ecb r (armed q) ≡ q
armed_next r q (inl e) = rw e refl
armed_next r q (inr (code, e)) = rw e refl

pub arm_step : (t u : CallerFace) (e : ℕ) (reply : Reply) (es : List ℕ) (p : Program Waited) → Happened t (Ecb e) (op_on.Ecb Arm) reply u
    → (reply ≡ reply_of.Ecb ecb_reply.Armed) ⊎ ((code : ℕ) × (reply ≡ reply_of.Ecb (ecb_reply.Complete code)))
    → Runs 1 (arm_all (e ∷ es) p) (arm_all es p) t u
arm_step t u e reply es p h r =
    runs_word (arm_all (e ∷ es) p) (arm_all es p) t (Ecb e) (op_on.Ecb Arm) reply u tt h refl
    (λ x is. ap (λ z. on_ecb z (armed (arm_all es p))) is ∙ armed_next reply (arm_all es p) r)

settled_next : (found : WaitSlot) (f : WaitSlot → Program Waited)
    → on_ecb (reply_of.Ecb (settle_reply found)) (settled f) ≡ f found
settled_next (slot.Complete code) f = refl
settled_next slot.Open f = refl

pub settle_step : (t u : CallerFace) (e : ℕ) (slot : WaitSlot) (es : List ℕ) (found : List WaitSlot)
    (f : List WaitSlot → Program Waited) → IsBlockSettled e t slot u
    → Runs 1 (settle_all (e ∷ es) found f) (settle_all es (found ++ slot ∷ []) f) t u
settle_step t u e slot es found f h =
    runs_word (settle_all (e ∷ es) found f) (settle_all es (found ++ slot ∷ []) f) t (Ecb e) (op_on.Ecb Settle)
    (reply_of.Ecb (settle_reply slot)) u tt h refl
    (λ x is. ap (λ z. on_ecb z (settled (λ s. settle_all es (found ++ s ∷ []) f))) is
    ∙ settled_next slot (λ s. settle_all es (found ++ s ∷ []) f))

-- ---- how many are complete

complete_last : (xs : List WaitSlot) (s : WaitSlot) → complete_count (xs ++ s ∷ []) ≡ complete_count xs + complete_count (s ∷ [])
complete_last [] s = omega arith
complete_last (slot.Complete code ∷ xs) s = let later = complete_last xs s in omega arith
complete_last (slot.Open ∷ xs) s = complete_last xs s

-- one slot more
pub slots_more : (i : ℕ) (out : List WaitSlot) (s : WaitSlot) → i < length out
    → take (i + 1) (set out i s) ≡ take i out ++ s ∷ []
slots_more i out s lt = take_more_set out i s lt

ready_complete : (b : Bool) (s : WaitSlot) → (b ≡ true → IsComplete s) → cond {A = ℕ} b 1 0 ≤ complete_count (s ∷ [])
ready_complete true (slot.Complete code) f = omega arith
ready_complete true slot.Open f = let w = f refl in absurd (cc w.1)
ready_complete false s f = omega arith

-- what is ready of those after it, and what was found complete, are still enough
pub enough_still : (count i e : ℕ) (es : List ℕ) (ready : List Watch) (xs : List WaitSlot) (s : WaitSlot)
    → AllByRecursion (λ m. m ≡ e → ⊥) es
    → (has_ready ready e ≡ true → IsComplete s) → count ≤ complete_count xs + ready_count ready (e ∷ es)
    → count ≤ complete_count (xs ++ s ∷ []) + ready_count (off (Ecb e) (op_on.Ecb Settle) ready) es
enough_still count i e es ready xs s differ complete le =
    let a = count_one ready e es in
    let b = off_counts ready e (op_on.Ecb Settle) es differ in
    let c = complete_last xs s in
    let d = ready_complete (has_ready ready e) s complete in
    omega arith
