-- A computed history of a deck that is not sound: two jobs use two latches in opposite orders, and each waits for the latch that the other
-- holds. The history follows and has no early settle, the jobs are not done, and no entry can come next: a deadlock. So it is the rising
-- order of latches, which a sound deck has, that keeps initiators from waiting for one another.
use Rattle.mv_plan.proofs.Words.{◌≡◌, ℕ, zero, suc, ◌<◌, List, [], ◌∷◌, ◌++◌, Option, Some, None, refl, sym, ap, ◌∙◌, arith}
use Rattle.mv_plan.proofs.Words.{Entry, IsNext, Object, Op, Reply, System, EcbOp, EcbReply, ElementOp, ElementReply, LatchOp, LatchReply}
use Rattle.mv_plan.proofs.Words.{JobData, Use, Exclusive, Setup, spool_setup, task_program, Follows, IsRun, Early, legal_by, at_block}
use Rattle.mv_plan.proofs.Words.{at_element, at_latches, left_in, Program, Heard, heard, asks, opening, after, codes, programs_after}
use Rattle.mv_plan.proofs.Words.{reply_to, some_pair_parts, Bool, true, false, false≢true, not, ◌||◌, ◌==◌, ne_eqb, list_any}
use Rattle.mv_plan.proofs.Words.{end_for_scheduler}
use Rattle.mv_latch.specs.declared.request.LatchForm.TheVariants.{Waiting}
use Rattle.mv_machine.proofs.Histories.{with_at-same}
use Rattle.mv_machine.proofs.Lists.{all_back}
use Rattle.mv_machine.specs.Legal.{Legal}
use Rattle.mv_calls.specs.Program.{Says}
use Rattle.mv_calls.specs.Runs.{heard_in}
use Rattle.mv_calls.proofs.Hearing.{hearing}
use Rattle.mv_calls.proofs.Interleaved.{callers_exist, follow_from, left_in_is}
use Rattle.mv_deck.specs.Sound.{IsSound}
use Rattle.mv_progress.specs.Progress.{HasNoEarlySettle}
use Rattle.mv_progress.proofs.Longer.{programs_push, follow_later}
use Rattle.mv_progress.proofs.Rows.{says_by, not_early}

unfoldable pub crossed_deck : List JobData
crossed_deck =
    record { name = codes "UP"; after = []; steps = Use 0 Exclusive ∷ Use 1 Exclusive ∷ [] }
    ∷ record { name = codes "DOWN"; after = []; steps = Use 1 Exclusive ∷ Use 0 Exclusive ∷ [] }
    ∷ []

unfoldable pub crossed : List Entry
crossed =
    at_block 0 0 0 (EcbOp.Post 0) EcbReply.Posted
    ∷ at_block 0 1 0 (EcbOp.Post 0) EcbReply.Posted
    ∷ at_element 2 2 0 ElementOp.Open (ElementReply.Opened 0)
    ∷ at_block 2 8 0 (EcbOp.Post 0) EcbReply.Posted
    ∷ at_element 3 3 0 ElementOp.Open (ElementReply.Opened 0)
    ∷ at_block 3 9 0 (EcbOp.Post 0) EcbReply.Posted
    ∷ at_block 1 0 1 EcbOp.Arm (EcbReply.Complete 0)
    ∷ at_block 1 0 2 EcbOp.Settle (EcbReply.Complete 0)
    ∷ at_block 1 2 0 (EcbOp.Extend 1) EcbReply.Armed
    ∷ at_block 1 8 1 EcbOp.Arm (EcbReply.Complete 0)
    ∷ at_block 1 9 1 EcbOp.Arm (EcbReply.Complete 0)
    ∷ at_block 1 8 2 EcbOp.Settle (EcbReply.Complete 0)
    ∷ at_block 1 9 2 EcbOp.Settle (EcbReply.Complete 0)
    ∷ at_block 1 8 3 EcbOp.Clear (EcbReply.Word 1073741824)
    ∷ at_element 1 2 1 (ElementOp.Release 0 1) ElementReply.Early
    ∷ at_block 1 1 1 EcbOp.Arm (EcbReply.Complete 0)
    ∷ at_block 1 1 2 EcbOp.Settle (EcbReply.Complete 0)
    ∷ at_block 1 3 0 (EcbOp.Extend 2) EcbReply.Armed
    ∷ at_block 1 8 4 EcbOp.Arm EcbReply.Armed
    ∷ at_block 1 9 3 EcbOp.Arm (EcbReply.Complete 0)
    ∷ at_block 1 8 5 EcbOp.Settle EcbReply.Open
    ∷ at_block 1 9 4 EcbOp.Settle (EcbReply.Complete 0)
    ∷ at_block 1 9 5 EcbOp.Clear (EcbReply.Word 1073741824)
    ∷ at_element 1 3 1 (ElementOp.Release 0 2) ElementReply.Early
    ∷ at_block 1 8 6 EcbOp.Arm EcbReply.Armed
    ∷ at_element 2 2 2 (ElementOp.Pause 0) (ElementReply.Given 1 1)
    ∷ at_latches 2 0 (LatchOp.Obtain 0 1 Exclusive Waiting) (LatchReply.Granted 0)
    ∷ at_element 3 3 2 (ElementOp.Pause 0) (ElementReply.Given 2 1)
    ∷ at_latches 3 1 (LatchOp.Obtain 1 2 Exclusive Waiting) (LatchReply.Granted 1)
    ∷ at_latches 2 2 (LatchOp.Obtain 1 1 Exclusive Waiting) (LatchReply.Queued 2)
    ∷ at_latches 3 3 (LatchOp.Obtain 0 2 Exclusive Waiting) (LatchReply.Queued 3)
    ∷ at_block 4 5 0 EcbOp.Arm EcbReply.Armed
    ∷ []

crossed_is_legal : Legal (spool_setup crossed_deck 2) crossed
unfolding crossed_deck crossed
crossed_is_legal = legal_by (spool_setup crossed_deck 2) crossed refl

crossed_says : (k : ℕ) → k < 5 → Says (task_program crossed_deck 2 k) (heard_in (spool_setup crossed_deck 2) k crossed)
unfolding crossed_deck crossed
crossed_says zero lt = says_by (task_program crossed_deck 2 0) (heard_in (spool_setup crossed_deck 2) 0 crossed) refl
crossed_says (suc zero) lt = says_by (task_program crossed_deck 2 1) (heard_in (spool_setup crossed_deck 2) 1 crossed) refl
crossed_says (suc (suc zero)) lt = says_by (task_program crossed_deck 2 2) (heard_in (spool_setup crossed_deck 2) 2 crossed) refl
crossed_says (suc (suc (suc zero))) lt = says_by (task_program crossed_deck 2 3) (heard_in (spool_setup crossed_deck 2) 3 crossed) refl
crossed_says (suc (suc (suc (suc zero)))) lt =
    says_by (task_program crossed_deck 2 4) (heard_in (spool_setup crossed_deck 2) 4 crossed) refl
crossed_says (suc (suc (suc (suc (suc k))))) lt = absurd (omega arith)

-- what is left of each program
abbrev what_is_left : ℕ → Program (List ℕ)
what_is_left k = left_in (spool_setup crossed_deck 2) (task_program crossed_deck 2) k crossed

crossed_waits : (k : ℕ) → k < 5 → what_is_left k ≡ Early → ⊥
unfolding crossed_deck crossed
crossed_waits zero lt e = not_early (what_is_left 0) refl e
crossed_waits (suc zero) lt e = not_early (what_is_left 1) refl e
crossed_waits (suc (suc zero)) lt e = not_early (what_is_left 2) refl e
crossed_waits (suc (suc (suc zero))) lt e = not_early (what_is_left 3) refl e
crossed_waits (suc (suc (suc (suc zero)))) lt e = not_early (what_is_left 4) refl e
crossed_waits (suc (suc (suc (suc (suc k))))) lt e = absurd (omega arith)

pub crossed_follows : Follows crossed_deck 2 crossed
crossed_follows = record {
  legal = crossed_is_legal;
  callers = callers_exist (spool_setup crossed_deck 2) (opening (spool_setup crossed_deck 2)) crossed crossed_is_legal;
  says = crossed_says;
  waits = crossed_waits;
}

-- ---- each task's next event would end its wait too soon, and the reader has no next event

abbrev there : System
there = after (spool_setup crossed_deck 2) crossed

-- the next event of caller k is answered with a reply that ends its wait too soon
abbrev Stops : ℕ → Object → Op → Reply → Type 0
Stops k o op r = (asks (what_is_left k) ≡ Some (o, op)) × (reply_to there k o op ≡ Some r)
    × ((h : Heard) → h.entry.reply ≡ r → heard (what_is_left k) h ≡ Early)

-- what is left of the program after this reply in place of another
abbrev heard_with : ℕ → Heard → Reply → Program (List ℕ)
heard_with k h r = heard (what_is_left k) (record { entry = record h.entry { reply = r }; wakes = h.wakes })

scheduler_stops : Stops 1 (Object.Ecb 8) (Op.Ecb EcbOp.Settle) (Reply.Ecb EcbReply.Open)
unfolding crossed_deck crossed
scheduler_stops = (refl, refl, λ h e. let z : heard_with 1 h (Reply.Ecb EcbReply.Open) ≡ Early = refl in ap (heard_with 1 h) e ∙ z)

up_stops : Stops 2 Object.Latches (Op.Latch (LatchOp.Confirm 1 2)) (Reply.Latch LatchReply.Waiting)
unfolding crossed_deck crossed
up_stops = (refl, refl, λ h e. let z : heard_with 2 h (Reply.Latch LatchReply.Waiting) ≡ Early = refl in ap (heard_with 2 h) e ∙ z)

down_stops : Stops 3 Object.Latches (Op.Latch (LatchOp.Confirm 0 3)) (Reply.Latch LatchReply.Waiting)
unfolding crossed_deck crossed
down_stops = (refl, refl, λ h e. let z : heard_with 3 h (Reply.Latch LatchReply.Waiting) ≡ Early = refl in ap (heard_with 3 h) e ∙ z)

writer_stops : Stops 4 (Object.Ecb 5) (Op.Ecb EcbOp.Settle) (Reply.Ecb EcbReply.Open)
unfolding crossed_deck crossed
writer_stops = (refl, refl, λ h e. let z : heard_with 4 h (Reply.Ecb EcbReply.Open) ≡ Early = refl in ap (heard_with 4 h) e ∙ z)

reader_done : asks (what_is_left 0) ≡ None
unfolding crossed_deck crossed
reader_done = refl

-- ---- so nothing can come next

module _ (e : Entry) (f : Follows crossed_deck 2 (crossed ++ e ∷ [])) where
  abbrev c : Setup
  c = spool_setup crossed_deck 2

  abbrev ps : ℕ → Program (List ℕ)
  ps = programs_after (opening c) (task_program crossed_deck 2) crossed

  ps_is : (k : ℕ) → what_is_left k ≡ ps k
  ps_is k = left_in_is c (task_program crossed_deck 2) crossed k

  last : IsNext c there e × (asks (ps e.caller) ≡ Some (e.object, e.op)) × Unit {0}
  last = follow_later c (opening c) (task_program crossed_deck 2) crossed (e ∷ [])
      (follow_from c (task_program crossed_deck 2) (crossed ++ e ∷ []) f)

  said : (k : ℕ) → e.caller ≡ k → asks (what_is_left k) ≡ Some (e.object, e.op)
  said k q = ap asks (ps_is k) ∙ ap (λ j. asks (ps j)) (sym q) ∙ last.1

  stops : (k : ℕ) (o : Object) (op : Op) (r : Reply) → k < 5 → e.caller ≡ k → Stops k o op r → ⊥
  stops k o op r lt q w = f.waits k lt (left_in_is c (task_program crossed_deck 2) (crossed ++ e ∷ []) k
      ∙ ap (λ g. g k) (programs_push (opening c) (task_program crossed_deck 2) crossed e)
      ∙ with_at-same ps e.caller (heard (ps e.caller) (hearing there e)) k (sym q)
      ∙ ap (λ j. heard (ps j) (hearing there e)) q ∙ ap (λ p. heard p (hearing there e)) (sym (ps_is k))
      ∙ w.2 (hearing there e) reply_is) where
        same : (o ≡ e.object) × (op ≡ e.op)
        same = some_pair_parts o e.object op e.op (sym w.0 ∙ said k q)

        answered : Some e.reply ≡ Some r
        answered = last.0.reply ∙ ap (λ j. reply_to there j e.object e.op) q ∙ ap (λ x. reply_to there k x e.op) (sym same.0)
            ∙ ap (λ x. reply_to there k o x) (sym same.1) ∙ w.1

        reply_is : e.reply ≡ r
        reply_is = cc answered

  by : (k : ℕ) → e.caller ≡ k → k < 5 → ⊥
  by zero q lt = none (sym reader_done ∙ said 0 q) where
    none : ◌≡◌ {A = Option (Object × Op)} None (Some (e.object, e.op)) → ⊥
    none z = cc z
  by (suc zero) q lt = stops 1 _ _ _ lt q scheduler_stops
  by (suc (suc zero)) q lt = stops 2 _ _ _ lt q up_stops
  by (suc (suc (suc zero))) q lt = stops 3 _ _ _ lt q down_stops
  by (suc (suc (suc (suc zero)))) q lt = stops 4 _ _ _ lt q writer_stops
  by (suc (suc (suc (suc (suc k))))) q lt = absurd (omega arith)

  pub nothing_comes_next : ⊥
  nothing_comes_next = by e.caller refl (all_back (λ e. e.caller < 5) crossed (e ∷ []) f.callers).0

-- ---- and the jobs are not done
pub crossed_is_no_run : IsRun crossed_deck 2 crossed → ⊥
crossed_is_no_run run = let d = run.done 2 (omega arith) in none (sym (ap asks d.1) ∙ up_stops.0) where
  none : ◌≡◌ {A = Option (Object × Op)} None (Some (Object.Latches, Op.Latch (LatchOp.Confirm 1 2))) → ⊥
  none z = cc z

-- ---- the history has no early settle

-- a settle finds a block open that has not this number
abbrev finds_open : ℕ → Object → Op → Reply → Bool
finds_open b (Object.Ecb m) (Op.Ecb EcbOp.Settle) (Reply.Ecb EcbReply.Open) = not (m == b)
finds_open b o op r = false

timely_by : (es : List Entry) → list_any (λ e. finds_open 8 e.object e.op e.reply) es ≡ false → HasNoEarlySettle crossed_deck es
unfolding crossed_deck
timely_by [] q = tt
timely_by (e ∷ es) q = (
  λ j lt o op r. false≢true (sym (or_none _ _ q).0 ∙ ap (λ x. finds_open 8 x e.op e.reply) o
      ∙ ap (λ x. finds_open 8 (Object.Ecb (end_for_scheduler 2 j)) x e.reply) op
      ∙ ap (λ x. finds_open 8 (Object.Ecb (end_for_scheduler 2 j)) (Op.Ecb EcbOp.Settle) x) r
      ∙ ap (λ b. not b) (ne_eqb (end_for_scheduler 2 j) 8 (λ z. absurd (omega arith)))),
  timely_by es (or_none _ _ q).1,
) where
  or_none : (a b : Bool) → (a || b) ≡ false → (a ≡ false) × (b ≡ false)
  or_none true b q = absurd (false≢true (sym q))
  or_none false b q = (refl, q)

pub crossed_is_timely : HasNoEarlySettle crossed_deck crossed
unfolding crossed
crossed_is_timely = timely_by crossed refl

-- the second job's second latch is below the one that it holds
pub crossed_is_not_sound : IsSound crossed_deck 2 → ⊥
unfolding crossed_deck
crossed_is_not_sound sound = let order = sound.jobs_stand.1.0.steps.1.0.in_order in cc order
