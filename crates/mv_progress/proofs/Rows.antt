-- A computed history: three jobs, the third of which waits for the ends of the second and of the first; the scheduler settles the second's
-- end open. The history follows the plan, and no wait has ended yet, but it is no prefix of a run. So to follow is not enough: not each
-- history that follows is a run or can be continued to another that follows.
use Rattle.mv_plan.proofs.Words.{◌≡◌, ℕ, zero, suc, ◌<◌, List, [], ◌∷◌, ◌++◌, map, Some, ◌⊎◌, refl, arith, Entry, EcbOp, EcbReply}
use Rattle.mv_plan.proofs.Words.{ElementOp, ElementReply, LatchOp, LatchReply, JobData, spool_setup, task_program, Follows, IsRun, Early}
use Rattle.mv_plan.proofs.Words.{legal_by, at_block, at_element, at_latches, weight, left_in, Program, Heard, heard, opening, codes, Bool}
use Rattle.mv_plan.proofs.Words.{true, false, false≢true, sym, ap, ◌∙◌}
use Rattle.std.proofs.Common.{lit≤}
use Rattle.mv_machine.proofs.Lists.{all_front, all_back}
use Rattle.mv_machine.specs.Legal.{Legal}
use Rattle.mv_calls.specs.Program.{Says}
use Rattle.mv_calls.specs.Runs.{heard_in}
use Rattle.mv_calls.proofs.Computed.{said}
use Rattle.mv_calls.proofs.Interleaved.{callers_exist}
use Rattle.mv_deck.specs.Sound.{IsSound}
use Rattle.mv_plan.proofs.deck.Planned.{IsPlanned, planned}
use Rattle.mv_progress.specs.Progress.{IsNoEarlySettle}
use Rattle.mv_progress.proofs.EarlySettles.{run_is_timely}
use Rattle.mv_progress.proofs.Results.{until_run}

-- ---- what a program says, by computing it

first_same : {A : Type 0} (x y : A) (xs ys : List A) → x ∷ xs ≡ y ∷ ys → x ≡ y
first_same x y xs ys e = cc e

rest_same : {A : Type 0} (x y : A) (xs ys : List A) → x ∷ xs ≡ y ∷ ys → xs ≡ ys
rest_same x y xs ys e = cc e

pub says_by : {A : Type 0} (p : Program A) (hs : List Heard) → said p hs ≡ map (λ h. Some (h.entry.object, h.entry.op)) hs → Says p hs
says_by p [] e = tt
says_by p (h ∷ hs) e = (first_same _ _ _ _ e, says_by (heard p h) hs (rest_same _ _ _ _ e))

-- whether a wait ended too soon
abbrev pub is_early : {A : Type 0} → Program A → Bool
is_early Early = true
is_early p = false

pub not_early : {A : Type 0} (p : Program A) → is_early p ≡ false → p ≡ Early → ⊥
not_early p e q = false≢true (sym e ∙ ap is_early q)

-- ---- the deck and the history

unfoldable pub three_deck : List JobData
three_deck =
    record { name = codes "FIRST"; after = []; steps = [] }
    ∷ record { name = codes "SECOND"; after = []; steps = [] }
    ∷ record { name = codes "THIRD"; after = record { job = 1; most = 0 } ∷ record { job = 0; most = 0 } ∷ []; steps = [] }
    ∷ []

-- the entries before the settle of the second's end
unfoldable pub before_settle : List Entry
before_settle =
    at_block 0 0 0 (EcbOp.Post 0) EcbReply.Posted
    ∷ at_block 0 1 0 (EcbOp.Post 0) EcbReply.Posted
    ∷ at_block 0 2 0 (EcbOp.Post 0) EcbReply.Posted
    ∷ at_element 2 2 0 ElementOp.Open (ElementReply.Opened 0)
    ∷ at_block 2 12 0 (EcbOp.Post 0) EcbReply.Posted
    ∷ at_block 1 0 1 EcbOp.Arm (EcbReply.Complete 0)
    ∷ at_block 1 0 2 EcbOp.Settle (EcbReply.Complete 0)
    ∷ at_block 1 3 0 (EcbOp.Extend 1) EcbReply.Armed
    ∷ at_block 1 12 1 EcbOp.Arm (EcbReply.Complete 0)
    ∷ at_block 1 12 2 EcbOp.Settle (EcbReply.Complete 0)
    ∷ at_block 1 12 3 EcbOp.Clear (EcbReply.Word 1073741824)
    ∷ at_element 1 2 1 (ElementOp.Release 0 1) ElementReply.Early
    ∷ at_element 2 2 2 (ElementOp.Pause 0) (ElementReply.Given 1 1)
    ∷ at_latches 2 0 (LatchOp.Purge 1) (LatchReply.Purged 0 0)
    ∷ at_block 2 3 1 (EcbOp.Post 0) (EcbReply.Woke 1)
    ∷ at_block 2 6 0 (EcbOp.Post 0) EcbReply.Posted
    ∷ at_block 2 7 0 (EcbOp.Post 0) EcbReply.Posted
    ∷ at_block 2 12 4 (EcbOp.Post 1) EcbReply.Posted
    ∷ at_block 1 1 1 EcbOp.Arm (EcbReply.Complete 0)
    ∷ at_block 1 1 2 EcbOp.Settle (EcbReply.Complete 0)
    ∷ at_block 1 4 0 (EcbOp.Extend 2) EcbReply.Armed
    ∷ at_block 1 12 5 EcbOp.Arm (EcbReply.Complete 1)
    ∷ at_block 1 12 6 EcbOp.Settle (EcbReply.Complete 1)
    ∷ at_block 1 12 7 EcbOp.Clear (EcbReply.Word 1073741825)
    ∷ at_element 1 2 3 (ElementOp.Release 1 2) ElementReply.Early
    ∷ at_block 1 2 1 EcbOp.Arm (EcbReply.Complete 0)
    ∷ at_block 1 2 2 EcbOp.Settle (EcbReply.Complete 0)
    ∷ at_block 1 8 0 EcbOp.Arm EcbReply.Armed
    ∷ at_block 1 6 1 EcbOp.Arm (EcbReply.Complete 0)
    ∷ []

-- the settle, which finds the end open
abbrev pub the_settle : Entry
the_settle = at_block 1 8 1 EcbOp.Settle EcbReply.Open

abbrev pub given_up : List Entry
given_up = before_settle ++ the_settle ∷ []

is_legal : Legal (spool_setup three_deck 1) given_up
unfolding three_deck before_settle
is_legal = legal_by (spool_setup three_deck 1) given_up refl

-- each task says its part
each_says : (k : ℕ) → k < 4 → Says (task_program three_deck 1 k) (heard_in (spool_setup three_deck 1) k given_up)
unfolding three_deck before_settle
each_says zero lt = says_by (task_program three_deck 1 0) (heard_in (spool_setup three_deck 1) 0 given_up) refl
each_says (suc zero) lt = says_by (task_program three_deck 1 1) (heard_in (spool_setup three_deck 1) 1 given_up) refl
each_says (suc (suc zero)) lt = says_by (task_program three_deck 1 2) (heard_in (spool_setup three_deck 1) 2 given_up) refl
each_says (suc (suc (suc zero))) lt = says_by (task_program three_deck 1 3) (heard_in (spool_setup three_deck 1) 3 given_up) refl
each_says (suc (suc (suc (suc k)))) lt = absurd (omega arith)

-- no wait has ended
none_early : (k : ℕ) → k < 4 → left_in (spool_setup three_deck 1) (task_program three_deck 1) k given_up ≡ Early → ⊥
unfolding three_deck before_settle
none_early zero lt e = not_early (left_in (spool_setup three_deck 1) (task_program three_deck 1) 0 given_up) refl e
none_early (suc zero) lt e = not_early (left_in (spool_setup three_deck 1) (task_program three_deck 1) 1 given_up) refl e
none_early (suc (suc zero)) lt e = not_early (left_in (spool_setup three_deck 1) (task_program three_deck 1) 2 given_up) refl e
none_early (suc (suc (suc zero))) lt e = not_early (left_in (spool_setup three_deck 1) (task_program three_deck 1) 3 given_up) refl e
none_early (suc (suc (suc (suc k)))) lt e = absurd (omega arith)

given_up_follows : Follows three_deck 1 given_up
given_up_follows = record {
  legal = is_legal;
  callers = callers_exist (spool_setup three_deck 1) (opening (spool_setup three_deck 1)) given_up is_legal;
  says = each_says;
  waits = none_early;
}

pub three_is_sound : IsSound three_deck 1
unfolding three_deck
three_is_sound = record {
  jobs_stand = (
    record { named = refl; new = refl; few = omega arith; distinct = tt; earlier = tt; steps = tt },
    (
      record { named = refl; new = refl; few = omega arith; distinct = tt; earlier = tt; steps = tt },
      (
        record {
          named = refl;
          new = refl;
          few = omega arith;
          distinct = ((λ e. absurd (omega arith), tt), (tt, tt));
          earlier = ((omega arith, omega arith), ((omega arith, omega arith), tt));
          steps = tt;
        },
        tt,
      ),
    ),
  );
  light = lit≤ tt;
}

three_planned : IsPlanned three_deck 1
three_planned = planned three_deck 1 three_is_sound

-- the settle is early, so the history is no prefix of a run
settle_is_early : IsNoEarlySettle three_deck the_settle → ⊥
unfolding three_deck
settle_is_early p = p 1 (omega arith) refl refl refl

pub no_run_goes_on : (rest : List Entry) → IsRun three_deck 1 (given_up ++ rest) → ⊥
no_run_goes_on rest run = settle_is_early (all_back (IsNoEarlySettle three_deck) before_settle (the_settle ∷ [])
    (all_front (IsNoEarlySettle three_deck) given_up rest
    (run_is_timely three_deck 1 (omega arith) three_planned (given_up ++ rest) run))).0

-- so some history that follows can neither be continued nor is a run
pub following_is_not_enough : ((es : List Entry) → Follows three_deck 1 es
    → IsRun three_deck 1 es ⊎ ((e : Entry) × Follows three_deck 1 (es ++ e ∷ []))) → ⊥
following_is_not_enough goes =
    let r = until_run three_deck 1 (omega arith) three_planned (Follows three_deck 1) (λ es f. f) goes (weight three_deck 1) given_up
    given_up_follows (omega arith) in no_run_goes_on r.0 r.1
