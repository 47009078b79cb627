-- Statements that are steps of a job.
use Rattle.std.proofs.Common.{◌≡◌, ℕ, Bool, true, false, not, ◌&&◌, ◌||◌, List, [], ◌++◌, Some, refl, ap}
use Rattle.std.specs.Prelude.{nat_lt}
use Rattle.std.specs.List.{list_any}
use Rattle.mv_deck.specs.declared.deck.Step.{Step}
use Rattle.mv_deck.specs.declared.deck.Step.TheVariants.{Print}
use Rattle.mv_deck.specs.declared.fault.Kind.TheVariants.{LatchOrder, LatchNotHeld, Misplaced, BehindEnd, TooHeavy}
use Rattle.mv_deck.specs.Statement.{Statement, Null, DeckOf, JobOf, PrintOf, UseOf, FreeOf, CountOf, ScanOf, AbendOf, ReturnOf}
use Rattle.mv_deck.specs.Deck.{JobData, step_of, with_step, jobs_behind, last_steps}
use Rattle.mv_deck.specs.Held.{is_out_of_order, lacks_latch, is_end}
use Rattle.mv_deck.specs.Weight.{weight, heaviest}
use Rattle.mv_deck.specs.Fault.{is_null, is_job, is_deck, kind_number, kinds_behind}
use Rattle.mv_line.specs.Fault.{when}

-- the kinds of fault of a step behind these jobs
abbrev pub kinds_of_step : ℕ → Bool → List JobData → Step → List ℕ
kinds_of_step n misplaced jobs step =
    let ended = list_any is_end (last_steps jobs) && true in
    let asked = not misplaced && not ended in
    when kind_number (is_out_of_order (last_steps jobs) step && asked) LatchOrder
    ++ (when kind_number (lacks_latch (last_steps jobs) step && asked) LatchNotHeld
    ++ (when kind_number misplaced Misplaced
    ++ (when kind_number (ended && not misplaced) BehindEnd
    ++ (when kind_number (nat_lt heaviest (weight (with_step jobs step) n) && asked) TooHeavy ++ []))))

-- where a step may not stand
abbrev pub is_outside : List Statement → Bool
is_outside earlier = list_any is_null earlier || (not (list_any is_job earlier) && true)

-- what a statement that is a step is not, and what it does
pub record IsStep (s : Statement) (step : Step) : Type 0 where
  pub no_job : is_job s ≡ false
  pub no_null : is_null s ≡ false
  pub no_deck : is_deck s ≡ false
  pub behind : (jobs : List JobData) → jobs_behind jobs s ≡ with_step jobs step
  pub kinds : (n : ℕ) (earlier : List Statement) (jobs : List JobData)
      → kinds_behind n earlier jobs s ≡ kinds_of_step n (is_outside earlier) jobs step

-- by what it does and its kinds of fault, where it is one of no other sort
by_form : {s : Statement} {step : Step} → is_job s ≡ false → is_null s ≡ false → is_deck s ≡ false
    → ((jobs : List JobData) → jobs_behind jobs s ≡ with_step jobs step)
    → ((n : ℕ) (earlier : List Statement) (jobs : List JobData)
    → kinds_behind n earlier jobs s ≡ kinds_of_step n (is_outside earlier) jobs step) → IsStep s step
by_form no_job no_null no_deck behind kinds =
    record { no_job = no_job; no_null = no_null; no_deck = no_deck; behind = behind; kinds = kinds }

-- each form that is a step
pub is_step : (s : Statement) (step : Step) → step_of s ≡ Some step → IsStep s step
is_step Null step e = absurd cc
is_step (DeckOf version) step e = absurd cc
is_step (JobOf name after) step e = absurd cc
is_step (PrintOf text) step e =
    let same : Print text ≡ step = cc in
    by_form refl refl refl (λ jobs. ap (with_step jobs) same) (λ n earlier jobs. ap (kinds_of_step n (is_outside earlier) jobs) same)
is_step (UseOf latch mode) step e = by_form refl refl refl (λ jobs. rw e refl) (λ n earlier jobs. rw e refl)
is_step (FreeOf latch) step e = by_form refl refl refl (λ jobs. rw e refl) (λ n earlier jobs. rw e refl)
is_step (CountOf volume amount) step e = by_form refl refl refl (λ jobs. rw e refl) (λ n earlier jobs. rw e refl)
is_step (ScanOf volume) step e = by_form refl refl refl (λ jobs. rw e refl) (λ n earlier jobs. rw e refl)
is_step (AbendOf code) step e = by_form refl refl refl (λ jobs. rw e refl) (λ n earlier jobs. rw e refl)
is_step (ReturnOf code) step e = by_form refl refl refl (λ jobs. rw e refl) (λ n earlier jobs. rw e refl)
