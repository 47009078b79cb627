-- Decks that a spool can run.
use Rattle.std.specs.Prelude.{◌≡◌, ℕ, ◌<◌, ◌≤◌, true, false, List, [], ◌∷◌, ◌++◌, length, None}
use Rattle.std.specs.List.{AllByRecursion, list_any}
use Rattle.mv_deck.specs.declared.deck.Step.{Step}
use Rattle.mv_deck.specs.declared.deck.Step.TheVariants.{Print, Use, Free, Count, Scan, Abend, Return}
use Rattle.mv_deck.specs.declared.deck.After.{After}
use Rattle.mv_deck.specs.EndCode.{highest_code, lowest_abend, not_run}
use Rattle.mv_deck.specs.Operand.{is_name, highest_latch, highest_amount, most_after}
use Rattle.mv_deck.specs.Deck.{JobData, place_of}
use Rattle.mv_deck.specs.Held.{is_out_of_order, lacks_latch, is_end}
use Rattle.mv_deck.specs.Weight.{weight, heaviest, most_initiators}

-- each element of the second list may follow the first list and the elements before it, if `May before x` says that x may follow
-- `before`
abbrev pub EachBehind : {A : Type 0} → (List A → A → Type 0) → List A → List A → Type 0
EachBehind May before [] = Unit {0}
EachBehind May before (x ∷ xs) = May before x × EachBehind May (before ++ x ∷ []) xs

-- ---- steps

-- the numbers of a step are in their ranges
abbrev pub HasGoodNumbers : Step → Type 0
HasGoodNumbers (Print text) = Unit {0}
HasGoodNumbers (Use latch mode) = latch ≤ highest_latch
HasGoodNumbers (Free latch) = latch ≤ highest_latch
HasGoodNumbers (Count volume amount) = (volume ≤ highest_latch) × (1 ≤ amount) × (amount ≤ highest_amount)
HasGoodNumbers (Scan volume) = volume ≤ highest_latch
HasGoodNumbers (Abend code) = (lowest_abend ≤ code) × (code < not_run)
HasGoodNumbers (Return code) = code ≤ highest_code

-- a step may follow these steps of its job
pub record IsSoundStep (done : List Step) (step : Step) : Type 0 where
  pub numbers : HasGoodNumbers step
  pub in_order : is_out_of_order done step ≡ false
  pub latched : lacks_latch done step ≡ false
  pub before_end : list_any is_end done ≡ false

-- each of these steps may follow the steps before it
abbrev pub AreSoundSteps : List Step → List Step → Type 0
AreSoundSteps = EachBehind IsSoundStep

-- ---- jobs

-- an awaited job is one of this many earlier jobs, and the accepted code is in its range
abbrev pub IsSoundAfter : ℕ → After → Type 0
IsSoundAfter earlier part = (part.job < earlier) × (part.most ≤ highest_code)

-- no job is awaited twice
abbrev pub AreDistinct : List After → Type 0
AreDistinct [] = Unit {0}
AreDistinct (part ∷ parts) = AllByRecursion (λ (other : After). ¬ (other.job ≡ part.job)) parts × AreDistinct parts

-- a job may follow these jobs
pub record IsSoundJob (before : List JobData) (job : JobData) : Type 0 where
  pub named : is_name job.name ≡ true
  pub new : place_of before job.name ≡ None
  pub few : length job.after ≤ most_after
  pub distinct : AreDistinct job.after
  pub earlier : AllByRecursion (IsSoundAfter (length before)) job.after
  pub steps : AreSoundSteps [] job.steps

-- each of these jobs may follow the jobs before it
abbrev pub AreSoundJobs : List JobData → List JobData → Type 0
AreSoundJobs = EachBehind IsSoundJob

-- a deck that this many initiators can run
pub record IsSound (jobs : List JobData) (initiators : ℕ) : Type 0 where
  pub jobs_stand : AreSoundJobs [] jobs
  pub light : weight jobs initiators ≤ heaviest

-- this many initiators can run the deck: there are 1 to 8 of them, and the deck is sound for them
pub record CanBeRun (jobs : List JobData) (initiators : ℕ) : Type 0 where
  pub some : 1 ≤ initiators
  pub few : initiators ≤ most_initiators
  pub sound : IsSound jobs initiators
