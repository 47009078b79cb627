-- The deck, and the deck that a text without fault states.
use Rattle.std.specs.Prelude.{ℕ, List, [], ◌∷◌, ◌++◌, map, fold, Option, Some, None, option_map, option_and_then, unwrap_or}
use Rattle.std.specs.List.{position_from}
use Rattle.std.specs.Str.{bytes_eq}
use Rattle.mv_deck.specs.declared.deck.Step.{Step}
use Rattle.mv_deck.specs.declared.deck.Step.TheVariants.{Print, Use, Free, Count, Scan, Abend, Return}
use Rattle.mv_deck.specs.declared.deck.After.{After}
use Rattle.mv_deck.specs.declared.deck.Job.{Job}
use Rattle.mv_deck.specs.declared.deck.Deck.{Deck}
use Rattle.mv_line.specs.Line.{lines_of}
use Rattle.mv_deck.specs.Operand.{latch_of, amount_of, code_of, end_code_of}
use Rattle.mv_deck.specs.Statement.{Statement, JobOf, PrintOf, UseOf, FreeOf, CountOf, ScanOf, AbendOf, ReturnOf, AfterPart}
use Rattle.mv_deck.specs.Statement.{statements_of, version_of}

-- a job as contracts see it, independent of where it is in memory
pub record JobData : Type 0 where
  pub name : List ℕ
  pub after : List After
  pub steps : List Step

-- what contracts see of a job
abbrev pub job_data : Job → JobData
job_data j = record { name = j.name; after = j.after.items; steps = j.steps.items }

-- what contracts see of a deck: its jobs
abbrev pub deck_data : Deck → List JobData
deck_data d = map job_data d.jobs.items

-- ---- what a statement adds to the jobs before it

-- the place of the first job of this name, counted from 0
abbrev pub place_of : List JobData → List ℕ → Option ℕ
place_of jobs name = position_from (λ (j : JobData). bytes_eq j.name name) 0 jobs

-- the highest end code that a part accepts, given the text of its code: 0 if it has none
abbrev pub most_of : Option (List ℕ) → ℕ
most_of None = 0
most_of (Some code) = unwrap_or (code_of code) 0

-- the job that a part names among these earlier jobs, and the end code that the part accepts
abbrev pub after_of : List JobData → AfterPart → After
after_of jobs part = record { job = unwrap_or (place_of jobs part.name) 0; most = most_of part.most }

-- the step that a statement states, if its numbers and codes are valid
abbrev pub step_of : Statement → Option Step
step_of (PrintOf text) = Some (Print text)
step_of (UseOf latch mode) = option_map (λ l. Use l mode) (latch_of latch)
step_of (FreeOf latch) = option_map Free (latch_of latch)
step_of (CountOf volume amount) = option_and_then (λ v. option_map (Count v) (amount_of amount)) (latch_of volume)
step_of (ScanOf volume) = option_map Scan (latch_of volume)
step_of (AbendOf code) = option_map Abend (end_code_of code)
step_of (ReturnOf code) = option_map Return (code_of code)
step_of _ = None

-- the jobs, the last of which has one more step
abbrev pub with_step : List JobData → Step → List JobData
with_step [] step = []
with_step (j ∷ []) step = record j { steps = j.steps ++ step ∷ [] } ∷ []
with_step (j ∷ k ∷ jobs) step = j ∷ with_step (k ∷ jobs) step

-- the jobs, the last of which has one more step if there is one
abbrev pub with_steps : List JobData → Option Step → List JobData
with_steps jobs None = jobs
with_steps jobs (Some step) = with_step jobs step

-- a job as its JOB statement begins it, after these earlier jobs
abbrev pub fresh_job : List JobData → List ℕ → List AfterPart → JobData
fresh_job jobs name after = record { name = name; after = map (after_of jobs) after; steps = [] }

-- the jobs after one more statement: a JOB begins a job, a step joins the last one, and the others change nothing
abbrev pub jobs_behind : List JobData → Statement → List JobData
jobs_behind jobs (JobOf name after) = jobs ++ fresh_job jobs name after ∷ []
jobs_behind jobs s = with_steps jobs (step_of s)

-- the jobs that these statements state, in order
abbrev pub jobs_of : List Statement → List JobData
jobs_of statements = fold jobs_behind [] statements

-- the deck of a text without fault
abbrev pub deck_of : List ℕ → List JobData
deck_of bytes = jobs_of (statements_of (version_of (lines_of bytes)) (lines_of bytes))

-- the steps of the last job
abbrev pub last_steps : List JobData → List Step
last_steps [] = []
last_steps (j ∷ []) = j.steps
last_steps (j ∷ k ∷ jobs) = last_steps (k ∷ jobs)
