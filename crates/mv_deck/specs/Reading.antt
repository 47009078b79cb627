-- The invariant of the reader of decks, after these statements.
use Rattle.std.specs.Prelude.{◌≡◌, ℕ, ◌+◌, ◌≤◌, false, nat_lt, List, [], ◌∷◌, ◌++◌, length, map, Option, Some, None, is_some}
use Rattle.std.specs.List.{list_any}
use Rattle.mv_deck.specs.declared.deck.After.{After}
use Rattle.mv_deck.specs.declared.deck.Step.{Step}
use Rattle.mv_deck.specs.declared.form.Version.{Version}
use Rattle.mv_deck.specs.declared.reading.Reading.{Reading}
use Rattle.mv_deck.specs.Statement.{Statement}
use Rattle.mv_deck.specs.Deck.{JobData, job_data, jobs_of, place_of, last_steps}
use Rattle.mv_deck.specs.Fault.{is_null, is_job, has_bad_name, has_bad_number, is_misplaced}
use Rattle.mv_deck.specs.Fault.{repeats_name, awaits_no_job, is_crowded}
use Rattle.mv_deck.specs.Held.{held, latches, is_end}
use Rattle.mv_deck.specs.Names.{place_in}
use Rattle.mv_deck.specs.Weight.{weight, heaviest}

-- the job that takes steps, if one has begun
abbrev pub open_job : Option (List ℕ) → List After → List Step → List JobData
open_job None after steps = []
open_job (Some name) after steps = record { name = name; after = after; steps = steps } ∷ []

-- the jobs that were read, the last one as far as it was read
abbrev pub jobs_read : Reading → List JobData
jobs_read r = map job_data r.finished.items ++ open_job r.name r.after.items r.steps.items

-- at most as many jobs are finished as the weight limit, so the place of each fits a `u32`
abbrev pub HasFewJobs : Reading → Type 0
HasFewJobs r = length r.finished.items ≤ heaviest

-- what the reader keeps about these jobs, besides the jobs themselves
pub record Keeps (initiators : ℕ) (jobs : List JobData) (r : Reading) : Type 0 where
  pub named : (name : List ℕ) → place_in r.names name ≡ place_of jobs name
  pub latched : r.held.modes ≡ map (held (last_steps jobs)) latches
  pub closed : r.closed ≡ list_any is_end (last_steps jobs)
  pub room : r.room + weight jobs initiators ≡ heaviest

-- the reader has read these statements, and keeps what follows from them
pub record IsBehind (initiators : ℕ) (v : Version) (statements : List Statement) (r : Reading) : Type 0 where
  pub initiators_are : r.initiators ≡ initiators
  pub version : r.version ≡ v
  pub jobs : jobs_read r ≡ jobs_of statements
  pub kept : Keeps initiators (jobs_of statements) r
  pub begun : is_some r.name ≡ list_any is_job statements
  pub stated : r.stated ≡ nat_lt 0 (length statements)
  pub ended : r.ended ≡ list_any is_null statements

-- a statement has no fault of a JOB, its weight aside
pub record IsGoodJob (earlier : List Statement) (jobs : List JobData) (s : Statement) : Type 0 where
  pub name : has_bad_name s ≡ false
  pub place : is_misplaced earlier s ≡ false
  pub new : repeats_name jobs s ≡ false
  pub known : awaits_no_job jobs s ≡ false
  pub few : is_crowded s ≡ false
  pub codes : has_bad_number s ≡ false
