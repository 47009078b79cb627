-- The work of a task: the role that it plays, where it waits, and what it comes to. Jobs and initiators are counted from 0; tasks have
-- their numbers.
use Rattle.std.specs.Prelude.{◌≡◌, ℕ, ◌+◌, ◌<◌, ◌≤◌, false, List, [], ◌∷◌, flat_map, length, vec_capacity, Option, Some, None}
use Rattle.std.specs.Prelude.{Result, Ok, Err, slice_index_or}
use Rattle.std.specs.List.{AllByRecursion}
use Rattle.mv_board.specs.Faces.{CallerFace, IsFresh, IsSame}
use Rattle.mv_calls.specs.Program.{Call, Done, Wrong}
use Rattle.mv_deck.specs.Deck.{JobData}
use Rattle.mv_plan.specs.SpoolSetup.{reader, scheduler, writer, initiator}
use Rattle.mv_plan.specs.SpoolTasks.{reading, scheduling, writing}
use Rattle.mv_work.specs.declared.initiator.Initiator as code
use Rattle.mv_work.specs.declared.lost.Lost.{Lost}
use Rattle.mv_work.specs.declared.need.Got.{Got}
use Rattle.mv_work.specs.declared.need.Need.{Need}
use Rattle.mv_work.specs.declared.work.Role.{Role}
use Rattle.mv_work.specs.declared.work.Role.TheVariants.{Reader, Scheduler, Initiator, Writer}
use Rattle.mv_work.specs.declared.work.SpoolWork.{SpoolWork}
use Rattle.mv_work.specs.Initiating.{IsInitiatorAnswer, IsInitiatorNeed, initiator_stages, marks_left}
use Rattle.mv_work.specs.Noting.{initiating_noted}
use Rattle.mv_work.specs.Ran.{Ran, RanOut}
use Rattle.mv_work.specs.Records.{JobRecord}
use Rattle.mv_work.specs.Scheduling.{IsSchedulerAnswer, IsSchedulerNeed, scheduler_stages}
use Rattle.mv_work.specs.Spool.{SpoolFace}
use Rattle.mv_work.specs.Waiting.{Told, Waits}
use Rattle.mv_work.specs.Writing.{IsWriterAnswer, IsWriterNeed, room_in, writer_stages}

-- ---- a task that was not begun

-- an initiator that was given no job, with room for what it notes of all
pub record IsNewInitiator (deck : List JobData) (i k : ℕ) (me : code.Initiator) : Type 0 where
  pub number : k ≡ initiator me.index
  pub index : me.index < i
  pub given : AllByRecursion (λ b. b ≡ false) me.given.items
  pub size : length me.given.items ≡ length deck
  pub none : (me.noted.jobs ≡ []) × (me.noted.notes ≡ [])
  pub room : marks_left me.given.items deck ≤ me.noted.room

-- The role of task k was not begun, and has the room that it needs. No task has a number above the writer's.
abbrev pub IsNewRole : List JobData → ℕ → ℕ → Role → Type 0
IsNewRole deck i k Reader = k ≡ reader
IsNewRole deck i k (Scheduler stage) = k ≡ scheduler
IsNewRole deck i k (Initiator me stage) = IsNewInitiator deck i k me
IsNewRole deck i k (Writer ends job) = (writer i ≤ k) × (ends.items ≡ []) × (length deck ≤ vec_capacity ends)

-- the same of its work
abbrev pub IsNew : List JobData → ℕ → ℕ → SpoolWork → Type 0
IsNew deck i k w = IsNewRole deck i k w.role

-- ---- what tasks bring back

-- the records that a role brings back: an initiator's are one list
abbrev pub records_in : Role → List (List JobRecord)
records_in Reader = []
records_in (Scheduler stage) = []
records_in (Initiator me stage) = me.noted.jobs ∷ []
records_in (Writer ends job) = []

-- the lists of all initiators, in the order of the works
abbrev pub records : List SpoolWork → List (List JobRecord)
records works = flat_map (λ w. records_in w.role) works

-- the ends that a role brings back: the writer's
abbrev pub ends_in : Role → List ℕ
ends_in Reader = []
ends_in (Scheduler stage) = []
ends_in (Initiator me stage) = []
ends_in (Writer ends job) = ends.items

-- the role is the writer's
abbrev pub IsWriter : Role → Type 0
IsWriter Reader = ⊥
IsWriter (Scheduler stage) = ⊥
IsWriter (Initiator me stage) = ⊥
IsWriter (Writer ends job) = Unit {0}

-- P holds of the program of the task that plays a role, and of what the role brings back. The task has the role's number k.
abbrev pub ProgramIs : ((A : Type 0) → Call A → A → Type 0) → SpoolFace → Role → ℕ → Type 0
ProgramIs P s Reader k = (k ≡ reader) × P (List ℕ) (reading s.board.config (length s.jobs)) []
ProgramIs P s (Scheduler stage) k = (k ≡ scheduler) × P (List ℕ) (scheduling s.board.config s.initiators s.jobs) []
ProgramIs P s (Initiator me stage) k = (k ≡ initiator me.index) × (me.index < s.initiators)
    × P (List JobRecord) (initiating_noted s.board.config s.jobs me.index) me.noted.jobs
ProgramIs P s (Writer ends job) k = (k ≡ writer s.initiators) × P (List ℕ) (writing s.board.config (length s.jobs)) ends.items

-- The task was t when it was new. Its program is done, and what the role brings back is the program's answer.
abbrev pub IsDone : SpoolFace → Role → CallerFace → CallerFace → Type 0
IsDone s role t u = IsSame t u × ProgramIs (λ A program answer. Ran program (Done answer) t u) s role t.number

-- It is lost: it read a reply that its program does not foresee.
abbrev pub IsLost : SpoolFace → Role → CallerFace → CallerFace → Type 0
IsLost s role t u = IsSame t u × ProgramIs (λ A program answer. Ran program Wrong t u) s role t.number

-- It makes no more events: it is done or lost.
abbrev pub HasWorked : SpoolFace → Role → CallerFace → CallerFace → Type 0
HasWorked s role t u = IsSame t u × ProgramIs (λ A program answer. RanOut program answer t u) s role t.number

-- ---- from one wait to the next

-- The task, which was t when it was new, waits for this in its role.
abbrev pub WaitsAs : SpoolFace → Role → CallerFace → Need → CallerFace → Type 0
WaitsAs s Reader t n u = ⊥
WaitsAs s (Scheduler None) t n u = ⊥
WaitsAs s (Scheduler (Some stage)) t n u = (t.number ≡ scheduler)
    × Waits s.board (scheduler_stages s) (IsSchedulerNeed s) (scheduling s.board.config s.initiators s.jobs) t stage n u
WaitsAs s (Initiator me None) t n u = ⊥
WaitsAs s (Initiator me (Some stage)) t n u = (t.number ≡ initiator me.index)
    × Waits s.board (initiator_stages s me) (IsInitiatorNeed s me) (initiating_noted s.board.config s.jobs me.index) t stage n u
WaitsAs s (Writer ends None) t n u = ⊥
WaitsAs s (Writer ends (Some job)) t n u = (t.number ≡ writer s.initiators)
    × Waits s.board (writer_stages s ends.items) (IsWriterNeed s (room_in ends)) (writing s.board.config (length s.jobs)) t job n u

-- In its role it was given this answer.
abbrev pub ToldAs : SpoolFace → Role → CallerFace → Got → CallerFace → Type 0
ToldAs s Reader t g u = ⊥
ToldAs s (Scheduler None) t g u = ⊥
ToldAs s (Scheduler (Some stage)) t g u = (t.number ≡ scheduler)
    × Told s.board (scheduler_stages s) (IsSchedulerAnswer s) (scheduling s.board.config s.initiators s.jobs) t stage g u
ToldAs s (Initiator me None) t g u = ⊥
ToldAs s (Initiator me (Some stage)) t g u = (t.number ≡ initiator me.index)
    × Told s.board (initiator_stages s me) (IsInitiatorAnswer s me) (initiating_noted s.board.config s.jobs me.index) t stage g u
ToldAs s (Writer ends None) t g u = ⊥
ToldAs s (Writer ends (Some job)) t g u = (t.number ≡ writer s.initiators)
    × Told s.board (writer_stages s ends.items) (IsWriterAnswer s (room_in ends)) (writing s.board.config (length s.jobs)) t job g u

-- The task was t when it was new. In its role it waits for what it needs, or is done, or is lost.
abbrev pub HasComeAs : SpoolFace → Role → CallerFace → Result (Option Need) Lost → CallerFace → Type 0
HasComeAs s role t (Ok (Some n)) u = WaitsAs s role t n u
HasComeAs s role t (Ok None) u = IsDone s role t u
HasComeAs s role t (Err lost) u = IsLost s role t u

-- the same of its work
abbrev pub HasCome : SpoolFace → SpoolWork → CallerFace → Result (Option Need) Lost → CallerFace → Type 0
HasCome s w t came u = HasComeAs s w.role t came u

-- The task, which was t when it was new, was given what it waited for.
abbrev pub WasTold : SpoolFace → SpoolWork → CallerFace → Got → CallerFace → Type 0
WasTold s w t g u = ToldAs s w.role t g u

-- ---- a task that makes no more events

-- Task k of the spool was new once. It has made all its events, and the work has what it brings back.
pub record IsWorked (s : SpoolFace) (k : ℕ) (w : SpoolWork) (u : CallerFace) : Type 0 where
  pub before : CallerFace
  pub fresh : IsFresh s.board k before
  pub worked : HasWorked s w.role before u

-- So each task has, in the order of their numbers.
pub record AreWorked (s : SpoolFace) (ws : List SpoolWork) (ts : List CallerFace) : Type 0 where
  pub works : length ws ≡ s.initiators + 3
  pub tasks : length ts ≡ s.initiators + 3
  pub each : (k : ℕ) (w : SpoolWork) (t : CallerFace) → k < s.initiators + 3
      → IsWorked s k (slice_index_or ws k w) (slice_index_or ts k t)
