-- A polled task, and that it makes what its program says. It is task k of the spool, and t is the task when it was new.
use Rattle.std.specs.Prelude.{◌≡◌, ℕ, ◌<◌, Bool, true, false, not, List, filter, length, take, slice_index_or, Option, Some, None}
use Rattle.std.specs.Prelude.{Result, Ok, Err}
use Rattle.mv_board.specs.Faces.{CallerFace, IsFresh, IsSame}
use Rattle.mv_deck.specs.Deck.{JobData}
use Rattle.mv_polledspool.specs.declared.meeting.Meeting.{Meeting}
use Rattle.mv_polledspool.specs.declared.polled.Polled.{Polled}
use Rattle.mv_polledspool.specs.declared.polled.State.{State}
use Rattle.mv_polledspool.specs.declared.polled.State.TheVariants.{New, Waits, Finished}
use Rattle.mv_polledspool.specs.Meeting.{HasRoom, IsMeeting, IsTakenUp}
use Rattle.mv_work.specs.declared.lost.Lost.{Lost}
use Rattle.mv_work.specs.declared.need.Need.{Need}
use Rattle.mv_work.specs.Spool.{SpoolFace}
use Rattle.mv_work.specs.Works.{HasCome, HasWorked, IsNew}

-- the task waits in a call, which it began when it was u
abbrev pub IsWaiting : SpoolFace → CallerFace → Polled → Type 0
IsWaiting s t p = (n : Need) × (u : CallerFace) × HasCome s p.work t (Ok (Some n)) u × IsSame u p.task
    × IsMeeting s.board.config n p.meeting u p.task

-- what is known of a task in this state: a new one has made no event, one that waits is in a call, and a finished one has worked
abbrev pub Stands : SpoolFace → ℕ → CallerFace → Polled → State → Type 0
Stands s k t p New = (p.task ≡ t) × IsNew s.jobs s.initiators k p.work
Stands s k t p Waits = IsWaiting s t p
Stands s k t p Finished = HasWorked s p.work.role t p.task

-- p is task k of the spool between two polls
pub record IsPolled (s : SpoolFace) (k : ℕ) (p : Polled) : Type 0 where
  pub new : CallerFace
  pub fresh : IsFresh s.board k new
  pub room : HasRoom p.meeting
  pub stands : Stands s k new p p.state

-- each of these tasks is polled, in the order of their numbers
abbrev pub ArePolled : SpoolFace → List Polled → Type 0
ArePolled s ps = (k : ℕ) (d : Polled) → k < length ps → IsPolled s k (slice_index_or ps k d)

-- the task was not polled, and has the room that its work needs
pub record IsUnpolled (deck : List JobData) (i : ℕ) (p : Polled) : Type 0 where
  pub state : p.state ≡ New
  pub work : IsNew deck i p.task.number p.work
  pub room : HasRoom p.meeting

-- the call for what the task needs next was taken up, or the task is finished
abbrev pub HasTakenUp : Result (Option Need) Lost → State → Meeting → Type 0
HasTakenUp (Ok (Some n)) s m = (s ≡ Waits) × IsTakenUp n m
HasTakenUp (Ok None) s m = s ≡ Finished
HasTakenUp (Err lost) s m = s ≡ Finished

-- whether a task in this state makes no more events
abbrev pub is_over : State → Bool
is_over New = false
is_over Waits = false
is_over Finished = true

-- whether a polled task makes no more events
abbrev pub is_finished : Polled → Bool
is_finished p = is_over p.state

-- the tasks that still make events, in the order of their numbers
abbrev pub unfinished : List Polled → List Polled
unfinished ps = filter (λ p. not (is_finished p)) ps

-- only the unfinished task of this number, counted from 0, may have advanced; all others are unchanged
pub record IsPicked (number : ℕ) (old new : List Polled) : Type 0 where
  pub place : ℕ
  pub before : length (unfinished (take place old)) ≡ number
  pub here : (d : Polled) → is_finished (slice_index_or old place d) ≡ false
  pub others : (k : ℕ) (d : Polled) → (k ≡ place → ⊥) → slice_index_or new k d ≡ slice_index_or old k d
