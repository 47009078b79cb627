-- A task that waits, one that was given its answer, and one that has come to its next wait. A stage says where a task waits:
-- what is left to do after the answer, and how many events that may need. What a task of the spool waits for fits its stage.
use Rattle.std.specs.Prelude.{◌≡◌, ℕ, ◌+◌, ◌≤◌, Option, Some, None, Result, Ok, Err}
use Rattle.mv_board.specs.Faces.{BoardFace, CallerFace, IsSame}
use Rattle.mv_calls.specs.Keeping.{Kept}
use Rattle.mv_calls.specs.Program.{Call, Done, Wrong, followed}
use Rattle.mv_config.specs.Setup.{Setup}
use Rattle.mv_wait.specs.Run.{MayCall}
use Rattle.mv_work.specs.declared.lost.Lost.{Lost}
use Rattle.mv_work.specs.declared.need.Got.{Got}
use Rattle.mv_work.specs.declared.need.Need.{Need}
use Rattle.mv_work.specs.declared.next.Next.{Next}
use Rattle.mv_work.specs.declared.next.Next.TheVariants as next
use Rattle.mv_work.specs.Needs.{Answer, answer_of, need_call, need_events}
use Rattle.mv_work.specs.Ran.{Leads, Ran}

-- what stages of one kind say
pub record Stages (S A : Type 0) : Type 0 where
  pub then : S → Answer → Call A
  pub due : S → ℕ

-- the task was t when this whole was begun, and now waits, at this stage, for what it needs
pub record Waits {S A : Type 0} (b : BoardFace) (stages : Stages S A) (Fits : S → Need → Type 0) (whole : Call A) (t : CallerFace)
    (s : S) (n : Need) (u : CallerFace) : Type 0 where
  pub same : IsSame t u
  pub task : MayCall b (need_events n + stages.due s) u
  pub fits : Fits s n
  pub leads : Leads whole (followed (need_call b.config n) (stages.then s)) t u

-- the task was given this answer
pub record Told {S A : Type 0} (b : BoardFace) (stages : Stages S A) (Answers : S → Got → Type 0) (whole : Call A) (t : CallerFace)
    (s : S) (g : Got) (u : CallerFace) : Type 0 where
  pub same : IsSame t u
  pub task : MayCall b (stages.due s) u
  pub answers : Answers s g
  pub leads : Leads whole (stages.then s (answer_of g)) t u

-- it has come to its next wait; or has made all events of the whole, whose answer is this; or has met a reply that nothing foresees
abbrev pub ComesTo : {S A : Type 0} → BoardFace → Stages S A → (S → Need → Type 0) → A → Call A → CallerFace → Result (Next S) Lost
    → CallerFace → Type 0
ComesTo b stages Fits a whole t (Ok (next.Wait s n)) u = Waits b stages Fits whole t s n u
ComesTo b stages Fits a whole t (Ok next.Done) u = Ran whole (Done a) t u
ComesTo b stages Fits a whole t (Err lost) u = Ran whole Wrong t u

-- the same as a record, so that lemmas find what they speak of
pub record Comes {S A : Type 0} (b : BoardFace) (stages : Stages S A) (Fits : S → Need → Type 0) (a : A) (whole : Call A) (t : CallerFace)
    (next : Result (Next S) Lost) (u : CallerFace) : Type 0 where
  pub come : ComesTo b stages Fits a whole t next u

-- This is what is left to do: the call of the need, and after its answer what the stage says; nothing if the program is done. It needs
-- at most this many events.
abbrev pub AsksFor : {S A : Type 0} → Setup → Stages S A → (S → Need → Type 0) → A → Call A → ℕ → Next S → Type 0
AsksFor c stages Fits a later most (next.Wait s n) =
    (later ≡ followed (need_call c n) (stages.then s)) × Fits s n × (need_events n + stages.due s ≤ most)
AsksFor c stages Fits a later most next.Done = (kept : Kept) → later kept ≡ Done a

-- the same as a record
pub record Asks {S A : Type 0} (c : Setup) (stages : Stages S A) (Fits : S → Need → Type 0) (a : A) (later : Call A) (most : ℕ)
    (next : Next S) : Type 0 where
  pub asks : AsksFor c stages Fits a later most next

-- where a task waits next: at the next stage, or still where it waited
abbrev pub stage_then : {S : Type 0} → Option S → Result (Next S) Lost → Option S
stage_then at (Ok (next.Wait s n)) = Some s
stage_then at (Ok next.Done) = at
stage_then at (Err lost) = at

-- what a task waits for next: nothing if its program is done
abbrev pub need_of : {S : Type 0} → Result (Next S) Lost → Result (Option Need) Lost
need_of (Ok (next.Wait s n)) = Ok (Some n)
need_of (Ok next.Done) = Ok None
need_of (Err lost) = Err lost
