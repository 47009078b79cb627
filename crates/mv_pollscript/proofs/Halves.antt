-- The first half of a call that waits: the events that its task has made of it, which are the first of the call's program.
use Rattle.std.proofs.Common.{◌≡◌, List, [], ◌∷◌, Option, Some, None, refl, sym, subst}
use Rattle.mv_board.specs.Faces.{CallerFace}
use Rattle.mv_calls.specs.Keeping.{Kept, kept_after, kept_of}
use Rattle.mv_calls.specs.LatchCalls.{obtained}
use Rattle.mv_calls.specs.Pauses.{paused}
use Rattle.mv_calls.specs.Program.{Call as CallOf, Do, Done, Early, Heard, Program, Says, Wrong, going_on, on_element, on_latch}
use Rattle.mv_calls.specs.Program.{unless_refused}
use Rattle.mv_calls.specs.Refusal as refusal
use Rattle.mv_calls.specs.Waits.{arm_all, enough, refused_if, settle_all}
use Rattle.mv_calls.specs.declared.table.Table.{Table}
use Rattle.mv_element.specs.declared.operation.ElementOp.TheVariants as element_op
use Rattle.mv_element.specs.declared.operation.ElementReply.TheVariants.{Parked}
use Rattle.mv_latch.specs.declared.operation.LatchOp.TheVariants.{Obtain}
use Rattle.mv_latch.specs.declared.operation.LatchReply.TheVariants as latch_reply
use Rattle.mv_latch.specs.declared.request.LatchForm.TheVariants.{Waiting}
use Rattle.mv_config.specs.Setup.{Setup}
use Rattle.mv_machine.specs.declared.entry.Object.TheVariants.{Element, Latches}
use Rattle.mv_machine.specs.declared.entry.Op.TheVariants as op_on
use Rattle.mv_machine.specs.declared.entry.Reply.TheVariants as reply_of
use Rattle.mv_polled.specs.Obtaining.{IsObtaining, ObtainFace}
use Rattle.mv_polled.specs.Pausing.{IsPausing, PauseFace}
use Rattle.mv_polled.specs.Turn.{AtStage}
use Rattle.mv_polled.specs.Waiting.{IsWaiting, WaitFace}
use Rattle.mv_polled.specs.declared.turn.Stage.{Stage as CallStage}
use Rattle.mv_polled.specs.declared.turn.Stage.TheVariants.{Waits, New, Over}
use Rattle.mv_script.specs.Tasks.{Past}
use Rattle.mv_scriptline.specs.declared.call.Call.{Call}
use Rattle.mv_scriptline.specs.declared.call.Call.TheVariants as call
use Rattle.mv_wait.specs.Run.{Went}
use Rattle.mv_wait.proofs.LatchSteps.{heard_with, went_latch}
use Rattle.mv_wait.proofs.Runs.{heard_of, went_none, went_then, went_word}
use Rattle.mv_pollscript.specs.SoFar.{Begins}
use Rattle.mv_pollscript.specs.Task.{Stands}
use Rattle.mv_pollscript.specs.declared.task.Stage.{Stage}
use Rattle.mv_pollscript.specs.declared.task.Stage.TheVariants as stage

-- what a program says at first it also says if another call follows it
pub says_front : {A B : Type 0} (kept : Kept) (p : Program A) (f : A → CallOf B) (hs : List Heard) → Says p hs → Says (going_on kept p f) hs
says_front kept p f [] says = tt
says_front kept (Do o op next) f (h ∷ hs) says =
    (says.0, says_front (kept_after kept o op h.entry.reply) (next h) f hs says.1)
says_front kept (Done a) f (h ∷ hs) says = absurd (cc says.0)
says_front kept Early f (h ∷ hs) says = absurd (cc says.0)
says_front kept Wrong f (h ∷ hs) says = absurd (cc says.0)

-- the task has made these events since it was t, and they are the first of its next call
pub record HasBegun (c : Setup) (table : Option Table) (past : Past) (d : Option Call) (t u : CallerFace) : Type 0 where
  pub events : List Heard
  pub went : Went events t u
  pub begins : Begins c table past (kept_of t.number t.log) d events

-- nothing was begun
begins_none : (c : Setup) (table : Option Table) (past : Past) (kept : Kept) (d : Option Call) → Begins c table past kept d []
begins_none c table past kept None = refl
begins_none c table past kept (Some d) = tt

pub none_begun : (c : Setup) (table : Option Table) (past : Past) (d : Option Call) (t u : CallerFace) → u ≡ t → HasBegun c table past d t u
none_begun c table past d t u is = subst (HasBegun c table past d t) (sym is)
    (record { events = []; went = went_none t; begins = begins_none c table past (kept_of t.number t.log) d })

-- at the first stage only what the task was matters
at_first : (A B C : Type 0) (s : CallStage) → AtStage s (A × B) C → AtStage s A C
at_first A B C New is = is.0
at_first A B C Waits is = is
at_first A B C Over is = is

module _ (c : Setup) (table : Option Table) (past : Past) (t u : CallerFace) where
  abbrev kept : Kept
  kept = kept_of t.number t.log

  -- the arms of a wait
  wait_begun : (w : WaitFace) → IsWaiting c w.count w.ecbs t u → HasBegun c table past (Some (call.Wait w.count w.ecbs)) t u
  wait_begun w is =
      let run = is.runs (settle_all w.ecbs [] (enough w.count)) in record {
        events = run.events;
        went = run.went;
        begins = says_front kept _ _ run.events
            (subst (λ r. Says (unless_refused r (arm_all w.ecbs (settle_all w.ecbs [] (enough w.count)))) run.events)
            (sym is.accepted) run.says);
      }

  wait_half : (w : WaitFace) (s : CallStage) → AtStage s (u ≡ t) (IsWaiting c w.count w.ecbs t u)
      → HasBegun c table past (Some (call.Wait w.count w.ecbs)) t u
  wait_half w New is = none_begun c table past (Some (call.Wait w.count w.ecbs)) t u is
  wait_half w Waits is = wait_begun w is
  wait_half w Over is = absurd is

  -- the pause
  pause_begun : (p : PauseFace) → IsPausing c p.token t u → HasBegun c table past (Some (call.Pause p.token)) t u
  pause_begun p is =
      let h = is.event in
      let op = op_on.Element (element_op.Pause p.token.generation) in
      let one = went_word t (Element p.token.element) h.0 op (reply_of.Element Parked) is.parked tt h.1 in
      let heard : List Heard = heard_of t (Element p.token.element) h.0 op (reply_of.Element Parked) ∷ [] in record {
        events = heard;
        went = went_then heard [] t is.parked u one is.since;
        begins = says_front kept _ _ heard
            (subst (λ (b : _). Says (unless_refused (refused_if b refusal.NotOwner) (Do (Element p.token.element) op
            (λ x. on_element x.entry.reply (paused p.token.element p.token.generation)))) heard) (sym is.own) (refl, tt));
      }

  pause_half : (p : PauseFace) (s : CallStage) → AtStage s (u ≡ t) (IsPausing c p.token t u)
      → HasBegun c table past (Some (call.Pause p.token)) t u
  pause_half p New is = none_begun c table past (Some (call.Pause p.token)) t u is
  pause_half p Waits is = pause_begun p is
  pause_half p Over is = absurd is

  -- the obtain
  obtain_begun : (q : ObtainFace) → IsObtaining c q.latch q.requestor q.mode q.id t u
      → HasBegun c table past (Some (call.Obtain q.latch q.requestor q.mode Waiting)) t u
  obtain_begun q is =
      let h = is.event in
      let op = Obtain q.latch q.requestor q.mode Waiting in
      let one = went_latch t h.0 op (reply_of.Latch (latch_reply.Queued q.id)) is.queued h.1 in
      let heard : List Heard = heard_with t h.0 op (reply_of.Latch (latch_reply.Queued q.id)) is.queued.wakes ∷ [] in record {
        events = heard;
        went = went_then heard [] t is.queued u one is.since;
        begins = says_front kept _ _ heard
            (subst (λ r. Says (unless_refused r (Do Latches (op_on.Latch op)
            (λ x. on_latch x.entry.reply (obtained q.latch Waiting)))) heard) (sym is.accepted) (refl, tt));
      }

  obtain_half : (q : ObtainFace) (s : CallStage) → AtStage s (u ≡ t) (IsObtaining c q.latch q.requestor q.mode q.id t u)
      → HasBegun c table past (Some (call.Obtain q.latch q.requestor q.mode Waiting)) t u
  obtain_half q New is = none_begun c table past (Some (call.Obtain q.latch q.requestor q.mode Waiting)) t u is
  obtain_half q Waits is = obtain_begun q is
  obtain_half q Over is = absurd is

  -- what a task has begun at a stage
  pub half : (d : Option Call) (s : Stage) → Stands c d t u s → HasBegun c table past d t u
  half d (stage.Waits w) is = subst (λ o. HasBegun c table past o t u) (sym is.0) (wait_half w w.stage (at_first _ _ _ w.stage is.1))
  half d (stage.Pauses p) is = subst (λ o. HasBegun c table past o t u) (sym is.0) (pause_half p p.stage (at_first _ _ _ p.stage is.1))
  half d (stage.Obtains q) is = subst (λ o. HasBegun c table past o t u) (sym is.0) (obtain_half q q.stage (at_first _ _ _ q.stage is.1))
  half d stage.Between is = none_begun c table past d t u is
  half d stage.Halted is = none_begun c table past d t u is
  half d stage.Finished is = none_begun c table past d t u is
