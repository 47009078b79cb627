use Rattle.std.proofs.Common.{◌≡◌, Ok, refl, ap, subst, arith}
use Rattle.mv_board.specs.Faces.{CallerFace, IsFresh, IsOf}
use Rattle.mv_deck.specs.Deck.{deck_data}
use Rattle.mv_config.specs.Setup.{Setup}
use Rattle.mv_wait.proofs.Parts.{still_of}
use Rattle.mv_work.specs.declared.work.SpoolWork.{SpoolWork}
use Rattle.mv_work.specs.Spool.{SpoolFace, spool_of}
use Rattle.mv_work.specs.Works.{HasCome, HasWorked, IsWorked}
use Rattle.mv_work.proofs.Meeting.{CanMeet, done_worked, lost_worked, waits_ready}
use Rattle.mv_spool.proofs.tasks.SpoolTasksWork.work.Given as bound
use Rattle.mv_spool.proofs.tasks.SpoolTasksWork.work.Goals as goal
use Rattle.mv_spool.proofs.tasks.SpoolTasksWork.work.Goals.{In-Some-needed}

-- the task waits for what it needs
waits : (g : bound.Over) (c : In-Some-needed g)
    → CanMeet (spool_of c.args.station.now (deck_data c.args.self.now.deck.now) c.args.self.now.initiators) c.loop.room.role c.args.task.now
    c.in-Some-needed.need c.loop.task
waits g c =
    let s = spool_of c.args.station.now (deck_data c.args.self.now.deck.now) c.args.self.now.initiators in
    waits_ready s c.args.task.now c.in-Some-needed.need c.loop.task c.loop.room.role c.requires.start.0.config
    (subst (λ n. HasCome s c.loop.room c.args.task.now (Ok n) c.loop.task) c.in-Some-needed.is
    (subst (λ n. HasCome s c.loop.room c.args.task.now n c.loop.task) c.in-Ok.is c.loop.invariant))

-- a task that makes no more events is back
back : (s : SpoolFace) (w : SpoolWork) (t u : CallerFace) → IsFresh s.board t.number t → HasWorked s w.role t u
    → IsOf s.board u × (u.number ≡ t.number) × IsWorked s t.number w u
back s w t u fresh worked = (
  still_of s.board s.board t u worked.0 fresh.board refl,
  worked.0.number,
  record { before = t; fresh = fresh; worked = worked },
)

pub new-spool-requires : goal.new-spool-requires
new-spool-requires g c = record { spool = c.requires.start.0 }

pub returns-in_default : goal.returns-in_default
returns-in_default g c =
    let s = spool_of c.args.station.now (deck_data c.args.self.now.deck.now) c.args.self.now.initiators in
    let t = c.args.task.now in
    let come = subst (λ n. HasCome s c.loop.room t n c.loop.task) c.in_default.is c.loop.invariant in
    let is = back s c.loop.room t c.loop.task c.requires.fresh (lost_worked s c.loop.room.role t c.loop.task come) in
    record { task = is.0; number = is.1; done = is.2 }

pub returns-in_default-needed : goal.returns-in_default-needed
returns-in_default-needed g c =
    let s = spool_of c.args.station.now (deck_data c.args.self.now.deck.now) c.args.self.now.initiators in
    let t = c.args.task.now in
    let come = subst (λ n. HasCome s c.loop.room t (Ok n) c.loop.task) c.in_default-needed.is
    (subst (λ n. HasCome s c.loop.room t n c.loop.task) c.in-Ok.is c.loop.invariant) in
    let is = back s c.loop.room t c.loop.task c.requires.fresh (done_worked s c.loop.room.role t c.loop.task come) in
    record { task = is.0; number = is.1; done = is.2 }

pub returns-in_default-meet : goal.returns-in_default-meet
returns-in_default-meet g c =
    let s = spool_of c.args.station.now (deck_data c.args.self.now.deck.now) c.args.self.now.initiators in
    let t = c.args.task.now in
    let is = back s c.loop.room t c.meet.new.task c.requires.fresh
    ((waits g (goal.at.returns-in_default-meet g c).In-Some-needed).lost c.meet.new.task c.in_default-meet.ensures.met) in
    record { task = is.0; number = is.1; done = is.2 }

pub meet-requires-clause-task : goal.meet-requires-clause-task
meet-requires-clause-task g c = (waits g (goal.at.meet-requires-clause-task g c).In-Some-needed).task

pub meet-requires-clause-need : goal.meet-requires-clause-need
meet-requires-clause-need g c = (waits g (goal.at.meet-requires-clause-need g c).In-Some-needed).may

pub begin-next-requires-clause-number : goal.begin-next-requires-clause-number
begin-next-requires-clause-number g c =
    let callers = ap (λ (s : Setup). s.callers) c.requires.start.0.config in
    let lt = c.requires.exists in rw c.new-spool.ensures (omega arith)

pub begin-next-requires-clause-fresh : goal.begin-next-requires-clause-fresh
begin-next-requires-clause-fresh g c = rw c.new-spool.ensures c.requires.fresh

pub begin-next-requires-clause-new : goal.begin-next-requires-clause-new
begin-next-requires-clause-new g c = rw c.new-spool.ensures c.requires.start.1

pub loop-init : goal.loop-init
loop-init g c = rw c.new-spool.ensures at c.begin-next.ensures

pub go_on-next-requires : goal.go_on-next-requires
go_on-next-requires g c =
    let met = c.in-Ok-meet.ensures.met in
    let at = waits g (goal.at.go_on-next-requires g c).In-Some-needed in
    rw c.new-spool.ensures (record { told = (c.args.task.now, at.told c.in-Ok-meet.got c.meet.new.task met.0 met.1 met.2) })

pub loop-preserved : goal.loop-preserved
loop-preserved g c =
    let met = c.in-Ok-meet.ensures.met in
    let at = waits g (goal.at.loop-preserved g c).In-Some-needed in
    let came = rw c.new-spool.ensures at c.go_on-next.ensures in
    came c.args.task.now (at.told c.in-Ok-meet.got c.meet.new.task met.0 met.1 met.2)
