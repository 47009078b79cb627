use Rattle.std.proofs.Common.{◌≡◌, true, false, refl, sym, subst}
use Rattle.std.specs.List.{Contains}
use Rattle.mv_machine.specs.Kept.{HasMade}
use Rattle.mv_board.specs.declared.watch.Watch.TheVariants as watch
use Rattle.mv_board.specs.Faces.{CallerFace, PeekedIn}
use Rattle.mv_latchset.specs.Polling.{IsObtaining}
use Rattle.mv_latchset.proofs.Between.{obtaining_made, obtaining_look, obtaining_same}
use Rattle.mv_wait.proofs.Peeks.{ready_then, went_peek}
use Rattle.mv_polled.specs.declared.turn.Stage.TheVariants.{Over}
use Rattle.mv_polled.specs.Obtaining.{ObtainFace}
use Rattle.mv_polled.proofs.Obtains.{obtained_by, left_obtaining}
use Rattle.mv_polled.proofs.Pauses.{same_across}
use Rattle.mv_polled.proofs.obtaining.ObtainCall.go_on.Goals.{After-peek}
use Rattle.mv_polled.proofs.obtaining.ObtainCall.go_on.Goals as goal

pub peek-requires-clause-own : goal.peek-requires-clause-own
peek-requires-clause-own g c =
    let s = c.args.station.now.config in
    let t = c.args.task.now in
    let q = c.args.self.now in
    let p = c.requires.obtaining in
    subst (λ (f : ObtainFace). HasMade f.latch f.id t.log) (sym c.self.view_is)
    (obtaining_made s q.latch q.requestor q.mode q.id p.0 t p.1)

pub returns-then-not-peek-clause-turn : goal.returns-then-not-peek-clause-turn
returns-then-not-peek-clause-turn g c = λ t0 w.
    let t = c.args.task.now in
    let u = c.peek.new.task in
    left_obtaining c.args.station.now.config c.args.self.now t0 t u w c.requires.stage
    (subst (λ (f : ObtainFace). PeekedIn t f.latch f.id false u) c.self.view_is c.if-not-peek.ensures.look)
    (subst (λ (f : ObtainFace). Contains t.ready (watch.Latch f.latch f.id) → ◌≡◌ false true) c.self.view_is c.if-not-peek.ensures.stays)

pub end_obtain-requires-clause-ready : goal.end_obtain-requires-clause-ready
end_obtain-requires-clause-ready g c =
    ready_then c.args.task.now (watch.Latch c.self.inside.latch c.self.inside.id) c.peek.new.task c.if-not-peek.ensures.look

-- behind the look the obtain goes on
goes : (g : _) (c : After-peek g) (t0 : CallerFace)
    → IsObtaining c.args.station.now.config c.args.self.now.latch c.args.self.now.requestor c.args.self.now.mode c.args.self.now.id t0
    c.args.task.now
    → IsObtaining c.args.station.now.config c.self.inside.latch c.self.inside.requestor c.self.inside.mode c.self.inside.id t0
    c.peek.new.task
goes g c t0 obtaining =
    let s = c.args.station.now.config in
    let t = c.args.task.now in
    let u = c.peek.new.task in
    let q = c.self.inside in
    obtaining_look s q.latch q.requestor q.mode q.id t0 t
    (subst (λ (f : ObtainFace). IsObtaining s f.latch f.requestor f.mode f.id t0 t) (sym c.self.view_is) obtaining) u
    (went_peek t (watch.Latch q.latch q.id) c.peek.result u c.peek.ensures.look)

pub returns-clause-task : goal.returns-clause-task
returns-clause-task g c =
    let t = c.args.task.now in
    let f = c.args.self.now in
    let q = c.self.inside in
    let p = c.requires.obtaining in
    same_across p.0 t c.end_obtain.new.task
    (obtaining_same c.args.station.now.config f.latch f.requestor f.mode f.id p.0 t p.1)
    (c.end_obtain.ensures q.requestor q.mode p.0 (goes g (goal.at.returns-clause-task g c).After-peek p.0 p.1)).served.same

pub returns-clause-turn : goal.returns-clause-turn
returns-clause-turn g c = λ t0 w.
    let q = c.self.inside in
    obtained_by c.args.station.now.config
    (record { latch = q.latch; requestor = q.requestor; mode = q.mode; stage = Over; id = q.id }) t0 c.end_obtain.new.task
    c.end_obtain.result
    (c.end_obtain.ensures q.requestor q.mode t0 (goes g (goal.at.returns-clause-turn g c).After-peek t0 w)) refl
