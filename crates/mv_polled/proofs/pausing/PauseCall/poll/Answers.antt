use Rattle.std.proofs.Common.{◌≡◌, sym, ap, ◌∙◌, subst}
use Rattle.mv_board.specs.Faces.{CallerFace}
use Rattle.mv_pause.specs.Pausing.{IsPausing, MayPause}
use Rattle.mv_polled.specs.declared.turn.Stage.TheVariants.{New}
use Rattle.mv_polled.specs.Pausing.{PauseFace}
use Rattle.mv_polled.proofs.Pauses.{pause_since, pausing_met}
use Rattle.mv_polled.proofs.Stages.{at_new}
use Rattle.mv_polled.proofs.pausing.PauseCall.poll.Goals as goal

pub returns-in_default-clause-turn : goal.returns-in_default-clause-turn
returns-in_default-clause-turn g c = λ t0 at.
    let s = c.args.station.now.config in
    let t = c.args.task.now in
    let u = c.begin_pause.new.task in
    let w = c.args.self.now in
    let token = c.self.inside.token in
    let new : w.stage ≡ New = sym (ap (λ (f : PauseFace). f.stage) c.self.view_is) ∙ c.in-New.is in
    let first = at_new w.stage ((t ≡ t0) × MayPause s w.token t0) (IsPausing s w.token t0 t) new at in
    let begun = c.in_default.ensures.begun in
    let met = pausing_met s token t u begun in
    pause_since s c.go_on.new.self met.0 t0 t u c.go_on.new.task c.go_on.result met.1
    (c.go_on.ensures.turn t0 (subst (λ (d : CallerFace). IsPausing s token d u) first.0 begun))
