use Rattle.std.proofs.Common.{refl}
use Rattle.mv_calls.specs.Services as service
use Rattle.mv_scriptline.specs.declared.call.Call.TheVariants as call
use Rattle.mv_runscript.proofs.Makes.{held_makes, unheld_makes}
use Rattle.mv_runscript.proofs.Served.{served_with}
use Rattle.mv_runscript.proofs.serving.check.Goals as goal

pub returns-in-Some : goal.returns-in-Some
returns-in-Some g c table =
    held_makes c.args.station.now.config table (call.Check c.args.obtain) c.args.obtain c.args.requests.now c.args.task.now refl
    (λ a. service.CheckLatch a.latch a.id) c.in-Some.token c.standing.result c.check_latch.new.task refl c.in-Some.is refl
    (served_with c.standing.ensures c.check_latch.ensures.served)

pub returns-in-None : goal.returns-in-None
returns-in-None g c table =
    unheld_makes c.args.station.now.config table (call.Check c.args.obtain) c.args.obtain c.args.requests.now c.args.task.now refl
    c.in-None.is c.requires.task.rest
