use Rattle.std.proofs.Common.{Option, sym, subst}
use Rattle.mv_calls.specs.declared.table.Table.{Table}
use Rattle.mv_calls.specs.Services as service
use Rattle.mv_script.specs.Tasks.{named_table}
use Rattle.mv_runscript.specs.Served.{MakesService}
use Rattle.mv_runscript.proofs.Served.{served_with}
use Rattle.mv_runscript.proofs.serving.event_posted.Goals as goal

pub returns : goal.returns
returns g c =
    subst (λ (o : Option Table). MakesService c.args.station.now.config (service.PostEvent (named_table o) c.args.index c.args.code)
    c.entered.result c.args.task.now c.post_event.new.task) (sym c.in-Some.is) (served_with c.entered.ensures c.post_event.ensures.served)
