use Rattle.std.proofs.Common.{Some, refl, sym, ap, subst}
use Rattle.mv_calls.specs.Services as service
use Rattle.mv_machine.specs.declared.entry.Object.TheVariants.{Ecb}
use Rattle.mv_scriptline.specs.declared.call.Call.TheVariants as call
use Rattle.mv_runscript.specs.Served.{MakesService}
use Rattle.mv_runscript.proofs.Makes.{plain_makes, missed_makes}
use Rattle.mv_runscript.proofs.Served.{served_with}
use Rattle.mv_runscript.proofs.trying.try_post.Goals as goal

pub returns-in-Ok : goal.returns-in-Ok
returns-in-Ok c table tokens =
    let config = c.args.station.now.config in
    plain_makes (call.TryPost c.args.ecb c.args.place c.args.code) refl refl refl
    (subst (λ w. MakesService config (service.TryPost c.args.ecb w c.args.code) c.posted.result c.args.task.now c.try_post.new.task)
    c.zero_at-zero.ensures (served_with c.posted.ensures c.in-Ok.ensures.answer))

pub returns-in-Err : goal.returns-in-Err
returns-in-Err c table tokens =
    missed_makes (ap (λ w. Some (Ecb c.args.ecb, w)) (sym c.zero_at-zero.ensures)) c.requires.task.rest c.in-Err.ensures.answer
