use Rattle.std.proofs.Common.{◌≡◌, Some, None, Ok, sym, subst}
use Rattle.mv_calls.specs.Keeping.{kept_of}
use Rattle.mv_calls.specs.Pauses.{pause_current, transfer_refusal}
use Rattle.mv_calls.specs.Program.{Done}
use Rattle.mv_wait.specs.Run.{Runs}
use Rattle.mv_pause.specs.Transferring.{pause_cost, IsGivenTo}
use Rattle.mv_pause.proofs.Served.{own_is}
use Rattle.mv_pause.proofs.Transfers.{accepted, paused_with}
use Rattle.mv_pause.proofs.transferring.pause_current.Goals as goal

pub pause_own-requires-clause-own : goal.pause_own-requires-clause-own
pause_own-requires-clause-own g c =
    let s = c.args.station.now.config in
    let t = c.args.task.now in
    own_is s t.number t.log c.in-Some.token (accepted s c.in-Some.token (kept_of t.number t.log)
    (subst (λ z. transfer_refusal s z (kept_of t.number t.log) ≡ None) c.in-Some.is c.requires.accepted)).own

pub returns-clause-paused : goal.returns-clause-paused
returns-clause-paused g c =
    let s = c.args.station.now.config in
    let t = c.args.task.now in
    let u = c.pause_own.new.task in
    let kept = kept_of t.number t.log in
    let own = (accepted s c.in-Some.token kept (subst (λ z. transfer_refusal s z kept ≡ None) c.in-Some.is c.requires.accepted)).own in
    subst (λ z. Runs (pause_cost z) (pause_current s z kept) (Done (Ok (Some c.in-Ok.given))) t u) (sym c.in-Some.is)
    (paused_with s c.in-Some.token t u c.in-Ok.given own c.in-Ok.ensures.runs)

pub returns-clause-given : goal.returns-clause-given
returns-clause-given g c =
    subst (λ z. IsGivenTo z (Some c.in-Ok.given) c.pause_own.new.task.log) (sym c.in-Some.is) c.in-Ok.ensures.answer
