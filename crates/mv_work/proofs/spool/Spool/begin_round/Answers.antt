use Rattle.std.proofs.Common.{◌-◌, suc, length, ap, subst, arith}
use Rattle.mv_work.specs.Initiating.{given_then}
use Rattle.mv_work.specs.Noting.{rounds_noted}
use Rattle.mv_work.specs.Ran.{Leads}
use Rattle.mv_work.specs.Spool.{SpoolFace}
use Rattle.mv_work.proofs.Calls.{pause_asked}
use Rattle.mv_work.proofs.Runs.{leads_all, leads_on, served_ran}
use Rattle.mv_work.proofs.Waits.{rests_then}
use Rattle.mv_work.proofs.spool.Spool.begin_round.Goals as goal

pub returns : goal.returns
returns g c =
    let s = c.args.self.now in
    let me = c.args.me.now in
    let round = c.args.round in
    let on = ap (λ (s : SpoolFace). s.board) c.self.view_is in
    let served = rw on at c.post.ensures.served in
    let cost = c.idle-idle.ensures.cost in record {
      come = record {
        same = served.same;
        task = rests_then served c.requires.task (omega arith);
        fits = (c.requires.between, c.requires.token);
        leads = subst (λ call.
            Leads (rounds_noted s.board.config s.jobs me.index (suc (length s.jobs - round.number)) me.noted.jobs round.next)
            call c.args.task.now c.post.new.task)
            (pause_asked s.board.config round.next (given_then s me (length s.jobs - round.number)))
            (leads_on _ (leads_all _ c.args.task.now) (served_ran (rw c.idle-idle.ensures.block at served)));
      };
    }
