use Rattle.std.proofs.Common.{Some, subst}
use Rattle.mv_board.specs.Faces.{CallerFace}
use Rattle.mv_work.specs.declared.need.Got.TheVariants as got
use Rattle.mv_work.specs.declared.work.Role.TheVariants as role
use Rattle.mv_work.specs.Works.{ToldAs}
use Rattle.mv_work.proofs.Going.{writer_come}
use Rattle.mv_work.proofs.Waits.{comes_on}
use Rattle.mv_work.proofs.spool.Spool.go_on_writer.Given as bound
use Rattle.mv_work.proofs.spool.Spool.go_on_writer.Goals as goal
use Rattle.mv_work.proofs.spool.Spool.go_on_writer.Goals.{In-Code}

-- the writer was told the code of the block of this job
told : (g : bound.Over) (c : In-Code g) (t : CallerFace)
    → ToldAs c.args.self.now (role.Writer c.args.ends.now c.args.job.now) t c.args.got c.args.task.now
    → ToldAs c.args.self.now (role.Writer c.args.ends.now (Some c.in-Some.at)) t (got.Code c.in-Code.end) c.args.task.now
told g c t was =
    let s = c.args.self.now in
    let ends = c.args.ends.now in
    subst (λ x. ToldAs s (role.Writer ends (Some c.in-Some.at)) t x c.args.task.now) c.in-Code.is
    (subst (λ at. ToldAs s (role.Writer ends at) t c.args.got c.args.task.now) c.in-Some.is was)

pub on_end-next-requires-clause-job : goal.on_end-next-requires-clause-job
on_end-next-requires-clause-job g c =
    let p = c.requires.told in (told g (goal.at.on_end-next-requires-clause-job g c).In-Code p.0 p.1).1.answers.number

pub on_end-next-requires-clause-room : goal.on_end-next-requires-clause-room
on_end-next-requires-clause-room g c =
    let p = c.requires.told in (told g (goal.at.on_end-next-requires-clause-room g c).In-Code p.0 p.1).1.answers.room

pub on_end-next-requires-clause-task : goal.on_end-next-requires-clause-task
on_end-next-requires-clause-task g c =
    let p = c.requires.told in (told g (goal.at.on_end-next-requires-clause-task g c).In-Code p.0 p.1).1.task

pub returns : goal.returns
returns g c t was =
    let at = told g (goal.at.returns g c).In-Code t was in
    writer_come c.args.self.now t c.on_end-next.new.task c.keep_stage.result c.on_end-next.new.ends c.args.job.now c.keep_stage.new.stage
    c.on_end-next.result c.keep_stage.ensures.stage c.keep_stage.ensures.need at.0 (comes_on at.1.leads c.on_end-next.ensures)
