use Rattle.std.proofs.Common.{◌<◌, ◌∙◌, ap, subst, sym}
use Rattle.mv_plan.specs.SpoolSetup.{initiator}
use Rattle.mv_work.specs.declared.work.Role.TheVariants as role
use Rattle.mv_work.specs.Initiating.{InitiatorComes}
use Rattle.mv_work.specs.Noting.{initiating_noted}
use Rattle.mv_work.specs.Works.{ToldAs}
use Rattle.mv_work.proofs.Going.{initiator_come, told_index}
use Rattle.mv_work.proofs.Waits.{comes_on}
use Rattle.mv_work.proofs.spool.Spool.go_on_initiator.Goals as goal

pub resume_initiator-next-requires-clause-answer : goal.resume_initiator-next-requires-clause-answer
resume_initiator-next-requires-clause-answer g c =
    let p = c.requires.told in
    let told = subst (λ at. ToldAs c.args.self.now (role.Initiator c.args.me.now at) p.0 c.args.got c.args.task.now) c.in-Some.is p.1 in
    told.1.answers

pub resume_initiator-next-requires-clause-task : goal.resume_initiator-next-requires-clause-task
resume_initiator-next-requires-clause-task g c =
    let p = c.requires.told in
    let told = subst (λ at. ToldAs c.args.self.now (role.Initiator c.args.me.now at) p.0 c.args.got c.args.task.now) c.in-Some.is p.1 in
    told.1.task

pub returns : goal.returns
returns g c t was =
    let s = c.args.self.now in
    let old = c.args.me.now in
    let new = c.resume_initiator-next.new.me in
    let u = c.resume_initiator-next.new.task in
    let came = c.resume_initiator-next.result in
    let told = subst (λ at. ToldAs s (role.Initiator old at) t c.args.got c.args.task.now) c.in-Some.is was in
    let same = sym c.resume_initiator-next.ensures.same in
    initiator_come s t u c.keep_stage.result new c.args.stage.now c.keep_stage.new.stage came c.keep_stage.ensures.stage
    c.keep_stage.ensures.need (told.0 ∙ ap initiator same)
    (subst (λ m. m < s.initiators) same (told_index s old c.in-Some.at c.args.got told.1.answers))
    (subst (λ m. InitiatorComes s new (initiating_noted s.board.config s.jobs m) t came u) same
    (comes_on told.1.leads c.resume_initiator-next.ensures.comes))
