use Rattle.std.proofs.Common.{rules, subst, sym, arith}
use Rattle.std.proofs.lemmas.Grind.{common_steps}
use Rattle.mv_deck.specs.declared.deck.Step.TheVariants.{Return}
use Rattle.mv_deck.specs.Sound.{HasGoodNumbers}
use Rattle.mv_plan.specs.Jobs.{job_at}
use Rattle.mv_wait.proofs.Parts.{one_of}
use Rattle.mv_work.specs.Spool.{IsSpool}
use Rattle.mv_work.proofs.Spools.{job_numbers, steps_borne}
use Rattle.mv_work.proofs.spool.Spool.step.Goals as goal

pub returns-clause-step : goal.returns-clause-step
returns-clause-step g c = first_of (search rules, grind (arith, common_steps))

pub returns-clause-numbers : goal.returns-clause-numbers
returns-clause-numbers g c =
    let s = c.args.self.now in
    let all = job_numbers (subst IsSpool c.self.view_is c.self.invariant) c.args.job in
    let good = one_of HasGoodNumbers (job_at s.jobs c.args.job).steps c.args.place (Return 0) all (omega arith) in
    subst HasGoodNumbers (sym (returns-clause-step g c)) good

pub returns-clause-borne : goal.returns-clause-borne
returns-clause-borne g c = steps_borne (subst IsSpool c.self.view_is c.self.invariant)
