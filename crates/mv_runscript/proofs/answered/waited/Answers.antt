use Rattle.std.proofs.Common.{sym, ap}
use Rattle.mv_script.specs.declared.answer.Answer.TheVariants as answer
use Rattle.mv_script.specs.Answered.{done_or}
use Rattle.mv_wait.specs.Answers.{wait_answer}
use Rattle.mv_runscript.proofs.answered.waited.Goals as goal

pub returns-in-Ok : goal.returns-in-Ok
returns-in-Ok c =
    ap (λ o. done_or answer.Waited (wait_answer o c.args.slots)) (sym c.in-Ok.is)
