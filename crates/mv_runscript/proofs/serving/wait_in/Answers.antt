use Rattle.std.proofs.Common.{◌≡◌, length, ap, ◌∙◌}
use Rattle.mv_script.specs.declared.answer.Answer.TheVariants as answer
use Rattle.mv_script.specs.Answered.{done_or}
use Rattle.mv_wait.specs.Answers.{wait_answer}
use Rattle.mv_runscript.proofs.Served.{served_with}
use Rattle.mv_runscript.proofs.serving.wait_in.Goals as goal
use Rattle.mv_wait.proofs.Parts.{given_back}

pub returns : goal.returns
returns g c =
    let slots = c.truncate.new.self in
    let out = c.wait-outcome.new.out in
    let outcome = c.wait-outcome.result in
    let size : length out ≡ length slots.items = c.wait-outcome.auto.out ∙ ap length c.deref_mut.ensures.value in
    served_with
    (c.waited.ensures ∙ ap (λ s. done_or answer.Waited (wait_answer outcome s))
    (given_back slots.len out slots.items size slots.ok.0))
    c.wait-outcome.ensures.served
