use Rattle.std.proofs.Common.{List, ◌++◌, ap, ◌∙◌}
use Rattle.mv_calls.specs.declared.outcomes.WaitSlot.{WaitSlot}
use Rattle.mv_script.specs.Answered.{done_or}
use Rattle.mv_script.specs.declared.answer.Answer.TheVariants as answer
use Rattle.mv_wait.specs.Answers.{wait_answer}
use Rattle.mv_runscript.proofs.Served.{served_with}
use Rattle.mv_pollscript.proofs.polls.poll_wait.Goals as goal

pub returns-in_ok-extend_from_slice-in-Ready-clause-turn : goal.returns-in_ok-extend_from_slice-in-Ready-clause-turn
returns-in_ok-extend_from_slice-in-Ready-clause-turn g c t at =
    let call = c.poll.ensures.call in
    let waited = c.in-Ready.ensures.turn t at in
    let found = c.in_ok-extend_from_slice-in-Ready.ensures.items
    ∙ ap (λ (xs : List WaitSlot). xs ++ c.slots.result.now) c.new-slots.ensures.items ∙ c.slots.ensures in
    served_with
    (c.waited.ensures ∙ ap (λ s. done_or answer.Waited (wait_answer c.in-Ready.outcome s)) found)
    (rw (call.0, call.1) at waited.served)
