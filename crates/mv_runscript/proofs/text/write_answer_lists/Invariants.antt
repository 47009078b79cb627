use Rattle.std.proofs.Common.{◌≡◌, length, take, List}
use Rattle.std.specs.Prelude.{All}
use Rattle.mv_script.specs.declared.answer.Answer.{Answer}
use Rattle.mv_script.specs.AnswerText.{lines_from, IsInRange, IsNumber}
use Rattle.mv_runscript.proofs.text.write_answer_lists.Given as goal

abbrev pub invariant-loop-task : goal.invariant-loop-task
invariant-loop-task l = record {
  text : l.out.items ≡ lines_from 0 (take l.task l.answers);
  calls : All (λ (list : List Answer). IsNumber (length list)) (take l.task l.answers);
  in_range : All (λ (list : List Answer). All IsInRange list) (take l.task l.answers);
}
