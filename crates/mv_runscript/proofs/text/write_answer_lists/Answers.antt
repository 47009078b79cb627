use Rattle.std.proofs.Common.{◌≡◌, ◌<◌, ◌+◌, List, ◌∷◌, ◌++◌, [], length, take, get_or, sym, ap, ◌∙◌, subst, arith, length-take}
use Rattle.std.specs.Prelude.{All}
use Rattle.std.proofs.lemmas.List.{take_more}
use Rattle.std.proofs.lemmas.List.Elements.{All-more}
use Rattle.mv_script.specs.declared.answer.Answer.{Answer}
use Rattle.mv_script.specs.AnswerText.{task_lines, lines_from, IsInRange, IsNumber}
use Rattle.mv_runscript.proofs.Texts.{tasks_more}
use Rattle.mv_runscript.proofs.text.write_answer_lists.Goals as goal

pub loop-task-preserved : goal.loop-task-preserved
loop-task-preserved c =
    let lists = c.args.answers.now in
    let task = c.loop-task.task in
    let list = c.index-answers-task.result in
    let lt : task < length lists = c.loop-task-test.true in
    let at : list ≡ get_or lists task list = c.index-answers-task.is in
    let own : c.deref.result.now ≡ list = c.deref.ensures.value ∙ c.list.view_is in
    let size : 0 + length (take task lists) ≡ task = (let n = length-take task lists in omega arith) in
    record {
      text = c.in_ok-push_task.ensures.text
          ∙ ap (λ o. o ++ task_lines task 1 c.deref.result.now) c.loop-task.invariant.text
          ∙ ap (λ answers. lines_from 0 (take task lists) ++ task_lines task 1 answers) own
          ∙ ap (λ n. lines_from 0 (take task lists) ++ task_lines n 1 list) (sym size)
          ∙ sym (tasks_more 0 (take task lists) list)
          ∙ ap (lines_from 0) (ap (λ x. take task lists ++ x ∷ []) at ∙ sym (take_more lists task list lt));
      calls = All-more (λ (xs : List Answer). IsNumber (length xs)) lists task list lt c.loop-task.invariant.calls
          (subst (λ (xs : List Answer). IsNumber (length xs)) (own ∙ at) c.in_ok-push_task.ensures.counted);
      in_range = All-more (λ (xs : List Answer). All IsInRange xs) lists task list lt c.loop-task.invariant.in_range
          (subst (λ (xs : List Answer). All IsInRange xs) (own ∙ at) c.in_ok-push_task.ensures.in_range);
    }
