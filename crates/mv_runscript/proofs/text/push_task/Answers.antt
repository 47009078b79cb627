use Rattle.std.proofs.Common.{◌≡◌, ◌+◌, ◌∷◌, ◌++◌, [], length, take, sym, ap, ◌∙◌, subst, arith, append_assoc, length-take}
use Rattle.std.proofs.lemmas.List.{take_more}
use Rattle.std.proofs.lemmas.List.Elements.{All-more}
use Rattle.mv_script.specs.declared.answer.Answer.{Answer}
use Rattle.mv_script.specs.AnswerText.{answer_line, task_lines, IsInRange}
use Rattle.mv_runscript.proofs.Texts.{lines_more}
use Rattle.mv_runscript.proofs.text.push_task.Goals as goal

pub loop-i-preserved : goal.loop-i-preserved
loop-i-preserved c =
    let task = c.args.task in
    let xs = c.args.answers.now in
    let i = c.loop-i.i in
    let a = c.index-answers-i.result in
    let out = c.args.out.now.items in
    let lt = c.loop-i-test.true in
    let size : 1 + length (take i xs) ≡ i + 1 = (let n = length-take i xs in omega arith) in
    record {
      text = c.in_ok-push_line.ensures.text
          ∙ ap (λ o. o ++ answer_line task (i + 1) a) c.loop-i.invariant.text
          ∙ append_assoc out (task_lines task 1 (take i xs)) (answer_line task (i + 1) a)
          ∙ ap (λ r. out ++ r) (ap (λ n. task_lines task 1 (take i xs) ++ answer_line task n a) (sym size)
          ∙ sym (lines_more task 1 (take i xs) a)
          ∙ ap (task_lines task 1) (ap (λ (x : Answer). take i xs ++ x ∷ []) c.index-answers-i.is ∙ sym (take_more xs i a lt)));
      in_range = All-more IsInRange xs i a lt c.loop-i.invariant.in_range
          (subst IsInRange c.index-answers-i.is c.in_ok-push_line.ensures.in_range);
    }
