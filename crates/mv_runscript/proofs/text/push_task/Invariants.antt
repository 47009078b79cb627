use Rattle.std.proofs.Common.{◌≡◌, ◌++◌, take}
use Rattle.std.specs.Prelude.{All}
use Rattle.mv_script.specs.AnswerText.{task_lines, IsInRange}
use Rattle.mv_runscript.proofs.text.push_task.Given as goal

abbrev pub invariant-loop-i : goal.invariant-loop-i
invariant-loop-i l = record {
  text : l.out.items ≡ l.initial.out.items ++ task_lines l.task 1 (take l.i l.answers);
  in_range : All IsInRange (take l.i l.answers);
}
