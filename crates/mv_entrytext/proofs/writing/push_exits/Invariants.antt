use Rattle.std.proofs.Common.{◌≡◌, ◌++◌, take, map}
use Rattle.std.specs.List.{flat_map}
use Rattle.mv_config.specs.Config.{exit_of}
use Rattle.mv_entrytext.specs.Journal.{ExitTo, line}
use Rattle.mv_entrytext.proofs.writing.push_exits.Given as goal

abbrev pub invariant-loop-exit : goal.invariant-loop-exit
invariant-loop-exit l = l.out.items ≡ l.initial.out.items ++ flat_map (λ x. line (ExitTo x)) (map exit_of (take l.exit-index l.exits))
