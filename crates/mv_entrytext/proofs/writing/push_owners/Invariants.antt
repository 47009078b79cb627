use Rattle.std.proofs.Common.{◌≡◌, ◌++◌, take}
use Rattle.std.specs.List.{flat_map}
use Rattle.mv_entrytext.specs.Journal.{Owner, line}
use Rattle.mv_entrytext.proofs.writing.push_owners.Given as goal

abbrev pub invariant-loop-owner : goal.invariant-loop-owner
invariant-loop-owner l = l.out.items ≡ l.initial.out.items ++ flat_map (λ n. line (Owner n)) (take l.owner-index l.owners)
