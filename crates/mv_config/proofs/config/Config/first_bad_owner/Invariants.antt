-- No owner so far is bad.
use Rattle.std.proofs.Common.{◌≡◌, nat_le, drop}
use Rattle.std.specs.List.{position_from}
use Rattle.mv_config.specs.Check.{first_bad_owner}
use Rattle.mv_config.specs.Config.{setup_of}
use Rattle.mv_config.proofs.config.Config.first_bad_owner.Given as goal

abbrev pub invariant-loop-owner : goal.invariant-loop-owner
invariant-loop-owner l = record {
  ecb : l.ecb ≡ l.owner-index;
  rest : first_bad_owner (setup_of l.self) ≡ position_from (λ owner. nat_le l.self.callers owner) l.ecb
      (drop l.owner-index l.self.owners.items);
}
