use Rattle.std.proofs.Common.{◌∙◌, sym}
use Rattle.mv_calls.proofs.TableFacts.{checked_is_sound}
use Rattle.mv_calls.proofs.table.Table.check.Goals as goal

pub returns-in-None-clause-sound : goal.returns-in-None-clause-sound
returns-in-None-clause-sound c =
    checked_is_sound c.args.config.now c.args.self (sym c.refusal.ensures.refusal ∙ c.in-None.is)
