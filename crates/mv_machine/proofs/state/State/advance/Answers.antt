-- Where there is no such caller nothing changes.
use Rattle.std.proofs.Common.{sym, ◌∙◌}
use Rattle.mv_machine.specs.State.{system_of}
use Rattle.mv_machine.proofs.Writes.{refused, no_caller}
use Rattle.mv_machine.proofs.state.State.advance.Goals as goal

pub returns-then-not-has_caller : goal.returns-then-not-has_caller
returns-then-not-has_caller c =
    refused c.args.config.now c.args.self.now c.args.caller c.args.object c.args.op c.requires.opened
    (no_caller c.args.config.now (system_of c.args.self.now) c.args.caller c.args.object c.args.op
    (sym c.has_caller.ensures ∙ c.if-not-has_caller.true))
