-- All of the merge is still to come.
use Rattle.std.proofs.Common.{ap, sym, ◌∙◌, subst}
use Rattle.mv_machine.specs.declared.merging.History.TheInside.{Inside}
use Rattle.mv_machine.specs.Legal.{Legal}
use Rattle.mv_machine.specs.Parts.{parts}
use Rattle.mv_machine.proofs.Gives.{coming_all, past_none, begins}
use Rattle.mv_machine.proofs.OneHistory.{logs_legal, logs_parts}
use Rattle.mv_machine.proofs.merging.History.new.Goals as goal

-- nothing is given yet
abbrev begun : goal.Start → Inside
begun c = record { config = c.args.config; logs = c.args.logs; state = c.args.room.state; merged = c.args.room.merged }

pub invariant_of-result : goal.invariant_of-result
invariant_of-result c = begins (begun c) c.requires.history c.requires.room

pub returns-clause-past : goal.returns-clause-past
returns-clause-past c = past_none (begun c) c.requires.history c.requires.room

pub returns-clause-coming : goal.returns-clause-coming
returns-clause-coming c = coming_all (begun c) c.requires.history c.requires.room

pub returns-clause-legal : goal.returns-clause-legal
returns-clause-legal c =
    subst (Legal c.args.config) (sym (coming_all (begun c) c.requires.history c.requires.room))
    (logs_legal c.args.config c.args.logs.items c.requires.history)

pub returns-clause-parts : goal.returns-clause-parts
returns-clause-parts c =
    ap (parts c.args.config.callers) (coming_all (begun c) c.requires.history c.requires.room)
    ∙ logs_parts c.args.config c.args.logs.items c.requires.history
