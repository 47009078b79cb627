-- What is before the event is legal.
use Rattle.mv_explain.proofs.JournalFacts.{legal_before}
use Rattle.mv_explain.proofs.journals.push_illegal_at.Goals as goal

pub push_before-requires-clause-legal : goal.push_before-requires-clause-legal
push_before-requires-clause-legal c =
    legal_before c.args.config.now c.args.entries.now c.args.illegal c.requires.illegal
