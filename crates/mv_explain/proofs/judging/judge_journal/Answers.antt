-- What was read of a journal can be judged.
use Rattle.std.proofs.Common.{◌≤◌, List, sym, subst}
use Rattle.std.specs.Prelude.{All}
use Rattle.mv_machine.specs.declared.entry.Entry.{Entry}
use Rattle.mv_config.specs.Limits.{highest_place}
use Rattle.mv_explain.proofs.JournalFacts.{numbered, places_fit}
use Rattle.mv_explain.proofs.judging.judge_journal.Goals as goal

pub judge-requires-clause-places : goal.judge-requires-clause-places
judge-requires-clause-places c =
    subst (λ (es : List Entry). All (λ (e : Entry). e.place ≤ highest_place) es) (sym c.deref.ensures.value)
    (places_fit c.args.journal.now.entries.items c.requires.journal.each)

pub judge-requires-clause-numbers : goal.judge-requires-clause-numbers
judge-requires-clause-numbers c =
    let j = c.args.journal.now in
    rw (c.deref.ensures.value, c.deref-2.ensures.value)
    (numbered j.version c.requires.read.0 j.config j.entries.items j.calls.items c.requires.read.1)

pub returns : goal.returns
returns c = rw (← c.deref.ensures.value, ← c.deref-2.ensures.value) c.judge.ensures
