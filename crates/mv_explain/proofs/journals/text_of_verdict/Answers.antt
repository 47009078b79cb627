-- What was read of a journal can be judged, and was.
use Rattle.std.proofs.Common.{◌≤◌, List, sym, subst}
use Rattle.std.specs.Prelude.{All}
use Rattle.mv_machine.specs.declared.entry.Entry.{Entry}
use Rattle.mv_config.specs.Limits.{highest_place}
use Rattle.mv_explain.proofs.JournalFacts.{places_fit}
use Rattle.mv_explain.proofs.journals.text_of_verdict.Goals as goal

pub push_verdict-requires-clause-places : goal.push_verdict-requires-clause-places
push_verdict-requires-clause-places c =
    subst (λ (es : List Entry). All (λ (e : Entry). e.place ≤ highest_place) es) (sym c.deref.ensures.value)
    (places_fit c.args.journal.now.entries.items c.requires.journal.each)

pub push_verdict-requires-clause-judged : goal.push_verdict-requires-clause-judged
push_verdict-requires-clause-judged c =
    let j = c.args.journal.now in
    (j.version, j.calls.items, rw c.deref.ensures.value c.requires.judged)
