use Rattle.std.proofs.Common.{[], refl, ap, subst, ◌∙◌}
use Rattle.mv_line.specs.Line.{lines_of}
use Rattle.mv_deck.specs.declared.form.Version.{Version}
use Rattle.mv_deck.specs.Deck.{jobs_of}
use Rattle.mv_deck.specs.Fault.{first_fault}
use Rattle.mv_deck.specs.Reading.{IsBehind}
use Rattle.mv_deck.proofs.Passes.{all_said, version_in}
use Rattle.mv_deck.proofs.reading.read_deck.Goals.{After-new-reading}
use Rattle.mv_deck.proofs.reading.read_deck.Goals as goal

-- the reader begins behind no statement
begins : (c : After-new-reading) → IsBehind c.args.initiators (version_in c.args.bytes.now) [] c.new-reading.result
begins c = subst (λ (v : Version). IsBehind c.args.initiators v [] c.new-reading.result) c.version_of.ensures c.new-reading.ensures

pub read_lines-requires : goal.read_lines-requires
read_lines-requires c = λ lifetimes. (
  (refl, tt),
  (
    c.requires.short,
    (
      (c.args.initiators, version_in c.args.bytes.now),
      [],
      begins (goal.at.read_lines-requires c).After-new-reading,
    ),
  ),
)

pub returns-in-Err-clause-fault : goal.returns-in-Err-clause-fault
unfolding first_fault
returns-in-Err-clause-fault c =
    c.in-Err.ensures (c.args.initiators, version_in c.args.bytes.now) [] (begins (goal.at.returns-in-Err-clause-fault c).After-new-reading)

pub returns-clause-deck : goal.returns-clause-deck
unfolding first_fault
returns-clause-deck c =
    let n = c.args.initiators in
    let v = version_in c.args.bytes.now in
    let read = c.in_default.ensures (n, v) [] (begins (goal.at.returns-clause-deck c).After-new-reading) in
    (read.0, c.in_ok-deck.ensures ∙ read.1.jobs ∙ ap jobs_of (all_said n v [] (lines_of c.args.bytes.now)))
