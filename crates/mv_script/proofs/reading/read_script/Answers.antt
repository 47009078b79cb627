use Rattle.std.proofs.Common.{[], refl, sym, subst, ◌∙◌}
use Rattle.mv_line.specs.Line.{lines_of}
use Rattle.mv_line.proofs.Faults.{whole_at_last}
use Rattle.mv_script.specs.Fault.{first_fault, line_rules}
use Rattle.mv_script.specs.Sound.{IsSound}
use Rattle.mv_script.proofs.Sounds.{sound}
use Rattle.mv_script.proofs.reading.read_script.Goals as goal

pub read_lines-requires : goal.read_lines-requires
read_lines-requires c = λ lifetimes. ((refl, tt), (c.requires.short, (tt, [], c.new-reading.ensures)))

pub returns-in-Err-clause-fault : goal.returns-in-Err-clause-fault
unfolding first_fault
returns-in-Err-clause-fault c = c.in-Err.ensures tt [] c.new-reading.ensures

pub script-requires : goal.script-requires
script-requires c =
    let read = c.in_default.ensures tt [] c.new-reading.ensures in
    (_, (read.1, read.1.far.ended ∙ whole_at_last line_rules 1 [] (lines_of c.args.bytes.now) read.0))

pub returns-clause-script : goal.returns-clause-script
unfolding first_fault
returns-clause-script c =
    let read = c.in_default.ensures tt [] c.new-reading.ensures in
    (read.0, c.in_ok-script.ensures _ read.1)

pub returns-clause-sound : goal.returns-clause-sound
unfolding first_fault
returns-clause-sound c =
    let read = c.in_default.ensures tt [] c.new-reading.ensures in
    subst IsSound (sym (c.in_ok-script.ensures _ read.1)) (sound c.args.bytes.now read.0)
