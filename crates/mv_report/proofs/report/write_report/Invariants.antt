use Rattle.std.proofs.Common.{◌≡◌, map, take}
use Rattle.mv_deck.specs.Deck.{job_data}
use Rattle.mv_report.specs.Report.{jobs_text}
use Rattle.mv_report.proofs.report.write_report.Given as goal

abbrev pub invariant-loop-i : goal.invariant-loop-i
invariant-loop-i l =
    l.out.items ≡ jobs_text (map job_data (take l.i l.deck.jobs.items)) (take l.i l.ends) (take l.i l.lines)
