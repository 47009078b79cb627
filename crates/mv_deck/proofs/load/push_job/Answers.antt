use Rattle.std.proofs.Common.{codes, ◌++◌, decimal}
use Rattle.mv_deck.specs.Load.{volume_of, job_line, count_line, scan_lines, print_line, last_line}
use Rattle.mv_deck.proofs.LoadText.{one_job}
use Rattle.mv_deck.proofs.load.push_job.Goals as goal

pub returns : goal.returns
returns c =
    let i = c.args.job in
    rw (
      c.in_ok-push_last.ensures,
      c.in_ok-push_print.ensures,
      c.in_ok-push_scan.ensures,
      c.in_ok-push_count.ensures,
      c.in_ok-push_line.ensures,
      c.volume.ensures,
      c.in_ok-push_heading.ensures,
    )
    (one_job c.args.out.now.items (job_line i) (codes "// USE " ++ decimal (volume_of i) ++ codes " X") (count_line i) (print_line i)
    (last_line i) (scan_lines i))
