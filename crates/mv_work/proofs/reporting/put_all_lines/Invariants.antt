use Rattle.std.proofs.Common.{◌≡◌, [], length, map, fold, drop}
use Rattle.mv_deck.specs.Deck.{job_data}
use Rattle.mv_work.specs.Inside.{jobs_in}
use Rattle.mv_work.specs.Recording.{with_record}
use Rattle.mv_work.proofs.reporting.put_all_lines.Given as goal

-- the lines so far, and those of the jobs that are left, the first with what is noted
abbrev pub invariant-loop-mark : goal.invariant-loop-mark
invariant-loop-mark l = record {
  long : length l.lines ≡ length l.jobs;
  lines : fold (with_record (map job_data l.jobs)) l.lines (jobs_in l.notes.items (drop l.mark-index l.mark-items))
      ≡ fold (with_record (map job_data l.jobs)) l.initial.lines (jobs_in [] l.mark-items);
}
