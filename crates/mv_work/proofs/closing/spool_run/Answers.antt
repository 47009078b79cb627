-- What is made is the deck's.
use Rattle.mv_machine.proofs.Longer.{entries_fit}
use Rattle.mv_work.proofs.brought.Outcomes.{ends_kept, lines_made, volumes_made}
use Rattle.mv_work.proofs.closing.spool_run.Goals as goal

pub returns-clause-run : goal.returns-clause-run
returns-clause-run c =
    let results = c.requires.results in
    let of_run = results.of_run in
    let can = c.requires.runnable in
    let made = rw c.deref.ensures.value at c.in_ok-lines.ensures.lines in record {
      config = results.config;
      whole = results.whole;
      run = of_run.run;
      few = results.few;
      places = entries_fit _ _ of_run.run.follow.legal results.few;
      records = of_run.records;
      found = of_run.ends;
      noted = made;
      ends = ends_kept _ _ can.some can.sound _ of_run.run _ of_run.ends;
      lines = lines_made _ _ can.some can.sound _ of_run.run _ _ of_run.records made;
      volumes = volumes_made _ _ can.some can.sound _ of_run.run _ _ c.in_ok-volumes.ensures of_run.volumes;
    }
