use Rattle.mv_runscript.proofs.Scripts.{table_sound}
use Rattle.mv_pollscript.proofs.run.poll_all.Goals as goal

pub poll-requires-clause-table : goal.poll-requires-clause-table
poll-requires-clause-table g c = table_sound c.args.station.now.config c.args.table.now c.args.lists.now c.requires.sound
