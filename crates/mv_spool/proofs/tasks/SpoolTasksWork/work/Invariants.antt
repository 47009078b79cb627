use Rattle.mv_deck.specs.Deck.{deck_data}
use Rattle.mv_work.specs.Spool.{spool_of}
use Rattle.mv_work.specs.Works.{HasCome}
use Rattle.mv_spool.proofs.tasks.SpoolTasksWork.work.Given as goal

abbrev pub invariant-loop : goal.invariant-loop
invariant-loop g l = HasCome (spool_of l.station (deck_data l.self.deck.now) l.self.initiators) l.room l.fn.task l.next l.task
