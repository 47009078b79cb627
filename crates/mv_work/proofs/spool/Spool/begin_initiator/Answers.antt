use Rattle.std.proofs.Common.{List, subst, sym, arith}
use Rattle.mv_deck.specs.Deck.{JobData}
use Rattle.mv_work.specs.Initiating.{AreGiven, jobs_of_records, steps_events}
use Rattle.mv_work.specs.Records.{JobRecord}
use Rattle.mv_work.specs.Spool.{IsSpool}
use Rattle.mv_work.proofs.Decks.{initiator_budget}
use Rattle.mv_work.proofs.Going.{initiator_come}
use Rattle.mv_work.proofs.Rounds.{left_all, none_given}
use Rattle.mv_work.proofs.Spools.{fresh_rests}
use Rattle.mv_work.proofs.spool.Spool.begin_initiator.Goals as goal

pub initiate-next-requires-clause-between : goal.initiate-next-requires-clause-between
initiate-next-requires-clause-between g c =
    let new = c.requires.new in
    let given = c.args.me.now.given.items in record {
      index = new.index;
      round = omega arith;
      size = new.size;
      given = subst (λ (rs : List JobRecord). AreGiven (jobs_of_records rs) given) (sym new.none.0) (none_given given new.given);
      none = new.none.1;
      room = new.room;
    }

pub initiate-next-requires-clause-task : goal.initiate-next-requires-clause-task
initiate-next-requires-clause-task g c =
    let s = c.args.self.now in
    let new = c.requires.new in
    let spool = subst IsSpool c.self.view_is c.self.invariant in
    let all = left_all (λ (j : JobData). steps_events j.steps) c.args.me.now.given.items s.jobs new.given new.size in
    let number = new.number in
    let index = new.index in
    let budget = initiator_budget s.jobs s.initiators c.args.task.now.number (omega arith) (omega arith) in
    fresh_rests spool c.args.task.now.number _ c.args.task.now c.requires.fresh (omega arith)

pub returns : goal.returns
returns g c =
    let new = c.requires.new in
    initiator_come c.args.self.now c.args.task.now c.initiate-next.new.task c.keep_stage.result c.args.me.now c.args.stage.now
    c.keep_stage.new.stage c.initiate-next.result c.keep_stage.ensures.stage c.keep_stage.ensures.need new.number new.index
    c.initiate-next.ensures
