use Rattle.std.proofs.Common.{[], ◌∷◌, arith}
use Rattle.mv_queue.proofs.Calls.{did_more, section_did, look_did}
use Rattle.mv_queue.proofs.queue.put_item.Goals as goal

pub returns-in_default : goal.returns-in_default
returns-in_default g c =
    did_more c.args.station.now 2 7 [] [] [] c.args.task.now c.take_latch.new.task c.in_default.ensures (omega arith)

pub returns-then-put-limit : goal.returns-then-put-limit
returns-then-put-limit g c =
    look_did c.args.station.now _ c.args.task.now c.take_latch.new.task c.look-taken.new.task c.put_latch.new.task c.in-Some.ensures.did
    c.look-taken.ensures.did c.put_latch.ensures

pub returns : goal.returns
returns g c =
    section_did c.args.station.now (c.args.item ∷ []) [] _ c.args.task.now c.take_latch.new.task c.look-taken.new.task c.put_in.new.task
    c.put_latch-2.new.task c.in-Some.ensures.did c.look-taken.ensures.did c.put_in.ensures c.put_latch-2.ensures
