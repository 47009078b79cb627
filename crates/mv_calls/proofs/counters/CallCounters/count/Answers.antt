-- The counter of the entry's caller counts it.
use Rattle.std.proofs.Common.{refl, arith}
use Rattle.mv_calls.proofs.call_numbers.Counted.{countable_there, countable_low, countable_room, counted_more}
use Rattle.mv_calls.proofs.counters.CallCounters.count.Goals as goal

pub index_mut-requires : goal.index_mut-requires
index_mut-requires c =
    let h = c.requires.countable in
    omega (arith, countable_there c.args.config.now h.0 c.args.entry.now c.args.wakes.now c.args.self.now h.1)

pub count-requires-clause-low : goal.count-requires-clause-low
count-requires-clause-low c =
    let h = c.requires.countable in
    countable_low c.args.config.now h.0 c.args.entry.now c.args.wakes.now c.args.self.now h.1 h.2 c.index_mut.result.now
    c.index_mut.ensures.value

pub count-requires-clause-room : goal.count-requires-clause-room
count-requires-clause-room c =
    let h = c.requires.countable in
    countable_room c.args.config.now h.0 c.args.entry.now c.args.wakes.now c.args.self.now h.1 c.index_mut.result.now
    c.index_mut.ensures.value

pub returns : goal.returns
returns c = λ es h.
    counted_more c.args.config.now es c.args.entry.now c.args.wakes.now c.args.self.now h _ c.index_mut.result.now
    c.count.new.self c.count.result c.index_mut.ensures.value refl c.count.ensures.number c.count.ensures.after c.count.ensures.capacity
