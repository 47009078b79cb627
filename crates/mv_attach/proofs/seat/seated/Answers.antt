-- Each task gets the next room.
use Rattle.std.proofs.Common.{◌≡◌, [], ◌∷◌, ◌++◌, length, sym, ap, ◌∙◌, arith, append_assoc}
use Rattle.std.proofs.lemmas.List.{length-map}
use Rattle.std.specs.Vec.Iter.{into_iter_items, into_iter_len}
use Rattle.mv_attach.specs.declared.seat.Seat.{Seat}
use Rattle.mv_attach.proofs.Seats.{room_left}
use Rattle.mv_attach.proofs.Yielded.{as_long_whole, made_of_more, made_of_taken, yielded_whole}
use Rattle.mv_attach.proofs.seat.seated.Goals as goal

pub unreachable-unreachable : goal.unreachable-unreachable
unreachable-unreachable g c =
    let since = c.loop-task.invariant in
    room_left c.loop-task.seats.items c.loop-task.yielded (into_iter_items c.next.new.self) c.args.tasks.items c.in-Some.task
    (into_iter_items c.loop-task.rooms) c.args.rooms.items since.tasks
    (sym (ap (λ ts. c.loop-task.yielded ++ ts) c.in-Some.ensures.steps.0) ∙ since.yielded
    ∙ c.into_iter-task-iterator.ensures.into_iter_gives.0)
    since.rooms c.requires (sym since.rooms_count ∙ c.in_default.ensures.cases.0)

pub loop-task-preserved : goal.loop-task-preserved
loop-task-preserved g c =
    let since = c.loop-task.invariant in
    let steps = c.in-Some.ensures.steps in
    let gone = c.in-Some-next.ensures.cases in
    let push = c.push_reserved.ensures in
    let seat : Seat g.row.S.Denot = record { task = c.in-Some.task; room = c.in-Some-next.room } in record {
      yielded = rw append_assoc (rw steps.0 at since.yielded);
      count = (let left = ap length steps.0 in let all = since.count in omega arith);
      tasks = made_of_more (λ (s : Seat g.row.S.Denot). s.task) c.loop-task.seats.items c.push_reserved.new.self.items seat
          c.loop-task.yielded push.items since.tasks;
      rooms = made_of_taken (λ (s : Seat g.row.S.Denot). s.room) c.loop-task.seats.items c.push_reserved.new.self.items seat
          (into_iter_items c.loop-task.rooms) (into_iter_items c.next-in-loop-task.new.self) c.args.rooms.items push.items gone.0 since.rooms;
      rooms_count = (let left = ap length gone.0 in let all = since.rooms_count in omega arith);
      room = (let room = since.room in let same = push.capacity in omega arith);
    }

pub returns-clause-tasks : goal.returns-clause-tasks
returns-clause-tasks g c =
    let since = c.loop-task.invariant in
    since.tasks ∙ yielded_whole c.loop-task.yielded (into_iter_items c.loop-task.task-iterator) c.args.tasks.items
    (into_iter_len c.loop-task.task-iterator) (since.yielded ∙ c.into_iter-task-iterator.ensures.into_iter_gives.0) since.count
    c.in-None.ensures.steps.0

pub returns-clause-rooms : goal.returns-clause-rooms
returns-clause-rooms g c =
    let since = c.loop-task.invariant in
    let tasks = yielded_whole c.loop-task.yielded (into_iter_items c.loop-task.task-iterator) c.args.tasks.items
    (into_iter_len c.loop-task.task-iterator) (since.yielded ∙ c.into_iter-task-iterator.ensures.into_iter_gives.0) since.count
    c.in-None.ensures.steps.0 in
    as_long_whole _ (into_iter_items c.loop-task.rooms) c.args.rooms.items since.rooms
    (length-map c.loop-task.seats.items (λ (s : Seat g.row.S.Denot). s.room)
    ∙ sym (length-map c.loop-task.seats.items (λ (s : Seat g.row.S.Denot). s.task)) ∙ ap length (since.tasks ∙ tasks) ∙ sym c.requires)
