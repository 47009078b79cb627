-- Each task and each room goes to the end of its list.
use Rattle.std.proofs.Common.{◌≡◌, [], ◌∷◌, ◌++◌, length, map, sym, ap, ◌∙◌, arith, append_assoc}
use Rattle.std.proofs.lemmas.List.{length-append, length-map}
use Rattle.std.specs.Vec.Iter.{into_iter_items, into_iter_len}
use Rattle.mv_attach.specs.declared.seat.Seat.{Seat}
use Rattle.mv_attach.proofs.Yielded.{made_more, yielded_whole}
use Rattle.mv_attach.proofs.seat.parted.Goals as goal

pub push_reserved-requires : goal.push_reserved-requires
push_reserved-requires g c =
    let since = c.loop-seat.invariant in
    let all = ap length (sym (ap (λ ss. c.loop-seat.yielded ++ ss) c.in-Some.ensures.steps.0) ∙ since.yielded
    ∙ c.into_iter-seat-iterator.ensures.into_iter_gives.0) in
    let parts = length-append c.loop-seat.yielded (c.in-Some.seat ∷ into_iter_items c.next.new.self) in
    let made = ap length since.tasks in
    let same = length-map c.loop-seat.yielded (λ (s : Seat g.row.S.Denot). s.task) in
    let room = since.task_room in omega arith

pub push_reserved-requires-in-loop-seat : goal.push_reserved-requires-in-loop-seat
push_reserved-requires-in-loop-seat g c =
    let since = c.loop-seat.invariant in
    let all = ap length (sym (ap (λ ss. c.loop-seat.yielded ++ ss) c.in-Some.ensures.steps.0) ∙ since.yielded
    ∙ c.into_iter-seat-iterator.ensures.into_iter_gives.0) in
    let parts = length-append c.loop-seat.yielded (c.in-Some.seat ∷ into_iter_items c.next.new.self) in
    let made = ap length since.rooms in
    let same = length-map c.loop-seat.yielded (λ (s : Seat g.row.S.Denot). s.room) in
    let room = since.room_room in omega arith

pub loop-seat-preserved : goal.loop-seat-preserved
loop-seat-preserved g c =
    let since = c.loop-seat.invariant in
    let steps = c.in-Some.ensures.steps in record {
      yielded = rw append_assoc (rw steps.0 at since.yielded);
      count = (let left = ap length steps.0 in let all = since.count in omega arith);
      tasks = made_more (λ (s : Seat g.row.S.Denot). s.task) c.loop-seat.yielded c.in-Some.seat c.loop-seat.tasks.items
          c.push_reserved.new.self.items c.push_reserved.ensures.items since.tasks;
      rooms = made_more (λ (s : Seat g.row.S.Denot). s.room) c.loop-seat.yielded c.in-Some.seat c.loop-seat.rooms.items
          c.push_reserved-in-loop-seat.new.self.items c.push_reserved-in-loop-seat.ensures.items since.rooms;
      task_room = (let room = since.task_room in let same = c.push_reserved.ensures.capacity in omega arith);
      room_room = (let room = since.room_room in let same = c.push_reserved-in-loop-seat.ensures.capacity in omega arith);
    }

pub returns-clause-tasks : goal.returns-clause-tasks
returns-clause-tasks g c =
    let since = c.loop-seat.invariant in
    since.tasks ∙ ap (map (λ (s : Seat g.row.S.Denot). s.task))
    (yielded_whole c.loop-seat.yielded (into_iter_items c.loop-seat.seat-iterator) c.args.seats.items
    (into_iter_len c.loop-seat.seat-iterator) (since.yielded ∙ c.into_iter-seat-iterator.ensures.into_iter_gives.0) since.count
    c.in-None.ensures.steps.0)

pub returns-clause-rooms : goal.returns-clause-rooms
returns-clause-rooms g c =
    let since = c.loop-seat.invariant in
    since.rooms ∙ ap (map (λ (s : Seat g.row.S.Denot). s.room))
    (yielded_whole c.loop-seat.yielded (into_iter_items c.loop-seat.seat-iterator) c.args.seats.items
    (into_iter_len c.loop-seat.seat-iterator) (since.yielded ∙ c.into_iter-seat-iterator.ensures.into_iter_gives.0) since.count
    c.in-None.ensures.steps.0)
