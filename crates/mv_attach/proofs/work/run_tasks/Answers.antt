use Rattle.std.proofs.Common.{◌≡◌, ◌+◌, length, map, sym, ap, ◌∙◌, subst, arith}
use Rattle.std.proofs.lemmas.List.{length-map}
use Rattle.mv_board.specs.Faces.{AreInOrder}
use Rattle.mv_wait.proofs.Parts.{given_back}
use Rattle.mv_attach.specs.declared.seat.Seat.{Seat}
use Rattle.mv_attach.proofs.Seats.{fresh_seats, rooms_so, in_order, done_at}
use Rattle.mv_attach.proofs.work.run_tasks.Goals as goal

pub work_all-requires-clause-fresh : goal.work_all-requires-clause-fresh
work_all-requires-clause-fresh g c κs within =
    fresh_seats c.args.station.now c.deref_mut.result.now c.args.tasks.items
    (ap (map (λ (s : Seat g.row.W-Room.Denot). s.task)) c.deref_mut.ensures.value ∙ c.in_ok-seats.ensures.tasks) c.requires.fresh

pub work_all-requires-clause-start : goal.work_all-requires-clause-start
work_all-requires-clause-start g c κs within =
    rooms_so (g.W.Work.can_start c.args.work.now c.args.station.now) c.deref_mut.result.now c.args.rooms.items
    (ap (map (λ (s : Seat g.row.W-Room.Denot). s.room)) c.deref_mut.ensures.value ∙ c.in_ok-seats.ensures.rooms) c.requires.start

pub returns-clause-order : goal.returns-clause-order
returns-clause-order g c =
    let b = c.args.station.now in
    let new = c.work_all.new.seats in
    let is = c.deref_mut.ensures.value in
    let count : length new ≡ length c.in_ok-seats.seats.items = c.work_all.ensures.count ∙ ap length is in
    let given = given_back c.in_ok-seats.seats.len new c.in_ok-seats.seats.items count c.in_ok-seats.seats.ok.0 in
    subst (AreInOrder b 0)
    (ap (map (λ (s : Seat g.row.W-Room.Denot). s.task)) (sym given) ∙ sym c.parted.ensures.tasks)
    (in_order b 0 new (λ i d lt.
    let one = c.work_all.ensures.task i d (let n = c.work_all.ensures.count in omega arith) in
    (one.0, one.1 ∙ (let e : i ≡ 0 + i = omega arith in e))))

pub returns-clause-done : goal.returns-clause-done
returns-clause-done g c =
    let new = c.work_all.new.seats in
    let is = c.deref_mut.ensures.value in
    let count : length new ≡ length c.in_ok-seats.seats.items = c.work_all.ensures.count ∙ ap length is in
    let given = given_back c.in_ok-seats.seats.len new c.in_ok-seats.seats.items count c.in_ok-seats.seats.ok.0 in
    done_at (g.W.Work.has_done c.args.work.now c.args.station.now) c.deref_mut.result.now new c.args.rooms.items
    c.parted.result.0.items c.parted.result.1.items
    (ap (map (λ (s : Seat g.row.W-Room.Denot). s.room)) is ∙ c.in_ok-seats.ensures.rooms)
    (c.parted.ensures.tasks ∙ ap (map (λ (s : Seat g.row.W-Room.Denot). s.task)) given)
    (c.parted.ensures.rooms ∙ ap (map (λ (s : Seat g.row.W-Room.Denot). s.room)) given)
    c.work_all.ensures.count c.work_all.ensures.done

pub work_all-requires-clause-exist : goal.work_all-requires-clause-exist
work_all-requires-clause-exist g c κs within =
    let all : length c.deref_mut.result.now ≡ c.args.station.now.config.callers =
    ap length c.deref_mut.ensures.value ∙ sym (length-map c.in_ok-seats.seats.items (λ (s : Seat g.row.W-Room.Denot). s.task))
    ∙ ap length c.in_ok-seats.ensures.tasks ∙ c.requires.all in omega arith

pub returns-clause-all : goal.returns-clause-all
returns-clause-all g c =
    let new = c.work_all.new.seats in
    let count : length c.work_all.new.seats ≡ length c.in_ok-seats.seats.items =
    c.work_all.ensures.count ∙ ap length c.deref_mut.ensures.value in
    let given = given_back c.in_ok-seats.seats.len new c.in_ok-seats.seats.items count c.in_ok-seats.seats.ok.0 in
    ap length (c.parted.ensures.tasks ∙ ap (map (λ (s : Seat g.row.W-Room.Denot). s.task)) given)
    ∙ length-map new (λ (s : Seat g.row.W-Room.Denot). s.task) ∙ count
    ∙ sym (length-map c.in_ok-seats.seats.items (λ (s : Seat g.row.W-Room.Denot). s.task)) ∙ ap length c.in_ok-seats.ensures.tasks
    ∙ c.requires.all

pub returns-clause-rooms : goal.returns-clause-rooms
returns-clause-rooms g c =
    let new = c.work_all.new.seats in
    let count : length c.work_all.new.seats ≡ length c.in_ok-seats.seats.items =
    c.work_all.ensures.count ∙ ap length c.deref_mut.ensures.value in
    let given = given_back c.in_ok-seats.seats.len new c.in_ok-seats.seats.items count c.in_ok-seats.seats.ok.0 in
    ap length (c.parted.ensures.rooms ∙ ap (map (λ (s : Seat g.row.W-Room.Denot). s.room)) given)
    ∙ length-map new (λ (s : Seat g.row.W-Room.Denot). s.room) ∙ count
    ∙ sym (length-map c.in_ok-seats.seats.items (λ (s : Seat g.row.W-Room.Denot). s.room)) ∙ ap length c.in_ok-seats.ensures.rooms
