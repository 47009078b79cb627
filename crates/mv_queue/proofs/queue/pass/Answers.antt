use Rattle.std.proofs.Common.{◌≡◌, ◌<◌, ℕ, List, [], ◌∷◌, Vec, Global, length, get_or, sym, ap, ◌∙◌, subst, arith}
use Rattle.mv_wait.specs.Prelude.{Entry, of, Setup}
use Rattle.mv_wait.proofs.Longer.{entries_fit}
use Rattle.mv_attach.proofs.Back.{done_in}
use Rattle.mv_ordered.specs.WaitChain.{HasNoLatchDeadlock}
use Rattle.mv_ordered.proofs.Calls.{each_keeps_discipline}
use Rattle.mv_ordered.proofs.Chains.{leads_to_one}
use Rattle.mv_guarded.specs.Guarded.{AllReleased}
use Rattle.mv_queue.specs.Queue.{HasDone}
use Rattle.mv_queue.proofs.Order.{is_queue}
use Rattle.mv_queue.proofs.queue.pass.Goals.{After-close-closed}
use Rattle.mv_queue.proofs.queue.pass.Goals as goal

-- with the list that the task has filled
abbrev HasDoneIn : List ℕ → List ℕ → ℕ → List Entry → Vec ℕ Global → Type 0
HasDoneIn first second k log got = HasDone first second k log got.items

callers : (g : _) (c : After-close-closed g) → c.in_ok-station.station.config.callers ≡ 4
callers g c = ap (λ (s : Setup). s.callers) (c.in_ok-station.ensures.config ∙ c.in_ok-config.ensures)

-- what each task has done, by its part of the history
done : (g : _) (c : After-close-closed g) (k : ℕ) (d : Vec ℕ Global) → k < c.in_ok-station.station.config.callers
    → HasDoneIn c.args.first.now c.args.second.now k (of k c.close-closed.result.history.coming) (get_or c.in_ok-tasks.taken.items k d)
done g c =
    let back = c.in_ok-tasks.ensures in
    let four = callers g c in
    let rooms = back.rooms in
    let size = c.in_ok-rooms.ensures.count in
    done_in (HasDoneIn c.args.first.now c.args.second.now) c.in_ok-station.station c.close-closed.result.history.coming
    c.in_ok-tasks.tasks.items c.in_ok-tasks.taken.items _ back.order back.all c.close-closed.ensures.callers (omega arith) back.done

first_of : {A : Type 0} (xs : List A) → 0 < length xs → A
first_of [] some = absurd (omega arith)
first_of (x ∷ xs) some = x

-- a room to name where one is asked for
some_room : (g : _) (c : After-close-closed g) → Vec ℕ Global
some_room g c =
    let rooms = c.in_ok-tasks.ensures.rooms in
    let size = c.in_ok-rooms.ensures.count in first_of c.in_ok-tasks.taken.items (omega arith)

pub returns-clause-order : goal.returns-clause-order
returns-clause-order g c =
    let a = (goal.at.returns-clause-order g c).After-close-closed in
    let four = callers g a in
    is_queue a.in_ok-station.station.config a.close-closed.result.history.coming a.close-closed.ensures.legal
    (λ k lt. (done g a k (some_room g a) lt).allowed) (omega arith)

pub returns-clause-put : goal.returns-clause-put
returns-clause-put g c k lt =
    let a = (goal.at.returns-clause-put g c).After-close-closed in
    let four = callers g a in (done g a k (some_room g a) (omega arith)).put

pub returns-clause-taken : goal.returns-clause-taken
returns-clause-taken g c k d lt =
    let a = (goal.at.returns-clause-taken g c).After-close-closed in
    let four = callers g a in (done g a k d (omega arith)).taken

pub returns-clause-no_deadlock : goal.returns-clause-no_deadlock
returns-clause-no_deadlock g c =
    let a = (goal.at.returns-clause-no_deadlock g c).After-close-closed in
    let b = a.in_ok-station.station in
    let es = a.close-closed.result.history.coming in
    let closed = a.close-closed.ensures in
    subst (λ s. HasNoLatchDeadlock s es) (sym closed.config)
    (leads_to_one b.config es (each_keeps_discipline b.config es closed.legal (λ k lt. (done g a k (some_room g a) lt).discipline)))

pub returns-clause-released : goal.returns-clause-released
returns-clause-released g c =
    let a = (goal.at.returns-clause-released g c).After-close-closed in
    subst (λ s. AllReleased s a.close-closed.result.history.coming) (sym a.close-closed.ensures.config)
    (λ k lt. (done g a k (some_room g a) lt).bare)

pub returns-clause-places : goal.returns-clause-places
returns-clause-places g c =
    entries_fit c.in_ok-station.station.config c.close-closed.result.history.coming c.close-closed.ensures.legal c.close-closed.ensures.few
