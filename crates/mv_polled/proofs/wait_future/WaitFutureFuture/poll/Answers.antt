use Rattle.std.proofs.Common.{◌<◌, ◌≤◌, length, refl, sym, ap, ◌∙◌, subst, arith}
use Rattle.mv_board.specs.Faces.{CallerFace}
use Rattle.mv_calls.specs.Keeping.{kept_of}
use Rattle.mv_wait.specs.Ready.{ready_count}
use Rattle.mv_wait.proofs.Parts.{still_of}
use Rattle.mv_wait.proofs.Runs.{same_then}
use Rattle.mv_polled.specs.Futures.{NeedsBlock}
use Rattle.mv_polled.specs.Waiting.{WaitFace, IsWaiting, IsWaitAt}
use Rattle.mv_polled.proofs.Listening.{needs_still, count_still}
use Rattle.mv_polled.specs.Wakers.{HaveWakers}
use Rattle.mv_polled.proofs.Looks.{met_since}
use Rattle.mv_polled.proofs.Wakers.{wakers_still}
use Rattle.mv_wait.proofs.Unrefusing.{accepted_count}
use Rattle.mv_polled.proofs.Waits.{waiting_look, wait_goes_on, left_since}
use Rattle.mv_polled.proofs.wait_future.WaitFutureFuture.poll.Goals.{After-register}
use Rattle.mv_polled.proofs.wait_future.WaitFutureFuture.poll.Goals as goal

-- between the two polls it waits
between : (g : _) (c : After-register g) (t0 : CallerFace)
    → IsWaitAt c.args.self.now.station.now.config c.args.self.now.call t0 c.args.self.now.task.now
    → IsWaiting c.args.self.now.station.now.config c.register.new.self.count c.register.new.self.ecbs t0 c.register.new.task
between g c t0 at =
    let s = c.args.self.now.station.now.config in
    let w = c.poll.new.self in
    let m = c.register.new.task in
    subst (λ (f : WaitFace). IsWaiting s f.count f.ecbs t0 m) (sym c.register.ensures.same)
    (waiting_look s w.count w.ecbs t0 c.poll.new.task m (c.in_default.ensures.turn t0 at).waiting c.register.ensures.went)

pub go_on-requires-clause-waiting : goal.go_on-requires-clause-waiting
go_on-requires-clause-waiting g c =
    let at = c.requires.stage in (at.0, between g (goal.at.go_on-requires-clause-waiting g c).After-register at.0 at.1)

pub returns-in-Ready-go_on-clause-value : goal.returns-in-Ready-go_on-clause-value
returns-in-Ready-go_on-clause-value g c = λ t0 at.
    let same = c.register.ensures.same in (
      c.go_on.new.self,
      c.go_on.new.task,
      c.go_on.ensures.call.0 ∙ (ap (λ (f : WaitFace). f.count) same ∙ c.poll.ensures.call.0),
      c.go_on.ensures.call.1 ∙ (ap (λ (f : WaitFace). f.ecbs) same ∙ c.poll.ensures.call.1),
      c.in-Ready-go_on.ensures.turn t0 (between g (goal.at.returns-in-Ready-go_on-clause-value g c).After-register t0 at),
    )

pub returns-in-Pending-clause-again : goal.returns-in-Pending-clause-again
returns-in-Pending-clause-again g c =
    let b = c.args.self.now.station.now in
    let t = c.args.self.now.task.now in
    let u = c.poll.new.task in
    let m = c.register.new.task in
    let v = c.go_on.new.task in
    let at = c.requires.stage in
    let waiting = between g (goal.at.returns-in-Pending-clause-again g c).After-register at.0 at.1 in record {
      task = still_of b b t v
          (same_then t m v (same_then t u m c.poll.ensures.task c.register.ensures.went.same) c.go_on.ensures.task) c.requires.task refl;
      stage = (at.0, wait_goes_on b.config c.go_on.new.self at.0 m v (c.in-Pending.ensures.turn at.0 waiting));
      each = c.requires.each
          ∙ sym (ap length (c.go_on.ensures.call.1 ∙ (ap (λ (f : WaitFace). f.ecbs) c.register.ensures.same ∙ c.poll.ensures.call.1)));
    }

pub returns-in-Pending-clause-same : goal.returns-in-Pending-clause-same
returns-in-Pending-clause-same g c = λ x gives t0 at.
    let same = c.register.ensures.same in
    let waiting = between g (goal.at.returns-in-Pending-clause-same g c).After-register t0 at in
    let given = gives t0 (wait_goes_on c.args.self.now.station.now.config c.go_on.new.self t0 c.register.new.task c.go_on.new.task
    (c.in-Pending.ensures.turn t0 waiting)) in (
      given.0,
      given.1,
      given.2 ∙ (c.go_on.ensures.call.0 ∙ (ap (λ (f : WaitFace). f.count) same ∙ c.poll.ensures.call.0)),
      given.3 ∙ (c.go_on.ensures.call.1 ∙ (ap (λ (f : WaitFace). f.ecbs) same ∙ c.poll.ensures.call.1)),
      given.4,
    )

pub returns-in-Pending-clause-registered : goal.returns-in-Pending-clause-registered
returns-in-Pending-clause-registered g c =
    let m = c.register.new.task in
    let v = c.go_on.new.task in
    let w = c.poll.new.self in
    let at = c.requires.stage in
    let left = c.in_default.ensures.turn at.0 at.1 in
    let same = c.register.ensures.same in
    let later = c.in-Pending.ensures.turn at.0 (between g (goal.at.returns-in-Pending-clause-registered g c).After-register at.0 at.1) in
    let stays = c.in-Pending.ensures.stays in
    let blocks = c.go_on.ensures.call.1 ∙ ap (λ (f : WaitFace). f.ecbs) same in
    let count = c.go_on.ensures.call.0 ∙ ap (λ (f : WaitFace). f.count) same in
    let most : w.count ≤ length w.ecbs =
    accepted_count c.args.self.now.station.now.config w.count w.ecbs (kept_of at.0.number at.0.log) left.waiting.accepted in
    let few : ready_count v.ready w.ecbs < w.count =
    subst (λ n. ready_count v.ready w.ecbs < n) count
    (subst (λ es. ready_count v.ready es < c.go_on.new.self.count) blocks later.few) in
    let before = count_still m.ready v.ready w.ecbs stays in (
      c.register.ensures.armed (omega arith),
      λ x n. c.register.ensures.heard x
          (needs_still m.ready v.ready w.ecbs c.args.self.now.sources.now x stays
          (subst (λ es. NeedsBlock v.ready es c.args.self.now.sources.now x) blocks n)),
    )

pub returns-in-Pending-clause-wakers : goal.returns-in-Pending-clause-wakers
returns-in-Pending-clause-wakers g c =
    let m = c.register.new.task in
    let v = c.go_on.new.task in
    let cx = c.register.new.cx in
    let es = c.poll.new.self.ecbs in
    let blocks = c.go_on.ensures.call.1 ∙ ap (λ (f : WaitFace). f.ecbs) c.register.ensures.same in
    subst (λ xs. HaveWakers (length xs) v.ready xs c.go_on.new.self.wakers cx) (sym blocks)
    (subst (λ ws. HaveWakers (length es) v.ready es ws cx) (sym c.go_on.ensures.wakers)
    (wakers_still (length es) m.ready v.ready es c.register.new.self.wakers cx c.in-Pending.ensures.stays c.register.ensures.left))

pub returns-in-Ready-go_on-clause-turn : goal.returns-in-Ready-go_on-clause-turn
returns-in-Ready-go_on-clause-turn g c = λ t0 at.
    c.in-Ready-go_on.ensures.turn t0 (between g (goal.at.returns-in-Ready-go_on-clause-turn g c).After-register t0 at)

pub returns-in-Pending-clause-turn : goal.returns-in-Pending-clause-turn
returns-in-Pending-clause-turn g c = λ t0 at.
    let t = c.args.self.now.task.now in
    let m = c.register.new.task in
    let left = c.in_default.ensures.turn t0 at in
    let later = c.in-Pending.ensures.turn t0 (between g (goal.at.returns-in-Pending-clause-turn g c).After-register t0 at) in
    let met = met_since left.met.0 t c.poll.new.task m left.met.1 c.register.ensures.went.met in
    left_since c.args.self.now.station.now.config c.go_on.new.self met.0 t0 t m c.go_on.new.task met.1 later
