use Rattle.std.proofs.Common.{◌≡◌, ℕ, ◌+◌, ◌≤◌, ◌++◌, [], Ok, map, length, take, drop, refl, sym, ap, ◌∙◌, subst, arith}
use Rattle.mv_board.specs.declared.watch.Watch.TheVariants as watch
use Rattle.mv_calls.specs.Program.{Wrong}
use Rattle.mv_wait.specs.Ready.{ready_count}
use Rattle.mv_wait.specs.Waiting.{ArePlain, SettlesEnough}
use Rattle.mv_wait.proofs.Parts.{plain_still, given_back}
use Rattle.mv_wait.proofs.Runs.{same_then, went_log}
use Rattle.mv_polled.specs.declared.turn.Stage.TheVariants.{Waits, Over}
use Rattle.mv_polled.specs.WaitCall.{shown, HasSlots}
use Rattle.mv_polled.specs.Keys.{key_of}
use Rattle.mv_polled.specs.Waiting.{WaitFace, IsWaiting, IsWaited, unready, AreFoundOpen}
use Rattle.mv_polled.proofs.Looks.{length_keys}
use Rattle.mv_polled.proofs.Waits.{waiting_look, waiting_ends}
use Rattle.mv_polled.proofs.waiting.WaitCall.go_on.Goals.{After-look_at}
use Rattle.mv_polled.proofs.waiting.WaitCall.go_on.Goals as goal

abbrev block_key : ℕ → ℕ
block_key n = key_of (watch.Ecb n)

-- the keys that were put down
put_down : (g : _) (c : After-look_at g)
    → c.look_at.new.keys.items ≡ map block_key (unready c.look_at.new.task.ready c.self.inside.ecbs.items)
put_down g c =
    c.look_at.ensures.keys ∙ ap (λ xs. map block_key (unready c.look_at.new.task.ready xs)) c.deref.ensures.value

-- a block is ready, or its key was put down
all_seen : (g : _) (c : After-look_at g)
    → ready_count c.look_at.new.task.ready c.self.inside.ecbs.items + c.look_at.new.keys.len ≡ c.self.inside.ecbs.len
all_seen g c =
    let keys = ap length (put_down g c) in
    let all = length_keys block_key c.look_at.new.task.ready c.self.inside.ecbs.items in
    let a = c.look_at.new.keys.ok.0 in
    let b = c.self.inside.ecbs.ok.0 in omega arith

pub overflow_sub-len : goal.overflow_sub-len
overflow_sub-len g c = let all = all_seen g (goal.at.overflow_sub-len g c).After-look_at in omega arith

pub returns-then-len-self-clause-turn : goal.returns-then-len-self-clause-turn
returns-then-len-self-clause-turn g c = λ t0 w.
    let s = c.args.station.now.config in
    let t = c.args.task.now in
    let u = c.look_at.new.task in
    let es = c.self.inside.ecbs.items in
    let at = (goal.at.returns-then-len-self-clause-turn g c).After-look_at in
    let all = all_seen g at in
    let less = c.if-len-self.true in
    let stage : c.self.inside.stage ≡ Waits = ap (λ (f : WaitFace). f.stage) c.self.view_is ∙ c.requires.stage in
    let before = subst (λ (f : WaitFace). IsWaiting s f.count f.ecbs t0 t) (sym c.self.view_is) w in record {
      waiting = waiting_look s c.self.inside.count es t0 t u before c.look_at.ensures.went;
      few = omega arith;
      found = subst (λ xs. AreFoundOpen xs t u) c.deref.ensures.value c.look_at.ensures.found;
      met = c.look_at.ensures.went.met;
      stage = stage;
      keys = put_down g at;
      slots = ap (λ st. shown st c.self.inside.found.items) stage;
    }

pub end_wait-requires-clause-plain : goal.end_wait-requires-clause-plain
end_wait-requires-clause-plain g c =
    let t = c.args.task.now in
    let u = c.look_at.new.task in
    let looks = c.look_at.ensures.went in
    subst (ArePlain u) (sym (c.deref-2.ensures.value ∙ ap (λ (f : WaitFace). f.ecbs) c.self.view_is))
    (plain_still t u c.args.self.now.ecbs looks.same.number (went_log t u looks) c.requires.waiting.1.plain)

pub end_wait-requires-clause-ready : goal.end_wait-requires-clause-ready
end_wait-requires-clause-ready g c =
    let all = all_seen g (goal.at.end_wait-requires-clause-ready g c).After-look_at in
    let more = c.if-len-self.false in
    let enough : c.self.inside.count ≤ ready_count c.look_at.new.task.ready c.self.inside.ecbs.items = omega arith in
    subst (λ xs. c.self.inside.count ≤ ready_count c.look_at.new.task.ready xs) (sym c.deref-2.ensures.value) enough

pub returns-clause-task : goal.returns-clause-task
returns-clause-task g c =
    same_then c.args.task.now c.look_at.new.task c.end_wait.new.task c.look_at.ensures.went.same
    (c.end_wait.ensures.settled.settles [] (λ xs. Wrong)).went.same

pub returns-clause-turn : goal.returns-clause-turn
returns-clause-turn g c = λ t0 w.
    let s = c.args.station.now.config in
    let t = c.args.task.now in
    let u = c.look_at.new.task in
    let v = c.end_wait.new.task in
    let out = c.end_wait.new.out in
    let count = c.self.inside.count in
    let es = c.self.inside.ecbs.items in
    let stage : c.self.inside.stage ≡ Waits = ap (λ (f : WaitFace). f.stage) c.self.view_is ∙ c.requires.stage in
    let before = subst (λ (f : WaitFace). IsWaiting s f.count f.ecbs t0 t) (sym c.self.view_is) w in
    let waiting = waiting_look s count es t0 t u before c.look_at.ensures.went in
    let settled = subst (λ xs. SettlesEnough count xs out u v) c.deref-2.ensures.value c.end_wait.ensures.settled in
    let found = c.self.inside.found in
    let slots = subst (λ st. HasSlots st found.items es) stage c.self.invariant.slots in
    let size : length out ≡ length found.items = c.end_wait.ensures.size ∙ ap length c.deref_mut.ensures.value in
    let whole = found.ok.0 in
    let back : take found.len (out ++ drop (length out) found.items) ≡ out = given_back found.len out found.items size (omega arith) in
    subst (λ xs. IsWaited s
    (record {
      room = c.self.inside.room;
      count = count;
      ecbs = es;
      stage = Over;
      keys = c.clear.new.self.items;
      slots = xs;
      wakers = c.self.inside.wakers.items;
    }) (Ok tt) t0 v)
    (sym back)
    (record {
      served = waiting_ends s count es out t0 u v waiting settled c.end_wait.ensures.rest;
      causes = (before.accepted, settled.enough, size ∙ slots);
      stage = refl;
      keys = c.clear.ensures.items;
    })
