use Rattle.std.proofs.Common.{◌≡◌, false, ◌+◌, ◌≤◌, get_or, take, drop, length, ◌++◌, [], ◌∷◌, refl, sym, subst, arith}
use Rattle.std.proofs.lemmas.List.{take_more, drop_more, drop_all, take_all}
use Rattle.mv_ecb.specs.declared.operation.EcbOp.TheVariants.{Arm}
use Rattle.mv_calls.specs.Keeping.{kept_of}
use Rattle.mv_calls.specs.Waits.{arm_all, AreDistinct}
use Rattle.mv_calls.specs.Program.{Wrong}
use Rattle.mv_wait.specs.Run.{Runs}
use Rattle.mv_wait.specs.Waiting.{IsArmedFor}
use Rattle.mv_wait.proofs.Admits.{may_arm}
use Rattle.mv_wait.proofs.Answering.{armed_reply}
use Rattle.mv_wait.proofs.Parts.{still_of, own_one, one_of}
use Rattle.mv_wait.proofs.Runs.{runs_none, runs_then, runs_within}
use Rattle.mv_wait.proofs.Waits.{AreIdle, rest_is_none, idle_at_rest, idle_after, armed_more, event_keeps, arm_step, distinct_later}
use Rattle.mv_wait.proofs.station.Station.arm_all.Goals as goal

pub loop-ecb-init : goal.loop-ecb-init
loop-ecb-init g c = record {
  runs = λ p. runs_none (arm_all c.args.ecbs.now p) c.args.task.now;
  waits = rest_is_none c.args.task.now.log c.requires.task.rest;
  plain = c.requires.plain;
  idle = idle_at_rest c.args.task.now.log c.args.ecbs.now c.requires.task.rest;
}

pub event-requires : goal.event-requires
event-requires g c =
    let went = (c.loop-ecb.invariant.runs Wrong).went in
    let few = (c.loop-ecb.invariant.runs Wrong).few in
    let left = went.left in
    let below = c.loop-ecb-test.true in
    let much = c.requires.task.left in
    let own = own_one c.args.self.now.config c.args.self.now.config c.loop-ecb.task.number c.args.task.now.number c.args.ecbs.now
    c.loop-ecb.ecb-index
    refl went.same.number c.requires.own below in record {
      task = still_of c.args.self.now c.args.self.now c.args.task.now c.loop-ecb.task went.same c.requires.task.board refl;
      left = omega arith;
      admitted = λ lt. may_arm c.args.self.now.config c.loop-ecb.task.number (get_or c.args.ecbs.now c.loop-ecb.ecb-index 0)
          c.loop-ecb.task.log lt own.0 own.1;
    }

pub loop-ecb-preserved : goal.loop-ecb-preserved
loop-ecb-preserved g c =
    let since = c.loop-ecb.invariant in
    let went = (since.runs Wrong).went in
    let below = c.loop-ecb-test.true in
    let t = c.loop-ecb.task in
    let u = c.event.new.task in
    let i = c.loop-ecb.ecb-index in
    let es = c.args.ecbs.now in
    let e = get_or es i 0 in
    let own = own_one c.args.self.now.config c.args.self.now.config t.number c.args.task.now.number es i
    refl went.same.number c.requires.own below in
    let parts : drop i es ≡ e ∷ drop (i + 1) es = drop_more es i 0 below in
    let distinct : AreDistinct (e ∷ drop (i + 1) es) = subst AreDistinct parts (distinct_later i es c.requires.distinct) in
    let idle : AreIdle t.log (e ∷ drop (i + 1) es) = subst (AreIdle t.log) parts since.idle in
    let reply = armed_reply c.args.self.now.config t u e c.event.result c.event.ensures.event c.event.ensures.possible own.1 idle.0
    (one_of (λ n. (kept_of t.number t.log).extended n ≡ false) es i 0 since.plain below) in
    let h = c.event.ensures.event.1 in record {
      runs = λ p. runs_then i 1 (arm_all es p) (arm_all (drop i es) p) (arm_all (drop (i + 1) es) p) c.args.task.now t u (since.runs p)
          (subst (λ ns. Runs 1 (arm_all ns p) (arm_all (drop (i + 1) es) p) t u) (sym parts)
          (arm_step t u e c.event.result (drop (i + 1) es) p c.event.ensures.event reply));
      waits = subst (λ ns. IsArmedFor ns u.log) (sym (take_more es i 0 below))
          (subst (IsArmedFor (take i es ++ e ∷ [])) (sym h.logged)
          (armed_more (take i es) t.log t.number e c.event.ensures.event.0 c.event.result since.waits));
      plain = event_keeps t u e c.event.ensures.event.0 Arm c.event.result es h (λ q. refl) since.plain;
      idle = idle_after t u e c.event.ensures.event.0 c.event.result (drop (i + 1) es) h distinct.0 idle.1;
    }

pub returns : goal.returns
returns g c =
    let since = c.loop-ecb.invariant in
    let over : length c.args.ecbs.now ≤ c.loop-ecb.ecb-index = omega arith in record {
      armed = λ p. runs_within c.loop-ecb.ecb-index (length c.args.ecbs.now) (arm_all c.args.ecbs.now p) p c.args.task.now c.loop-ecb.task
          (omega arith)
          (subst (λ es. Runs c.loop-ecb.ecb-index (arm_all c.args.ecbs.now p) (arm_all es p) c.args.task.now c.loop-ecb.task)
          (drop_all c.loop-ecb.ecb-index c.args.ecbs.now over) (since.runs p));
      waits = subst (λ es. IsArmedFor es c.loop-ecb.task.log) (take_all c.loop-ecb.ecb-index c.args.ecbs.now over) since.waits;
      plain = since.plain;
    }
