use Rattle.std.proofs.Common.{◌≡◌, false, ◌+◌, ◌≤◌, get_or, set, take, drop, length, ◌++◌, [], ◌∷◌, refl, sym, ap, ◌∙◌}
use Rattle.std.proofs.Common.{subst, arith, append_assoc, append-nil}
use Rattle.std.proofs.Math.ListN.{length-set}
use Rattle.std.specs.List.{AllByRecursion}
use Rattle.std.proofs.lemmas.List.{drop_more, drop_all, take_all, take_more_set}
use Rattle.mv_ecb.specs.declared.operation.EcbOp.TheVariants.{Settle}
use Rattle.mv_machine.specs.declared.entry.Reply.TheVariants as reply_of
use Rattle.mv_machine.proofs.Lists.{all_push}
use Rattle.mv_calls.specs.Keeping.{kept_of}
use Rattle.mv_calls.specs.Program.{Wrong}
use Rattle.mv_calls.specs.Waits.{settle_all, complete_count, AreDistinct}
use Rattle.mv_wait.specs.Ready.{ready_count}
use Rattle.mv_wait.specs.Run.{Runs}
use Rattle.mv_wait.specs.Waiting.{IsArmedFor, settle_reply, HasLowCode}
use Rattle.mv_wait.proofs.Parts.{still_of, own_one, one_of}
use Rattle.mv_wait.proofs.Runs.{runs_none, runs_then, runs_within}
use Rattle.mv_wait.proofs.Waits.{settled_less, event_keeps, settle_step, slots_more, enough_still, distinct_later, none_is_rest}
use Rattle.mv_wait.proofs.station.Station.end_wait.Goals as goal

pub loop-i-init : goal.loop-i-init
loop-i-init g c = record {
  runs = λ found f. subst (λ xs. Runs 0 (settle_all c.args.ecbs.now found f) (settle_all c.args.ecbs.now xs f) c.args.task.now
      c.args.task.now) (sym (append-nil found))
      (runs_none (settle_all c.args.ecbs.now found f) c.args.task.now);
  waits = c.requires.waits;
  plain = c.requires.plain;
  enough = (let e = c.requires.ready in omega arith);
  size = c.requires.out;
  codes = tt;
}

pub settle-requires : goal.settle-requires
settle-requires g c =
    let one = c.loop-i.invariant.runs [] (λ xs. Wrong) in
    let few = one.few in
    let left = one.went.left in
    let below = c.loop-i-test.true in
    let much = c.requires.left in
    let own = own_one c.args.self.now.config c.args.self.now.config c.loop-i.task.number c.args.task.now.number c.args.ecbs.now c.loop-i.i
    refl one.went.same.number c.requires.own below in record {
      task = still_of c.args.self.now c.args.self.now c.args.task.now c.loop-i.task one.went.same c.requires.task refl;
      own = (own, tt);
      plain = (
        one_of (λ n. (kept_of c.loop-i.task.number c.loop-i.task.log).extended n ≡ false) c.args.ecbs.now c.loop-i.i 0
            c.loop-i.invariant.plain below,
        tt,
      );
      left = omega arith;
    }

pub loop-i-preserved : goal.loop-i-preserved
loop-i-preserved g c =
    let since = c.loop-i.invariant in
    let below = c.loop-i-test.true in
    let t = c.loop-i.task in
    let u = c.settle.new.task in
    let i = c.loop-i.i in
    let es = c.args.ecbs.now in
    let out = c.loop-i.out in
    let s = c.settle.result in
    let e = get_or es i 0 in
    let size = since.size in
    let parts : drop i es ≡ e ∷ drop (i + 1) es = drop_more es i 0 below in
    let distinct : AreDistinct (e ∷ drop (i + 1) es) = subst AreDistinct parts (distinct_later i es c.requires.distinct) in
    let place = c.settle.ensures.settled.0 in
    let h = c.settle.ensures.settled.1 in
    let more : take (i + 1) (set out i s) ≡ take i out ++ s ∷ [] = slots_more i out s (omega arith) in
    let waits : IsArmedFor (e ∷ drop (i + 1) es) t.log = subst (λ ns. IsArmedFor ns t.log) parts since.waits in
    let enough : c.args.count ≤ complete_count (take i out) + ready_count t.ready (e ∷ drop (i + 1) es) =
    subst (λ ns. c.args.count ≤ complete_count (take i out) + ready_count t.ready ns) parts since.enough in record {
      runs = λ found f.
          runs_then i 1 (settle_all es found f) (settle_all (drop i es) (found ++ take i out) f)
          (settle_all (drop (i + 1) es) (found ++ take (i + 1) (set out i s)) f)
          c.args.task.now t u (since.runs found f)
          (subst (λ ns. Runs 1 (settle_all ns (found ++ take i out) f)
          (settle_all (drop (i + 1) es) (found ++ take (i + 1) (set out i s)) f) t u) (sym parts)
          (subst (λ xs. Runs 1 (settle_all (e ∷ drop (i + 1) es) (found ++ take i out) f) (settle_all (drop (i + 1) es) xs f)
          t u)
          (append_assoc found (take i out) (s ∷ []) ∙ ap (λ xs. found ++ xs) (sym more))
          (settle_step t u e s (drop (i + 1) es) (found ++ take i out) f c.settle.ensures.settled)));
      waits = subst (IsArmedFor (drop (i + 1) es)) (sym h.logged)
          (settled_less (drop (i + 1) es) t.log t.number e place (reply_of.Ecb (settle_reply s)) distinct.0 waits);
      plain = event_keeps t u e place Settle (reply_of.Ecb (settle_reply s)) es h (λ q. refl) since.plain;
      enough = subst (λ xs. c.args.count ≤ complete_count xs + ready_count u.ready (drop (i + 1) es)) (sym more)
          (subst (λ ws. c.args.count ≤ complete_count (take i out ++ s ∷ []) + ready_count ws (drop (i + 1) es))
          (sym h.ready)
          (enough_still c.args.count i e (drop (i + 1) es) t.ready (take i out) s distinct.0 c.settle.ensures.complete enough));
      size = length-set out i s ∙ size;
      codes = subst (AllByRecursion HasLowCode) (sym (take_more_set out i s (omega arith)))
          (all_push HasLowCode (take i out) s since.codes c.settle.ensures.code);
    }

pub returns : goal.returns
returns g c =
    let since = c.loop-i.invariant in
    let es = c.args.ecbs.now in
    let i = c.loop-i.i in
    let out = c.loop-i.out in
    let size = since.size in
    let over : length es ≤ i = omega arith in
    let none : drop i es ≡ [] = drop_all i es over in
    let all : take i out ≡ out = take_all i out (omega arith) in record {
      settled = record {
        settles = λ found f.
            runs_within i (length es) (settle_all es found f) (f (found ++ out)) c.args.task.now c.loop-i.task (omega arith)
            (subst (λ xs. Runs i (settle_all es found f) (f (found ++ xs)) c.args.task.now c.loop-i.task) all
            (subst (λ ns. Runs i (settle_all es found f) (settle_all ns (found ++ take i out) f) c.args.task.now c.loop-i.task)
            none (since.runs found f)));
        enough = subst (λ xs. c.args.count ≤ complete_count xs) all
            (let e : c.args.count ≤ complete_count (take i out) + ready_count c.loop-i.task.ready [] =
            subst (λ ns. c.args.count ≤ complete_count (take i out) + ready_count c.loop-i.task.ready ns) none
            since.enough in omega arith);
      };
      rest = none_is_rest c.loop-i.task.log (subst (λ ns. IsArmedFor ns c.loop-i.task.log) none since.waits);
      size = size ∙ sym c.requires.out;
      codes = subst (AllByRecursion HasLowCode) all since.codes;
    }
