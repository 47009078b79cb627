use Rattle.std.proofs.Common.{◌≡◌, ◌+◌, ◌≤◌, ◌++◌, [], ◌∷◌, true, cond, min, get_or, take, length, sym, ap, ◌∙◌, subst, arith}
use Rattle.std.proofs.Math.ListN.{length-set, length-take}
use Rattle.std.proofs.lemmas.List.{take_more}
use Rattle.futures.specs.Task.{Lasting, Hears, IsArmed}
use Rattle.mv_machine.specs.declared.entry.Object.TheVariants.{Ecb}
use Rattle.mv_wait.specs.Ready.{has_ready, ready_count}
use Rattle.mv_wait.proofs.Runs.{went_then, went_look}
use Rattle.mv_polled.specs.Futures.{NeedsBlock}
use Rattle.mv_polled.proofs.Listening.{Stays, needs_still, needs_last, count_more, armed_more, either}
use Rattle.mv_polled.proofs.Looks.{ready_stays, own_look}
use Rattle.mv_polled.proofs.Wakers.{wakers_more}
use Rattle.mv_polled.proofs.waiting.register_all.Goals as goal

pub loop-i-preserved : goal.loop-i-preserved
loop-i-preserved g c =
    let t = c.args.task.now in
    let u = c.loop-i.task in
    let v = c.peek-is_ready.new.task in
    let es = c.args.ecbs.now in
    let xs = c.args.sources.now in
    let i = c.loop-i.i in
    let e = get_or es i 0 in
    let x = c.in-Some.source.now in
    let is = c.peek-is_ready.result in
    let look = c.peek-is_ready.ensures.look in
    let since = c.loop-i.invariant in
    let below = c.loop-i-test.true in
    let same = c.requires.sources in
    let keep = c.listen.ensures.kept in
    let stays : Stays u.ready v.ready =
    λ n l. subst (λ ws. has_ready ws n ≡ true) (sym look.ready) (ready_stays u.ready e n is l) in
    let front : take (i + 1) es ≡ take i es ++ e ∷ [] = take_more es i 0 below in
    let there : take (i + 1) xs ≡ take i xs ++ x ∷ [] =
    take_more xs i x (omega arith) ∙ ap (λ y. take i xs ++ y ∷ []) (sym c.in-Some.ensures.lookup.1) in
    let sizes : length (take i es) ≡ length (take i xs) =
    length-take i es ∙ (ap (min i) (sym same) ∙ sym (length-take i xs)) in
    let own : is ≡ has_ready v.ready e =
    sym (ap (λ ws. has_ready ws e) look.ready ∙ own_look u.ready e is c.peek-is_ready.ensures.stays) in
    let more : ready_count u.ready (take i es) + cond is 1 0 ≤ ready_count v.ready (take (i + 1) es) =
    subst (λ ys. ready_count u.ready (take i es) + cond is 1 0 ≤ ready_count v.ready ys) (sym front)
    (count_more u.ready v.ready (take i es) e is stays own) in record {
      went = went_then [] [] t u v since.went (went_look u (Ecb e) look.word v look.found);
      stays = λ n l. stays n (since.stays n l);
      left = wakers_more i u.ready v.ready es c.loop-i.wakers c.listen.new.slot c.loop-i.cx c.listen.new.cx is stays keep (omega arith) own
          c.listen.ensures.left since.left;
      heard = λ s n. either
          (needs_last v.ready (take i es) (take i xs) e x s sizes
          (subst (λ ys. NeedsBlock v.ready (take i es ++ e ∷ []) ys s) there
          (subst (λ ys. NeedsBlock v.ready ys (take (i + 1) xs) s) front n)))
          (λ m. keep (Lasting.hears s) (since.heard s (needs_still u.ready v.ready (take i es) (take i xs) s stays m)))
          (λ p. subst (λ z. Hears c.listen.new.cx z) (sym p.1) (c.listen.ensures.heard (own ∙ p.0)));
      armed = armed_more (IsArmed c.loop-i.cx) (IsArmed c.listen.new.cx) is (ready_count u.ready (take i es)) i
          (ready_count v.ready (take (i + 1) es)) more since.armed (keep Lasting.armed) c.listen.ensures.armed;
      kept = λ fact h. keep fact (since.kept fact h);
      size = length-set c.loop-i.wakers i c.listen.new.slot ∙ since.size;
    }
