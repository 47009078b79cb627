use Rattle.std.proofs.Common.{◌++◌, [], ◌∷◌, List, Option, None, get_or, take, sym, ap, ◌∙◌}
use Rattle.std.proofs.lemmas.List.{take_more, map-append}
use Rattle.futures.specs.declared.task.waker.Waker.{Waker}
use Rattle.mv_polled.specs.Wakers.{no_wakers}
use Rattle.mv_polled.proofs.waiting.put_places.Goals as goal

pub loop-ecb-preserved : goal.loop-ecb-preserved
loop-ecb-preserved c =
    let es = c.args.ecbs.now in
    let i = c.loop-ecb._ecb-index in
    let since = c.loop-ecb.invariant in record {
      items = c.push_reserved.ensures.items ∙ (ap (λ (ws : List (Option Waker)). ws ++ None ∷ []) since.items
          ∙ (sym (map-append (λ e. None) (take i es) (get_or es i 0 ∷ [])) ∙ ap no_wakers (sym (take_more es i 0 c.loop-ecb-test.true))));
      room = c.push_reserved.ensures.capacity ∙ since.room;
    }
