use Rattle.mv_wait.specs.Prelude.{BoardFace, CallerFace, release_latch, Refusal, release_cost, IsServed}
use Rattle.mv_guarded.proofs.Holding.{release_bares}
use Rattle.mv_guarded.proofs.Quiet.{release_grown, release_is_quiet}
use Rattle.mv_ordered.specs.Held.{held}
use Rattle.mv_queue.proofs.Calls.{cheap, did_more, still_did}
use Rattle.mv_queue.proofs.Logs.{IsStill}
use Rattle.mv_queue.specs.Queue.{Did, IsReady}
use Rattle.std.proofs.Common.{List, Result, [], ap, false, sym, ℕ, ◌∙◌, ◌∷◌, ◌≡◌}
use Rattle.mv_queue.proofs.queue.put_latch.Goals as goal

release_did : (b : BoardFace) (latch id : ℕ) (Is : Result ℕ Refusal → Type 0) (has : List (ℕ × ℕ)) (t u : CallerFace)
    → IsServed (release_cost b.config) (release_latch b.config latch id false) Is t u → held u.log ≡ has → IsReady b t
    → Did b 1 [] [] has t u
release_did b latch id Is has t u s latches r =
    let one = cheap b.config r.config in
    did_more b (release_cost b.config) 1 [] [] has t u
    (still_did b (release_cost b.config) (release_latch b.config latch id false) Is has t u s
    (release_grown IsStill b.config latch id Is t u s one tt) (release_is_quiet b.config latch id Is t u s one).keeps latches r) one

pub returns : goal.returns
returns g c =
    let b = c.args.station.now in
    let token = c.args.token in
    let t = c.args.task.now in
    let u = c.release_latch.new.task in
    let served = c.release_latch.ensures.served in
    release_did b token.latch token.id _ [] t u served
    (release_bares b.config token.latch token.id _ t u served (cheap b.config c.requires.ready.config)
    (c.requires.has ∙ ap (λ n. (n, token.id) ∷ []) (sym c.requires.token))) c.requires.ready
