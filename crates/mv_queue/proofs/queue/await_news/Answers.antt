use Rattle.mv_attach.proofs.Always.{served_grown}
use Rattle.mv_attach.proofs.Says.{always_clear, always_wait}
use Rattle.mv_wait.specs.Prelude.{BoardFace, CallerFace, kept_of, Refusal, WaitSlot, clear, wait, Setup, owner_of, IsServed}
use Rattle.mv_guarded.proofs.Quiet.{clear_held, clear_is_quiet, no_exit_starts, wait_held, wait_is_quiet}
use Rattle.mv_ordered.specs.Held.{held}
use Rattle.mv_queue.proofs.Calls.{did_then, no_exits, still_did}
use Rattle.mv_queue.proofs.Logs.{IsStill}
use Rattle.mv_queue.specs.Queue.{Did, IsReady}
use Rattle.mv_queue.specs.Setup.{queue_setup}
use Rattle.std.proofs.Common.{List, Result, [], ap, arith, length, subst, sym, ℕ, ◌+◌, ◌<◌, ◌∙◌, ◌∷◌, ◌≡◌}
use Rattle.std.proofs.lemmas.List.FromFn.{get_or-range_with_len}
use Rattle.mv_queue.proofs.queue.await_news.Goals as goal

-- each task has the block of its number
own_block : (c : Setup) (k : ℕ) → (tries : ℕ) × (c ≡ queue_setup tries) → k < 4 → owner_of c k ≡ k
own_block c k has lt =
    ap (λ (s : Setup). owner_of s k) has.1 ∙ get_or-range_with_len 0 4 k 0 lt ∙ (let e : 0 + k ≡ k = omega arith in e)

wait_did : (b : BoardFace) (e : ℕ) (Is : Result (List WaitSlot) Refusal → Type 0) (t u : CallerFace)
    → IsServed 2 (wait b.config 1 (e ∷ [])) Is t u → held t.log ≡ [] → IsReady b t → Did b 2 [] [] [] t u
wait_did b e Is t u s bare =
    still_did b 2 (wait b.config 1 (e ∷ [])) Is [] t u s
    (served_grown IsStill 2 (wait b.config 1 (e ∷ [])) Is t u s
    (always_wait IsStill b.config 1 (e ∷ []) (kept_of t.number t.log) (tt, tt) (tt, tt)))
    (wait_is_quiet b.config 1 (e ∷ []) 2 Is t u s bare).keeps (wait_held b.config 1 (e ∷ []) 2 Is t u s ∙ bare)

clear_did : (b : BoardFace) (e : ℕ) (Is : Result ℕ Refusal → Type 0) (t u : CallerFace) → IsServed 1 (clear b.config e) Is t u
    → IsReady b t → Did b 1 [] [] (held t.log) t u
clear_did b e Is t u s =
    still_did b 1 (clear b.config e) Is (held t.log) t u s
    (served_grown IsStill 1 (clear b.config e) Is t u s (always_clear IsStill b.config e (kept_of t.number t.log) tt))
    (clear_is_quiet b.config e 1 Is t u s).keeps (clear_held b.config e 1 Is t u s)

pub wait_one-requires-clause-block : goal.wait_one-requires-clause-block
wait_one-requires-clause-block g c =
    let number = c.number-block.ensures.number in
    let low = c.requires.number in
    subst (λ (s : Setup). c.number-block.result < length s.owners) (sym c.requires.ready.config.1) (omega arith)

pub wait_one-requires-clause-own : goal.wait_one-requires-clause-own
wait_one-requires-clause-own g c =
    let number = c.number-block.ensures.number in
    let low = c.requires.number in
    own_block c.args.station.now.config c.number-block.result c.requires.ready.config (omega arith) ∙ number

pub wait_one-requires-clause-plain : goal.wait_one-requires-clause-plain
wait_one-requires-clause-plain g c = λ starts.
    absurd (no_exit_starts c.args.station.now.config _ (no_exits c.args.station.now.config c.requires.ready.config) starts)

pub clear-requires-clause-block : goal.clear-requires-clause-block
clear-requires-clause-block g c =
    let number = c.number-block.ensures.number in
    let low = c.requires.number in
    subst (λ (s : Setup). c.number-block.result < length s.owners) (sym c.requires.ready.config.1) (omega arith)

pub returns : goal.returns
returns g c =
    let b = c.args.station.now in
    let block = c.number-block.result in
    let t = c.args.task.now in
    let u = c.wait_one.new.task in
    let v = c.clear.new.task in
    let waited = wait_did b block _ t u c.wait_one.ensures.served c.requires.bare c.requires.ready in
    let cleared = clear_did b block _ u v c.clear.ensures.served waited.ready in
    did_then b 2 1 3 [] [] [] [] [] [] t u v waited (subst (λ has. Did b 1 [] [] has u v) waited.latches cleared) (omega arith)
