use Rattle.std.proofs.Common.{◌≡◌, List, length, refl, ap, ◌∙◌, arith}
use Rattle.std.proofs.lemmas.Result.{err_from_is_err_and}
use Rattle.arrayvec.proofs.ArrayVecLemmas.{items-with_items}
use Rattle.mv_wait.specs.Prelude.{WaitSlot}
use Rattle.mv_work.proofs.Meeting.{met}
use Rattle.mv_work.proofs.Runs.{served_few}
use Rattle.mv_spool.proofs.meeting.meet.Goals as goal

pub returns-in_ok-wait-in-Blocks : goal.returns-in_ok-wait-in-Blocks
returns-in_ok-wait-in-Blocks g c =
    let found = c.truncate.new.self in
    let out = c.wait.new.out in
    let size : length out ≡ length found.items = c.wait.auto.out ∙ ap (λ (xs : List WaitSlot). length xs) c.deref_mut.ensures.value in
    let all = c.from-found.ensures.1 in
    let cut = c.truncate.ensures.len in
    let count = c.len.ensures.value in
    let may = rw c.in-Blocks.is at c.requires.need in
    let few = may.0 in
    let s = rw c.deref.ensures.0 at c.in_ok-wait-in-Blocks.ensures.served in
    rw c.in-Blocks.is (record { met = rw (items-with_items found out size) (omega arith, met _ s refl, served_few s) })

pub returns-in_err-wait-in-Blocks : goal.returns-in_err-wait-in-Blocks
returns-in_err-wait-in-Blocks g c =
    let p = err_from_is_err_and c.from_residual.result c.from_residual.ensures.1 in
    rw (p.1, c.in-Blocks.is) (record { met = met _ (rw c.deref.ensures.0 at c.in_err-wait-in-Blocks.ensures.served) refl })

pub wait_one-requires-clause-plain : goal.wait_one-requires-clause-plain
wait_one-requires-clause-plain g c = λ starts.
    let may = rw c.in-Block.is at c.requires.need in absurd (may.2 starts)

pub returns-in-Block : goal.returns-in-Block
returns-in-Block g c =
    let s = c.wait_one.ensures.served in
    rw c.in-Block.is (record { met = (tt, met _ s refl, served_few s) })

pub returns-in_ok-pause-in-Pause : goal.returns-in_ok-pause-in-Pause
returns-in_ok-pause-in-Pause g c =
    let given = c.in_ok-pause-in-Pause.ensures in
    let s = given.served in
    rw c.in-Pause.is (record { met = ((given.next, given.low.1), met _ s refl, served_few s) })

pub returns-in_err-pause-in-Pause : goal.returns-in_err-pause-in-Pause
returns-in_err-pause-in-Pause g c =
    let p = err_from_is_err_and c.from_residual-in_err-pause-in-Pause.result c.from_residual-in_err-pause-in-Pause.ensures.1 in
    rw (p.1, c.in-Pause.is) (record { met = met _ c.in_err-pause-in-Pause.ensures.served refl })

pub returns-in-Granted : goal.returns-in-Granted
returns-in-Granted g c =
    let granted = rw c.in-Granted.is at c.in_ok-token-in-Latch.ensures in
    let s = granted.served in
    rw c.in-Latch.is (record { met = (granted.latch, met _ s refl, served_few s) })

pub returns-in_err-token-in-Latch : goal.returns-in_err-token-in-Latch
returns-in_err-token-in-Latch g c =
    let p = err_from_is_err_and c.from_residual-in_err-token-in-Latch.result c.from_residual-in_err-token-in-Latch.ensures.1 in
    rw (p.1, c.in-Latch.is) (record { met = met _ c.in_err-token-in-Latch.ensures.served refl })
