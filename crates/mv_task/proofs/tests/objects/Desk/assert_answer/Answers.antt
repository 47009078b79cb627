-- Numbers of requests that are counted up stay new.
use Rattle.std.proofs.Common.{◌≡◌, ℕ, ◌+◌, ◌*◌, ◌≤◌, ◌∙◌, List, Option, Some, None, IfSome, IfNone, ap, arith}
use Rattle.mv_latch.specs.declared.operation.LatchOp.{LatchOp}
use Rattle.mv_latch.specs.declared.operation.LatchReply.{LatchReply}
use Rattle.mv_latch.specs.declared.request.Request.{Request}
use Rattle.mv_latch.specs.LatchSet.{LatchLists, latch_step, IsNewId}
use Rattle.mv_latch.proofs.Numbers.{still_new}
use Rattle.mv_task.proofs.tests.objects.Desk.assert_answer.Goals as goal

-- each number from `id` on is new: after an operation under this number each from the next one on is
counted_up : (caller id : ℕ) (op : LatchOp) (old new : LatchLists) (reply : Option LatchReply)
    → IfSome reply (λ r. (new.lists, r) ≡ latch_step caller id op old.lists) → IfNone reply (new ≡ old)
    → ((other : ℕ) → id ≤ other → IsNewId other old.lists) → (other : ℕ) → id + 1 ≤ other → IsNewId other new.lists
counted_up caller id op old new None some none h other le = rw none (h other (omega arith))
counted_up caller id op old new (Some reply) some none h other le =
    rw (ap (λ (z : List (List Request) × LatchReply). z.0) some)
    (still_new caller id other op old.lists (λ e. omega arith) (h other (omega arith)))

pub invariant_of-self : goal.invariant_of-self
invariant_of-self g c = record {
  counted = ap (λ (z : LatchLists). z.callers) c.apply-found.ensures.quotas ∙ c.args.self.now.counted;
  numbered =
      counted_up c.args.caller c.args.self.now.next c.args.op c.args.self.now.set c.apply-found.new.self c.apply-found.result
      c.apply-found.ensures.step c.apply-found.ensures.kept c.args.self.now.numbered;
  room =
      omega (
        arith,
        c.args.self.now.room,
        c.apply-found.ensures.capacity,
        ap (λ (z : LatchLists). z.callers * z.quota) c.apply-found.ensures.quotas,
      );
}
