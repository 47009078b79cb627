-- In a history of right entries a block of an answer was found complete with nothing but that answer, which a worker posted.
use Rattle.std.proofs.Common.{◌≡◌, ℕ, ◌<◌, ◌≤◌, List, subst}
use Rattle.mv_wait.specs.Prelude.ecb_op.{Post}
use Rattle.mv_wait.specs.Prelude.{Entry, Ecb, Legal, of, Setup}
use Rattle.mv_wait.specs.Prelude.op_on
use Rattle.mv_wait.proofs.Lists.{all_at}
use Rattle.mv_attach.proofs.Entries.{all_entries, found_was_posted}
use Rattle.mv_attach.specs.Entries.{Finds, IsPosted}
use Rattle.mv_server.specs.Pool.{workers, answer_at}
use Rattle.mv_server.specs.Right.{IsRight, AreRight, IsWorkersPost}

-- what any caller found complete is the answer, and a worker posted it
pub found_is_answer : (requests : List ℕ) (c : Setup) (es : List Entry) (k n code : ℕ) → Legal c es
    → ((j : ℕ) → j < c.callers → AreRight requests j (of j es)) → Finds (of k es) n code → workers ≤ n
    → (code ≡ answer_at requests n) × IsWorkersPost es n code
found_is_answer requests c es k n code legal parts f high =
    let was : IsPosted es n code = found_was_posted c es k n code legal f in
    let by = was.entry.caller in
    let right : IsRight requests by was.entry.object was.entry.op = all_at (λ e. IsRight requests e.caller e.object e.op) es was.entry
    (all_entries (λ j e. IsRight requests j e.object e.op) c es legal parts) was.member in
    let post : IsRight requests by (Ecb n) (op_on.Ecb (Post code)) = subst (λ o. IsRight requests by o (op_on.Ecb (Post code))) was.object
    (subst (IsRight requests by was.entry.object) was.post right) in
    ((post high).1, record { posted = was; worker = (post high).0 })
