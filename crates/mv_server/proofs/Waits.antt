-- The server's waits are not refused.
use Rattle.std.proofs.Common.{◌≡◌, ℕ, zero, suc, ◌+◌, ◌<◌, ◌≤◌, ◌==◌, Bool, true, false, List, [], ◌∷◌}
use Rattle.std.proofs.Common.{None, refl, sym, ap, ◌∙◌, arith, if◌then◌else◌}
use Rattle.std.proofs.lemmas.List.{get_or-replicate}
use Rattle.std.specs.List.{AllByRecursion, range_with_len}
use Rattle.mv_wait.specs.Prelude.ecb_op.{Clear, Extend}
use Rattle.mv_wait.specs.Prelude.{Entry, Object, Ecb, Op, Reply, Setup, owner_of, Kept, kept_of, AreDistinct}
use Rattle.mv_wait.specs.Prelude.op_on
use Rattle.mv_wait.specs.Keeping.{kept_after, kept_from, nothing_kept, extended_with}
use Rattle.mv_wait.specs.Waits.{wait_refusal, is_others_block}
use Rattle.mv_wait.proofs.Making.{kept_caller}
use Rattle.mv_wait.proofs.Unrefused.{IsFree, own_block as not_others, wait_unrefused}
use Rattle.mv_server.specs.Pool.{workers, pool_setup}
use Rattle.mv_server.specs.Right.{IsRight, AreRight}

-- ---- what is kept

with_false : (b was : Bool) → was ≡ false → (if b then false else was) ≡ false
with_false true was q = refl
with_false false was q = q

plain_next : (requests : List ℕ) (k : ℕ) (held : ℕ → Bool) (o : Object) (op : Op) (r : Reply) (e : ℕ) → IsRight requests k o op
    → held e ≡ false → extended_with held o op r e ≡ false
plain_next requests k held (Ecb n) (op_on.Ecb (Extend x)) r e right plain = absurd right
plain_next requests k held (Ecb n) (op_on.Ecb Clear) r e right plain = with_false (e == n) (held e) plain
plain_next requests k held o op r e right plain = plain

plain_from : (requests : List ℕ) (k : ℕ) (kept : Kept) (log : List Entry) (e : ℕ) → AreRight requests k log → kept.extended e ≡ false
    → (kept_from kept log).extended e ≡ false
plain_from requests k kept [] e right plain = plain
plain_from requests k kept (x ∷ log) e right plain = plain_from requests k (kept_after kept x.object x.op x.reply) log e right.1
    (plain_next requests k kept.extended x.object x.op x.reply e right.0 plain)

-- who made right entries holds no block extended
pub plain_of : (requests : List ℕ) (k : ℕ) (log : List Entry) (e : ℕ) → AreRight requests k log → (kept_of k log).extended e ≡ false
plain_of requests k log e right = plain_from requests k (nothing_kept k) log e right refl

-- all blocks are the server's
pub servers_block : (c : Setup) (n e k : ℕ) → c ≡ pool_setup n → e < workers + n → k ≡ workers → owner_of c e ≡ k
servers_block c n e k is lt server =
    ap (λ (s : Setup). owner_of s e) is ∙ get_or-replicate (workers + n) e workers 0 lt ∙ sym server

pub own_block : (c : Setup) (n e k : ℕ) (log : List Entry) → c ≡ pool_setup n → e < workers + n → k ≡ workers
    → is_others_block c (kept_of k log) e ≡ false
own_block c n e k log is lt server = not_others c (kept_of k log) e
    (servers_block c n e k is lt server ∙ sym (kept_caller (nothing_kept k) log))

-- ---- the wait

-- what holds of each number from a to a + m
pub all_range : (P : ℕ → Type 0) (a m : ℕ) → ((v : ℕ) → a ≤ v → v < a + m → P v) → AllByRecursion P (range_with_len a m)
all_range P a zero each = tt
all_range P a (suc m) each = (each a (omega arith) (omega arith), all_range P (a + 1) m (λ v low high. each v (omega arith) (omega arith)))

distinct_range : (a m : ℕ) → AreDistinct (range_with_len a m)
distinct_range a zero = tt
distinct_range a (suc m) = (all_range (λ v. v ≡ a → ⊥) (a + 1) m (λ v low high same. absurd (omega arith)), distinct_range (a + 1) m)

-- for the blocks that say of each worker that it is idle
pub unrefused_idle : (c : Setup) (requests : List ℕ) (n k : ℕ) (log : List Entry) → c ≡ pool_setup n → k ≡ workers
    → AreRight requests k log → wait_refusal c 1 (range_with_len 0 workers) (kept_of k log) ≡ None
unrefused_idle c requests n k log is server right = wait_unrefused c 1 (range_with_len 0 workers) (kept_of k log) (omega arith)
    (distinct_range 0 workers)
    (all_range (IsFree c (kept_of k log)) 0 workers (λ e low high. record {
      own = servers_block c n e k is (omega arith) server ∙ sym (kept_caller (nothing_kept k) log);
      plain = plain_of requests k log e right;
    }))
