-- Which numbers of requests an operation can bring.
use Rattle.std.proofs.Common.{◌≡◌, ℕ, ◌≤◌, zero, suc, Bool, List, [], ◌∷◌}
use Rattle.std.proofs.Common.{length, filter, set, arith}
use Rattle.std.proofs.lemmas.Bool.{ne_eqb}
use Rattle.mv_latch.specs.declared.request.Request.{Request}
use Rattle.mv_latch.specs.declared.operation.LatchOp.{LatchOp}
use Rattle.mv_latch.specs.declared.operation.LatchOp.TheVariants.{Obtain, Confirm, Release, Purge}
use Rattle.mv_latch.specs.Request.{has_id}
use Rattle.mv_latch.specs.Latch.{obtain_step}
use Rattle.mv_latch.specs.LatchSet.{list_of, count_in, latch_step, IsNewId}
use Rattle.mv_latch.proofs.Quotas.{count_obtained, count_released, count_purged}

count_set_within : (t : Request → Bool) (lists : List (List Request)) (i : ℕ) (qs : List Request)
    → length (filter t qs) ≤ length (filter t (list_of lists i)) → count_in t (set lists i qs) ≤ count_in t lists
count_set_within t [] i qs le = omega arith
count_set_within t (old ∷ rest) zero qs le = omega (arith, le)
count_set_within t (old ∷ rest) (suc i) qs le = omega (arith, count_set_within t rest i qs le)

-- a request of another number is not counted
pub none_but : (id : ℕ) (r : Request) → (r.id ≡ id → ⊥) → length (filter (has_id id) (r ∷ [])) ≡ 0
none_but id r other = rw (ne_eqb r.id id other) (omega arith)

-- an operation brings at most the number that it is given
pub still_new : (caller id other : ℕ) (op : LatchOp) (lists : List (List Request)) → (id ≡ other → ⊥) → IsNewId other lists
    → IsNewId other (latch_step caller id op lists).0
still_new caller id other (Obtain latch requestor mode form) lists ne new =
    let r : Request = record { id = id; caller = caller; requestor = requestor; mode = mode; form = form } in
    let old : List Request = list_of lists latch in
    let more : length (filter (has_id other) (obtain_step r old).0) ≤ length (filter (has_id other) old) =
    omega (arith, count_obtained (has_id other) r old, none_but other r ne) in
    omega (arith, new, count_set_within (has_id other) lists latch (obtain_step r old).0 more)
still_new caller id other (Confirm latch old) lists ne new = new
still_new caller id other (Release latch old conditional) lists ne new =
    omega (
      arith,
      new,
      count_set_within (has_id other) lists latch _ (count_released (has_id other) caller old conditional (list_of lists latch)),
    )
still_new caller id other (Purge requestor) lists ne new = omega (arith, new, count_purged (has_id other) requestor lists)
