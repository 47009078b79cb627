-- The numbers of the requests in the lists stay below the latch set's place.
use Rattle.std.proofs.Common.{◌≡◌, ℕ, ◌+◌, ◌≤◌, List, [], length, replicate, refl, arith}
use Rattle.std.proofs.lemmas.List.{length-set, length-map}
use Rattle.mv_latch.specs.declared.operation.LatchOp.{LatchOp}
use Rattle.mv_latch.specs.declared.operation.LatchOp.TheVariants.{Obtain, Confirm, Release, Purge}
use Rattle.mv_latch.specs.declared.request.Request.{Request}
use Rattle.mv_latch.specs.Latch.{purged}
use Rattle.mv_latch.specs.LatchSet.{latch_step, IsNewId}
use Rattle.mv_latch.specs.Request.{has_id}
use Rattle.mv_latch.proofs.Numbers.{still_new}
use Rattle.mv_latch.proofs.Quotas.{count_new}

-- no list is added or taken away
pub same_count : (k place : ℕ) (op : LatchOp) (lists : List (List Request)) → length (latch_step k place op lists).0 ≡ length lists
same_count k place (Obtain latch requestor mode form) lists = length-set lists latch _
same_count k place (Confirm latch own) lists = refl
same_count k place (Release latch own conditional) lists = length-set lists latch _
same_count k place (Purge requestor) lists = length-map lists (purged requestor)

-- numbers at the place and above are new, also one event later
pub new_from_next : (k place : ℕ) (op : LatchOp) (lists : List (List Request)) → ((id : ℕ) → place ≤ id → IsNewId id lists) → (id : ℕ)
    → place + 1 ≤ id → IsNewId id (latch_step k place op lists).0
new_from_next k place op lists new id le = still_new k place id op lists (λ e. absurd (omega arith)) (new id (omega arith))

-- new lists have no request
pub none_in_new : (n id : ℕ) → IsNewId id (replicate n [])
none_in_new n id = count_new (has_id id) n
