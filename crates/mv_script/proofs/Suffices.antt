-- A call needs no more events than it costs, whatever its task keeps.
use Rattle.std.proofs.Common.{◌≡◌, ℕ, zero, suc, ◌+◌, ◌*◌, ◌≤◌, Bool, true, false, cond, ◌∷◌, length, refl, arith}
use Rattle.std.specs.Prelude.{filter}
use Rattle.std.specs.List.{range_with_len}
use Rattle.mv_config.specs.Setup.{Setup}
use Rattle.mv_calls.specs.declared.table.Table.{Table}
use Rattle.mv_calls.specs.Endings.{used_elements}
use Rattle.mv_calls.specs.Keeping.{Kept}
use Rattle.mv_calls.specs.Services.{most_events}
use Rattle.mv_scriptline.specs.declared.call.Call.{Call}
use Rattle.mv_scriptline.specs.declared.call.Call.TheVariants as call
use Rattle.mv_script.specs.Costs.{Asked, service_of, all_in_use, cost}

-- some of so many
some_of : (p : ℕ → Bool) (from count : ℕ) → length (filter p (range_with_len from count)) ≤ count
some_of p from zero = omega arith
some_of p from (suc count) = go (p from) (some_of p (from + 1) count) where
  go : (b : Bool) → length (filter p (range_with_len (from + 1) count)) ≤ count
      → length (cond b (from ∷ filter p (range_with_len (from + 1) count)) (filter p (range_with_len (from + 1) count))) ≤ suc count
  go true le = omega (arith, le)
  go false le = omega (arith, le)

-- all of so many
all_of : (from count : ℕ) → length (filter (λ n. true) (range_with_len from count)) ≡ count
all_of from zero = refl
all_of from (suc count) = omega (arith, all_of (from + 1) count)

-- no task uses more elements than it has
few_used : (c : Setup) (kept : Kept) → length (used_elements c kept) ≤ length (used_elements c all_in_use)
few_used c kept =
    omega (
      arith,
      some_of kept.in_use (kept.caller * c.elements_per_caller) c.elements_per_caller,
      all_of (0 * c.elements_per_caller) c.elements_per_caller,
    )

-- the same, of itself
same : (n : ℕ) → n ≤ n
same n = omega arith

pub suffices : (c : Setup) (kept : Kept) (t : Table) (asked : ℕ → Asked) (d : Call) → most_events c kept (service_of t asked d) ≤ cost c d
suffices c kept t asked (call.Wait count ecbs) = same _
suffices c kept t asked (call.Post ecb code) = same _
suffices c kept t asked (call.TryPost ecb place code) = same _
suffices c kept t asked (call.Clear ecb) = same _
suffices c kept t asked (call.Extend ecb exit) = same _
suffices c kept t asked (call.Test ecb) = same _
suffices c kept t asked (call.Read volume) = same _
suffices c kept t asked (call.Write volume number) = same _
suffices c kept t asked call.Alloc = same _
suffices c kept t asked (call.Pause token) = same _
suffices c kept t asked (call.Release token code) = same _
suffices c kept t asked (call.TryRelease token place code) = same _
suffices c kept t asked (call.Transfer current target code) = same _
suffices c kept t asked (call.Dealloc token) = same _
suffices c kept t asked (call.TestElement element) = same _
suffices c kept t asked (call.Obtain latch requestor mode form) = same _
suffices c kept t asked (call.Check k) = same _
suffices c kept t asked (call.Free k conditional) = same _
suffices c kept t asked (call.Purge requestor) = same _
suffices c kept t asked (call.EndTask requestor mother code) = omega (arith, few_used c kept)
suffices c kept t asked (call.PostEvent index code) = same _
suffices c kept t asked (call.NextEvent position) = same _
