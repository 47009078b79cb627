-- No more requests of a caller are in the lists than stand by its own entries.
use Rattle.std.proofs.Common.{◌≡◌, ℕ, ◌+◌, ◌==◌, ◌≤◌, suc, nat_le, Bool, true, false, ◌&&◌, List, [], ◌∷◌, length, filter, cond, inl}
use Rattle.std.proofs.Common.{inr, refl, ap, subst, arith}
use Rattle.std.proofs.lemmas.Bool.{eq-eqb}
use Rattle.std.proofs.lemmas.Bool.Decides.{nat_tests}
use Rattle.std.proofs.lemmas.List.Sums.{length-filter, count_by-le-length}
use Rattle.mv_latch.specs.declared.request.Request.{Request}
use Rattle.mv_latch.specs.LatchSet.{list_of, count_in}
use Rattle.mv_latch.specs.Request.{is_posted, of_caller, posted_of}
use Rattle.mv_machine.specs.declared.entry.Entry.{Entry}
use Rattle.mv_machine.specs.Kept.{StandingRequest, standing, is_posting}
use Rattle.mv_machine.specs.Legal.{Legal, after, of}
use Rattle.mv_config.specs.Setup.{Setup}
use Rattle.mv_machine.proofs.LatchRuns.{list_at}
use Rattle.mv_machine.proofs.Standing.{stood, Within, within_kept, mine, mine_within_left, all_left}
use Rattle.mv_machine.proofs.StandingRuns.{stand}

-- what is kept of one latch, and of the latches from one on
abbrev at_latch : ℕ → StandingRequest → Bool
at_latch latch t = t.latch == latch

abbrev from_latch : ℕ → StandingRequest → Bool
from_latch latch t = nat_le latch t.latch

within_fits : (latch : ℕ) (qs : List Request) (ts : List StandingRequest) → Within latch qs ts
    → length qs ≤ length (filter (at_latch latch) ts)
within_fits latch [] ts w = omega arith
within_fits latch (q ∷ qs) [] w = absurd w
within_fits latch (q ∷ qs) (t ∷ ts) (inl w) =
    let here : at_latch latch t ≡ true = eq-eqb t.latch latch (ap (λ (x : StandingRequest). x.latch) w.0) in
    rw here (omega (arith, within_fits latch qs ts w.1))
within_fits latch (q ∷ qs) (t ∷ ts) (inr w) =
    let rest : length (q ∷ qs) ≤ length (filter (at_latch latch) ts) = within_fits latch (q ∷ qs) ts w in
    elim (at_latch latch t) as (λ b. length (q ∷ qs) ≤ length (cond b (t ∷ filter (at_latch latch) ts) (filter (at_latch latch) ts))) [
      | true ↦ omega arith
      | false ↦ rest
    ]

-- those of one latch, and those of the latches behind it
from_here : (latch : ℕ) (ts : List StandingRequest)
    → length (filter (at_latch latch) ts) + length (filter (from_latch (latch + 1)) ts) ≤ length (filter (from_latch latch) ts)
from_here latch [] = omega arith
from_here latch (t ∷ ts) = go (from_here latch ts) where
  go : length (filter (at_latch latch) ts) + length (filter (from_latch (latch + 1)) ts) ≤ length (filter (from_latch latch) ts)
      → length (filter (at_latch latch) (t ∷ ts)) + length (filter (from_latch (latch + 1)) (t ∷ ts))
      ≤ length (filter (from_latch latch) (t ∷ ts))
  go rest = grind (arith, nat_tests)

lists_fit : (test : Request → Bool) (ts : List StandingRequest) (latch : ℕ) (lists : List (List Request))
    → ((n : ℕ) → Within (latch + n) (filter test (list_of lists n)) ts)
    → count_in test lists ≤ length (filter (from_latch latch) ts)
lists_fit test ts latch [] w = omega arith
lists_fit test ts latch (qs ∷ rest) w =
    let here : Within latch (filter test qs) ts = subst (λ l. Within l (filter test qs) ts) (omega arith) (w 0) in
    let behind : count_in test rest ≤ length (filter (from_latch (latch + 1)) ts) =
    lists_fit test ts (latch + 1) rest (λ n. subst (λ l. Within l (filter test (list_of rest n)) ts) (omega arith) (w (suc n))) in
    omega (arith, within_fits latch (filter test qs) ts here, behind, from_here latch ts)

pub all_fit : (test : Request → Bool) (ts : List StandingRequest) (lists : List (List Request))
    → ((latch : ℕ) → Within latch (filter test (list_of lists latch)) ts) → count_in test lists ≤ length ts
all_fit test ts lists w =
    let some : count_in test lists ≤ length (filter (from_latch 0) ts) =
    lists_fit test ts 0 lists (λ n. subst (λ l. Within l (filter test (list_of lists n)) ts) (omega arith) (w n)) in
    omega (arith, some, length-filter (from_latch 0) ts, count_by-le-length (from_latch 0) ts)

pub count_stands : (c : Setup) (es : List Entry) (k : ℕ) → Legal c es
    → count_in (of_caller k) (after c es).latches.state ≤ length (standing (of k es))
count_stands c es k l = all_fit (of_caller k) (standing (of k es)) (after c es).latches.state (stand c es k l)

-- ---- those in the Posted form
abbrev posts : Request → Bool
posts q = is_posted q.form

posted_are_mine : (k : ℕ) (qs : List Request) → filter (posted_of k) qs ≡ mine k (filter posts qs)
posted_are_mine k [] = refl
posted_are_mine k (q ∷ qs) = go (posts q) (of_caller k q) refl (posted_are_mine k qs) where
  go : (b d : Bool) → of_caller k q ≡ d → filter (posted_of k) qs ≡ mine k (filter posts qs)
      → cond (d && b) (q ∷ filter (posted_of k) qs) (filter (posted_of k) qs) ≡ mine k (cond b (q ∷ filter posts qs) (filter posts qs))
  go true true e rest = rw e (ap (λ z. q ∷ z) rest)
  go true false e rest = rw e rest
  go false true e rest = rest
  go false false e rest = rest

pub posted_stand : (k latch : ℕ) (qs : List Request) (ts : List StandingRequest) → Within latch (mine k qs) ts
    → Within latch (filter (posted_of k) qs) (filter is_posting ts)
posted_stand k latch qs ts w =
    rw (posted_are_mine k qs)
    (within_kept latch is_posting (mine k (filter posts qs)) ts
    (all_left (λ q. is_posting (stood latch q) ≡ true) k posts (λ q own posting. posting) qs)
    (mine_within_left k latch posts qs ts w))

pub posted_count_stands : (c : Setup) (es : List Entry) (k : ℕ) → Legal c es
    → count_in (posted_of k) (after c es).latches.state ≤ length (filter is_posting (standing (of k es)))
posted_count_stands c es k l =
    all_fit (posted_of k) (filter is_posting (standing (of k es))) (after c es).latches.state
    (λ latch. posted_stand k latch (list_at (after c es) latch) (standing (of k es)) (stand c es k l latch))
