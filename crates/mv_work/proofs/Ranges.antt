-- Calls for each number of a range, blocks that exist, and the ends that an AFTER list accepts.
use Rattle.std.proofs.Common.{◌≡◌, ℕ, zero, suc, ◌+◌, ◌-◌, ◌*◌, ◌<◌, ◌≤◌, ◌||◌, List, [], ◌∷◌, length, map, drop}
use Rattle.std.proofs.Common.{Bool, get_or, refl, sym, ap, ◌∙◌, subst, arith}
use Rattle.std.specs.List.{AllByRecursion, range_with_len}
use Rattle.std.proofs.lemmas.List.{drop_more}
use Rattle.mv_board.specs.Faces.{CallerFace}
use Rattle.mv_calls.specs.Program.{Call, Done, followed, for_each}
use Rattle.mv_deck.specs.declared.deck.After.{After}
use Rattle.mv_plan.specs.SpoolSetup.{idle}
use Rattle.mv_plan.specs.SpoolTasks.{ends_of, some_end_above}
use Rattle.mv_calls.specs.declared.outcomes.WaitSlot.{WaitSlot}
use Rattle.mv_calls.specs.declared.outcomes.WaitSlot.TheVariants.{Complete, Open}
use Rattle.mv_work.specs.Parts.{is_end_above}
use Rattle.mv_work.specs.Ran.{Ran, Leads}
use Rattle.mv_work.proofs.Runs.{leads_on}

-- the numbers from a on, below n
pub range_next : (a n : ℕ) → a < n → range_with_len a (n - a) ≡ a ∷ range_with_len (a + 1) (n - (a + 1))
range_next a n lt = ap (λ k. range_with_len a k) (let e : n - a ≡ suc (n - (a + 1)) = omega arith in e)

pub range_over : (a n : ℕ) → n ≤ a → range_with_len a (n - a) ≡ []
range_over a n le = ap (λ k. range_with_len a k) (let e : n - a ≡ 0 = omega arith in e)

-- ---- a call for each number of a range

module _ {A B : Type 0} {whole : Call B} {t u : CallerFace} (f : ℕ → Call A) (last : Call B) (m n : ℕ)
    (left : Leads whole (for_each (range_with_len m (n - m)) f last) t u) where
  next_left : m < n → Leads whole (followed (f m) (λ a. for_each (range_with_len (m + 1) (n - (m + 1))) f last)) t u
  next_left lt = subst (λ ms. Leads whole (for_each ms f last) t u) (range_next m n lt) left

  -- that of the next number was done
  pub next_done : {a : A} {v : CallerFace} → m < n → Ran (f m) (Done a) u v
      → Leads whole (for_each (range_with_len (m + 1) (n - (m + 1))) f last) t v
  next_done lt x = leads_on (λ a. for_each (range_with_len (m + 1) (n - (m + 1))) f last) (next_left lt) x

  -- no number is left
  pub last_left : n ≤ m → Leads whole last t u
  last_left le = subst (λ ms. Leads whole (for_each ms f last) t u) (range_over m n le) left

-- the blocks of initiators exist
pub idle_exist : (jobs owners a m : ℕ) → 4 * jobs + a + m ≤ owners
    → AllByRecursion (λ e. e < owners) (map (idle jobs) (range_with_len a m))
idle_exist jobs owners a zero le = tt
idle_exist jobs owners a (suc m) le = (omega arith, idle_exist jobs owners (a + 1) m (omega arith))

-- ---- AFTER lists

pub ends_exist : (n owners : ℕ) (parts : List After) → 4 * n ≤ owners → AllByRecursion (λ (part : After). part.job < n) parts
    → AllByRecursion (λ e. e < owners) (ends_of n parts)
ends_exist n owners [] le all = tt
ends_exist n owners (part ∷ parts) le all = (let lt = all.0 in omega arith, ends_exist n owners parts le all.1)

-- one slot and its part are looked at
one_above : (part : After) (parts : List After) (slot : WaitSlot) (slots : List WaitSlot)
    → some_end_above (part ∷ parts) (slot ∷ slots) ≡ (is_end_above part slot || some_end_above parts slots)
one_above part parts (Complete end) slots = refl
one_above part parts Open slots = refl

-- the next of what is left
pub next_above : (after : List After) (slots : List WaitSlot) (k : ℕ) (d : After) (e : WaitSlot) {above : Bool} → k < length after
    → k < length slots → above ≡ is_end_above (get_or after k d) (get_or slots k e)
    → some_end_above (drop k after) (drop k slots)
    ≡ (above || some_end_above (drop (k + 1) after) (drop (k + 1) slots))
next_above after slots k d e lt within is =
    ap (λ ps. some_end_above ps (drop k slots)) (drop_more after k d lt)
    ∙ ap (λ ss. some_end_above (get_or after k d ∷ drop (k + 1) after) ss) (drop_more slots k e within)
    ∙ one_above (get_or after k d) (drop (k + 1) after) (get_or slots k e) (drop (k + 1) slots)
    ∙ ap (λ b. b || some_end_above (drop (k + 1) after) (drop (k + 1) slots)) (sym is)
