-- The jobs of a load: their names, their steps and their weight.
use Rattle.std.proofs.Common.{◌≡◌, ℕ, zero, suc, ◌+◌, ◌-◌, ◌*◌, ◌<◌, ◌≤◌, Bool, true, false, ◌==◌, List, [], ◌∷◌, ◌++◌, length, get_or}
use Rattle.std.proofs.Common.{drop, sum_by, Some, None, refl, sym, ap, ◌∙◌, arith, bytes_eq, if◌then◌else◌, inl, inr}
use Rattle.std.specs.List.{list_any}
use Rattle.std.proofs.lemmas.Bool.{cases_eq, eq-eqb}
use Rattle.std.proofs.lemmas.List.FromFn.{map-range_with_len_more, length-map-range_with_len}
use Rattle.std.proofs.lemmas.Nat.{mul-le}
use Rattle.std.proofs.lemmas.Slice.Eq.{bytes_eq-Decides}
use Rattle.mv_latch.specs.declared.request.Mode.TheVariants.{Exclusive}
use Rattle.mv_deck.specs.declared.deck.After.{After}
use Rattle.mv_deck.specs.declared.deck.Step.{Step}
use Rattle.mv_deck.specs.declared.deck.Step.TheVariants.{Print, Use, Free, Count, Scan, Abend}
use Rattle.mv_deck.specs.EndCode.{abended, lowest_abend, not_run}
use Rattle.mv_deck.specs.Deck.{JobData, place_of}
use Rattle.mv_deck.specs.Held.{latches, is_end, lacks_latch}
use Rattle.mv_deck.specs.Sound.{IsSoundStep, AreSoundSteps}
use Rattle.mv_deck.specs.Weight.{weight, step_events}
use Rattle.mv_deck.specs.Load.{digit_of, load_name, load_job, load_jobs, load_after, load_steps, waits, scans, abends, volume_of}
use Rattle.mv_deck.specs.Load.{counted_by}
use Rattle.mv_deck.proofs.Jobs.{place-push, weight-push}

-- one more job
pub load_jobs-more : (n : ℕ) → load_jobs (suc n) ≡ load_jobs n ++ load_job n ∷ []
load_jobs-more n = let e : suc n ≡ n + 1 = omega arith in
    ap load_jobs e ∙ map-range_with_len_more load_job 0 n n (omega arith)

pub count_of_jobs : (n : ℕ) → length (load_jobs n) ≡ n
count_of_jobs n = length-map-range_with_len load_job 0 n

-- ---- names

-- the number that a name shows
abbrev number_in : List ℕ → ℕ
number_in name =
    10000 * (get_or name 1 0 - 48) + 1000 * (get_or name 2 0 - 48) + 100 * (get_or name 3 0 - 48) + 10 * (get_or name 4 0 - 48)
    + (get_or name 5 0 - 48)

number_again : (i : ℕ) → i < 100000 → number_in (load_name i) ≡ i
number_again i lt =
    let value : 10000 * (digit_of 10000 i - 48) + 1000 * (digit_of 1000 i - 48) + 100 * (digit_of 100 i - 48) + 10 * (digit_of 10 i - 48)
    + (digit_of 1 i - 48) ≡ i = omega arith in value

-- jobs of different numbers have different names
names_apart : (i j : ℕ) → i < 100000 → j < 100000 → ¬ (i ≡ j) → bytes_eq (load_name i) (load_name j) ≡ false
names_apart i j lt less apart = go (bytes_eq (load_name i) (load_name j)) refl where
  go : (b : Bool) → bytes_eq (load_name i) (load_name j) ≡ b → b ≡ false
  go true e =
      let same : load_name i ≡ load_name j = (bytes_eq-Decides (load_name i) (load_name j)).0 e in
      absurd (apart (sym (number_again i lt) ∙ ap number_in same ∙ number_again j less))
  go false e = refl

name_same : (i : ℕ) → bytes_eq (load_name i) (load_name i) ≡ true
name_same i = (bytes_eq-Decides (load_name i) (load_name i)).1 refl

-- a job's name is new
pub name_is_new : (n q : ℕ) → n ≤ q → q < 100000 → place_of (load_jobs n) (load_name q) ≡ None
name_is_new zero q le lt = refl
name_is_new (suc n) q le lt =
    ap (λ (x : List JobData). place_of x (load_name q)) (load_jobs-more n)
    ∙ place-push (load_jobs n) (load_job n) (name_is_new n n (omega arith) (omega arith)) (load_name q)
    ∙ rw (names_apart n q (omega arith) lt (λ e. omega arith)) (name_is_new n q (omega arith) lt)

-- the name of an earlier job is found
pub name_is_known : (n q : ℕ) → q < n → n ≤ 100000 → place_of (load_jobs n) (load_name q) ≡ Some q
name_is_known zero q lt le = absurd (omega arith)
name_is_known (suc n) q lt le =
    ap (λ (x : List JobData). place_of x (load_name q)) (load_jobs-more n)
    ∙ place-push (load_jobs n) (load_job n) (name_is_new n n (omega arith) (omega arith)) (load_name q)
    ∙ elim (cases_eq n q) [
      | inl e ↦ rw (e, name_same q) (ap (λ (x : ℕ). Some x) (count_of_jobs q))
      | inr ne ↦ rw (names_apart n q (omega arith) (omega arith) ne) (name_is_known n q (omega arith) (omega arith))
    ]

-- ---- steps

-- a job that has done nothing holds no latch
holds_none : (latches : List ℕ) → list_any (λ (l : ℕ). false) latches ≡ false
holds_none [] = refl
holds_none (l ∷ latches) = holds_none latches

module _ (v a c : ℕ) (text : List ℕ) (volume : v < 8) (some : 1 ≤ a) (few : a < 10) (abend : lowest_abend ≤ c) (low : c < not_run) where
  -- the last step
  abbrev last : Bool → Step
  last b = if b then Abend c else Free v

  -- a SCAN or none, and behind these steps the others
  abbrev steps_of : Bool → Bool → List Step
  steps_of scanned abended = Use v Exclusive ∷ Count v a ∷ ((if scanned then Scan v ∷ [] else []) ++ Print text ∷ last abended ∷ [])

  same : (v == v) ≡ true
  same = eq-eqb v v refl

  used : IsSoundStep [] (Use v Exclusive)
  used = record { numbers = omega arith; in_order = holds_none (drop v latches); latched = refl; before_end = refl }

  counted : IsSoundStep (Use v Exclusive ∷ []) (Count v a)
  counted = record { numbers = (omega arith, some, omega arith); in_order = refl; latched = rw same refl; before_end = refl }

  scanned : IsSoundStep (Use v Exclusive ∷ Count v a ∷ []) (Scan v)
  scanned = record { numbers = omega arith; in_order = refl; latched = rw same refl; before_end = refl }

  printed : (done : List Step) → list_any is_end done ≡ false → IsSoundStep done (Print text)
  printed done going = record { numbers = tt; in_order = refl; latched = refl; before_end = going }

  -- whatever it has done between
  ended : (b : Bool) (done : List Step) → lacks_latch done (Free v) ≡ false → list_any is_end done ≡ false → IsSoundStep done (last b)
  ended true done has going = record { numbers = (abend, low); in_order = refl; latched = refl; before_end = going }
  ended false done has going = record { numbers = omega arith; in_order = refl; latched = has; before_end = going }

  pub steps_are_sound : (s e : Bool) → AreSoundSteps [] (steps_of s e)
  steps_are_sound true e =
      let done : List Step = Use v Exclusive ∷ Count v a ∷ Scan v ∷ [] in
      (used, (counted, (scanned, (printed done refl, (ended e (done ++ Print text ∷ []) (rw same refl) refl, tt)))))
  steps_are_sound false e =
      let done : List Step = Use v Exclusive ∷ Count v a ∷ [] in
      (used, (counted, (printed done refl, (ended e (done ++ Print text ∷ []) (rw same refl) refl, tt))))

  pub few_events : (s e : Bool) → sum_by step_events (steps_of s e) ≤ 7
  few_events true true = omega arith
  few_events true false = omega arith
  few_events false true = omega arith
  few_events false false = omega arith

pub load_is_sound : (i : ℕ) → i ≤ 4095 → AreSoundSteps [] (load_steps i)
load_is_sound i le = steps_are_sound (volume_of i) (counted_by i) (abended 0 i) _ (omega arith) (omega arith) (omega arith) (omega arith)
    (omega arith) (scans i) (abends i)

pub load_events : (i : ℕ) → i ≤ 4095 → sum_by step_events (load_steps i) ≤ 7
load_events i le = few_events (volume_of i) (counted_by i) (abended 0 i) _ (omega arith) (omega arith) (omega arith) (omega arith)
    (omega arith) (scans i) (abends i)

-- ---- weights

-- a job waits for one other at most
few_after : (i : ℕ) → length (load_after i) ≤ 1
few_after i = go (waits i) where
  go : (b : Bool) → length {A = After} (if b then record { job = i - 3; most = 0 } ∷ [] else []) ≤ 1
  go true = omega arith
  go false = omega arith

-- the weight of a job, for at most eight initiators
pub job_is_light : (k i : ℕ) → k ≤ 8 → i ≤ 4095 → 8 + 9 * k + 2 * length (load_after i) + k * sum_by step_events (load_steps i) ≤ 138
job_is_light k i le less =
    let parts = few_after i in
    let events : k * sum_by step_events (load_steps i) ≤ 8 * 7 =
    mul-le k (sum_by step_events (load_steps i)) 8 7 le (load_events i less) in
    omega (arith, parts, events)

-- the weight of so many
pub load_is_light : (k n : ℕ) → k ≤ 8 → n ≤ 4095 → weight (load_jobs n) k ≤ 72 + 138 * n
load_is_light k zero le less = omega arith
load_is_light k (suc n) le less =
    let before = load_is_light k n le (omega arith) in
    let one = job_is_light k n le (omega arith) in
    let more : weight (load_jobs (suc n)) k
    ≡ weight (load_jobs n) k + (8 + 9 * k + 2 * length (load_after n) + k * sum_by step_events (load_steps n)) =
    ap (λ (x : List JobData). weight x k) (load_jobs-more n) ∙ weight-push (load_jobs n) (load_job n) k in
    omega (arith, before, one, more)
