-- Decks in the form in which running jobs meet them: with each step the latches that are held there; and a deck that is sound is so:
-- what is held behind the steps done is held in a list.
use Rattle.mv_plan.proofs.Words.{◌≡◌, ℕ, ◌+◌, ◌^◌, ◌<◌, ◌≤◌, ◌==◌, Bool, IsTrue, not, ◌&&◌, List, [], ◌∷◌, ◌++◌, length, map, filter, Mode}
use Rattle.mv_plan.proofs.Words.{AllByRecursion, list_any, is_shared, AreDistinct, Step, Print, Use, Count, Scan, Abend, Return, JobData}
use Rattle.mv_plan.proofs.Words.{weight, Free, ◌-◌, true, false, get_or, Option, Some, None, if◌then◌else◌, refl, sym, ap, ◌∙◌, subst, inl}
use Rattle.mv_plan.proofs.Words.{arith, inr, eq-eqb, false≢true, cases_lt, length-append, After, is_end, drop, common_steps, all_push}
use Rattle.mv_plan.proofs.Words.{all_filter}
use Rattle.std.proofs.Common.{is_some, is_none}
use Rattle.std.proofs.lemmas.List.{get_or-drop}
use Rattle.mv_deck.specs.Held.{held, held_behind, holds_from, latches, is_exclusive}
use Rattle.std.proofs.lemmas.List.FromFn.{get_or-range_with_len}
use Rattle.std.proofs.lemmas.List.Sums.{fold-append}
use Rattle.mv_deck.specs.Sound as deck
use Rattle.mv_machine.proofs.Lists.{all_map}

-- a latch that a job holds, and how
pub record Held : Type 0 where
  pub latch : ℕ
  pub mode : Mode

abbrev pub is_held : ℕ → Held → Bool
is_held latch h = h.latch == latch

abbrev pub is_held_alone : ℕ → Held → Bool
is_held_alone latch h = (h.latch == latch) && not (is_shared h.mode)

-- Each step is sound where the job holds these latches: a USE is of a latch above all of them, a FREE of one of them; a COUNT
-- is of a volume whose latch is held exclusive, a SCAN of one whose latch is held; a RETURN has at most 4095; and no step
-- follows an ABEND or RETURN.
abbrev pub ArePlannedSteps : List Held → List Step → Type 0
ArePlannedSteps held [] = Unit {0}
ArePlannedSteps held (Print text ∷ steps) = ArePlannedSteps held steps
ArePlannedSteps held (Use latch mode ∷ steps) =
    (latch ≤ 7) × AllByRecursion (λ h. h.latch < latch) held × ArePlannedSteps (held ++ record { latch = latch; mode = mode } ∷ []) steps
ArePlannedSteps held (Free latch ∷ steps) =
    (latch ≤ 7) × IsTrue (list_any (is_held latch) held) × ArePlannedSteps (filter (λ h. not (is_held latch h)) held) steps
ArePlannedSteps held (Count volume amount ∷ steps) =
    (volume ≤ 7) × (1 ≤ amount) × (amount ≤ 9999) × IsTrue (list_any (is_held_alone volume) held) × ArePlannedSteps held steps
ArePlannedSteps held (Scan volume ∷ steps) = (volume ≤ 7) × IsTrue (list_any (is_held volume) held) × ArePlannedSteps held steps
ArePlannedSteps held (Abend code ∷ steps) = (2 ^ 24 ≤ code) × (code < 2 ^ 25) × (steps ≡ [])
ArePlannedSteps held (Return code ∷ steps) = (code ≤ 4095) × (steps ≡ [])

-- a job of this number waits for at most eight jobs, all different and earlier, and accepts ends of at most 4095; and its steps
-- are sound
pub record IsPlannedJob (j : ℕ) (job : JobData) : Type 0 where
  pub few : length job.after ≤ 8
  pub distinct : AreDistinct (map (λ part. part.job) job.after)
  pub earlier : AllByRecursion (λ part. part.job < j) job.after
  pub accepts : AllByRecursion (λ part. part.most ≤ 4095) job.after
  pub steps : ArePlannedSteps [] job.steps

abbrev pub ArePlannedJobs : ℕ → List JobData → Type 0
ArePlannedJobs j [] = Unit {0}
ArePlannedJobs j (job ∷ jobs) = IsPlannedJob j job × ArePlannedJobs (j + 1) jobs

-- a deck that these initiators can run
pub record IsPlanned (deck : List JobData) (initiators : ℕ) : Type 0 where
  pub jobs : ArePlannedJobs 0 deck
  pub light : weight deck initiators ≤ 524287

-- ---- a sound deck is so

-- how a list says that a latch is held
abbrev mode_in : List Held → ℕ → Option Mode
mode_in [] l = None
mode_in (h ∷ hs) l = if h.latch == l then Some h.mode else mode_in hs l

-- what is held behind these steps is in the list
record Lists (hs : List Held) (done : List Step) : Type 0 where
  known : (l : ℕ) → held done l ≡ mode_in hs l
  low : AllByRecursion (λ h. h.latch ≤ 7) hs

-- behind one more step
held_next : (done : List Step) (step : Step) (l : ℕ) → held (done ++ step ∷ []) l ≡ held_behind l (held done l) step
held_next done step l = fold-append (held_behind l) None done (step ∷ [])

-- a step that takes no latch and gives none back
same_lists : (hs : List Held) (done : List Step) (step : Step) → ((l : ℕ) (m : Option Mode) → held_behind l m step ≡ m)
    → Lists hs done → Lists hs (done ++ step ∷ [])
same_lists hs done step same x = grind (arith, common_steps)

-- ---- USE

-- a test that none passes
none_in : (p : ℕ → Bool) (xs : List ℕ) (i : ℕ) → list_any p xs ≡ false → i < length xs → p (get_or xs i 0) ≡ false
none_in p [] i e lt = absurd (omega arith)
none_in p (x ∷ xs) i e lt = grind (arith, common_steps, none_in p xs i)

-- each latch stands at its own place
low_latch : (l : ℕ) → l ≤ 7 → get_or latches l 0 ≡ l
low_latch l le = get_or-range_with_len 0 8 l 0 (omega arith) ∙ (let e : 0 + l ≡ l = omega arith in e)

-- how many are left behind a place
length_left : (xs : List ℕ) (n m : ℕ) → m < length xs → n ≤ m → m - n < length (drop n xs)
length_left [] x m lt le = grind (arith, common_steps)
length_left (first ∷ xs) x m lt le = grind (arith, common_steps, length_left xs)

-- a latch that is held is below one that is used in order
below_used : (done : List Step) (latch l : ℕ) (mode : Mode) → holds_from done latch ≡ false → held done l ≡ Some mode → l ≤ 7 → l < latch
below_used done latch l mode order is le = elim (cases_lt l latch) [
  | inl low ↦ low
  | inr high ↦
      let at = get_or-drop latch latches (l - latch) 0 ∙ ap (λ i. get_or latches i 0) (let e : latch + (l - latch) ≡ l = omega arith in
      e) ∙ low_latch l le in
      let none = none_in (λ l. is_some (held done l)) (drop latch latches) (l - latch) order (length_left latches latch l (omega arith)
      high) in
      absurd (false≢true (sym none ∙ ap (λ l. is_some (held done l)) at ∙ ap is_some is))
]

-- a latch of the list is held
first_mode : (hs : List Held) (h : Held) → (m : Mode) × (mode_in (h ∷ hs) h.latch ≡ Some m)
first_mode hs h = (h.mode, ap (λ b. if b then Some h.mode else mode_in hs h.latch) (eq-eqb h.latch h.latch refl))

-- one more in front of a list
some_mode : (hs : List Held) (h : Held) (l : ℕ) → ((m : Mode) × (mode_in hs l ≡ Some m)) → (m : Mode) × (mode_in (h ∷ hs) l ≡ Some m)
some_mode hs h l w = go (h.latch == l) refl where
  go : (b : Bool) → (h.latch == l) ≡ b → (m : Mode) × (mode_in (h ∷ hs) l ≡ Some m)
  go true e = (h.mode, ap (λ b. if b then Some h.mode else mode_in hs l) e)
  go false e = (w.0, ap (λ b. if b then Some h.mode else mode_in hs l) e ∙ w.1)

-- the latches of a list are below one that is used in order
all_below : (done : List Step) (latch : ℕ) → holds_from done latch ≡ false → (hs : List Held) → AllByRecursion (λ h. h.latch ≤ 7) hs
    → ((l : ℕ) → ((m : Mode) × (mode_in hs l ≡ Some m)) → (m : Mode) × (held done l ≡ Some m))
    → AllByRecursion (λ h. h.latch < latch) hs
all_below done latch order [] low is = tt
all_below done latch order (h ∷ hs) low is =
    let first = is h.latch (first_mode hs h) in (
      below_used done latch h.latch first.0 order first.1 low.0,
      all_below done latch order hs low.1 (λ l w. is l (some_mode hs h l w)),
    )

-- behind a USE
none_below : (hs : List Held) (latch : ℕ) → AllByRecursion (λ h. h.latch < latch) hs → mode_in hs latch ≡ None
none_below [] latch below = grind (arith, common_steps)
none_below (h ∷ hs) latch below = grind (arith, common_steps, none_below hs)

-- a latch that is pushed is held, and the others as they were
pushed : (hs : List Held) (latch : ℕ) (mode : Mode) (l : ℕ) → mode_in hs latch ≡ None
    → (if latch == l then Some mode else mode_in hs l) ≡ mode_in (hs ++ record { latch = latch; mode = mode } ∷ []) l
pushed [] latch mode l none = grind (arith, common_steps)
pushed (h ∷ hs) latch mode l none = grind (arith, common_steps, pushed hs)

-- the list behind a USE
used_lists : (hs : List Held) (done : List Step) (latch : ℕ) (mode : Mode) → latch ≤ 7
    → AllByRecursion (λ h. h.latch < latch) hs → Lists hs done
    → Lists (hs ++ record { latch = latch; mode = mode } ∷ []) (done ++ Use latch mode ∷ [])
used_lists hs done latch mode le below x = grind (arith, common_steps, held_next, pushed, none_below, all_push)

-- ---- FREE

-- a latch that is freed is in the list no more, and the others are
freed : (hs : List Held) (latch l : ℕ) → (if latch == l then None else mode_in hs l) ≡ mode_in (filter (λ h. not (is_held latch h)) hs) l
freed [] latch l = grind (arith, common_steps)
freed (h ∷ hs) latch l = grind (arith, common_steps, freed hs latch l)

-- the list behind a FREE
freed_lists : (hs : List Held) (done : List Step) (latch : ℕ) → Lists hs done
    → Lists (filter (λ h. not (is_held latch h)) hs) (done ++ Free latch ∷ [])
freed_lists hs done latch x = grind (arith, common_steps, held_next, freed, all_filter, not, is_held)

-- ---- latches that are to be held

-- a latch that is held is in the list
in_list : (hs : List Held) (l : ℕ) → is_none (mode_in hs l) ≡ false → IsTrue (list_any (is_held l) hs)
in_list [] l e = grind (arith, common_steps)
in_list (h ∷ hs) l e = grind (arith, common_steps, in_list hs)

-- and is so exclusively
alone_in_list : (hs : List Held) (l : ℕ) → not (is_exclusive (mode_in hs l)) ≡ false → IsTrue (list_any (is_held_alone l) hs)
alone_in_list [] l e = grind (arith, common_steps)
alone_in_list (h ∷ hs) l e = grind (arith, common_steps, alone_in_list hs)

-- ---- steps

-- nothing stands behind the end of a job
ended : (done : List Step) (step : Step) (steps : List Step) → is_end step ≡ true
    → deck.AreSoundSteps (done ++ step ∷ []) steps → steps ≡ []
ended done step [] e s = refl
ended done step (next ∷ steps) e s = grind (arith, common_steps)

-- the steps
planned_steps : (hs : List Held) (done steps : List Step) → Lists hs done → deck.AreSoundSteps done steps → ArePlannedSteps hs steps
planned_steps hs done [] x s = tt
planned_steps hs done (Print text ∷ steps) x s = grind (arith, common_steps, planned_steps hs (done ++ Print text ∷ []) steps)
planned_steps hs done (Use latch mode ∷ steps) x s = (
  s.0.numbers,
  below,
  planned_steps (hs ++ record { latch = latch; mode = mode } ∷ []) (done ++ Use latch mode ∷ []) steps
      (used_lists hs done latch mode s.0.numbers below x) s.1,
) where
  below : AllByRecursion (λ h. h.latch < latch) hs
  below = all_below done latch s.0.in_order hs x.low (λ l w. (w.0, x.known l ∙ w.1))
planned_steps hs done (Free latch ∷ steps) x s = (
  s.0.numbers,
  in_list hs latch (ap is_none (sym (x.known latch)) ∙ s.0.latched),
  planned_steps (filter (λ h. not (is_held latch h)) hs) (done ++ Free latch ∷ []) steps (freed_lists hs done latch x) s.1,
)
planned_steps hs done (Count volume amount ∷ steps) x s = (
  s.0.numbers.0,
  s.0.numbers.1,
  s.0.numbers.2,
  alone_in_list hs volume (ap (λ m. not (is_exclusive m)) (sym (x.known volume)) ∙ s.0.latched),
  planned_steps hs (done ++ Count volume amount ∷ []) steps (same_lists hs done (Count volume amount) (λ l m. refl) x) s.1,
)
planned_steps hs done (Scan volume ∷ steps) x s = (
  s.0.numbers,
  in_list hs volume (ap is_none (sym (x.known volume)) ∙ s.0.latched),
  planned_steps hs (done ++ Scan volume ∷ []) steps (same_lists hs done (Scan volume) (λ l m. refl) x) s.1,
)
planned_steps hs done (Abend code ∷ steps) x s = (s.0.numbers.0, s.0.numbers.1, ended done (Abend code) steps refl s.1)
planned_steps hs done (Return code ∷ steps) x s = (s.0.numbers, ended done (Return code) steps refl s.1)

-- ---- jobs

-- each other job differs
all_others : (job : ℕ) (parts : List After) → AllByRecursion (λ (other : After). ¬ (other.job ≡ job)) parts
    → AllByRecursion (λ m. m ≡ job → ⊥) (map (λ (part : After). part.job) parts)
all_others job [] d = tt
all_others job (part ∷ parts) d = (λ e. absurd (d.0 e), all_others job parts d.1)

-- no job is awaited twice
distinct_jobs : (parts : List After) → deck.AreDistinct parts → AreDistinct (map (λ (part : After). part.job) parts)
distinct_jobs [] d = tt
distinct_jobs (part ∷ parts) d = (all_others part.job parts d.0, distinct_jobs parts d.1)

-- the jobs
planned_jobs : (before jobs : List JobData) (j : ℕ) → length before ≡ j → deck.AreSoundJobs before jobs → ArePlannedJobs j jobs
planned_jobs before [] j e s = tt
planned_jobs before (job ∷ jobs) j e s = (
  subst (λ k. IsPlannedJob k job) e (record {
    few = s.0.few;
    distinct = distinct_jobs job.after s.0.distinct;
    earlier = all_map (λ (part : After) (is : deck.IsSoundAfter (length before) part). is.0) job.after s.0.earlier;
    accepts = all_map (λ (part : After) (is : deck.IsSoundAfter (length before) part). is.1) job.after s.0.earlier;
    steps = planned_steps [] [] job.steps (record { known = λ l. refl; low = tt }) s.0.steps;
  }),
  planned_jobs (before ++ job ∷ []) jobs (j + 1) (length-append before (job ∷ []) ∙ ap (λ n. n + 1) e) s.1,
)

-- the deck
pub planned : (jobs : List JobData) (initiators : ℕ) → deck.IsSound jobs initiators → IsPlanned jobs initiators
planned jobs initiators sound = record { jobs = planned_jobs [] jobs 0 refl sound.jobs_stand; light = sound.light }
