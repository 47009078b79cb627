-- A text without fault states a sound deck.
use Rattle.std.proofs.Common.{◌≡◌, ℕ, ◌+◌, ◌<◌, ◌≤◌, ◌^◌, Bool, true, false, not, ◌&&◌, ◌||◌, ◌==◌, List, [], ◌∷◌, ◌++◌, length, map}
use Rattle.std.proofs.Common.{Option, Some, None, is_none, is_some, option_map, refl, sym, ap, subst, ◌∙◌, arith, append_assoc, bytes_eq}
use Rattle.std.proofs.Common.{if◌then◌else◌}
use Rattle.std.proofs.lemmas.List.{append-nil, length-map}
use Rattle.std.proofs.lemmas.Slice.Eq.{bytes_eq-Decides}
use Rattle.std.specs.Prelude.{nat_lt, unwrap_or, option_to_list}
use Rattle.std.specs.Option.{option_and_then}
use Rattle.std.specs.List.{AllByRecursion, list_any, position_from}
use Rattle.mv_latch.specs.declared.request.Mode.{Mode}
use Rattle.mv_deck.specs.declared.deck.After.{After}
use Rattle.mv_deck.specs.declared.deck.Step.{Step}
use Rattle.mv_deck.specs.declared.deck.Step.TheVariants.{Print, Use, Free, Count, Scan, Abend, Return}
use Rattle.mv_deck.specs.declared.form.Version.{Version}
use Rattle.mv_line.specs.Line.{lines_of}
use Rattle.mv_line.specs.Byte.{is_within}
use Rattle.mv_line.specs.Number.{within, number_of}
use Rattle.mv_deck.specs.EndCode.{abended}
use Rattle.mv_deck.specs.Operand.{is_name, latch_of, amount_of, code_of, is_hex, hex_value, user_code_of, system_code_of, end_code_of}
use Rattle.mv_deck.specs.Statement.{Statement, Null, DeckOf, JobOf, PrintOf, UseOf, FreeOf, CountOf, ScanOf, AbendOf, ReturnOf, AfterPart}
use Rattle.mv_deck.specs.Statement.{statement_of, statements_of}
use Rattle.mv_deck.specs.Deck.{JobData, place_of, after_of, most_of, fresh_job, step_of, with_step, jobs_behind, jobs_of, deck_of}
use Rattle.mv_deck.specs.Deck.{last_steps}
use Rattle.mv_deck.specs.Held.{is_out_of_order, lacks_latch, is_end}
use Rattle.mv_line.specs.Line.{is_foreign, is_too_long}
use Rattle.mv_deck.specs.Fault.{is_job, is_null, is_deck, has_no_form, kinds_of, kinds_of_statement}
use Rattle.mv_deck.specs.Fault.{first_fault, kinds_behind, has_bad_name, has_bad_number}
use Rattle.mv_deck.specs.Fault.{line_rules}
use Rattle.mv_line.specs.Fault.{faults_by_line, first_of_list}
use Rattle.mv_line.proofs.Faults.{none_when, line_passed, no_kinds, no_fault_at_end}
use Rattle.mv_latch.proofs.Joined.{same_any}
use Rattle.mv_deck.specs.Fault.{accepts_no_code, has_double, repeats_name, awaits_no_job, is_crowded, is_step_that, uses_out_of_order}
use Rattle.mv_deck.specs.Fault.{needs_latch, is_misplaced, is_behind_end, is_too_heavy}
use Rattle.mv_deck.specs.Sound.{EachBehind, HasGoodNumbers, IsSoundStep, IsSoundAfter, AreDistinct, IsSoundJob, AreSoundJobs, IsSound}
use Rattle.mv_deck.specs.Weight.{weight, heaviest}
use Rattle.mv_deck.proofs.Jobs.{stepped, last_steps-push, with_step-push}
use Rattle.mv_deck.proofs.Steps.{is_step}
use Rattle.mv_deck.proofs.Behind.{jobs-push, some_stated, stated_before}
use Rattle.mv_deck.proofs.Passes.{version_in, earlier_more}
use Rattle.std.proofs.lemmas.Bool.{or_parts, not-false}

-- ---- one more step, and one more job

-- one more behind those that stand so
push_behind : {A : Type 0} (May : List A → A → Type 0) (before xs : List A) (x : A) → EachBehind May before xs → May (before ++ xs) x
    → EachBehind May before (xs ++ x ∷ [])
push_behind May before [] x are is = (subst (λ ys. May ys x) (append-nil before) is, tt)
push_behind May before (y ∷ xs) x are is = (
  are.0,
  push_behind May (before ++ y ∷ []) xs x are.1 (subst (λ ys. May ys x) (sym (append_assoc before (y ∷ []) xs)) is),
)

-- the last of sound jobs
jobs_split : (before jobs : List JobData) (j : JobData) → AreSoundJobs before (jobs ++ j ∷ [])
    → AreSoundJobs before jobs × IsSoundJob (before ++ jobs) j
jobs_split before [] j are = (tt, subst (λ (x : List JobData). IsSoundJob x j) (sym (append-nil before)) are.0)
jobs_split before (i ∷ jobs) j are =
    let rest = jobs_split (before ++ i ∷ []) jobs j are.1 in
    ((are.0, rest.0), subst (λ (x : List JobData). IsSoundJob x j) (append_assoc before (i ∷ []) jobs) rest.1)

-- the last job with one more step
pub step_push : (jobs : List JobData) (j : JobData) (step : Step) → AreSoundJobs [] (jobs ++ j ∷ []) → IsSoundStep j.steps step
    → AreSoundJobs [] (jobs ++ stepped j step ∷ [])
step_push jobs j step are is =
    let parts = jobs_split [] jobs j are in
    let old = parts.1 in
    push_behind IsSoundJob [] jobs (stepped j step) parts.0
    (record {
      named = old.named;
      new = old.new;
      few = old.few;
      distinct = old.distinct;
      earlier = old.earlier;
      steps = push_behind IsSoundStep [] j.steps step old.steps is;
    })

-- the same from the first job on
pub job_push : (jobs : List JobData) (j : JobData) → AreSoundJobs [] jobs → IsSoundJob jobs j → AreSoundJobs [] (jobs ++ j ∷ [])
job_push jobs j are is = push_behind IsSoundJob [] jobs j are is

-- ---- numbers and codes

-- a number within bounds
within_bound : (low high : ℕ) (o : Option ℕ) (n : ℕ) → within low high o ≡ Some n → (low ≤ n) × (n ≤ high)
within_bound low high None n e = absurd cc
within_bound low high (Some m) n e = go (is_within low high m) refl e where
  go : (b : Bool) → is_within low high m ≡ b → (if b then Some m else None) ≡ Some n → (low ≤ n) × (n ≤ high)
  go true w f = let same : m ≡ n = cc in grind arith
  go false w f = absurd cc

-- a user code has twelve bits
user_bound : (digits : List ℕ) (n : ℕ) → user_code_of digits ≡ Some n → n ≤ 4095
user_bound [] n e = absurd cc
user_bound (a ∷ []) n e = absurd cc
user_bound (a ∷ b ∷ []) n e = absurd cc
user_bound (a ∷ b ∷ c ∷ []) n e = absurd cc
user_bound (a ∷ b ∷ c ∷ d ∷ []) n e = grind arith
user_bound (a ∷ b ∷ c ∷ d ∷ f ∷ digits) n e = absurd cc

-- a hexadecimal digit has four bits
hex_bound : (b : ℕ) → is_hex b ≡ true → hex_value b ≤ 15
hex_bound b e = grind arith

-- a system code has twelve bits
system_bound : (digits : List ℕ) (n : ℕ) → system_code_of digits ≡ Some n → n ≤ 4095
system_bound [] n e = absurd cc
system_bound (a ∷ []) n e = absurd cc
system_bound (a ∷ b ∷ []) n e = absurd cc
system_bound (a ∷ b ∷ c ∷ []) n e = go (is_hex a) (is_hex b) (is_hex c) refl refl refl where
  go : (p q r : Bool) → is_hex a ≡ p → is_hex b ≡ q → is_hex c ≡ r → n ≤ 4095
  go true true true x y z = let i = hex_bound a x in let j = hex_bound b y in let k = hex_bound c z in grind arith
  go false q r x y z = absurd (cc (e, x))
  go true false r x y z = absurd (cc (e, x, y))
  go true true false x y z = absurd (cc (e, x, y, z))
system_bound (a ∷ b ∷ c ∷ d ∷ digits) n e = absurd cc

-- ---- places of names

-- a place is one of those of the jobs
place_bound : (name : List ℕ) (k : ℕ) (jobs : List JobData) (i : ℕ)
    → position_from (λ (j : JobData). bytes_eq j.name name) k jobs ≡ Some i → (k ≤ i) × (i < k + length jobs)
place_bound name k [] i e = absurd cc
place_bound name k (j ∷ jobs) i e = go (bytes_eq j.name name) refl (λ f. place_bound name (k + 1) jobs i f) where
  go : (b : Bool) → bytes_eq j.name name ≡ b → (position_from (λ (j : JobData). bytes_eq j.name name) (k + 1) jobs ≡ Some i → (k + 1 ≤ i)
      × (i < k + 1 + length jobs))
      → (k ≤ i) × (i < k + length (j ∷ jobs))
  go true t ih = let same : k ≡ i = cc (e, t) in (omega arith, omega arith)
  go false t ih = let more : position_from (λ (j : JobData). bytes_eq j.name name) (k + 1) jobs ≡ Some i = cc (e, t) in let b = ih more in
      (omega (arith, b.0), omega (arith, b.1))

-- two names with one place are one
one_name : (a b : List ℕ) (k : ℕ) (jobs : List JobData) (i : ℕ) → position_from (λ (j : JobData). bytes_eq j.name a) k jobs ≡ Some i
    → position_from (λ (j : JobData). bytes_eq j.name b) k jobs ≡ Some i → a ≡ b
one_name a b k [] i e f = absurd cc
one_name a b k (j ∷ jobs) i e f = go (bytes_eq j.name a) (bytes_eq j.name b) refl refl (λ x y. one_name a b (k + 1) jobs i x y) where
  go : (p q : Bool) → bytes_eq j.name a ≡ p → bytes_eq j.name b ≡ q
      → (position_from (λ (j : JobData). bytes_eq j.name a) (k + 1) jobs ≡ Some i → position_from (λ (j : JobData). bytes_eq j.name b)
      (k + 1) jobs ≡ Some i → a ≡ b) → a ≡ b
  go true true x y ih = sym ((bytes_eq-Decides j.name a).0 x) ∙ (bytes_eq-Decides j.name b).0 y
  go true false x y ih = absurd (let same : k ≡ i = cc (e, x) in let more : position_from (λ (j : JobData). bytes_eq j.name b)
      (k + 1) jobs ≡ Some i = cc (f, y) in omega (arith, (place_bound b (k + 1) jobs i more).0))
  go false true x y ih = absurd (let same : k ≡ i = cc (f, y) in let more : position_from (λ (j : JobData). bytes_eq j.name a)
      (k + 1) jobs ≡ Some i = cc (e, x) in omega (arith, (place_bound a (k + 1) jobs i more).0))
  go false false x y ih = ih (cc (e, x)) (cc (f, y))

-- ---- what a faultless statement is

-- where one part of a test holds, the other does not
alone : (a b : Bool) → (a && b) ≡ false → b ≡ true → a ≡ false
alone true true e f = absurd cc
alone true false e f = absurd cc
alone false b e f = refl

-- the faults that a statement has not
pub record IsFaultless (n : ℕ) (earlier : List Statement) (jobs : List JobData) (s : Statement) : Type 0 where
  pub name : has_bad_name s ≡ false
  pub new : repeats_name jobs s ≡ false
  pub known : awaits_no_job jobs s ≡ false
  pub few : is_crowded s ≡ false
  pub numbers : has_bad_number s ≡ false
  pub ordered : uses_out_of_order jobs s ≡ false
  pub latched : needs_latch jobs s ≡ false
  pub placed : is_misplaced earlier s ≡ false
  pub going : is_behind_end jobs s ≡ false
  pub light : is_too_heavy n jobs s ≡ false

-- no kinds, no faults
is_faultless : (n : ℕ) (earlier : List Statement) (jobs : List JobData) (s : Statement) → kinds_behind n earlier jobs s ≡ []
    → IsFaultless n earlier jobs s
is_faultless n earlier jobs s none =
    let a = none_when (has_bad_name s) _ _ none in
    let b = none_when (repeats_name jobs s && not (is_misplaced earlier s)) _ _ a.1 in
    let c = none_when (awaits_no_job jobs s && not (is_misplaced earlier s)) _ _ b.1 in
    let d = none_when (is_crowded s && not (is_misplaced earlier s)) _ _ c.1 in
    let e = none_when (has_bad_number s) _ _ d.1 in
    let f = none_when (uses_out_of_order jobs s && (not (is_misplaced earlier s) && not (is_behind_end jobs s))) _ _ e.1 in
    let g = none_when (needs_latch jobs s && (not (is_misplaced earlier s) && not (is_behind_end jobs s))) _ _ f.1 in
    let h = none_when (is_misplaced earlier s) _ _ g.1 in
    let i = none_when (is_behind_end jobs s && not (is_misplaced earlier s)) _ _ h.1 in
    let j = none_when (is_too_heavy n jobs s && (not (is_misplaced earlier s) && not (is_behind_end jobs s))) _ _ i.1 in
    let placed : not (is_misplaced earlier s) ≡ true = ap not h.0 in
    let going : is_behind_end jobs s ≡ false = alone (is_behind_end jobs s) (not (is_misplaced earlier s)) i.0 placed in
    let asked : (not (is_misplaced earlier s) && not (is_behind_end jobs s)) ≡ true = ap
    (λ (x : Bool). x && not (is_behind_end jobs s)) placed ∙ ap not going in
    record {
      name = a.0;
      new = alone (repeats_name jobs s) _ b.0 placed;
      known = alone (awaits_no_job jobs s) _ c.0 placed;
      few = alone (is_crowded s) _ d.0 placed;
      numbers = e.0;
      ordered = alone (uses_out_of_order jobs s) _ f.0 asked;
      latched = alone (needs_latch jobs s) _ g.0 asked;
      placed = h.0;
      going = going;
      light = alone (is_too_heavy n jobs s) _ j.0 asked;
    }

-- ---- a faultless JOB

-- no place at all
no_place : (o : Option ℕ) → is_some o ≡ false → o ≡ None
no_place None e = refl
no_place (Some n) e = absurd cc

-- the jobs that two parts with different names await are different
apart : (jobs : List JobData) (p q : AfterPart) → is_none (place_of jobs p.name) ≡ false → is_none (place_of jobs q.name) ≡ false
    → bytes_eq q.name p.name ≡ false → ¬ ((after_of jobs q).job ≡ (after_of jobs p).job)
apart jobs p q x y d same = go (place_of jobs q.name) (place_of jobs p.name) refl refl where
  go : (o u : Option ℕ) → place_of jobs q.name ≡ o → place_of jobs p.name ≡ u → ⊥
  go None u e f = absurd (cc (y, e))
  go (Some i) None e f = absurd (cc (x, f))
  go (Some i) (Some k) e f =
      let at_q : unwrap_or (place_of jobs q.name) 0 ≡ i = ap (λ (o : Option ℕ). unwrap_or o 0) e in
      let at_p : unwrap_or (place_of jobs p.name) 0 ≡ k = ap (λ (o : Option ℕ). unwrap_or o 0) f in
      let one : k ≡ i = sym at_p ∙ sym same ∙ at_q in
      let names : q.name ≡ p.name = one_name q.name p.name 0 jobs i e (f ∙ ap (λ (m : ℕ). Some m) one) in
      absurd (cc ((bytes_eq-Decides q.name p.name).1 names, d))

-- a part awaits another job than those behind it
others_apart : (jobs : List JobData) (p : AfterPart) (parts : List AfterPart) → is_none (place_of jobs p.name) ≡ false
    → list_any (λ (q : AfterPart). is_none (place_of jobs q.name)) parts ≡ false
    → list_any (λ (q : AfterPart). bytes_eq q.name p.name) parts ≡ false
    → AllByRecursion (λ (other : After). ¬ (other.job ≡ (after_of jobs p).job)) (map (after_of jobs) parts)
others_apart jobs p [] x known d = tt
others_apart jobs p (q ∷ parts) x known d =
    let k = or_parts (is_none (place_of jobs q.name)) _ known in
    let e = or_parts (bytes_eq q.name p.name) _ d in
    (apart jobs p q x k.0 e.0, others_apart jobs p parts x k.1 e.1)

-- no job is awaited twice
all_apart : (jobs : List JobData) (parts : List AfterPart)
    → list_any (λ (q : AfterPart). is_none (place_of jobs q.name)) parts ≡ false → has_double parts ≡ false
    → AreDistinct (map (after_of jobs) parts)
all_apart jobs [] known d = tt
all_apart jobs (p ∷ parts) known d =
    let k = or_parts (is_none (place_of jobs p.name)) _ known in
    let e = or_parts (list_any (λ (q : AfterPart). bytes_eq q.name p.name) parts) _ d in
    (others_apart jobs p parts k.0 k.1 e.0, all_apart jobs parts k.1 e.1)

-- accepted codes have their bound
most_bound : (o : Option (List ℕ)) → accepts_no_code o ≡ false → most_of o ≤ 4095
most_bound None e = omega arith
most_bound (Some code) e = go (code_of code) refl where
  go : (u : Option ℕ) → code_of code ≡ u → unwrap_or (code_of code) 0 ≤ 4095
  go None f = absurd (cc (e, f))
  go (Some m) f =
      let at : unwrap_or (code_of code) 0 ≡ m = ap (λ (o : Option ℕ). unwrap_or o 0) f in
      omega (arith, at, (within_bound 0 4095 (number_of code) m f).1)

-- an awaited job is an earlier one
earlier_bound : (jobs : List JobData) (name : List ℕ) → is_none (place_of jobs name) ≡ false
    → unwrap_or (place_of jobs name) 0 < length jobs
earlier_bound jobs name e = go (place_of jobs name) refl where
  go : (u : Option ℕ) → place_of jobs name ≡ u → unwrap_or (place_of jobs name) 0 < length jobs
  go None f = absurd (cc (e, f))
  go (Some i) f =
      let at : unwrap_or (place_of jobs name) 0 ≡ i = ap (λ (o : Option ℕ). unwrap_or o 0) f in
      omega (arith, at, (place_bound name 0 jobs i f).1)

-- so are all
all_earlier : (jobs : List JobData) (parts : List AfterPart)
    → list_any (λ (q : AfterPart). is_none (place_of jobs q.name)) parts ≡ false
    → list_any (λ (q : AfterPart). accepts_no_code q.most) parts ≡ false
    → AllByRecursion (IsSoundAfter (length jobs)) (map (after_of jobs) parts)
all_earlier jobs [] known good = tt
all_earlier jobs (p ∷ parts) known good =
    let k = or_parts (is_none (place_of jobs p.name)) _ known in
    let g = or_parts (accepts_no_code p.most) _ good in
    ((earlier_bound jobs p.name k.0, most_bound p.most g.0), all_earlier jobs parts k.1 g.1)

-- at most eight are awaited
few_parts : (jobs : List JobData) (parts : List AfterPart) → nat_lt 8 (length parts) ≡ false → length (map (after_of jobs) parts) ≤ 8
few_parts jobs parts e = let same : length (map (after_of jobs) parts) ≡ length parts = length-map parts (after_of jobs) in grind arith

-- a faultless JOB begins a sound job
sound_job : (n : ℕ) (earlier : List Statement) (jobs : List JobData) (name : List ℕ) (after : List AfterPart)
    → IsFaultless n earlier jobs (JobOf name after) → IsSoundJob jobs (fresh_job jobs name after)
sound_job n earlier jobs name after f =
    let crowd = or_parts (has_double after) _ f.few in
    record {
      named = not-false (is_name name) (or_parts (not (is_name name)) _ f.name).0;
      new = no_place (place_of jobs name) f.new;
      few = few_parts jobs after crowd.1;
      distinct = all_apart jobs after f.known crowd.0;
      earlier = all_earlier jobs after f.known f.numbers;
      steps = tt;
    }

-- ---- a faultless step

-- the numbers of a USE
numbers_used : (o : Option ℕ) (mode : Mode) (step : Step) → ((l : ℕ) → o ≡ Some l → l ≤ 7)
    → option_map (λ l. Use l mode) o ≡ Some step → HasGoodNumbers step
numbers_used None mode step b e = absurd cc
numbers_used (Some l) mode step b e = subst HasGoodNumbers (let same : Use l mode ≡ step = cc in same) (b l refl)

-- the number of a FREE
numbers_freed : (o : Option ℕ) (step : Step) → ((l : ℕ) → o ≡ Some l → l ≤ 7) → option_map Free o ≡ Some step → HasGoodNumbers step
numbers_freed None step b e = absurd cc
numbers_freed (Some l) step b e = subst HasGoodNumbers (let same : Free l ≡ step = cc in same) (b l refl)

-- the number of a SCAN
numbers_read : (o : Option ℕ) (step : Step) → ((l : ℕ) → o ≡ Some l → l ≤ 7) → option_map Scan o ≡ Some step → HasGoodNumbers step
numbers_read None step b e = absurd cc
numbers_read (Some l) step b e = subst HasGoodNumbers (let same : Scan l ≡ step = cc in same) (b l refl)

-- the numbers of a COUNT
numbers_added : (o u : Option ℕ) (step : Step) → ((l : ℕ) → o ≡ Some l → l ≤ 7) → ((m : ℕ) → u ≡ Some m → (1 ≤ m) × (m ≤ 9999))
    → option_and_then (λ v. option_map (Count v) u) o ≡ Some step → HasGoodNumbers step
numbers_added None u step b d e = absurd cc
numbers_added (Some l) None step b d e = absurd cc
numbers_added (Some l) (Some m) step b d e = subst HasGoodNumbers (let same : Count l m ≡ step = cc in same)
    (b l refl, (d m refl).0, (d m refl).1)

-- the code of a RETURN
numbers_returned : (o : Option ℕ) (step : Step) → ((l : ℕ) → o ≡ Some l → l ≤ 4095) → option_map Return o ≡ Some step → HasGoodNumbers step
numbers_returned None step b e = absurd cc
numbers_returned (Some l) step b e = subst HasGoodNumbers (let same : Return l ≡ step = cc in same) (b l refl)

-- the code of an ABEND
numbers_ended : (o : Option ℕ) (step : Step) → ((l : ℕ) → o ≡ Some l → (2 ^ 24 ≤ l) × (l < 2 ^ 25)) → option_map Abend o ≡ Some step
    → HasGoodNumbers step
numbers_ended None step b e = absurd cc
numbers_ended (Some l) step b e = subst HasGoodNumbers (let same : Abend l ≡ step = cc in same) (b l refl)

-- a latch is one of the eight
latch_bound : (text : List ℕ) (l : ℕ) → latch_of text ≡ Some l → l ≤ 7
latch_bound text l e = (within_bound 0 7 (number_of text) l e).1

-- the end code of a user code
user_end : (o : Option ℕ) (l : ℕ) → ((u : ℕ) → o ≡ Some u → u ≤ 4095) → option_map (λ user. abended 0 user) o ≡ Some l
    → (2 ^ 24 ≤ l) × (l < 2 ^ 25)
user_end None l b e = absurd cc
user_end (Some u) l b e = let same : abended 0 u ≡ l = cc in let le = b u refl in (omega (arith, same), omega (arith, same, le))

-- the end code of a system code
system_end : (o : Option ℕ) (l : ℕ) → ((u : ℕ) → o ≡ Some u → u ≤ 4095) → option_map (λ system. abended system 0) o ≡ Some l
    → (2 ^ 24 ≤ l) × (l < 2 ^ 25)
system_end None l b e = absurd cc
system_end (Some u) l b e = let same : abended u 0 ≡ l = cc in let le = b u refl in (omega (arith, same), omega (arith, same, le))

-- an end code has its bits
end_bound : (code : List ℕ) (l : ℕ) → end_code_of code ≡ Some l → (2 ^ 24 ≤ l) × (l < 2 ^ 25)
end_bound [] l e = absurd cc
end_bound (letter ∷ digits) l e = go (letter == 85) (letter == 83) refl refl where
  go : (p q : Bool) → (letter == 85) ≡ p → (letter == 83) ≡ q → (2 ^ 24 ≤ l) × (l < 2 ^ 25)
  go true q x y = user_end (user_code_of digits) l (user_bound digits) (cc (e, x))
  go false true x y = system_end (system_code_of digits) l (system_bound digits) (cc (e, x, y))
  go false false x y = absurd (cc (e, x, y))

-- a step has good numbers
good_numbers : (s : Statement) (step : Step) → step_of s ≡ Some step → HasGoodNumbers step
good_numbers Null step e = absurd cc
good_numbers (DeckOf version) step e = absurd cc
good_numbers (JobOf name after) step e = absurd cc
good_numbers (PrintOf text) step e = subst HasGoodNumbers (let same : Print text ≡ step = cc in same) tt
good_numbers (UseOf latch mode) step e = numbers_used (latch_of latch) mode step (latch_bound latch) e
good_numbers (FreeOf latch) step e = numbers_freed (latch_of latch) step (latch_bound latch) e
good_numbers (CountOf volume amount) step e = numbers_added (latch_of volume) (amount_of amount) step (latch_bound volume)
    (within_bound 1 9999 (number_of amount)) e
good_numbers (ScanOf volume) step e = numbers_read (latch_of volume) step (latch_bound volume) e
good_numbers (AbendOf code) step e = numbers_ended (end_code_of code) step (end_bound code) e
good_numbers (ReturnOf code) step e = numbers_returned (code_of code) step (λ l f. (within_bound 0 4095 (number_of code) l f).1) e

-- a faultless step may stand where it does
sound_step : (n : ℕ) (earlier : List Statement) (jobs : List JobData) (s : Statement) (step : Step) → step_of s ≡ Some step
    → IsFaultless n earlier jobs s → IsSoundStep (last_steps jobs) step
sound_step n earlier jobs s step e f =
    let is_a = is_step s step e in
    let ended : (list_any is_end (last_steps jobs) && not (is_job s || is_null s)) ≡ false = f.going in
    record {
      numbers = good_numbers s step e;
      in_order = ap (is_step_that (is_out_of_order (last_steps jobs))) (sym e) ∙ f.ordered;
      latched = ap (is_step_that (lacks_latch (last_steps jobs))) (sym e) ∙ f.latched;
      before_end = alone (list_any is_end (last_steps jobs)) _ ended (ap (λ (b : Bool). not (b || is_null s)) is_a.no_job
          ∙ ap not is_a.no_null);
    }

-- ---- faultless statements leave sound jobs

-- what statements without fault leave
record IsFine (n : ℕ) (sts : List Statement) : Type 0 where
  pub jobs : AreSoundJobs [] (jobs_of sts)
  pub light : nat_lt 0 (length sts) ≡ true → weight (jobs_of sts) n ≤ heaviest
  pub begun : list_any is_job sts ≡ true → nat_lt 0 (length (jobs_of sts)) ≡ true

-- a text with a JOB has a last job
last_job : (jobs : List JobData) → nat_lt 0 (length jobs) ≡ true → (front : List JobData) × (j : JobData) × (jobs ≡ front ++ j ∷ [])
last_job [] e = absurd cc
last_job (j ∷ []) e = ([], j, refl)
last_job (j ∷ k ∷ jobs) e = let rest = last_job (k ∷ jobs) (grind arith) in (j ∷ rest.0, rest.1, ap (λ (x : List JobData). j ∷ x) rest.2)

-- what is not too heavy
not_heavy : (w : ℕ) → nat_lt heaviest w ≡ false → w ≤ heaviest
not_heavy w e = grind arith

-- a statement that leaves the jobs as they were
fine_same : (n : ℕ) (sts : List Statement) (s : Statement) → IsFine n sts → jobs_behind (jobs_of sts) s ≡ jobs_of sts
    → is_job s ≡ false → IsFaultless n sts (jobs_of sts) s → IsFine n (sts ++ s ∷ [])
fine_same n sts s fine same no_job f =
    let jobs : jobs_of (sts ++ s ∷ []) ≡ jobs_of sts = jobs-push sts s ∙ same in
    record {
      jobs = subst (AreSoundJobs []) (sym jobs) fine.jobs;
      light = λ some. not_heavy (weight (jobs_of (sts ++ s ∷ [])) n)
          (ap (λ (x : List JobData). nat_lt heaviest (weight x n)) (jobs-push sts s) ∙ f.light);
      begun = λ any. ap (λ (x : List JobData). nat_lt 0 (length x)) jobs ∙ fine.begun (sym (same_any is_job sts s no_job) ∙ any);
    }

-- a JOB
fine_job : (n : ℕ) (sts : List Statement) (name : List ℕ) (after : List AfterPart) → IsFine n sts
    → IsFaultless n sts (jobs_of sts) (JobOf name after) → IsFine n (sts ++ JobOf name after ∷ [])
fine_job n sts name after fine f =
    let jobs = jobs-push sts (JobOf name after) in
    record {
      jobs = subst (AreSoundJobs []) (sym jobs) (job_push (jobs_of sts) (fresh_job (jobs_of sts) name after) fine.jobs
          (sound_job n sts (jobs_of sts) name after f));
      light = λ some. not_heavy (weight (jobs_of (sts ++ JobOf name after ∷ [])) n)
          (ap (λ (x : List JobData). nat_lt heaviest (weight x n)) jobs ∙ f.light);
      begun = λ any. ap (λ (x : List JobData). nat_lt 0 (length x)) jobs ∙ some_stated (jobs_of sts) (fresh_job (jobs_of sts) name after);
    }

-- a step
fine_step : (n : ℕ) (sts : List Statement) (s : Statement) (step : Step) → step_of s ≡ Some step → IsFine n sts
    → IsFaultless n sts (jobs_of sts) s → IsFine n (sts ++ s ∷ [])
fine_step n sts s step e fine f =
    let is_a = is_step s step e in
    let outside : (list_any is_null sts || (not (list_any is_job sts) && not (is_job s || is_null s || is_deck s))) ≡ false = f.placed in
    let begun : list_any is_job sts ≡ true = has_job (list_any is_null sts) (list_any is_job sts) (is_job s) (is_null s)
    (is_deck s) is_a.no_job is_a.no_null is_a.no_deck outside in
    let last = last_job (jobs_of sts) (fine.begun begun) in
    let before = last.2 in
    let behind : jobs_of (sts ++ s ∷ []) ≡ last.0 ++ stepped last.1 step ∷ [] = jobs-push sts s ∙ is_a.behind (jobs_of sts)
    ∙ ap (λ (x : List JobData). with_step x step) before ∙ with_step-push last.0 last.1 step in
    let stands : IsSoundStep last.1.steps step = subst (λ (x : List Step). IsSoundStep x step)
    (ap last_steps before ∙ last_steps-push last.0 last.1) (sound_step n sts (jobs_of sts) s step e f) in
    record {
      jobs = subst (AreSoundJobs []) (sym behind) (step_push last.0 last.1 step (subst (AreSoundJobs []) before fine.jobs) stands);
      light = λ some. not_heavy (weight (jobs_of (sts ++ s ∷ [])) n)
          (ap (λ (x : List JobData). nat_lt heaviest (weight x n)) (jobs-push sts s) ∙ f.light);
      begun = λ any. ap (λ (x : List JobData). nat_lt 0 (length x)) behind ∙ some_stated last.0 (stepped last.1 step);
    }
  where
    has_job : (a b p q r : Bool) → p ≡ false → q ≡ false → r ≡ false → (a || (not b && not (p || q || r))) ≡ false → b ≡ true
    has_job a true p q r x y z e = refl
    has_job true false p q r x y z e = absurd cc
    has_job false false p q r x y z e = absurd (cc (ap (λ (t : Bool). not (t || q || r)) x, ap (λ (t : Bool). not (t || r)) y, ap not z, e))

-- a statement with numbers that are good is a step, where it is one of the others
fine_other : (n : ℕ) (sts : List Statement) (s : Statement) → is_none (step_of s) ≡ false → IsFine n sts
    → IsFaultless n sts (jobs_of sts) s → IsFine n (sts ++ s ∷ [])
fine_other n sts s e fine f = go (step_of s) refl e where
  go : (o : Option Step) → step_of s ≡ o → is_none o ≡ false → IsFine n (sts ++ s ∷ [])
  go None x y = absurd cc
  go (Some step) x y = fine_step n sts s step x fine f

-- each statement, by its form
fine_push : (n : ℕ) (sts : List Statement) (s : Statement) → IsFine n sts → IsFaultless n sts (jobs_of sts) s → IsFine n (sts ++ s ∷ [])
fine_push n sts Null fine f = fine_same n sts Null fine refl refl f
fine_push n sts (DeckOf version) fine f = fine_same n sts (DeckOf version) fine refl refl f
fine_push n sts (JobOf name after) fine f = fine_job n sts name after fine f
fine_push n sts (PrintOf text) fine f = fine_other n sts (PrintOf text) refl fine f
fine_push n sts (UseOf latch mode) fine f = fine_other n sts (UseOf latch mode) f.numbers fine f
fine_push n sts (FreeOf latch) fine f = fine_other n sts (FreeOf latch) f.numbers fine f
fine_push n sts (CountOf volume amount) fine f = fine_other n sts (CountOf volume amount) f.numbers fine f
fine_push n sts (ScanOf volume) fine f = fine_other n sts (ScanOf volume) f.numbers fine f
fine_push n sts (AbendOf code) fine f = fine_other n sts (AbendOf code) f.numbers fine f
fine_push n sts (ReturnOf code) fine f = fine_other n sts (ReturnOf code) f.numbers fine f

-- ---- a text without fault

-- a line with a statement or none
fine_line : (n : ℕ) (sts : List Statement) (o : Option Statement) → IsFine n sts → kinds_of_statement n sts o ≡ []
    → IsFine n (sts ++ option_to_list o)
fine_line n sts None fine e = subst (IsFine n) (sym (append-nil sts)) fine
fine_line n sts (Some s) fine e = fine_push n sts s fine (is_faultless n sts (jobs_of sts) s e)

-- where a line has no kinds, its statement has none
stated_kinds : (n : ℕ) (v : Version) (sts : List Statement) (line : List ℕ) → kinds_of n v sts line ≡ []
    → kinds_of_statement n sts (statement_of v line) ≡ []
stated_kinds n v sts line e =
    let a = none_when (is_foreign line) _ _ e in
    let b = none_when (is_too_long line) _ _ a.1 in
    (none_when (has_no_form v line) _ _ b.1).1

-- from a line on
sound_from : (n : ℕ) (v : Version) (number : ℕ) (sts : List Statement) (lines : List (List ℕ)) → IsFine n sts
    → first_of_list (faults_by_line (line_rules n v) number sts lines) ≡ None → IsSound (jobs_of (sts ++ statements_of v lines)) n
sound_from n v number sts [] fine e =
    subst (λ (x : List Statement). IsSound (jobs_of x) n) (sym (append-nil sts))
    (record {
      jobs_stand = fine.jobs;
      light = fine.light (stated_before is_null sts (no_fault_at_end (line_rules n v) number sts e));
    })
sound_from n v number sts (line ∷ lines) fine e =
    let none = no_kinds (line_rules n v) number sts line lines e in
    let next = fine_line n sts (statement_of v line) fine (stated_kinds n v sts line none) in
    subst (λ (x : List Statement). IsSound (jobs_of x) n) (sym (earlier_more sts (statement_of v line) (statements_of v lines)))
    (sound_from n v (number + 1) (sts ++ option_to_list (statement_of v line)) lines next
    (ap first_of_list (sym (line_passed (line_rules n v) number sts line lines none)) ∙ e))

-- the law
pub sound : (bytes : List ℕ) (n : ℕ) → first_fault bytes n ≡ None → IsSound (deck_of bytes) n
unfolding first_fault
sound bytes n e = sound_from n (version_in bytes) 1 [] (lines_of bytes)
    (record { jobs = tt; light = λ some. absurd cc; begun = λ any. absurd cc }) e
