-- A load states its jobs, and has no fault: statement by statement, and job by job.
use Rattle.std.proofs.Common.{◌≡◌, ℕ, zero, suc, ◌+◌, ◌-◌, ◌*◌, ◌/◌, ◌%◌, ◌<◌, ◌≤◌, Bool, true, false, List, [], ◌∷◌, ◌++◌, map, Option}
use Rattle.std.proofs.Common.{Some, None, refl, sym, ap, subst, ◌∙◌, arith, append_assoc, if◌then◌else◌, sum_by}
use Rattle.std.specs.Prelude.{codes, decimal, nat_lt, option_to_list}
use Rattle.std.specs.List.{list_any}
use Rattle.std.proofs.lemmas.Bool.{eqb-true}
use Rattle.std.proofs.lemmas.List.{append-nil}
use Rattle.std.proofs.lemmas.List.Sums.{sum_by-cons}
use Rattle.std.proofs.Math.Nat.{mul-add}
use Rattle.mv_deck.specs.declared.deck.After.{After}
use Rattle.mv_deck.specs.declared.deck.Step.{Step}
use Rattle.mv_deck.specs.declared.deck.Step.TheVariants.{Print, Free, Scan, Abend}
use Rattle.mv_deck.specs.declared.form.Version.{Version}
use Rattle.mv_deck.specs.declared.form.Version.TheVariants.{One}
use Rattle.mv_deck.specs.EndCode.{abended}
use Rattle.mv_deck.specs.Operand.{is_name, latch_of}
use Rattle.mv_deck.specs.Statement.{Statement, Null, JobOf, PrintOf, FreeOf, ScanOf, AbendOf, AfterPart, statements_of, version_of}
use Rattle.mv_deck.specs.Deck.{JobData, after_of, fresh_job, step_of, jobs_of, deck_of, with_step, last_steps}
use Rattle.mv_deck.specs.Fault.{is_null, is_job, kinds_of_statement, line_rules, first_fault, awaits_no_job, has_bad_name}
use Rattle.mv_line.specs.Fault.{faults_by_line, first_of_list}
use Rattle.mv_line.specs.Fault as of_lines
use Rattle.mv_line.proofs.Faults.{line_passed}
use Rattle.mv_deck.specs.Fault.{has_bad_number, is_crowded}
use Rattle.mv_deck.specs.Held.{is_end, is_out_of_order, lacks_latch}
use Rattle.mv_deck.specs.Sound.{IsSoundStep, AreSoundSteps}
use Rattle.mv_deck.specs.Weight.{weight, heaviest, step_events}
use Rattle.mv_deck.specs.Reading.{IsGoodJob}
use Rattle.mv_deck.specs.Load.{most_jobs, load_name, load_jobs, load_after, load_steps, load_text, waits, scans, abends, volume_of}
use Rattle.mv_deck.specs.Load.{counted_by, scan_steps, last_step, first_lines, four_digits}
use Rattle.mv_deck.proofs.Jobs.{stepped, last_steps-push, with_step-push, weight-step, weight-push}
use Rattle.mv_deck.proofs.Steps.{is_step, is_outside}
use Rattle.mv_deck.proofs.Told.{job_fine, job_placed, step_fine, null_fine}
use Rattle.mv_latch.proofs.Joined.{same_any, some_any}
use Rattle.mv_deck.proofs.Behind.{jobs-push, inside}
use Rattle.mv_deck.proofs.Sounds.{sound}
use Rattle.mv_deck.proofs.LoadLines.{digit_is, name_is_good, latch_again, amount_again, user_code_again}
use Rattle.mv_deck.proofs.LoadJobs.{load_jobs-more, name_is_new, name_is_known, load_is_sound, load_is_light, job_is_light}
use Rattle.mv_deck.proofs.LoadStates.{AllState, parts_of_job, job_statement, scan_statements, last_statement, step_statements}
use Rattle.mv_deck.proofs.LoadStates.{job_statements, first_statements, load_statements, first_statements-more, load_lines}
use Rattle.mv_deck.proofs.LoadStates.{load_lines_state, load_version, is_stated, all_statements}

-- each of these statements has no fault behind the earlier ones and those before it
abbrev AreFine : ℕ → List Statement → List Statement → Type 0
AreFine k earlier [] = Unit {0}
AreFine k earlier (s ∷ statements) = (kinds_of_statement k earlier (Some s) ≡ []) × AreFine k (earlier ++ s ∷ []) statements

fine_append : (k : ℕ) (earlier a b : List Statement) → AreFine k earlier a → AreFine k (earlier ++ a) b → AreFine k earlier (a ++ b)
fine_append k earlier [] b fa fb = subst (λ (x : List Statement). AreFine k x b) (append-nil earlier) fb
fine_append k earlier (s ∷ a) b fa fb = (
  fa.0,
  fine_append k (earlier ++ s ∷ []) a b fa.1
      (subst (λ (x : List Statement). AreFine k x b) (sym (append_assoc earlier (s ∷ []) a)) fb),
)

not_heavy : (w : ℕ) → w ≤ heaviest → nat_lt heaviest w ≡ false
not_heavy w le = grind arith

-- ---- steps

-- the last job takes steps
record IsOpen (earlier : List Statement) (before : List JobData) (j : JobData) : Type 0 where
  jobs : jobs_of earlier ≡ before ++ j ∷ []
  going : list_any is_null earlier ≡ false
  begun : list_any is_job earlier ≡ true

-- one more step
step_goes : (k : ℕ) (earlier : List Statement) (before : List JobData) (j : JobData) (s : Statement) (step : Step)
    → IsOpen earlier before j → step_of s ≡ Some step → IsSoundStep j.steps step → weight (before ++ stepped j step ∷ []) k ≤ heaviest
    → (kinds_of_statement k earlier (Some s) ≡ []) × IsOpen (earlier ++ s ∷ []) before (stepped j step)
step_goes k earlier before j s step o e sound le =
    let is_a = is_step s step e in
    let last : last_steps (jobs_of earlier) ≡ j.steps = ap last_steps o.jobs ∙ last_steps-push before j in
    let next : with_step (jobs_of earlier) step ≡ before ++ stepped j step ∷ [] =
    ap (λ (x : List JobData). with_step x step) o.jobs ∙ with_step-push before j step in (
      is_a.kinds k earlier (jobs_of earlier)
          ∙ step_fine k (jobs_of earlier) step (is_outside earlier) (inside earlier o.going o.begun)
          (ap (list_any is_end) last ∙ sound.before_end)
          (ap (λ (x : List Step). is_out_of_order x step) last ∙ sound.in_order)
          (ap (λ (x : List Step). lacks_latch x step) last ∙ sound.latched)
          (ap (λ (x : List JobData). nat_lt heaviest (weight x k)) next ∙ not_heavy (weight (before ++ stepped j step ∷ []) k) le),
      record {
        jobs = jobs-push earlier s ∙ is_a.behind (jobs_of earlier) ∙ next;
        going = same_any is_null earlier s is_a.no_null ∙ o.going;
        begun = same_any is_job earlier s is_a.no_job ∙ o.begun;
      },
    )

-- statements that are these steps
abbrev AreSteps : List Statement → List Step → Type 0
AreSteps [] [] = Unit {0}
AreSteps (s ∷ statements) (step ∷ steps) = (step_of s ≡ Some step) × AreSteps statements steps
AreSteps _ _ = ⊥

steps_append : (a b : List Statement) (x y : List Step) → AreSteps a x → AreSteps b y → AreSteps (a ++ b) (x ++ y)
steps_append [] b [] y f g = g
steps_append (s ∷ a) b (t ∷ x) y f g = (f.0, steps_append a b x y f.1 g)
steps_append [] b (t ∷ x) y f g = absurd f
steps_append (s ∷ a) b [] y f g = absurd f

-- some more steps
steps_go : (k : ℕ) (earlier : List Statement) (before : List JobData) (j : JobData) (statements : List Statement) (steps : List Step)
    → IsOpen earlier before j → AreSteps statements steps → AreSoundSteps j.steps steps
    → weight (before ++ j ∷ []) k + k * sum_by step_events steps ≤ heaviest
    → AreFine k earlier statements × IsOpen (earlier ++ statements) before (record j { steps = j.steps ++ steps })
steps_go k earlier before j [] [] o are sound le = (tt, rw (append-nil earlier, append-nil j.steps) o)
steps_go k earlier before j (s ∷ statements) (t ∷ steps) o are sound le =
    let more : k * sum_by step_events (t ∷ steps) ≡ k * step_events t + k * sum_by step_events steps =
    ap (λ (x : ℕ). k * x) (sum_by-cons step_events t steps) ∙ mul-add k (step_events t) (sum_by step_events steps) in
    let heavier : weight (before ++ stepped j t ∷ []) k ≡ weight (before ++ j ∷ []) k + k * step_events t = weight-step before j t k in
    let one = step_goes k earlier before j s t o are.0 sound.0 (omega (arith, more, heavier, le)) in
    let rest = steps_go k (earlier ++ s ∷ []) before (stepped j t) statements steps one.1 are.1 sound.1
    (omega (arith, more, heavier, le)) in
    ((one.0, rest.0), rw (append_assoc earlier (s ∷ []) statements, append_assoc j.steps (t ∷ []) steps) at rest.1)
steps_go k earlier before j [] (t ∷ steps) o are sound le = absurd are
steps_go k earlier before j (s ∷ statements) [] o are sound le = absurd are

-- a job's statements are its steps
job_steps : (i : ℕ) → i ≤ 4095 → AreSteps (step_statements i) (load_steps i)
job_steps i le = (
  rw latch refl,
  (
    rw (latch, amount_again (counted_by i) (omega arith) (omega arith)) refl,
    steps_append (scan_statements i)
        (PrintOf (codes "WORK " ++ decimal i) ∷ last_statement i ∷ []) (scan_steps i)
        (Print (codes "WORK " ++ decimal i) ∷ last_step i ∷ []) (scanned (scans i)) (refl, (last (abends i), tt)),
  ),
) where
  latch : latch_of (decimal (volume_of i)) ≡ Some (volume_of i)
  latch = latch_again (volume_of i) (omega arith)

  scanned : (b : Bool) → AreSteps (if b then ScanOf (decimal (volume_of i)) ∷ [] else []) (if b then Scan (volume_of i) ∷ [] else [])
  scanned true = (rw latch refl, tt)
  scanned false = tt

  last : (b : Bool) → step_of (if b then AbendOf (codes "U" ++ four_digits i) else FreeOf (decimal (volume_of i)))
      ≡ Some (if b then Abend (abended 0 i) else Free (volume_of i))
  last true = rw (user_code_again i le) refl
  last false = rw latch refl

-- ---- jobs

-- behind so many jobs
record IsBetween (n : ℕ) (earlier : List Statement) : Type 0 where
  jobs : jobs_of earlier ≡ load_jobs n
  going : list_any is_null earlier ≡ false

-- a job that waits is not one of the first three
third : (i : ℕ) → waits i ≡ true → 3 ≤ i
third i e = let three : i % 5 ≡ 3 = eqb-true (i % 5) 3 e in omega arith

name_good : (i : ℕ) → is_name (load_name i) ≡ true
name_good i = name_is_good _ _ _ _ _ (digit_is (i / 10000 % 10) (omega arith)) (digit_is (i / 1000 % 10) (omega arith))
    (digit_is (i / 100 % 10) (omega arith)) (digit_is (i / 10 % 10) (omega arith)) (digit_is (i / 1 % 10) (omega arith))

-- what is asked of the job that it waits for
record IsAwaited (i : ℕ) (parts : List AfterPart) (after : List After) : Type 0 where
  is : map (after_of (load_jobs i)) parts ≡ after
  known : awaits_no_job (load_jobs i) (JobOf (load_name i) parts) ≡ false
  named : has_bad_name (JobOf (load_name i) parts) ≡ false
  few : is_crowded (JobOf (load_name i) parts) ≡ false
  codes_are : has_bad_number (JobOf (load_name i) parts) ≡ false

awaited : (i : ℕ) → i ≤ 100000 → IsAwaited i (parts_of_job i) (load_after i)
awaited i le = go (waits i) refl where
  go : (b : Bool) → waits i ≡ b
      → IsAwaited i (if b then record { name = load_name (i - 3); most = None } ∷ [] else [])
      (if b then record { job = i - 3; most = 0 } ∷ [] else [])
  go true e =
      let three = third i e in
      let known = name_is_known i (i - 3) (omega arith) le in
      record {
        is = rw known refl;
        known = rw known refl;
        named = rw (name_good i, name_good (i - 3)) refl;
        few = refl;
        codes_are = refl;
      }
  go false e = record { is = refl; known = refl; named = rw (name_good i) refl; few = refl; codes_are = refl }

-- a job that has only begun
abbrev begun_job : ℕ → JobData
begun_job i = record { name = load_name i; after = load_after i; steps = [] }

job_begins : (k i : ℕ) (earlier : List Statement) → k ≤ 8 → i < most_jobs → IsBetween i earlier
    → (kinds_of_statement k earlier (Some (job_statement i)) ≡ []) × IsOpen (earlier ++ job_statement i ∷ []) (load_jobs i) (begun_job i)
job_begins k i earlier le lt at =
    let a = awaited i (omega arith) in
    let fresh : fresh_job (jobs_of earlier) (load_name i) (parts_of_job i) ≡ begun_job i =
    ap (λ (x : List JobData). fresh_job x (load_name i) (parts_of_job i)) at.jobs
    ∙ ap (λ (x : List After). record { name = load_name i; after = x; steps = [] }) a.is in
    let next : jobs_of earlier ++ fresh_job (jobs_of earlier) (load_name i) (parts_of_job i) ∷ [] ≡ load_jobs i ++ begun_job i ∷ [] =
    ap (λ (x : JobData). jobs_of earlier ++ x ∷ []) fresh ∙ ap (λ (x : List JobData). x ++ begun_job i ∷ []) at.jobs in
    let weighs = weight-push (load_jobs i) (begun_job i) k in
    let before = load_is_light k i le (omega arith) in
    let own = job_is_light k i le (omega arith) in
    let fits : weight (load_jobs i ++ begun_job i ∷ []) k ≤ heaviest = omega (arith, weighs, before, own) in
    let good : IsGoodJob earlier (jobs_of earlier) (job_statement i) =
    subst (λ (x : List JobData). IsGoodJob earlier x (job_statement i)) (sym at.jobs)
    (record {
      name = a.named;
      place = job_placed k earlier (load_jobs i) (load_name i) (parts_of_job i) at.going;
      new = rw (name_is_new i i (omega arith) (omega arith)) refl;
      known = a.known;
      few = a.few;
      codes = a.codes_are;
    }) in (
      job_fine k earlier (jobs_of earlier) (load_name i) (parts_of_job i) good
          (ap (λ (x : List JobData). nat_lt heaviest (weight x k)) next ∙ not_heavy (weight (load_jobs i ++ begun_job i ∷ []) k) fits),
      record {
        jobs = jobs-push earlier (job_statement i) ∙ next;
        going = same_any is_null earlier (job_statement i) refl ∙ at.going;
        begun = some_any is_job earlier (job_statement i) refl;
      },
    )

-- one more job
job_goes : (k i : ℕ) (earlier : List Statement) → k ≤ 8 → i < most_jobs → IsBetween i earlier
    → AreFine k earlier (job_statements i) × IsBetween (suc i) (earlier ++ job_statements i)
job_goes k i earlier le lt at =
    let first = job_begins k i earlier le lt at in
    let weighs = weight-push (load_jobs i) (begun_job i) k in
    let before = load_is_light k i le (omega arith) in
    let own = job_is_light k i le (omega arith) in
    let fits : weight (load_jobs i ++ begun_job i ∷ []) k + k * sum_by step_events (load_steps i) ≤ heaviest =
    omega (arith, weighs, before, own) in
    let rest = steps_go k (earlier ++ job_statement i ∷ []) (load_jobs i) (begun_job i) (step_statements i) (load_steps i) first.1
    (job_steps i (omega arith)) (load_is_sound i (omega arith)) fits in
    let whole : (earlier ++ job_statement i ∷ []) ++ step_statements i ≡ earlier ++ job_statements i =
    append_assoc earlier (job_statement i ∷ []) (step_statements i) in (
      (first.0, rest.0),
      record {
        jobs = ap jobs_of (sym whole) ∙ rest.1.jobs ∙ sym (load_jobs-more i);
        going = ap (list_any is_null) (sym whole) ∙ rest.1.going;
      },
    )

-- the first so many
first_go : (k n : ℕ) → k ≤ 8 → n ≤ most_jobs → AreFine k [] (first_statements n) × IsBetween n (first_statements n)
first_go k zero le few = (tt, record { jobs = refl; going = refl })
first_go k (suc n) le few =
    let before = first_go k n le (omega arith) in
    let job = job_goes k n (first_statements n) le (omega arith) before.1 in
    subst (λ (x : List Statement). AreFine k [] x × IsBetween (suc n) x) (sym (first_statements-more n))
    (fine_append k [] (first_statements n) (job_statements n) before.0 job.0, job.1)

-- all of them, and the null statement
load_is_fine : (k n : ℕ) → k ≤ 8 → n ≤ most_jobs → AreFine k [] (load_statements n)
load_is_fine k n le few =
    let before = first_go k n le few in
    let light = load_is_light k n le (omega arith) in
    fine_append k [] (first_statements n) (Null ∷ []) before.0 (
      null_fine k (first_statements n) (jobs_of (first_statements n)) before.1.going
          (ap (λ (x : List JobData). nat_lt heaviest (weight x k)) before.1.jobs
          ∙ not_heavy (weight (load_jobs n) k) (omega (arith, light))),
      tt,
    )

-- ---- the whole text

faults_none : (k number : ℕ) (earlier : List Statement) (lines : List (List ℕ)) (statements : List Statement) → AllState lines statements
    → AreFine k earlier statements → list_any is_null (earlier ++ statements) ≡ true
    → faults_by_line (line_rules k One) number earlier lines ≡ []
faults_none k number earlier [] [] are fine e =
    let null : list_any is_null earlier ≡ true = ap (list_any is_null) (sym (append-nil earlier)) ∙ e in rw null refl
faults_none k number earlier (line ∷ lines) (s ∷ statements) are fine e =
    let is = is_stated k earlier line s are.0 in
    line_passed (line_rules k One) number earlier line lines (is.kinds ∙ fine.0)
    ∙ ap (λ (o : Option Statement). faults_by_line (line_rules k One) (number + 1) (earlier ++ option_to_list o) lines) is.statement
    ∙ faults_none k (number + 1) (earlier ++ s ∷ []) lines statements are.1 fine.1
    (ap (list_any is_null) (append_assoc earlier (s ∷ []) statements) ∙ e)
faults_none k number earlier [] (s ∷ statements) are fine e = absurd are
faults_none k number earlier (line ∷ lines) [] are fine e = absurd are

-- the null statement is among them
null_stands : (n : ℕ) → list_any is_null (load_statements n) ≡ true
null_stands n = some_any is_null (first_statements n) Null refl

pub no_fault : (n initiators : ℕ) → 1 ≤ n → n ≤ most_jobs → initiators ≤ 8 → first_fault (load_text n) initiators ≡ None
unfolding first_fault
no_fault n k some few le =
    let lines = first_lines n ++ codes "//" ∷ [] in
    ap (λ (ls : List (List ℕ)). of_lines.first_fault (line_rules k (version_of ls)) [] ls) (load_lines n (omega arith))
    ∙ ap (λ (v : Version). of_lines.first_fault (line_rules k v) [] lines) (load_version n some)
    ∙ ap first_of_list (faults_none k 1 [] lines (load_statements n) (load_lines_state n (omega arith)) (load_is_fine k n le few)
    (null_stands n))

pub stated_jobs : (n : ℕ) → 1 ≤ n → n ≤ most_jobs → deck_of (load_text n) ≡ load_jobs n
stated_jobs n some few =
    let lines = first_lines n ++ codes "//" ∷ [] in
    ap (λ (ls : List (List ℕ)). jobs_of (statements_of (version_of ls) ls)) (load_lines n (omega arith))
    ∙ ap (λ (v : Version). jobs_of (statements_of v lines)) (load_version n some)
    ∙ ap jobs_of (all_statements lines (load_statements n) (load_lines_state n (omega arith)))
    ∙ jobs-push (first_statements n) Null ∙ (first_go 1 n (omega arith) few).1.jobs
