-- The reader behind one more statement.
use Rattle.std.proofs.Common.{◌≡◌, ℕ, ◌+◌, ◌*◌, Bool, true, false, List, [], ◌∷◌, ◌++◌, length, map, Option, Some, None, refl}
use Rattle.std.proofs.Common.{sym, ap, subst, ◌∙◌, arith, rules, length-append, bytes_eq, if◌then◌else◌}
use Rattle.std.specs.Prelude.{IsSome, is_some, unwrap_or, nat_lt}
use Rattle.std.specs.List.{list_any}
use Rattle.std.proofs.lemmas.List.{length-map}
use Rattle.std.proofs.lemmas.List.Sums.{fold_push}
use Rattle.mv_deck.specs.declared.deck.After.{After}
use Rattle.mv_deck.specs.declared.deck.Step.{Step}
use Rattle.mv_deck.specs.declared.form.Part.{Part}
use Rattle.mv_deck.specs.declared.names.Names.{Names}
use Rattle.mv_deck.specs.declared.form.Version.{Version}
use Rattle.mv_deck.specs.declared.reading.Reading.{Reading}
use Rattle.mv_deck.specs.Statement.{Statement, JobOf, AfterPart}
use Rattle.mv_deck.specs.Deck.{JobData, job_data, jobs_of, jobs_behind, place_of, after_of, most_of, fresh_job, step_of, with_step}
use Rattle.mv_deck.specs.Fault.{is_null, is_job}
use Rattle.mv_deck.specs.Held.{held, latches, is_end}
use Rattle.mv_deck.specs.Form.{part_data}
use Rattle.mv_deck.specs.Names.{place_in, after_in}
use Rattle.mv_deck.specs.Reading.{HasFewJobs, jobs_read, open_job, Keeps, IsBehind, IsGoodJob}
use Rattle.mv_deck.specs.Weight.{weight, heaviest, step_events}
use Rattle.mv_latch.proofs.Joined.{same_any, some_any}
use Rattle.mv_deck.proofs.Jobs.{stepped, last_steps-push, with_step-push, place-push, place-step, ended-push, weight-push, weight-step}
use Rattle.mv_deck.proofs.Steps.{is_step, is_outside}

-- behind one more statement there is one
pub some_stated : {A : Type 0} (xs : List A) (x : A) → nat_lt 0 (length (xs ++ x ∷ [])) ≡ true
some_stated [] x = refl
some_stated (y ∷ xs) x = grind arith

-- where a statement passes a test there is one
pub stated_before : (p : Statement → Bool) (sts : List Statement) → list_any p sts ≡ true → nat_lt 0 (length sts) ≡ true
stated_before p [] e = absurd cc
stated_before p (t ∷ sts) e = grind arith

-- the jobs behind one more statement
pub jobs-push : (sts : List Statement) (s : Statement) → jobs_of (sts ++ s ∷ []) ≡ jobs_behind (jobs_of sts) s
jobs-push sts s = fold_push jobs_behind [] sts s

-- ---- a JOB

-- a reader with a name has begun a job
is_begun : (o : Option (List ℕ)) → IsSome o → is_some o ≡ true
is_begun None h = search rules
is_begun (Some name) h = refl

-- what a reader keeps that has just begun a job
pub record IsBegun (n : ℕ) (jobs : List JobData) (name : List ℕ) (after : List AfterPart) (r next : Reading) : Type 0 where
  pub jobs_are : jobs_read next ≡ jobs ++ fresh_job jobs name after ∷ []
  pub names : (q : List ℕ) → place_in next.names q ≡ (if bytes_eq name q then Some (length jobs) else place_in r.names q)
  pub begun : IsSome next.name
  pub held_none : next.held.modes ≡ map (held []) latches
  pub closed : next.closed ≡ false
  pub stated : next.stated ≡ true
  pub ended : next.ended ≡ r.ended
  pub room : next.room + (8 + 9 * n + 2 * length after) ≡ r.room
  pub initiators_are : next.initiators ≡ r.initiators
  pub version : next.version ≡ r.version

-- a job makes the deck heavier by its own weight
pub job_weight : (n : ℕ) (jobs : List JobData) (name : List ℕ) (after : List AfterPart)
    → weight (jobs ++ fresh_job jobs name after ∷ []) n ≡ weight jobs n + (8 + 9 * n + 2 * length after)
job_weight n jobs name after =
    let count : length (map (after_of jobs) after) ≡ length after = length-map after (after_of jobs) in
    let added : weight jobs n + (8 + 9 * n + 2 * length (map (after_of jobs) after) + n * 0) ≡ weight jobs n +
    (8 + 9 * n + 2 * length after) = ap (λ (x : ℕ). weight jobs n + x) (omega (arith, count)) in
    weight-push jobs (fresh_job jobs name after) n ∙ added

-- what is added to the weight is taken from the room
room_left : (left added room weight heavier all : ℕ) → left + added ≡ room → heavier ≡ weight + added → room + weight ≡ all
    → left + heavier ≡ all
room_left left added room weight heavier all a b c = omega arith

-- what is kept beside the jobs, behind a JOB
kept_by_job : (n : ℕ) (jobs : List JobData) (name : List ℕ) (after : List AfterPart) (r next : Reading) → Keeps n jobs r
    → place_of jobs name ≡ None → IsBegun n jobs name after r next → Keeps n (jobs ++ fresh_job jobs name after ∷ []) next
kept_by_job n jobs name after r next k new g =
    let j : JobData = fresh_job jobs name after in
    let steps = last_steps-push jobs j in
    let heavier = job_weight n jobs name after in
    record {
      named = λ q. g.names q ∙ ap (λ (x : Option ℕ). if bytes_eq name q then Some (length jobs) else x) (k.named q)
          ∙ sym (place-push jobs j new q);
      latched = g.held_none ∙ ap (λ (x : List Step). map (held x) latches) (sym steps);
      closed = g.closed ∙ ap (list_any is_end) (sym steps);
      room = room_left next.room (8 + 9 * n + 2 * length after) r.room (weight jobs n) (weight (jobs ++ j ∷ []) n) heaviest g.room heavier
          k.room;
    }

-- the reader behind a JOB
pub behind_job : (n : ℕ) (v : Version) (sts : List Statement) (r next : Reading) (name : List ℕ) (after : List AfterPart)
    → IsBehind n v sts r → place_of (jobs_of sts) name ≡ None → IsBegun n (jobs_of sts) name after r next
    → IsBehind n v (sts ++ JobOf name after ∷ []) next
behind_job n v sts r next name after b new g = record {
  initiators_are = g.initiators_are ∙ b.initiators_are;
  version = g.version ∙ b.version;
  jobs = g.jobs_are ∙ sym (jobs-push sts (JobOf name after));
  kept = subst (λ (x : List JobData). Keeps n x next) (sym (jobs-push sts (JobOf name after)))
      (kept_by_job n (jobs_of sts) name after r next b.kept new g);
  begun = is_begun next.name g.begun ∙ sym (some_any is_job sts (JobOf name after) refl);
  stated = g.stated ∙ sym (some_stated sts (JobOf name after));
  ended = g.ended ∙ b.ended ∙ sym (same_any is_null sts (JobOf name after) refl);
}

-- ---- a step

-- what a reader keeps that has just taken a step
pub record IsStepped (n : ℕ) (step : Step) (r next : Reading) : Type 0 where
  pub steps : next.steps.items ≡ r.steps.items ++ step ∷ []
  pub name : next.name ≡ r.name
  pub after : next.after ≡ r.after
  pub finished : next.finished ≡ r.finished
  pub names : next.names ≡ r.names
  pub latched : (done : List Step) → r.held.modes ≡ map (held done) latches → next.held.modes ≡ map (held (done ++ step ∷ [])) latches
  pub closed : next.closed ≡ is_end step
  pub stated : next.stated ≡ r.stated
  pub ended : next.ended ≡ r.ended
  pub room : next.room + n * step_events step ≡ r.room
  pub initiators_are : next.initiators ≡ r.initiators
  pub version : next.version ≡ r.version

-- what is kept beside the jobs, behind a step
kept_by_step : (n : ℕ) (jobs : List JobData) (j : JobData) (step : Step) (r next : Reading) → Keeps n (jobs ++ j ∷ []) r
    → r.closed ≡ false → IsStepped n step r next → Keeps n (jobs ++ stepped j step ∷ []) next
kept_by_step n jobs j step r next k going g =
    let old = last_steps-push jobs j in
    let new = last_steps-push jobs (stepped j step) in
    let heavier = weight-step jobs j step n in
    record {
      named = λ q. ap (λ x. place_in x q) g.names ∙ k.named q ∙ sym (place-step jobs j step q);
      latched = g.latched j.steps (k.latched ∙ ap (λ (x : List Step). map (held x) latches) old)
          ∙ ap (λ (x : List Step). map (held x) latches) (sym new);
      closed = g.closed ∙ sym (ended-push j.steps step (ap (list_any is_end) (sym old) ∙ sym k.closed ∙ going)) ∙ ap (list_any is_end)
          (sym new);
      room = room_left next.room (n * step_events step) r.room (weight (jobs ++ j ∷ []) n)
          (weight (jobs ++ stepped j step ∷ []) n) heaviest g.room heavier k.room;
    }

-- the last job of a reader that has begun one
abbrev open_of : List ℕ → Reading → JobData
open_of name r = record { name = name; after = r.after.items; steps = r.steps.items }

-- the jobs of a reader that has begun one
jobs_of_named : (r : Reading) (name : List ℕ) → r.name ≡ Some name → jobs_read r ≡ map job_data r.finished.items ++ open_of name r ∷ []
jobs_of_named r name e = rw e refl

-- the name of the last job
named : (o : Option (List ℕ)) → is_some o ≡ true → (name : List ℕ) × (o ≡ Some name)
named None e = absurd cc
named (Some name) e = (name, refl)

-- the reader behind a step
pub behind_step : (n : ℕ) (v : Version) (sts : List Statement) (s : Statement) (step : Step) (r next : Reading) → IsBehind n v sts r
    → step_of s ≡ Some step → is_some r.name ≡ true → r.closed ≡ false → IsStepped n step r next → IsBehind n v (sts ++ s ∷ []) next
behind_step n v sts s step r next b is begun going g =
    let is_a = is_step s step is in
    let name = named r.name begun in
    let js : List JobData = map job_data r.finished.items in
    let j : JobData = open_of name.0 r in
    let before : jobs_of sts ≡ js ++ j ∷ [] = sym b.jobs ∙ jobs_of_named r name.0 name.1 in
    let behind : jobs_of (sts ++ s ∷ []) ≡ js ++ stepped j step ∷ [] =
    jobs-push sts s ∙ is_a.behind (jobs_of sts) ∙ ap (λ (x : List JobData). with_step x step) before ∙ with_step-push js j step in
    let read : jobs_read next ≡ js ++ stepped j step ∷ [] = jobs_of_named next name.0 (g.name ∙ name.1)
    ∙ rw (g.finished, g.after, g.steps) refl in
    record {
      initiators_are = g.initiators_are ∙ b.initiators_are;
      version = g.version ∙ b.version;
      jobs = read ∙ sym behind;
      kept = subst (λ (x : List JobData). Keeps n x next) (sym behind)
          (kept_by_step n js j step r next (subst (λ (x : List JobData). Keeps n x r) before b.kept) going g);
      begun = ap is_some g.name ∙ b.begun ∙ sym (same_any is_job sts s is_a.no_job);
      stated = g.stated ∙ b.stated ∙ stated_before is_job sts (sym b.begun ∙ begun) ∙ sym (some_stated sts s);
      ended = g.ended ∙ b.ended ∙ sym (same_any is_null sts s is_a.no_null);
    }

-- ---- what is asked of a step

-- a step stands behind a JOB and before the null statement
pub inside : (sts : List Statement) → list_any is_null sts ≡ false → list_any is_job sts ≡ true → is_outside sts ≡ false
inside sts e f = rw (e, f) refl

-- a step makes the deck heavier by its events for each initiator
pub step_weight : (n : ℕ) (v : Version) (sts : List Statement) (r : Reading) (step : Step) → IsBehind n v sts r
    → is_some r.name ≡ true → weight (with_step (jobs_of sts) step) n ≡ weight (jobs_of sts) n + n * step_events step
step_weight n v sts r step b begun =
    let name = named r.name begun in
    let js : List JobData = map job_data r.finished.items in
    let j : JobData = open_of name.0 r in
    let before : jobs_of sts ≡ js ++ j ∷ [] = sym b.jobs ∙ jobs_of_named r name.0 name.1 in
    ap (λ (x : List JobData). weight (with_step x step) n) before
    ∙ ap (λ (x : List JobData). weight x n) (with_step-push js j step)
    ∙ weight-step js j step n
    ∙ ap (λ (x : List JobData). weight x n + n * step_events step) (sym before)

-- ---- what is asked of a job

-- the jobs that parts name, by the names that were given places
abbrev after_at : Option ℕ → Part → After
after_at place p = record { job = unwrap_or place 0; most = most_of (part_data p).most }

pub after_same : (names : Names) (jobs : List JobData) → ((q : List ℕ) → place_in names q ≡ place_of jobs q) → (parts : List Part)
    → map (λ (p : Part). after_in names (part_data p)) parts ≡ map (after_of jobs) (map part_data parts)
after_same names jobs same [] = refl
after_same names jobs same (p ∷ parts) =
    let first : after_in names (part_data p) ≡ after_of jobs (part_data p) = ap (λ (o : Option ℕ). after_at o p) (same p.name.now) in
    ap (λ x. x ∷ map (λ (q : Part). after_in names (part_data q)) parts) first
    ∙ ap (λ x. after_of jobs (part_data p) ∷ x) (after_same names jobs same parts)

-- the name of a good job is new
pub new_name : (sts : List Statement) (name : List ℕ) (after : List AfterPart) → IsGoodJob sts (jobs_of sts) (JobOf name after)
    → place_of (jobs_of sts) name ≡ None
new_name sts name after g = go (place_of (jobs_of sts) name) g.new where
  go : (o : Option ℕ) → is_some o ≡ false → o ≡ None
  go None e = refl
  go (Some k) e = absurd cc

-- each job weighs something, so a deck has no more of them than it may weigh
pub few_jobs : (n : ℕ) (v : Version) (sts : List Statement) (r : Reading) → IsBehind n v sts r → HasFewJobs r
few_jobs n v sts r b =
    let count : length (jobs_of sts) ≡ length (map job_data r.finished.items) + length (open_job r.name r.after.items r.steps.items) =
    ap length (sym b.jobs) ∙ length-append (map job_data r.finished.items) _ in
    let same : length (map job_data r.finished.items) ≡ length r.finished.items = length-map r.finished.items job_data in
    omega (arith, count, same, b.kept.room)
