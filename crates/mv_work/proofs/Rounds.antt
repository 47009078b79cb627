-- The rounds of an initiator, wait by wait. Used by initiator.
use Rattle.std.proofs.Common.{◌≡◌, ℕ, zero, suc, ◌+◌, ◌-◌, ◌<◌, ◌==◌, Bool, true, false, List, [], ◌∷◌, ◌++◌, length, get_or, set, sum_by}
use Rattle.std.proofs.Common.{◌||◌, Option, Some, None, Result, refl, sym, ap, ◌∙◌, subst, if◌then◌else◌, arith}
use Rattle.std.specs.List.{AllByRecursion, list_any}
use Rattle.std.proofs.lemmas.Bool.{eq-eqb, ne_eqb, eqb-true}
use Rattle.std.proofs.lemmas.List.{get_or-set_same, get_or-set_other, length-set, map-append}
use Rattle.std.proofs.lemmas.List.Folds.{list_any-append}
use Rattle.std.proofs.lemmas.List.Sums.{sum_by-cons}
use Rattle.mv_board.specs.Faces.{CallerFace}
use Rattle.mv_calls.specs.Endings.{end_of_job}
use Rattle.mv_calls.specs.declared.outcomes.Given.{Given}
use Rattle.mv_calls.specs.Pauses.{deallocate}
use Rattle.mv_calls.specs.Keeping.{kept_of}
use Rattle.mv_calls.specs.Program.{Call, Program, accepted, finished, wrong, followed, unrefused}
use Rattle.mv_calls.specs.Refusal.{Refusal}
use Rattle.mv_deck.specs.Deck.{JobData}
use Rattle.mv_deck.specs.EndCode.{not_run}
use Rattle.mv_plan.proofs.lists.{all_get}
use Rattle.mv_plan.specs.Jobs.{job_at}
use Rattle.mv_plan.specs.SpoolSetup.{done}
use Rattle.mv_plan.specs.SpoolTasks.{Named, named_by, job_named}
use Rattle.mv_wait.specs.Run.{IsServed}
use Rattle.mv_work.specs.declared.initiator.Initiator.{Initiator}
use Rattle.mv_work.specs.declared.stage.Running.{Running}
use Rattle.mv_work.specs.Initiating.{AreGiven, given_then, named_then, jobs_of_records, left_of, rounds_after, steps_then}
use Rattle.mv_work.specs.Noting.{record_of, rounds_noted, steps_noted}
use Rattle.mv_work.specs.Ran.{Ran}
use Rattle.mv_work.specs.Records.{JobRecord}
use Rattle.mv_work.specs.Spool.{SpoolFace}
use Rattle.mv_work.proofs.Calls.{followed-assoc}
use Rattle.mv_work.proofs.Runs.{ran_last, served_as}

-- ---- what was not given yet

pub left_all : (f : JobData → ℕ) (given : List Bool) (jobs : List JobData) → AllByRecursion (λ b. b ≡ false) given
    → length given ≡ length jobs → left_of f given jobs ≡ sum_by f jobs
left_all f [] [] none same = refl
left_all f [] (job ∷ jobs) none same = absurd (cc same)
left_all f (b ∷ given) [] none same = absurd (cc same)
left_all f (false ∷ given) (job ∷ jobs) none same =
    ap (λ n. f job + n) (left_all f given jobs none.1 (omega arith)) ∙ sym (sum_by-cons f job jobs)
left_all f (true ∷ given) (job ∷ jobs) none same = absurd (cc none.0)

-- one more was given
pub left_less : (f : JobData → ℕ) (given : List Bool) (jobs : List JobData) (j : ℕ) (d : Bool) → j < length given
    → length given ≡ length jobs → get_or given j d ≡ false
    → left_of f (set given j true) jobs + f (job_at jobs j) ≡ left_of f given jobs
left_less f [] jobs j d lt same is = absurd (omega arith)
left_less f (b ∷ given) [] j d lt same is = absurd (cc same)
left_less f (false ∷ given) (job ∷ jobs) zero d lt same is = omega arith
left_less f (true ∷ given) (job ∷ jobs) zero d lt same is = absurd (cc is)
left_less f (false ∷ given) (job ∷ jobs) (suc j) d lt same is =
    let rest = left_less f given jobs j d (omega arith) (omega arith) is in omega arith
left_less f (true ∷ given) (job ∷ jobs) (suc j) d lt same is = left_less f given jobs j d (omega arith) (omega arith) is

-- ---- which jobs were given

pub none_given : (given : List Bool) → AllByRecursion (λ b. b ≡ false) given → AreGiven [] given
none_given given none = record { each = λ j lt. sym (all_get (λ b. b ≡ false) given j false none refl) }

-- one more
pub one_given : (before : List ℕ) (given : List Bool) (job : ℕ) → AreGiven before given → job < length given
    → AreGiven (before ++ job ∷ []) (set given job true)
one_given before given job are lt =
    record { each = λ j below. by_case j (let size = length-set given job true in omega arith) (job == j) refl } where
      last : (a b : Bool) → (a || (b || false)) ≡ (if b then true else a)
      last true true = refl
      last true false = refl
      last false true = refl
      last false false = refl

      by_case : (j : ℕ) → j < length given → (b : Bool) → (job == j) ≡ b
          → list_any (λ m. m == j) (before ++ job ∷ []) ≡ get_or (set given job true) j false
      by_case j below true is =
          list_any-append (λ m. m == j) before (job ∷ []) ∙ last (list_any (λ m. m == j) before) (job == j)
          ∙ ap (λ (b : Bool). if b then true else list_any (λ m. m == j) before) is
          ∙ sym (subst (λ k. get_or (set given job true) k false ≡ true) (eqb-true job j is) (get_or-set_same given job true false lt))
      by_case j below false is =
          list_any-append (λ m. m == j) before (job ∷ []) ∙ last (list_any (λ m. m == j) before) (job == j)
          ∙ ap (λ (b : Bool). if b then true else list_any (λ m. m == j) before) is
          ∙ are.each j below ∙ sym (get_or-set_other given job j true false (λ q. absurd (cc (sym is ∙ eq-eqb job j (sym q)))))

-- the jobs of one record more
pub jobs_more : (records : List JobRecord) (r : JobRecord) → jobs_of_records (records ++ r ∷ []) ≡ jobs_of_records records ++ r.job ∷ []
jobs_more records r = map-append (λ (r : JobRecord). r.job) records (r ∷ [])

-- ---- an initiator, in a round

-- what follows a gift
module _ (s : SpoolFace) (me : Initiator) (round : ℕ) (gift : Given) where
  abbrev whole : Call (List JobRecord)
  whole = given_then s me (length s.jobs - round) gift

  -- by code 0 the element is given back, or that is refused
  pub ended : {u v : CallerFace} {a : Result (Unit {0}) Refusal} {q : Program (List JobRecord)} → gift.code ≡ 0
      → IsServed 1 (deallocate s.board.config gift.next) (λ b. b ≡ a) u v
      → unrefused (λ (closed : Unit {0}). finished me.noted.jobs) a (kept_of v.number v.log) ≡ q → Ran whole q u v
  ended {u} {v} {q = q} is x left =
      subst (λ call. Ran call q u v) (sym closing) (ran_last (served_as x) (unrefused (λ (closed : Unit {0}). finished me.noted.jobs)) left)
    where
      closing : whole ≡ accepted (deallocate s.board.config gift.next) (λ closed. finished me.noted.jobs)
      closing = rw (eq-eqb gift.code 0 is) refl

  -- any other code may name a job
  module _ (other : gift.code ≡ 0 → ⊥) where
    names : (o : Option Named) → o ≡ job_named (length s.jobs) gift.code → (m : ℕ) → length s.jobs - round ≡ m
        → whole ≡ named_by o (jobs_of_records me.noted.jobs) m (named_then s me m gift.next)
    names o is m left = by_code ∙ ap (λ m. named_by (job_named (length s.jobs) gift.code) (jobs_of_records me.noted.jobs) m
        (named_then s me m gift.next)) left
        ∙ ap (λ o. named_by o (jobs_of_records me.noted.jobs) m (named_then s me m gift.next)) (sym is) where
          by_code : whole ≡ named_by (job_named (length s.jobs) gift.code) (jobs_of_records me.noted.jobs) (length s.jobs - round)
              (named_then s me (length s.jobs - round) gift.next)
          by_code = rw (ne_eqb gift.code 0 other) refl

    -- it names none
    pub unnamed : None ≡ job_named (length s.jobs) gift.code → whole ≡ wrong
    unnamed none = names None none (length s.jobs - round) refl

    module _ {named : Named} (some : Some named ≡ job_named (length s.jobs) gift.code) where
      -- a job where no round is left for it
      pub last_named : round ≡ length s.jobs → whole ≡ wrong
      last_named is = names (Some named) some 0 (omega arith)

      -- the job may have been given before
      pub named_now : round < length s.jobs → {given : List Bool} → AreGiven (jobs_of_records me.noted.jobs) given
          → named.job < length given → (b : Bool) → get_or given named.job false ≡ b
          → whole ≡ (if b then wrong else named_then s me (rounds_after s round) gift.next named)
      named_now within are place b is =
          names (Some named) some (suc (length s.jobs - (round + 1))) (omega arith)
          ∙ ap (λ (b : Bool). if b then wrong else named_then s me (rounds_after s round) gift.next named)
          (are.each named.job place ∙ is)

-- ---- a job that was named

module _ (s : SpoolFace) (me : Initiator) (r : Running) where
  -- what follows the job's code
  abbrev begun : Bool → Call (List JobRecord)
  begun skipped = named_then s me (rounds_after s r.round.number) r.round.next (record { job = r.job; skipped = skipped })

  -- a job, once its steps are done
  job_ends : (call : Call JobRecord)
      → followed
      (followed call (λ n. followed (end_of_job s.board.config (r.job + 1) (done (length s.jobs) r.job) n.end) (λ counts. finished n)))
      (λ n. rounds_noted s.board.config s.jobs me.index (rounds_after s r.round.number) (me.noted.jobs ++ n ∷ []) r.round.next)
      ≡ followed call (steps_then s me r)
  job_ends call =
      followed-assoc call (λ n. followed (end_of_job s.board.config (r.job + 1) (done (length s.jobs) r.job) n.end) (λ counts. finished n))
      (λ n. rounds_noted s.board.config s.jobs me.index (rounds_after s r.round.number) (me.noted.jobs ++ n ∷ []) r.round.next)
      ∙ ap (followed call) (λ i n. followed-assoc (end_of_job s.board.config (r.job + 1) (done (length s.jobs) r.job) n.end)
      (λ counts. finished n)
      (λ n. rounds_noted s.board.config s.jobs me.index (rounds_after s r.round.number) (me.noted.jobs ++ n ∷ []) r.round.next) i)

  -- it is not to be run
  pub job_skipped : (b : Bool) → b ≡ true → begun b ≡ steps_then s me r (record_of r.job not_run [])
  job_skipped b is = rw is (job_ends (finished (record_of r.job not_run [])))

  -- its steps are to be done
  pub job_begun : (b : Bool) → b ≡ false
      → begun b ≡ followed (steps_noted s.board.config r.job (λ latch. None) 0 [] (job_at s.jobs r.job).steps) (steps_then s me r)
  job_begun b is = rw is (job_ends (steps_noted s.board.config r.job (λ latch. None) 0 [] (job_at s.jobs r.job).steps))
