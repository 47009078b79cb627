-- How the scheduler hands out the jobs, wait by wait.
use Rattle.std.proofs.Common.{◌≡◌, ℕ, ◌+◌, ◌*◌, ◌-◌, ◌<◌, ◌≤◌, ◌==◌, zero, suc, Bool, true, false, List, [], ◌∷◌, length, drop}
use Rattle.std.proofs.Common.{refl, sym, ap, ◌∙◌, arith}
use Rattle.std.specs.List.{range_with_len}
use Rattle.std.proofs.lemmas.Bool.{eqb-true}
use Rattle.std.proofs.Math.Nat.{suc-mul}
use Rattle.std.proofs.lemmas.List.{drop_more, drop_all}
use Rattle.std.proofs.lemmas.List.Sums.{sum_by-cons}
use Rattle.mv_board.specs.Faces.{CallerFace}
use Rattle.mv_calls.specs.Program.{Call, Done, Wrong, accepted, finished, followed, for_each}
use Rattle.mv_calls.specs.Waits.{extend, wait}
use Rattle.mv_calls.specs.declared.outcomes.WaitSlot.{WaitSlot}
use Rattle.mv_deck.specs.declared.deck.After.{After}
use Rattle.mv_deck.specs.Deck.{JobData}
use Rattle.mv_deck.specs.Weight.{after_parts}
use Rattle.mv_plan.specs.Jobs.{job_at, no_job}
use Rattle.mv_plan.specs.SpoolSetup.{done}
use Rattle.mv_plan.specs.SpoolTasks.{dispatch_all, dismiss, ends_awaited, ends_of, some_end_above, lowest}
use Rattle.mv_work.specs.declared.need.Blocks.{Blocks}
use Rattle.mv_work.specs.declared.need.Need.TheVariants as need
use Rattle.mv_work.specs.declared.stage.SchedulerStage.TheVariants as stage
use Rattle.mv_work.specs.Needs.{IsWaitFor, need_call}
use Rattle.mv_work.specs.Parts.{lowest_complete}
use Rattle.mv_work.specs.Ran.{Ran, Leads}
use Rattle.mv_work.specs.Scheduling.{scheduler_left, jobs_from, jobs_due, dismissals_from, first_idle, exit_set}
use Rattle.mv_work.specs.Scheduling.{then_jobs}
use Rattle.mv_work.specs.Spool.{SpoolFace}
use Rattle.mv_work.proofs.Calls.{accepted-assoc, blocks_asked_in, found_is}
use Rattle.mv_work.proofs.Runs.{leads_astray, leads_on}
use Rattle.mv_work.proofs.Waits.{leads_as}

-- ---- what is asked for

-- the ends of the jobs that a job waits for
pub ends_asked : (s : SpoolFace) (j : ℕ) {b : Blocks} → 0 < length (job_at s.jobs j).after
    → IsWaitFor (length (job_at s.jobs j).after) (ends_of (length s.jobs) (job_at s.jobs j).after) b
    → then_jobs s j (ends_awaited s.board.config (length s.jobs) (job_at s.jobs j).after (exit_set s j))
    ≡ followed (need_call s.board.config (need.Blocks b)) (scheduler_left s (stage.Ends j))
ends_asked s j some is = ap (then_jobs s j) (awaited (job_at s.jobs j).after some) ∙ blocks_asked_in s.board.config is _ _ where
  awaited : (parts : List After) → 0 < length parts
      → ends_awaited s.board.config (length s.jobs) parts (exit_set s j)
      ≡ accepted (wait s.board.config (length parts) (ends_of (length s.jobs) parts)) (λ slots. exit_set s j (some_end_above parts slots))
  awaited [] some = absurd (omega arith)
  awaited (part ∷ parts) some = refl

-- behind the last job the initiators are dismissed
pub jobs_over : (s : SpoolFace) (j : ℕ) → length s.jobs ≤ j → jobs_from s j ≡ dismissals_from s 0
jobs_over s j le =
    let n = length s.jobs in
    let i = s.initiators in
    let last = dismiss s.board.config n in
    ap (λ js. dispatch_all s.board.config n i j js (for_each (range_with_len 0 i) last (finished []))) (drop_all j s.jobs le)
    ∙ ap (λ m. for_each (range_with_len 0 m) last (finished [])) (let e : i ≡ i - 0 = omega arith in e)

-- the exit of a job is set, and then an initiator is waited for
pub exit_first : (s : SpoolFace) (j : ℕ) (skipped : Bool) → then_jobs s j (exit_set s j skipped)
    ≡ accepted (extend s.board.config (done (length s.jobs) j) (j + 1)) (λ (linked : Unit {0}). then_jobs s j (first_idle s j skipped))
exit_first s j skipped = accepted-assoc (extend s.board.config (done (length s.jobs) j) (j + 1))
    (λ (linked : Unit {0}). first_idle s j skipped) (λ (handed : Unit {0}). jobs_from s (j + 1))

-- ---- what was found

-- the call of what was found was made, or went astray
module _ {A B : Type 0} (slots : List WaitSlot) (f : ℕ → ℕ → Call A) (later : A → Call B) {u v : CallerFace} (r : ℕ × ℕ)
    (is : lowest_complete 0 slots ≡ finished r) where
  pub found_done : {a : A} → Ran (f r.0 r.1) (Done a) u v → Leads (followed (lowest f 0 slots) later) (later a) u v
  found_done x = leads_on later (leads_as u (found_is slots f later is)) x

  pub found_astray : Ran (f r.0 r.1) Wrong u v → Ran (followed (lowest f 0 slots) later) Wrong u v
  found_astray x = leads_astray later (leads_as u (found_is slots f later is)) x

-- there is no job to wait for
pub is_none : {A : Type 0} (xs : List A) → true ≡ (length xs == 0) → xs ≡ []
is_none [] is = refl
is_none (x ∷ xs) is = absurd (let e : length (x ∷ xs) ≡ 0 = eqb-true (length (x ∷ xs)) 0 (sym is) in omega arith)

pub is_some : (n : ℕ) → false ≡ (n == 0) → 0 < n
is_some zero is = absurd (cc is)
is_some (suc n) is = omega arith

-- ---- events

-- those from a job on
pub due_next : (s : SpoolFace) (j : ℕ) → j < length s.jobs
    → jobs_due s j ≡ 5 + 2 * length (job_at s.jobs j).after + 2 * s.initiators + jobs_due s (j + 1)
due_next s j lt =
    let n = length s.jobs in
    let i = s.initiators in
    let product : (n - j) * i ≡ (n - (j + 1)) * i + i =
    ap (λ k. k * i) (let e : n - j ≡ suc (n - (j + 1)) = omega arith in e) ∙ suc-mul (n - (j + 1)) i in
    let parts : after_parts (drop j s.jobs) ≡ length (job_at s.jobs j).after + after_parts (drop (j + 1) s.jobs) =
    ap after_parts (drop_more s.jobs j no_job lt)
    ∙ sum_by-cons (λ (job : JobData). length job.after) (job_at s.jobs j) (drop (j + 1) s.jobs) in omega arith

-- behind the last, those of the dismissals
pub due_over : (s : SpoolFace) (j : ℕ) → length s.jobs ≤ j → 4 * (s.initiators - 0) ≤ jobs_due s j
due_over s j le = omega arith
