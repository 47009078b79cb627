-- The ends of jobs and of tasks, as calls within a call. A purge and a post look at nothing that is kept.
use Rattle.std.proofs.Common.{◌≡◌, ℕ, ◌+◌, ◌≤◌, List, [], ◌∷◌, length, Option, Some, None, refl, ap, ◌∙◌, subst, arith}
use Rattle.mv_latch.specs.declared.operation.LatchOp.TheVariants.{Purge}
use Rattle.mv_latch.specs.declared.operation.LatchReply.{LatchReply}
use Rattle.mv_latch.specs.declared.operation.LatchReply.TheVariants as latch_reply
use Rattle.mv_latch.specs.declared.operation.Wake.{Wake}
use Rattle.mv_machine.specs.declared.entry.Object.TheVariants.{Latches}
use Rattle.mv_machine.specs.declared.entry.Op.TheVariants as op_on
use Rattle.mv_config.specs.Reach.{reach, release_cost}
use Rattle.mv_config.specs.Setup.{Setup}
use Rattle.mv_board.specs.Faces.{BoardFace, CallerFace, IsOf}
use Rattle.mv_calls.specs.Endings.{close_all, end_of_job, end_of_task, used_elements}
use Rattle.mv_calls.specs.Keeping.{Kept, kept_of}
use Rattle.mv_calls.specs.LatchCalls.{purge, purged}
use Rattle.mv_calls.specs.declared.outcomes.PostAnswer.{PostAnswer}
use Rattle.mv_calls.specs.declared.outcomes.Purged.{Purged}
use Rattle.mv_calls.specs.Posts.{post, wake_posted, wakes_posted}
use Rattle.mv_calls.specs.Program.{Program, Do, Done, Wrong, and_then, on_latch}
use Rattle.mv_calls.specs.Rest.{IsAtRest}
use Rattle.mv_calls.specs.Services.{mother_events}
use Rattle.mv_wait.specs.Run.{Runs, IsServed, keeps}
use Rattle.mv_wait.proofs.Compose.{runs_and_then, post_within_call}
use Rattle.mv_wait.proofs.Runs.{runs_none, runs_then, runs_within, serves, served_runs}
use Rattle.mv_task.specs.Ending.{ClosesAll}

-- ---- what is kept makes no difference

wakes_same : {A : Type 0} (c : Setup) (ws : List Wake) (kept other : Kept) (last : Program A)
    → wakes_posted c ws kept last ≡ wakes_posted c ws other last
wakes_same c [] kept other last = refl
wakes_same c (w ∷ ws) kept other last = go w.ecb (wakes_same c ws kept other last) where
  go : (e : Option ℕ) → wakes_posted c ws kept last ≡ wakes_posted c ws other last
      → wake_posted c e w.code kept (wakes_posted c ws kept last) ≡ wake_posted c e w.code other (wakes_posted c ws other last)
  go None same = same
  go (Some e) same = ap (λ q. and_then (post c e w.code kept) (λ p. q)) same

purged_same : (c : Setup) (ws : List Wake) (kept other : Kept) (r : LatchReply) → purged c ws kept r ≡ purged c ws other r
purged_same c ws kept other (latch_reply.Purged removed granted) =
    wakes_same c ws kept other (Done (record { removed = removed; granted = granted }))
purged_same c ws kept other r = refl

purge_same : (c : Setup) (requestor : ℕ) (kept other : Kept) → purge c requestor kept ≡ purge c requestor other
purge_same c requestor kept other =
    λ i. Do Latches (op_on.Latch (Purge requestor)) (λ h. on_latch h.entry.reply (λ r. purged_same c h.wakes kept other r i))

job_same : (c : Setup) (requestor e code : ℕ) (kept other : Kept)
    → end_of_job c requestor e code kept ≡ end_of_job c requestor e code other
job_same c requestor e code kept other =
    ap (λ q. and_then q (λ counts. wake_posted c (Some e) code kept (Done counts))) (purge_same c requestor kept other)

-- ---- the end of a job

pub job_served : (c : Setup) (requestor e code : ℕ) (Is : Purged → Type 0) (IsPost : PostAnswer → Type 0) (t v u : CallerFace)
    → IsServed (release_cost c) (purge c requestor) Is t v → IsServed (reach c e) (post c e code) IsPost v u
    → IsServed (release_cost c + reach c e) (end_of_job c requestor e code) Is t u
job_served c requestor e code Is IsPost t v u x y =
    let kept = kept_of t.number t.log in
    let last = wake_posted c (Some e) code kept (Done x.answer) in
    serves (release_cost c + reach c e) (end_of_job c requestor e code) Is t u x.answer x.made.began x.is
    (runs_and_then (release_cost c) (reach c e) (purge c requestor kept) (λ counts. wake_posted c (Some e) code kept (Done counts))
    x.answer (Done x.answer) t v u (served_runs (release_cost c) (purge c requestor) Is t v x)
    (runs_within (reach c e + 0) (reach c e) last (Done x.answer) v u (omega arith)
    (post_within_call c e code 0 kept IsPost (Done x.answer) (Done x.answer) v u u y (runs_none (Done x.answer) u))))
    y.made.rest

-- ---- the end of a task

-- its own elements were closed, and then what follows was done
module _ (c : Setup) (requestor code : ℕ) (Is : Purged → Type 0) (t v u : CallerFace) where
  with_closes : (most : ℕ) (mother : Option ℕ) (a : Purged) → ClosesAll c t v → IsAtRest t.log
      → Runs most (and_then (purge c requestor (keeps t)) (λ counts. wake_posted c mother code (keeps t) (Done counts))) (Done a) v u
      → release_cost c + mother_events c mother ≡ most → IsAtRest u.log → Is a
      → IsServed (length (used_elements c (keeps t)) + release_cost c + mother_events c mother) (end_of_task c requestor mother code) Is t u
  with_closes most mother a closes began runs fits rest is =
      let p = and_then (purge c requestor (keeps t)) (λ counts. wake_posted c mother code (keeps t) (Done counts)) in
      let count = length (used_elements c (keeps t)) in
      serves (count + release_cost c + mother_events c mother) (end_of_task c requestor mother code) Is t u a began is
      (runs_within (count + most) (count + release_cost c + mother_events c mother) (close_all (keeps t) (used_elements c (keeps t)) p)
      (Done a) t u (omega arith)
      (runs_then count most (close_all (keeps t) (used_elements c (keeps t)) p) p (Done a) t v u (closes p) runs))
      rest

  -- one with a mother ends as a job does
  pub mother_served : (e : ℕ) → ClosesAll c t v → IsAtRest t.log
      → IsServed (release_cost c + reach c e) (end_of_job c requestor e code) Is v u
      → IsServed (length (used_elements c (keeps t)) + release_cost c + mother_events c (Some e)) (end_of_task c requestor (Some e) code)
      Is t u
  mother_served e closes began x =
      with_closes (release_cost c + reach c e) (Some e) x.answer closes began
      (subst (λ q. Runs (release_cost c + reach c e) q (Done x.answer) v u) (job_same c requestor e code (keeps v) (keeps t))
      (served_runs (release_cost c + reach c e) (end_of_job c requestor e code) Is v u x))
      refl x.made.rest x.is

  -- one without ends with its purge
  pub orphan_served : ClosesAll c t v → IsAtRest t.log → IsServed (release_cost c) (purge c requestor) Is v u
      → IsServed (length (used_elements c (keeps t)) + release_cost c + mother_events c None) (end_of_task c requestor None code) Is t u
  orphan_served closes began x =
      with_closes (release_cost c + 0) None x.answer closes began
      (runs_and_then (release_cost c) 0 (purge c requestor (keeps t)) (λ counts. Done counts) x.answer (Done x.answer) v u u
      (subst (λ q. Runs (release_cost c) q (Done x.answer) v u) (purge_same c requestor (keeps v) (keeps t))
      (served_runs (release_cost c) (purge c requestor) Is v u x))
      (runs_none (Done x.answer) u))
      refl x.made.rest x.is

-- ---- what is left after the closes

pub left_behind : (c : Setup) (most : ℕ) (t v : CallerFace) → ClosesAll c t v → length (used_elements c (keeps t)) + most ≤ t.left
    → most ≤ v.left
left_behind c most t v closes le =
    let any = closes Wrong in let less = any.went.left in let few = any.few in omega arith

pub still_of : (b : BoardFace) (c : Setup) (t v : CallerFace) → ClosesAll c t v → IsOf b t → IsOf b v
still_of b c t v closes of = let same = (closes Wrong).went.same in (same.table ∙ of.0, same.about ∙ of.1)
