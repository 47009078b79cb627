-- A release and a purge, by what their event was answered.
use Rattle.std.proofs.Common.{◌≡◌, ℕ, ◌+◌, ◌≤◌, Bool, true, List, Result, Ok, Err, refl, sym, ap, subst, arith}
use Rattle.mv_latch.specs.declared.operation.LatchOp.TheVariants.{Release, Purge}
use Rattle.mv_latch.specs.declared.operation.LatchReply.{LatchReply}
use Rattle.mv_latch.specs.declared.operation.LatchReply.TheVariants as latch_reply
use Rattle.mv_latch.specs.declared.operation.Wake.{Wake}
use Rattle.mv_machine.specs.Parts.{IsPossible}
use Rattle.mv_config.specs.Reach.{reach, release_cost, total}
use Rattle.mv_config.specs.Setup.{Setup}
use Rattle.mv_machine.specs.Waking.{AreFairWakes, blocks_of}
use Rattle.mv_board.specs.Faces.{CallerFace}
use Rattle.mv_calls.specs.declared.outcomes.Purged.{Purged}
use Rattle.mv_calls.specs.Keeping.{kept_of}
use Rattle.mv_calls.specs.LatchCalls.{release_latch, let_go, purge, purged}
use Rattle.mv_calls.specs.Posts.{wakes_posted}
use Rattle.mv_calls.specs.Program.{Program, Done}
use Rattle.mv_calls.specs.Refusal.{Refusal}
use Rattle.mv_calls.specs.Refusal as refusal
use Rattle.mv_calls.specs.Rest.{IsAtRest}
use Rattle.mv_wait.specs.Run.{Runs, IsServed}
use Rattle.mv_wait.proofs.LatchSteps.{latch_runs}
use Rattle.mv_wait.proofs.Runs.{runs_then, runs_within, serves}
use Rattle.mv_latchset.specs.declared.releasing.ReleaseLatchRefusal.{ReleaseLatchRefusal}
use Rattle.mv_latchset.specs.declared.releasing.ReleaseLatchRefusal.TheVariants as refused
use Rattle.mv_latchset.specs.Answers.{freed_answer}
use Rattle.mv_latchset.specs.Obtaining.{IsAnswered}
use Rattle.mv_latchset.specs.Releasing.{IsReleasedBy}
use Rattle.mv_latchset.specs.Replies.{release_reply}
use Rattle.mv_latchset.specs.Waking.{PostsWakes}
use Rattle.mv_latchset.proofs.Answering.{waits_conditionally}
use Rattle.mv_latchset.proofs.Resting.{release_rests}
use Rattle.mv_latchset.proofs.Wakes.{posts_then}

-- a release costs an event at least
pub costs_one : (c : Setup) → 1 ≤ release_cost c
costs_one c = omega arith

-- what is left for the posts of its wakes
pub left_for_wakes : (c : Setup) (ws : List Wake) (before after : ℕ) → AreFairWakes c ws → release_cost c ≤ before → before ≤ 524287
    → after + 1 ≡ before → total (reach c) (blocks_of ws) ≤ after
left_for_wakes c ws before after fair cost few less = let most = fair.cost (omega arith) in omega arith

-- an event, and the posts of the wakes that it showed
told_runs : {A : Type 0} (c : Setup) (p : Program A) (last : Program A) (t v u : CallerFace) (n : ℕ)
    → Runs 1 p (wakes_posted c v.wakes (kept_of t.number t.log) last) t v → PostsWakes c v.wakes v u
    → total (reach c) (blocks_of v.wakes) + 1 ≤ n → Runs n p last t u
told_runs c p last t v u n one posts fits =
    let kept = kept_of t.number t.log in
    runs_within (1 + total (reach c) (blocks_of v.wakes)) n p last t u (omega arith)
    (runs_then 1 (total (reach c) (blocks_of v.wakes)) p (wakes_posted c v.wakes kept last) last t v u one
    (posts_then c v.wakes kept last v u posts))

module _ (c : Setup) (latch id : ℕ) (conditional : Bool) where
  -- the program, for a task
  abbrev release : CallerFace → List Wake → LatchReply → Program (Result ℕ Refusal)
  release t ws r = let_go c conditional ws (kept_of t.number t.log) r

  -- released, and those were told whom it grants
  pub released_served : (Is : Result ℕ Refusal → Type 0) (t v u : CallerFace) (granted : ℕ)
      → IsAnswered (Release latch id conditional) (latch_reply.Released granted) t v → PostsWakes c v.wakes v u
      → total (reach c) (blocks_of v.wakes) + 1 ≤ release_cost c → IsAtRest t.log → IsAtRest u.log → Is (Ok granted)
      → IsServed (release_cost c) (release_latch c latch id conditional) Is t u
  released_served Is t v u granted h posts fits began rest is =
      serves (release_cost c) (release_latch c latch id conditional) Is t u (Ok granted) began is
      (told_runs c (release_latch c latch id conditional (kept_of t.number t.log)) (Done (Ok granted)) t v u (release_cost c)
      (latch_runs (release t) (wakes_posted c v.wakes (kept_of t.number t.log) (Done (Ok granted))) t v
      (Release latch id conditional) (latch_reply.Released granted) h refl) posts fits)
      rest

  -- one that is refused by its reply
  refused_by_reply : (Is : Result ℕ Refusal → Type 0) (t u : CallerFace) (r : LatchReply)
      (why : Refusal) → IsAnswered (Release latch id conditional) r t u
      → let_go c conditional u.wakes (kept_of t.number t.log) r ≡ Done (Err why) → IsAtRest t.log → Is (Err why)
      → IsServed (release_cost c) (release_latch c latch id conditional) Is t u
  refused_by_reply Is t u r why h goes began is =
      serves (release_cost c) (release_latch c latch id conditional) Is t u (Err why) began is
      (runs_within 1 (release_cost c) (release_latch c latch id conditional (kept_of t.number t.log)) (Done (Err why)) t u (costs_one c)
      (latch_runs (release t) (Done (Err why)) t u (Release latch id conditional) r h goes))
      (release_rests t u latch id conditional r h began)

  -- no such request
  pub gone_served : (Is : Result ℕ Refusal → Type 0) (t u : CallerFace)
      → IsAnswered (Release latch id conditional) latch_reply.Gone t u → IsAtRest t.log → Is (Err refusal.Gone)
      → IsServed (release_cost c) (release_latch c latch id conditional) Is t u
  gone_served Is t u h began is = refused_by_reply Is t u latch_reply.Gone refusal.Gone h refl began is

  -- a request that waits, and was to be left then
  pub waiting_served : (Is : Result ℕ Refusal → Type 0) (t u : CallerFace) → conditional ≡ true
      → IsAnswered (Release latch id conditional) latch_reply.Waiting t u → IsAtRest t.log → Is (Err refusal.StillWaiting)
      → IsServed (release_cost c) (release_latch c latch id conditional) Is t u
  waiting_served Is t u so h began is = refused_by_reply Is t u latch_reply.Waiting refusal.StillWaiting h
      (ap (λ b. let_go c b u.wakes (kept_of t.number t.log) latch_reply.Waiting) so) began is

  -- why a release was refused is its reply
  pub refusal_served : (t u : CallerFace) (why : ReleaseLatchRefusal) (result : Result ℕ ReleaseLatchRefusal) → result ≡ Err why
      → IsAnswered (Release latch id conditional) (release_reply (Err why)) t u → IsPossible c u.number u.log u.told → IsAtRest t.log
      → IsServed (release_cost c) (release_latch c latch id conditional) (λ a. a ≡ freed_answer result) t u
  refusal_served t u refused.Gone result is h may began = gone_served (λ a. a ≡ freed_answer result) t u h began
      (sym (ap freed_answer is))
  refusal_served t u refused.StillWaiting result is h may began = waiting_served (λ a. a ≡ freed_answer result) t u
      (waits_conditionally c t u latch id conditional h may) h began (sym (ap freed_answer is))

  pub refusal_is_by : (t u : CallerFace) (why : ReleaseLatchRefusal) (result : Result ℕ ReleaseLatchRefusal) → result ≡ Err why
      → IsAnswered (Release latch id conditional) (release_reply (Err why)) t u → IsPossible c u.number u.log u.told
      → IsReleasedBy c latch id conditional t result u
  refusal_is_by t u refused.Gone result is h may = subst (λ r. IsReleasedBy c latch id conditional t r u) (sym is) h
  refusal_is_by t u refused.StillWaiting result is h may = subst (λ r. IsReleasedBy c latch id conditional t r u) (sym is)
      (waits_conditionally c t u latch id conditional h may, h)

-- a purge, and those were told whom it took out or grants
pub purge_served : (c : Setup) (requestor : ℕ) (Is : Purged → Type 0) (t v u : CallerFace) (removed granted : ℕ)
    → IsAnswered (Purge requestor) (latch_reply.Purged removed granted) t v → PostsWakes c v.wakes v u
    → total (reach c) (blocks_of v.wakes) + 1 ≤ release_cost c → IsAtRest t.log → IsAtRest u.log
    → Is (record { removed = removed; granted = granted }) → IsServed (release_cost c) (purge c requestor) Is t u
purge_served c requestor Is t v u removed granted h posts fits began rest is =
    let counts : Purged = record { removed = removed; granted = granted } in
    serves (release_cost c) (purge c requestor) Is t u counts began is
    (told_runs c (purge c requestor (kept_of t.number t.log)) (Done counts) t v u (release_cost c)
    (latch_runs (λ ws r. purged c ws (kept_of t.number t.log) r) (wakes_posted c v.wakes (kept_of t.number t.log) (Done counts)) t v
    (Purge requestor) (latch_reply.Purged removed granted) h refl) posts fits)
    rest
