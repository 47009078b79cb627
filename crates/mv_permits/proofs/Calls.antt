-- What a call leaves of its task. Used by the functions that make one call.
use Rattle.std.proofs.Common.{◌≡◌, ℕ, zero, suc, ◌+◌, ◌≤◌, ◌<◌, [], ◌∷◌, Result, refl, sym, ap, ◌∙◌, subst, arith, le_refl, false, not}
use Rattle.mv_wait.specs.Prelude.latch_form.{Waiting}
use Rattle.mv_wait.specs.Prelude.mode.{Exclusive}
use Rattle.mv_wait.specs.Prelude.{Volume, release_cost, Setup, owner_of, BoardFace, CallerFace, kept_of, obtain, release_latch, Call}
use Rattle.mv_wait.specs.Prelude.{Refusal, read_volume, write_volume, IsServed}
use Rattle.mv_wait.specs.LatchCalls.{Requested}
use Rattle.mv_wait.proofs.Compose.{still_served}
use Rattle.mv_attach.proofs.Says.{always_write}
use Rattle.mv_ordered.specs.Held.{held}
use Rattle.mv_ordered.proofs.Calls.{IsPlain}
use Rattle.mv_guarded.specs.Guarded.{HoldsLatch}
use Rattle.mv_guarded.proofs.Holding.{read_inside, wrote_one, plain_keeps_discipline, read_held, write_held}
use Rattle.mv_guarded.proofs.Quiet.{IsQuiet, obtain_is_quiet, release_is_quiet, read_is_quiet, quiet_keeps}
use Rattle.mv_guarded.proofs.Rules.{keeps_event}
use Rattle.mv_permits.specs.Setup.{pool_setup}
use Rattle.mv_permits.specs.Permits.{Moves, IsMove, IsAllowed, IsPooled, has_permit, given_back, one}
use Rattle.mv_permits.proofs.Logs.{calm_allowed, calm_permit, permit-append, calm_given, given-append, write_gives}

-- a release is one event
pub cheap : (c : Setup) → (tries : ℕ) × (c ≡ pool_setup tries) → release_cost c ≤ 1
cheap c has = subst (λ (s : Setup). release_cost s ≤ 1) (sym has.1) (le_refl 1)

-- ---- calls that write nothing and purge no requestor, and keep the lock discipline

-- each task may have one request
pub obtain_quiet : (b : BoardFace) (requestor most : ℕ) (Is : Result Requested Refusal → Type 0) (t u : CallerFace)
    → IsServed most (obtain b.config 0 requestor Exclusive Waiting) Is t u → IsPooled b t → IsQuiet t u
obtain_quiet b requestor most Is t u s r =
    obtain_is_quiet b.config 0 requestor most Exclusive Is t u s (subst (λ (c : Setup). c.quota ≤ 1) (sym r.config.1) (le_refl 1))

pub release_quiet : (b : BoardFace) (latch id : ℕ) (Is : Result ℕ Refusal → Type 0) (t u : CallerFace)
    → IsServed (release_cost b.config) (release_latch b.config latch id false) Is t u → IsPooled b t → IsQuiet t u
release_quiet b latch id Is t u s r = release_is_quiet b.config latch id Is t u s (cheap b.config r.config)

-- there are no exits
pub no_exits : (c : Setup) → (tries : ℕ) × (c ≡ pool_setup tries) → c.exits ≡ []
no_exits c has = ap (λ (s : Setup). s.exits) has.1

-- the block by which a worker is let go on is its own
workers_block : (tries w : ℕ) → w < 3 → owner_of (pool_setup tries) (3 + w) ≡ w
workers_block tries zero lt = refl
workers_block tries (suc zero) lt = refl
workers_block tries (suc (suc zero)) lt = refl
workers_block tries (suc (suc (suc w))) lt = absurd (omega arith)

pub own_block : (c : Setup) (w : ℕ) → (tries : ℕ) × (c ≡ pool_setup tries) → w < 3 → owner_of c (3 + w) ≡ w
own_block c w has lt = ap (λ (s : Setup). owner_of s (3 + w)) has.1 ∙ workers_block has.0 w lt

-- ---- the task after them

pub still_pooled : {A : Type 0} (b : BoardFace) (most : ℕ) (call : Call A) (Is : A → Type 0) (t u : CallerFace)
    → IsServed most call Is t u → IsQuiet t u → IsPooled b t → IsPooled b u
still_pooled b most call Is t u s q r = record {
  config = r.config;
  task = still_served b most call Is t u s r.task;
  rest = s.made.rest;
  allowed = quiet_keeps IsAllowed calm_allowed t u s.same.number q r.allowed;
  discipline = q.keeps r.discipline;
}

pub same_permit : (t u : CallerFace) → IsQuiet t u → has_permit u.log ≡ has_permit t.log
same_permit t u q = ap has_permit q.grown.logged ∙ calm_permit t.log q.grown.more q.grown.each

pub same_given : (t u : CallerFace) → IsQuiet t u → given_back u.log ≡ given_back t.log
same_given t u q = ap given_back q.grown.logged ∙ calm_given t.log q.grown.more q.grown.each

-- ---- a move

-- what a read and a write leave: a permit was taken or given back
pub record HasMoved (b : BoardFace) (t v : CallerFace) : Type 0 where
  pub ready : IsPooled b v
  pub permit : has_permit v.log ≡ not (has_permit t.log)
  pub given : given_back v.log ≡ given_back t.log + one (has_permit t.log)
  pub has : held v.log ≡ held t.log

pub moves_permit : (b : BoardFace) (x y : ℕ) (Is : Unit {0} → Type 0) (t u v : CallerFace) → IsPooled b t
    → HoldsLatch 0 Exclusive t.number t.log → IsServed 1 (read_volume 0) (λ a. a ≡ x) t u → IsServed 1 (write_volume 0 y) Is u v
    → Moves (has_permit t.log) x y → HasMoved b t v
moves_permit b x y Is t u v r holds read written moves =
    let quiet = read_is_quiet 0 x t u read in
    let now = still_pooled b 1 (read_volume 0) (λ a. a ≡ x) t u read quiet r in
    let two = wrote_one 0 y Is u v written in
    let e = two.heard.entry in
    let same = same_permit t u quiet in
    let seen = read_inside 0 0 x Exclusive t u holds read in
    let move : IsMove u.number 0 y u.log = record {
      here = refl;
      holds = seen.0;
      old = x;
      read = seen.1;
      moves = subst (λ has. Moves has x y) (sym same) moves;
    } in
    record {
      ready = record {
        config = now.config;
        task = still_served b 1 (write_volume 0 y) Is u v written now.task;
        rest = written.made.rest;
        allowed = keeps_event IsAllowed u v e written.same.number two.logged
            (subst (λ o. IsAllowed u.number u.log o e.op) (sym two.object)
            (subst (λ op. IsAllowed u.number u.log (Volume 0) op) (sym two.makes) move)) now.allowed;
        discipline = plain_keeps_discipline 1 (write_volume 0 y) Is u v written
            (always_write (λ o op. IsPlain op) 0 y (kept_of u.number u.log) tt) now.discipline;
      };
      permit = ap has_permit two.logged ∙ permit-append false u.log (e ∷ []) ∙ rw (two.object, two.makes) (ap not same);
      given = ap given_back two.logged ∙ given-append false u.log (e ∷ [])
          ∙ (λ i. same_given t u quiet i + (write_gives (has_permit u.log) 0 y e two.object two.makes ∙ ap one same) i);
      has = write_held 0 y Is u v written ∙ read_held 0 x t u read;
    }
