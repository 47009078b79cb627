-- What an obtain and a release leave of a philosopher. Used by take_fork and put_fork.
use Rattle.std.proofs.Common.{◌≡◌, ℕ, ◌≤◌, ◌<◌, false, Result, refl, sym, subst, le_refl}
use Rattle.mv_wait.specs.Prelude.latch_form.{Waiting}
use Rattle.mv_wait.specs.Prelude.mode.{Exclusive}
use Rattle.mv_wait.specs.Prelude.{standing, release_cost, Setup, BoardFace, CallerFace, kept_of, obtain, release_latch, Call, entries}
use Rattle.mv_wait.specs.Prelude.{Refusal, IsServed}
use Rattle.mv_wait.proofs.Lists.{all_append, all_map}
use Rattle.mv_wait.specs.LatchCalls.{Requested}
use Rattle.mv_wait.proofs.Compose.{still_served}
use Rattle.mv_attach.proofs.Always.{served_keeps}
use Rattle.mv_attach.proofs.Says.{always_obtain}
use Rattle.mv_ordered.specs.Held.{held, without}
use Rattle.mv_ordered.specs.LatchOrder.{HasLockDiscipline}
use Rattle.mv_ordered.proofs.Calls.{obtain_keeps_discipline, below_held, release_is_plain, release_keeps_discipline, release_holds}
use Rattle.mv_guarded.specs.Guarded.{TakesAlone, AreAlone}
use Rattle.mv_guarded.proofs.Holding.{plain_alone}
use Rattle.mv_dining.specs.Setup.{dining_setup}
use Rattle.mv_dining.specs.Dining.{AreLower, IsDining}

-- a call that keeps the lock discipline, and obtains exclusively what it obtains
still_dining : {A : Type 0} (b : BoardFace) (most : ℕ) (call : Call A) (Is : A → Type 0) (t u : CallerFace)
    → IsServed most call Is t u → (HasLockDiscipline t.log → HasLockDiscipline u.log) → (AreAlone t.log → AreAlone u.log) → IsDining b t
    → IsDining b u
still_dining b most call Is t u s keeps alone r = record {
  config = r.config;
  task = still_served b most call Is t u s r.task;
  rest = s.made.rest;
  number = subst (λ k. k < 4) (sym s.same.number) r.number;
  discipline = keeps r.discipline;
  alone = alone r.alone;
}

-- ---- an obtain

pub obtain_dines : (b : BoardFace) (fork requestor most : ℕ) (Is : Result Requested Refusal → Type 0) (t u : CallerFace)
    → IsServed most (obtain b.config fork requestor Exclusive Waiting) Is t u → AreLower fork (held t.log) → IsDining b t → IsDining b u
obtain_dines b fork requestor most Is t u s lower =
    still_dining b most (obtain b.config fork requestor Exclusive Waiting) Is t u s
    (obtain_keeps_discipline b.config fork requestor most t.number Exclusive Waiting t.log u.log t.told u.told s.answer s.made
    (λ form. below_held fork (standing t.log) lower))
    (λ alone. served_keeps TakesAlone most (obtain b.config fork requestor Exclusive Waiting) Is t u alone s
    (always_obtain TakesAlone b.config fork requestor Exclusive (kept_of t.number t.log) refl (λ id. tt)))

-- ---- a release, which is one event

one_event : (c : Setup) → (meals : ℕ) × (c ≡ dining_setup meals) → release_cost c ≤ 1
one_event c has = subst (λ (s : Setup). release_cost s ≤ 1) (sym has.1) (le_refl 1)

pub release_dines : (b : BoardFace) (latch id : ℕ) (Is : Result ℕ Refusal → Type 0) (t u : CallerFace)
    → IsServed (release_cost b.config) (release_latch b.config latch id false) Is t u → IsDining b t → IsDining b u
release_dines b latch id Is t u s r =
    still_dining b (release_cost b.config) (release_latch b.config latch id false) Is t u s
    (release_keeps_discipline b.config latch id (release_cost b.config) t.number false t.log u.log t.told u.told s.answer s.made
    (one_event b.config r.config))
    (λ alone. subst AreAlone (sym s.made.longer.logged)
    (all_append (λ e. TakesAlone e.object e.op) t.log (entries s.made.events) alone
    (all_map (λ e. plain_alone e.object e.op) (entries s.made.events)
    (release_is_plain b.config latch id (release_cost b.config) t.number false t.log u.log t.told u.told s.answer s.made
    (one_event b.config r.config))))) r

pub release_puts : (b : BoardFace) (latch id : ℕ) (Is : Result ℕ Refusal → Type 0) (t u : CallerFace)
    → IsServed (release_cost b.config) (release_latch b.config latch id false) Is t u → IsDining b t
    → held u.log ≡ without latch id (held t.log)
release_puts b latch id Is t u s r =
    release_holds b.config latch id (release_cost b.config) t.number t.log u.log t.told u.told s.answer s.made (one_event b.config r.config)
