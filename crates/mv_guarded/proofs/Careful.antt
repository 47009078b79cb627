-- A task that keeps a rule and the lock discipline, before and after a call. For programs.
use Rattle.std.proofs.Common.{◌≡◌, ℕ, List, [], ◌∷◌, ◌++◌, sym, subst, le_refl}
use Rattle.mv_machine.specs.declared.entry.Entry.{Entry}
use Rattle.mv_machine.specs.declared.entry.Object.{Object}
use Rattle.mv_machine.specs.declared.entry.Op.{Op}
use Rattle.mv_board.specs.Faces.{BoardFace, CallerFace, IsFresh}
use Rattle.mv_calls.specs.Keeping.{kept_of}
use Rattle.mv_calls.specs.Program.{Call}
use Rattle.mv_wait.specs.Run.{IsServed}
use Rattle.mv_wait.proofs.Compose.{may_fresh, still_served}
use Rattle.mv_attach.proofs.Always.{Always, Grown}
use Rattle.mv_ordered.specs.LatchOrder.{HasLockDiscipline}
use Rattle.mv_ordered.proofs.Calls.{IsPlain, new_keeps_discipline}
use Rattle.mv_guarded.specs.Guarded.{Keeps, IsCareful}
use Rattle.mv_guarded.proofs.Holding.{plain_keeps_discipline}
use Rattle.mv_guarded.proofs.Quiet.{IsCalm, IsQuiet, quiet_keeps}
use Rattle.mv_guarded.proofs.Rules.{keeps_event, keeps_while}

module _ (rule : ℕ → List Entry → Object → Op → Type 0) (b : BoardFace) where
  -- a new task
  pub careful_fresh : (k : ℕ) (t : CallerFace) → IsFresh b k t → IsCareful rule b t
  careful_fresh k t new = record {
    task = new.board;
    rest = (may_fresh b k t.left t new (le_refl t.left)).rest;
    allowed = subst (Keeps rule t.number []) (sym new.log) tt;
    discipline = new_keeps_discipline t.log new.log;
  }

  -- a call of one event that the rule allows, and that neither obtains nor waits
  pub careful_event : {A : Type 0} (call : Call A) (Is : A → Type 0) (e : Entry) (t u : CallerFace) → IsServed 1 call Is t u
      → Always (λ o op. IsPlain op) (call (kept_of t.number t.log)) → u.log ≡ t.log ++ e ∷ [] → rule t.number t.log e.object e.op
      → IsCareful rule b t → IsCareful rule b u
  careful_event call Is e t u s plain logged may r = record {
    task = still_served b 1 call Is t u s r.task;
    rest = s.made.rest;
    allowed = keeps_event rule t u e s.same.number logged may r.allowed;
    discipline = plain_keeps_discipline 1 call Is t u s plain r.discipline;
  }

  -- a call that keeps the discipline, and makes entries before each of which something holds that they keep, and by which the rule allows them
  pub careful_while : {A : Type 0} (P : Object → Op → Type 0) (I : List Entry → Type 0)
      → ((k : ℕ) (log : List Entry) (e : Entry) → I log → P e.object e.op → rule k log e.object e.op × I (log ++ e ∷ []))
      → (most : ℕ) (call : Call A) (Is : A → Type 0) (t u : CallerFace) → IsServed most call Is t u → Grown P t u
      → (HasLockDiscipline t.log → HasLockDiscipline u.log) → I t.log → IsCareful rule b t → IsCareful rule b u × I u.log
  careful_while P I may most call Is t u s grown keeps now r =
      let kept = keeps_while rule t.number P I (may t.number) t.log grown.more r.allowed now grown.each in (
        record {
          task = still_served b most call Is t u s r.task;
          rest = s.made.rest;
          allowed = subst (λ k. Keeps rule k [] u.log) (sym s.same.number) (subst (Keeps rule t.number []) (sym grown.logged) kept.0);
          discipline = keeps r.discipline;
        },
        subst I (sym grown.logged) kept.1,
      )

  -- a quiet call, if the rule allows calm entries at any time
  pub careful_quiet : {A : Type 0} → ((k : ℕ) (log : List Entry) (o : Object) (op : Op) → IsCalm o op → rule k log o op)
      → (most : ℕ) (call : Call A) (Is : A → Type 0) (t u : CallerFace) → IsServed most call Is t u → IsQuiet t u → IsCareful rule b t
      → IsCareful rule b u
  careful_quiet may most call Is t u s q r = record {
    task = still_served b most call Is t u s r.task;
    rest = s.made.rest;
    allowed = quiet_keeps rule may t u s.same.number q r.allowed;
    discipline = q.keeps r.discipline;
  }
