-- Calls that write no volume and purge no requestor, and keep the lock discipline: what a task's log keeps over them. For programs.
use Rattle.std.proofs.Common.{◌≡◌, ℕ, ◌≤◌, ◌-◌, ◌&&◌, nat_lt, Bool, true, false, List, [], ◌∷◌, None, Result, slice_get, refl, sym, ◌∙◌}
use Rattle.std.proofs.Common.{subst}
use Rattle.std.proofs.lemmas.Bool.{false≢true}
use Rattle.std.specs.List.{AllByRecursion}
use Rattle.mv_latch.specs.declared.operation.LatchOp.TheVariants.{Release, Purge}
use Rattle.mv_latch.specs.declared.request.LatchForm.TheVariants.{Waiting}
use Rattle.mv_latch.specs.declared.request.Mode.{Mode}
use Rattle.mv_machine.specs.declared.entry.Entry.{Entry}
use Rattle.mv_machine.specs.declared.entry.Object.{Object}
use Rattle.mv_machine.specs.declared.entry.Object.TheVariants.{Latches}
use Rattle.mv_machine.specs.declared.entry.Op.{Op}
use Rattle.mv_machine.specs.declared.entry.Op.TheVariants as op_on
use Rattle.mv_machine.specs.declared.entry.VolumeOp.TheVariants.{Write}
use Rattle.mv_config.specs.Reach.{release_cost}
use Rattle.mv_config.specs.Setup.{Setup, starts_from}
use Rattle.mv_board.specs.Faces.{CallerFace}
use Rattle.mv_calls.specs.declared.outcomes.PostAnswer.{PostAnswer}
use Rattle.mv_calls.specs.Exits.{StartsExit}
use Rattle.mv_calls.specs.Keeping.{kept_of}
use Rattle.mv_calls.specs.LatchCalls.{Requested, obtain, release_latch, let_go}
use Rattle.mv_calls.specs.Posts.{post}
use Rattle.mv_calls.specs.Program.{Program, Heard, on_latch}
use Rattle.mv_calls.specs.Refusal.{Refusal}
use Rattle.mv_calls.specs.Sections.{is_write}
use Rattle.mv_calls.specs.Waits.{wait, clear, read_volume}
use Rattle.mv_calls.specs.declared.outcomes.WaitSlot.{WaitSlot}
use Rattle.mv_wait.specs.Run.{IsServed}
use Rattle.mv_attach.proofs.Always.{Always, Grown, served_grown}
use Rattle.mv_attach.proofs.Once.{served_once, once_grown}
use Rattle.mv_attach.proofs.Says.{always_obtain, always_read, always_wait, always_clear, always_post}
use Rattle.mv_ordered.specs.Held.{held}
use Rattle.mv_ordered.specs.LatchOrder.{HasLockDiscipline}
use Rattle.mv_ordered.proofs.Calls.{IsPlain, IsNoLatchOp, one_request_keeps_discipline, release_keeps_discipline}
use Rattle.mv_guarded.specs.Guarded.{Keeps, value_with, value_from}
use Rattle.mv_guarded.proofs.Holding.{plain_keeps_discipline, wait_keeps, same_held}
use Rattle.mv_guarded.proofs.Rules.{keeps_append}
use Rattle.mv_guarded.proofs.Volumes.{unwritten}

abbrev pub IsCalm : Object → Op → Type 0
IsCalm object (op_on.Latch (Purge requestor)) = ⊥
IsCalm object (op_on.Volume (Write x)) = ⊥
IsCalm object op = Unit {0}

abbrev pub AreCalm : List Entry → Type 0
AreCalm es = AllByRecursion (λ e. IsCalm e.object e.op) es

-- the call between t and u made only such entries, and kept the lock discipline
pub record IsQuiet (t u : CallerFace) : Type 0 where
  pub grown : Grown IsCalm t u
  pub keeps : HasLockDiscipline t.log → HasLockDiscipline u.log

-- ---- the calls

-- an obtain, if each task may have one request
pub obtain_is_quiet : (c : Setup) (latch requestor most : ℕ) (mode : Mode) (Is : Result Requested Refusal → Type 0) (t u : CallerFace)
    → IsServed most (obtain c latch requestor mode Waiting) Is t u → c.quota ≤ 1 → IsQuiet t u
obtain_is_quiet c latch requestor most mode Is t u s one = record {
  grown = served_grown IsCalm most (obtain c latch requestor mode Waiting) Is t u s
      (always_obtain IsCalm c latch requestor mode (kept_of t.number t.log) tt (λ id. tt));
  keeps = one_request_keeps_discipline c latch requestor most t.number mode Waiting t.log u.log t.told u.told s.answer s.made one;
}

-- a release that posts nothing is one entry
pub release_grown : (P : Object → Op → Type 0) (c : Setup) (latch id : ℕ) (Is : Result ℕ Refusal → Type 0) (t u : CallerFace)
    → IsServed (release_cost c) (release_latch c latch id false) Is t u → release_cost c ≤ 1
    → P Latches (op_on.Latch (Release latch id false)) → Grown P t u
release_grown P c latch id Is t u s one =
    let next : Heard → Program (Result ℕ Refusal) = λ h. on_latch h.entry.reply (let_go c false h.wakes (kept_of t.number t.log)) in
    once_grown P Latches (op_on.Latch (Release latch id false)) next s.answer t u
    (served_once (release_cost c) (release_latch c latch id false) Is Latches (op_on.Latch (Release latch id false)) next t u s one refl)

pub release_is_quiet : (c : Setup) (latch id : ℕ) (Is : Result ℕ Refusal → Type 0) (t u : CallerFace)
    → IsServed (release_cost c) (release_latch c latch id false) Is t u → release_cost c ≤ 1 → IsQuiet t u
release_is_quiet c latch id Is t u s one = record {
  grown = release_grown IsCalm c latch id Is t u s one tt;
  keeps = release_keeps_discipline c latch id (release_cost c) t.number false t.log u.log t.told u.told s.answer s.made one;
}

pub read_is_quiet : (n x : ℕ) (t u : CallerFace) → IsServed 1 (read_volume n) (λ a. a ≡ x) t u → IsQuiet t u
read_is_quiet n x t u s = record {
  grown = served_grown IsCalm 1 (read_volume n) (λ a. a ≡ x) t u s (always_read IsCalm n (kept_of t.number t.log) tt);
  keeps = plain_keeps_discipline 1 (read_volume n) (λ a. a ≡ x) t u s (always_read (λ o op. IsPlain op) n (kept_of t.number t.log) tt);
}

-- what holds of each block
all_of : {P : ℕ → Type 0} → ((e : ℕ) → P e) → (es : List ℕ) → AllByRecursion P es
all_of each [] = tt
all_of each (e ∷ es) = (each e, all_of each es)

off_wait : (c : Setup) (count : ℕ) (es : List ℕ) (t : CallerFace) → Always (λ o op. IsNoLatchOp op) (wait c count es (kept_of t.number t.log))
off_wait c count es t =
    always_wait (λ o op. IsNoLatchOp op) c count es (kept_of t.number t.log) (all_of (λ e. tt) es) (all_of (λ e. tt) es)

-- a wait, while the task has no latch
pub wait_is_quiet : (c : Setup) (count : ℕ) (es : List ℕ) (most : ℕ) (Is : Result (List WaitSlot) Refusal → Type 0) (t u : CallerFace)
    → IsServed most (wait c count es) Is t u → held t.log ≡ [] → IsQuiet t u
wait_is_quiet c count es most Is t u s bare = record {
  grown = served_grown IsCalm most (wait c count es) Is t u s
      (always_wait IsCalm c count es (kept_of t.number t.log) (all_of (λ e. tt) es) (all_of (λ e. tt) es));
  keeps = wait_keeps most (wait c count es) Is t u s (off_wait c count es t) bare;
}

pub wait_held : (c : Setup) (count : ℕ) (es : List ℕ) (most : ℕ) (Is : Result (List WaitSlot) Refusal → Type 0) (t u : CallerFace)
    → IsServed most (wait c count es) Is t u → held u.log ≡ held t.log
wait_held c count es most Is t u s = same_held most (wait c count es) Is t u s (off_wait c count es t)

pub clear_is_quiet : (c : Setup) (e most : ℕ) (Is : Result ℕ Refusal → Type 0) (t u : CallerFace)
    → IsServed most (clear c e) Is t u → IsQuiet t u
clear_is_quiet c e most Is t u s = record {
  grown = served_grown IsCalm most (clear c e) Is t u s (always_clear IsCalm c e (kept_of t.number t.log) tt);
  keeps = plain_keeps_discipline most (clear c e) Is t u s (always_clear (λ o op. IsPlain op) c e (kept_of t.number t.log) tt);
}

pub clear_held : (c : Setup) (e most : ℕ) (Is : Result ℕ Refusal → Type 0) (t u : CallerFace) → IsServed most (clear c e) Is t u
    → held u.log ≡ held t.log
clear_held c e most Is t u s =
    same_held most (clear c e) Is t u s (always_clear (λ o op. IsNoLatchOp op) c e (kept_of t.number t.log) tt)

-- a post, if there are no exits
pub post_is_quiet : (c : Setup) (e code most : ℕ) (Is : PostAnswer → Type 0) (t u : CallerFace) → c.exits ≡ []
    → IsServed most (post c e code) Is t u → IsQuiet t u
post_is_quiet c e code most Is t u none s = record {
  grown = served_grown IsCalm most (post c e code) Is t u s (always_post IsCalm c e code (kept_of t.number t.log) none tt);
  keeps = plain_keeps_discipline most (post c e code) Is t u s
      (always_post (λ o op. IsPlain op) c e code (kept_of t.number t.log) none tt);
}

pub post_held : (c : Setup) (e code most : ℕ) (Is : PostAnswer → Type 0) (t u : CallerFace) → c.exits ≡ []
    → IsServed most (post c e code) Is t u → held u.log ≡ held t.log
post_held c e code most Is t u none s =
    same_held most (post c e code) Is t u s (always_post (λ o op. IsNoLatchOp op) c e code (kept_of t.number t.log) none tt)

-- ---- what stays

-- a rule that lets a caller make such entries at any time
pub quiet_keeps : (rule : ℕ → List Entry → Object → Op → Type 0)
    → ((k : ℕ) (log : List Entry) (o : Object) (op : Op) → IsCalm o op → rule k log o op) → (t u : CallerFace) → u.number ≡ t.number
    → IsQuiet t u → Keeps rule t.number [] t.log → Keeps rule u.number [] u.log
quiet_keeps rule may t u same q keeps =
    subst (λ k. Keeps rule k [] u.log) (sym same)
    (subst (Keeps rule t.number []) (sym q.grown.logged)
    (keeps_append rule t.number IsCalm (may t.number) t.log q.grown.more keeps q.grown.each))

-- what was written last
calm_is_no_write : (o : Object) (op : Op) → IsCalm o op → is_write op ≡ true → ⊥
calm_is_no_write o (op_on.Volume (Write x)) calm is = absurd calm
calm_is_no_write o op calm is = absurd (false≢true is)

pub calm_values : (n x : ℕ) (es : List Entry) → AreCalm es → value_from n x es ≡ x
calm_values n x [] calm = refl
calm_values n x (e ∷ es) calm =
    calm_values n (value_with n x e.object e.op) es calm.1
    ∙ unwritten n x e.object e.op (λ at is. calm_is_no_write e.object e.op calm.0 is)

-- ---- a configuration without exits

none_starts : (e : ℕ) (b : Bool) → (b && starts_from e None) ≡ true → ⊥
none_starts e true is = false≢true is
none_starts e false is = false≢true is

-- no exit starts from a block
pub no_exit_starts : (c : Setup) (e : ℕ) → c.exits ≡ [] → StartsExit c e → ⊥
no_exit_starts c e none starts =
    none_starts e (nat_lt 0 starts.0)
    (subst (λ xs. (nat_lt 0 starts.0 && starts_from e (slice_get xs (starts.0 - 1))) ≡ true) none starts.1)
