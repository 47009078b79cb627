-- The closes of a task's own elements, one after the other.
use Rattle.std.proofs.Common.{◌≡◌, ◌≢◌, ℕ, suc, ◌+◌, ◌-◌, ◌*◌, ◌<◌, ◌≤◌, Bool, true, false, List, [], ◌∷◌, length, filter}
use Rattle.std.proofs.Common.{cond, not}
use Rattle.std.proofs.Common.{refl, sym, ap, ◌∙◌, subst, arith}
use Rattle.std.specs.List.{range_with_len}
use Rattle.std.specs.declared.ops.Range.{Range}
use Rattle.std.proofs.lemmas.Bool.{eq-eqb, ne_eqb}
use Rattle.std.proofs.lemmas.List.FromFn.{length-range_with_len}
use Rattle.mv_latch.proofs.Splits.{length_filter}
use Rattle.mv_element.specs.declared.element.Token.{Token}
use Rattle.mv_element.specs.declared.operation.ElementOp.TheVariants.{Close}
use Rattle.mv_element.specs.declared.operation.ElementReply.TheVariants.{Closed}
use Rattle.mv_machine.specs.declared.entry.Object.TheVariants.{Element}
use Rattle.mv_machine.specs.declared.entry.Op.TheVariants as op_on
use Rattle.mv_machine.specs.declared.entry.Reply.TheVariants as reply_of
use Rattle.mv_config.specs.Setup.{Setup, element_owner}
use Rattle.mv_board.specs.Faces.{CallerFace, Happened}
use Rattle.mv_calls.specs.Endings.{behind_close, close_all, used_elements}
use Rattle.mv_calls.specs.Keeping.{Kept, kept_of, kept_after, nothing_kept}
use Rattle.mv_calls.specs.declared.outcomes.Purged.{Purged}
use Rattle.mv_calls.specs.Pauses.{is_others_token}
use Rattle.mv_calls.specs.Program.{Program, Do, Wrong, on_element}
use Rattle.mv_calls.proofs.Making.{kept_caller}
use Rattle.mv_wait.specs.Run.{Runs, keeps}
use Rattle.mv_wait.proofs.Runs.{entry_of, runs_none, runs_then, runs_within}
use Rattle.mv_wait.proofs.Steps.{element_runs}
use Rattle.mv_wait.proofs.Waits.{kept_one}
use Rattle.mv_task.specs.Ending.{ClosesOne, ClosesAll, KeepsOthers}

-- ---- one element

-- one that is, is closed with its generation
pub closes_used : (n : ℕ) (t u : CallerFace) → (keeps t).in_use n ≡ true
    → Happened t (Element n) (op_on.Element (Close ((keeps t).generation n))) (reply_of.Element Closed) u → ClosesOne n t u
closes_used n t u is h = λ p.
    subst (λ (b : Bool). Runs (length (cond b (n ∷ []) [])) (close_all (keeps t) (cond b (n ∷ []) []) p) p t u) (sym is)
    (element_runs (behind_close p) p t u n (Close ((keeps t).generation n)) Closed h refl)

-- its token is the task's own, and current
pub own_token : (c : Setup) (t : CallerFace) (token : Token) → element_owner c token.element ≡ t.number
    → is_others_token c (keeps t) token ≡ false
own_token c t token own =
    ap not (eq-eqb (element_owner c token.element) (keeps t).caller (own ∙ sym (kept_caller (nothing_kept t.number) t.log)))

-- what is kept after its close
kept_since : (n g : ℕ) (t u : CallerFace) → Happened t (Element n) (op_on.Element (Close g)) (reply_of.Element Closed) u
    → keeps u ≡ kept_after (keeps t) (Element n) (op_on.Element (Close g)) (reply_of.Element Closed)
kept_since n g t u h = (λ i. kept_of (h.1.same.number i) (h.1.logged i))
    ∙ kept_one t.number t.log (entry_of t (Element n) h.0 (op_on.Element (Close g)) (reply_of.Element Closed))

-- of the others it is as before
pub others_stay : (n g : ℕ) (t u : CallerFace) → Happened t (Element n) (op_on.Element (Close g)) (reply_of.Element Closed) u
    → KeepsOthers n t u
others_stay n g t u h = record {
  used = λ m other. ap (λ (k : Kept). k.in_use m) (kept_since n g t u h) ∙ rw other refl;
  generation = λ m other. ap (λ (k : Kept). k.generation m) (kept_since n g t u h) ∙ rw other refl;
}

-- ---- one after the other

-- the close of one, by what is kept by then, and those behind it, by what was kept at first
one_more : (kept then : Kept) (n : ℕ) (ns : List ℕ) (p : Program Purged) (b d : Bool) → d ≡ b
    → then.generation n ≡ kept.generation n
    → close_all then (cond d (n ∷ []) []) (close_all kept ns p) ≡ close_all kept (cond b (n ∷ ns) ns) p
one_more kept then n ns p true d is same =
    ap (λ (x : Bool). close_all then (cond x (n ∷ []) []) (close_all kept ns p)) is
    ∙ ap (λ g. Do (Element n) (op_on.Element (Close g)) (λ h. on_element h.entry.reply (behind_close (close_all kept ns p)))) same
one_more kept then n ns p false d is same = ap (λ (x : Bool). close_all then (cond x (n ∷ []) []) (close_all kept ns p)) is

-- how many those are
one_counts : (n : ℕ) (ns : List ℕ) (b d : Bool) → d ≡ b → length (cond d (n ∷ []) []) + length ns ≡ length (cond b (n ∷ ns) ns)
one_counts n ns true d is = ap (λ (x : Bool). length (cond x (n ∷ []) []) + length ns) is ∙ omega arith
one_counts n ns false d is = ap (λ (x : Bool). length (cond x (n ∷ []) []) + length ns) is ∙ omega arith

-- the elements from one up to another that were in use at first
abbrev pub used_between : CallerFace → ℕ → ℕ → List ℕ
used_between t a b = filter (keeps t).in_use (range_with_len a (b - a))

-- A task's elements were gone through, from the first up to one: of those from that one on all is kept as at first, and the closes so
-- far are no more than are needed with those that come.
pub record Closing (first a b : ℕ) (t u : CallerFace) : Type 0 where
  pub made : ℕ
  pub few : made + length (used_between t a b) ≤ length (used_between t first b)
  pub runs : (p : Program Purged)
      → Runs made (close_all (keeps t) (used_between t first b) p) (close_all (keeps t) (used_between t a b) p) t u
  pub used : (m : ℕ) → a ≤ m → (keeps u).in_use m ≡ (keeps t).in_use m
  pub generation : (m : ℕ) → a ≤ m → (keeps u).generation m ≡ (keeps t).generation m

pub none_closed : (a b : ℕ) (t : CallerFace) → Closing a a b t t
none_closed a b t = record {
  made = 0;
  few = omega arith;
  runs = λ p. runs_none (close_all (keeps t) (used_between t a b) p) t;
  used = λ m le. refl;
  generation = λ m le. refl;
}

-- those in use from one on, by whether it is
used_at : (t : CallerFace) (a b : ℕ) → a < b
    → used_between t a b ≡ cond ((keeps t).in_use a) (a ∷ used_between t (a + 1) b) (used_between t (a + 1) b)
used_at t a b lt = let more : b - a ≡ suc (b - (a + 1)) = omega arith in ap (λ n. filter (keeps t).in_use (range_with_len a n)) more

-- a task's own elements that were in use at first
pub own_are : (c : Setup) (own : Range ℕ) (k : ℕ) (t : CallerFace) → k ≡ t.number
    → own ≡ record { start = k * c.elements_per_caller; end = k * c.elements_per_caller + c.elements_per_caller }
    → used_between t own.start own.end ≡ used_elements c (keeps t)
own_are c own k t number is =
    let e = c.elements_per_caller in
    let all : (k * e + e) - k * e ≡ e = omega arith in
    let caller = number ∙ sym (kept_caller (nothing_kept t.number) t.log) in
    ap (λ (r : Range ℕ). used_between t r.start r.end) is
    ∙ ap (λ n. filter (keeps t).in_use (range_with_len (k * e) n)) all
    ∙ ap (λ m. filter (keeps t).in_use (range_with_len (m * e) e)) caller

-- an element that is in use finds an event left
pub close_fits : (first a b : ℕ) (t u : CallerFace) → a < b → Closing first a b t u → length (used_between t first b) ≤ t.left
    → (keeps u).in_use a ≡ true → 0 < u.left
close_fits first a b t u lt so_far enough is =
    let any = so_far.runs Wrong in
    let less = any.went.left in
    let few = any.few in
    let all = so_far.few in
    let later = used_between t (a + 1) b in
    let here : used_between t a b ≡ a ∷ later =
    used_at t a b lt ∙ ap (λ (d : Bool). cond d (a ∷ later) later) (sym (so_far.used a (omega arith)) ∙ is) in
    let size = ap (λ (xs : List ℕ). length xs) here in
    omega arith

-- one more was gone through
pub one_closed : (first a b : ℕ) (t u v : CallerFace) → a < b → Closing first a b t u → ClosesOne a u v → KeepsOthers a u v
    → Closing first (a + 1) b t v
one_closed first a b t u v lt so_far one others =
    let all = used_between t first b in
    let later = used_between t (a + 1) b in
    let then = (keeps t).in_use a in
    let now = (keeps u).in_use a in
    let same : now ≡ then = so_far.used a (omega arith) in
    let most = length (cond now (a ∷ []) []) in
    let count = one_counts a later then now same in
    let size = ap (λ (xs : List ℕ). length xs) (used_at t a b lt) in
    let few = so_far.few in record {
      made = so_far.made + most;
      few = omega (arith, count, size, few);
      runs = λ p.
          let last = close_all (keeps t) later p in
          runs_then so_far.made most (close_all (keeps t) all p) (close_all (keeps t) (used_between t a b) p) last t u v (so_far.runs p)
          (subst (λ q. Runs most q last u v)
          (one_more (keeps t) (keeps u) a later p then now same (so_far.generation a (omega arith))
          ∙ ap (λ xs. close_all (keeps t) xs p) (sym (used_at t a b lt)))
          (one last));
      used = λ m le. let other : m ≢ a = (λ e. absurd (omega arith)) in
          others.used m (ne_eqb m a other) ∙ so_far.used m (omega arith);
      generation = λ m le. let other : m ≢ a = (λ e. absurd (omega arith)) in
          others.generation m (ne_eqb m a other) ∙ so_far.generation m (omega arith);
    }

-- all were, and they are the task's own
pub all_closed : (c : Setup) (first a b : ℕ) (t u : CallerFace) → b ≤ a → used_between t first b ≡ used_elements c (keeps t)
    → Closing first a b t u → ClosesAll c t u
all_closed c first a b t u over own so_far = λ p.
    let none : b - a ≡ 0 = omega arith in
    let few = so_far.few in
    let all = used_between t first b in
    subst (λ (xs : List ℕ). Runs (length xs) (close_all (keeps t) xs p) p t u) own
    (runs_within so_far.made (length all) (close_all (keeps t) all p) p t u (omega arith)
    (subst (λ m. Runs so_far.made (close_all (keeps t) all p) (close_all (keeps t) (filter (keeps t).in_use (range_with_len a m)) p) t u)
    none
    (so_far.runs p)))

-- ---- no more elements are in use than the task has

pub few_used : (c : Setup) (kept : Kept) → length (used_elements c kept) ≤ c.elements_per_caller
few_used c kept =
    let all = length_filter kept.in_use (range_with_len (kept.caller * c.elements_per_caller) c.elements_per_caller) in
    let count = length-range_with_len (kept.caller * c.elements_per_caller) c.elements_per_caller in
    omega (arith, all, count)
