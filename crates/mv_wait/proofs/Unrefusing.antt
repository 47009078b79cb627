-- What a wait that is not refused has been asked.
use Rattle.std.proofs.Common.{◌≡◌, ℕ, ◌+◌, ◌*◌, ◌<◌, ◌≤◌, ◌==◌, nat_lt, Bool, true, false, not, List, [], ◌∷◌, ◌++◌}
use Rattle.std.proofs.Common.{length, cond, Option, Some, None, Ok, Err, refl, sym, ap, ◌∙◌, subst, arith}
use Rattle.std.proofs.lemmas.Bool.{false≢true, eqb-true, eq-eqb, le-leb, le-ltb, ltb-false, or_parts, not-false}
use Rattle.std.specs.List.{AllByRecursion, list_any}
use Rattle.std.specs.Option.{option_or}
use Rattle.mv_config.specs.Setup.{Setup, owner_of}
use Rattle.mv_machine.specs.declared.entry.Entry.{Entry}
use Rattle.mv_board.specs.Faces.{CallerFace, IsSame}
use Rattle.mv_calls.specs.Keeping.{Kept, kept_of, nothing_kept}
use Rattle.mv_calls.proofs.Making.{kept_caller}
use Rattle.mv_calls.specs.Program.{Program, Done}
use Rattle.mv_calls.specs.Refusal.{Refusal, TooMany, Doubled, NotOwnerAt, ExtendedAt}
use Rattle.mv_calls.specs.Rest.{IsAtRest}
use Rattle.mv_calls.specs.Waits.{refused_if, refused_at, doubled_at, is_others_block, wait_refusal, wait, arm_all, settle_all}
use Rattle.mv_calls.specs.Waits.{enough, complete_count, AreDistinct}
use Rattle.mv_calls.proofs.Unrefused.{wait_is}
use Rattle.mv_calls.specs.declared.outcomes.WaitSlot.{WaitSlot}
use Rattle.mv_wait.specs.Run.{Went, Runs, IsServed}
use Rattle.mv_wait.specs.Waiting.{AreOwn, ArmsAll, SettlesEnough, Waited}
use Rattle.mv_wait.proofs.Runs.{runs_then, runs_within, runs_look, serves}
use Rattle.mv_wait.proofs.Steps.{done_served}

first_none : (a b : Option Refusal) → option_or a b ≡ None → a ≡ None
first_none None b e = refl
first_none (Some x) b e = absurd (cc e)

second_none : (a b : Option Refusal) → option_or a b ≡ None → b ≡ None
second_none None b e = e
second_none (Some x) b e = absurd (cc e)

one_nowhere : (why : ℕ → Refusal) (p : ℕ) (b : Bool) (later : Option Refusal) → cond b (Some (why p)) later ≡ None
    → (b ≡ false) × (later ≡ None)
one_nowhere why p true later e = absurd (cc e)
one_nowhere why p false later e = (refl, e)

pub nowhere_back : (why : ℕ → Refusal) (test : ℕ → Bool) (p : ℕ) (es : List ℕ) → refused_at why test p es ≡ None
    → AllByRecursion (λ e. test e ≡ false) es
nowhere_back why test p [] e = tt
nowhere_back why test p (x ∷ es) e =
    let one = one_nowhere why p (test x) (refused_at why test (p + 1) es) e in (one.0, nowhere_back why test (p + 1) es one.1)

not_last : (before : List ℕ) (e m : ℕ) → list_any (λ b. b == m) (before ++ e ∷ []) ≡ false
    → (list_any (λ b. b == m) before ≡ false) × (m ≡ e → ⊥)
not_last [] e m q = (refl, λ s. false≢true (sym (or_parts (e == m) false q).0 ∙ eq-eqb e m (sym s)))
not_last (x ∷ before) e m q =
    let one = or_parts (x == m) (list_any (λ b. b == m) (before ++ e ∷ [])) q in
    let later = not_last before e m one.1 in (rw (one.0) later.0, later.1)

all_apart : (before : List ℕ) (e : ℕ) (es : List ℕ) → AllByRecursion (λ m. list_any (λ b. b == m) (before ++ e ∷ []) ≡ false) es
    → AllByRecursion (λ m. list_any (λ b. b == m) before ≡ false) es × AllByRecursion (λ m. m ≡ e → ⊥) es
all_apart before e [] all = (tt, tt)
all_apart before e (x ∷ es) all =
    let one = not_last before e x all.0 in
    let later = all_apart before e es all.1 in ((one.0, later.0), (one.1, later.1))

pub undoubled : (before : List ℕ) (p : ℕ) (es : List ℕ) → doubled_at before p es ≡ None
    → AllByRecursion (λ m. list_any (λ b. b == m) before ≡ false) es × AreDistinct es
undoubled before p [] e = (tt, tt)
undoubled before p (x ∷ es) e =
    let one = one_nowhere Doubled p (list_any (λ b. b == x) before) (doubled_at (before ++ x ∷ []) (p + 1) es) e in
    let later = undoubled (before ++ x ∷ []) (p + 1) es one.1 in
    let parts = all_apart before x es later.0 in ((one.0, parts.0), (parts.1, later.1))

-- what the parts of a wait that is not refused ask for
pub record IsAccepted (c : Setup) (k : ℕ) (kept : Kept) (es : List ℕ) : Type 0 where
  pub distinct : AreDistinct es
  pub own : AllByRecursion (λ e. owner_of c e ≡ kept.caller) es
  pub plain : AllByRecursion (λ e. kept.extended e ≡ false) es

all_own : (c : Setup) (kept : Kept) (es : List ℕ) → AllByRecursion (λ e. is_others_block c kept e ≡ false) es
    → AllByRecursion (λ e. owner_of c e ≡ kept.caller) es
all_own c kept [] all = tt
all_own c kept (e ∷ es) all = (eqb-true (owner_of c e) kept.caller (not-false (owner_of c e == kept.caller) all.0), all_own c kept es all.1)

pub accepted_wait : (c : Setup) (k count : ℕ) (es : List ℕ) (kept : Kept) → wait_refusal c count es kept ≡ None → IsAccepted c k kept es
accepted_wait c k count es kept e =
    let a = refused_if (nat_lt (length es) count) TooMany in
    let b = doubled_at [] 0 es in
    let o = refused_at NotOwnerAt (is_others_block c kept) 0 es in
    let x = refused_at ExtendedAt kept.extended 0 es in
    let e1 : option_or b (option_or o x) ≡ None = second_none a (option_or b (option_or o x)) e in
    let e2 : option_or o x ≡ None = second_none b (option_or o x) e1 in record {
      distinct = (undoubled [] 0 es (first_none b (option_or o x) e1)).1;
      own = all_own c kept es (nowhere_back NotOwnerAt (is_others_block c kept) 0 es (first_none o x e2));
      plain = nowhere_back ExtendedAt kept.extended 0 es (second_none o x e2);
    }

not_fewer : (n count : ℕ) (b : Bool) → nat_lt n count ≡ b → refused_if b TooMany ≡ None → count ≤ n
not_fewer n count true is e = absurd (cc e)
not_fewer n count false is e = ltb-false n count is

-- there are as many blocks as are to be complete
pub accepted_count : (c : Setup) (count : ℕ) (es : List ℕ) (kept : Kept) → wait_refusal c count es kept ≡ None → count ≤ length es
accepted_count c count es kept e =
    let a = refused_if (nat_lt (length es) count) TooMany in
    let later = option_or (doubled_at [] 0 es) (option_or (refused_at NotOwnerAt (is_others_block c kept) 0 es)
    (refused_at ExtendedAt kept.extended 0 es)) in
    not_fewer (length es) count (nat_lt (length es) count) refl (first_none a later e)

pub both_own : (c : Setup) (k : ℕ) (es : List ℕ) → AllByRecursion (λ e. e < length c.owners) es
    → AllByRecursion (λ e. owner_of c e ≡ k) es → AreOwn c k es
both_own c k [] a b = tt
both_own c k (e ∷ es) a b = ((a.0, b.0), both_own c k es a.1 b.1)

-- they are still the task's own, whatever it has done
pub accepted_own : (c : Setup) (t u : CallerFace) (es : List ℕ) → AllByRecursion (λ e. e < length c.owners) es
    → IsAccepted c t.number (kept_of t.number t.log) es → IsSame t u
    → AreOwn c u.number es
accepted_own c t u es there a same =
    both_own c u.number es there
    (subst (λ k. AllByRecursion (λ e. owner_of c e ≡ k) es) (kept_caller (nothing_kept t.number) t.log ∙ sym same.number) a.own)

-- the parts of a wait put together
pub wait_served : (c : Setup) (count : ℕ) (es : List ℕ) (slots : List WaitSlot) (t u v w : CallerFace)
    → wait_refusal c count es (kept_of t.number t.log) ≡ None
    → IsAtRest t.log → ArmsAll es t u → Went [] u v → SettlesEnough count es slots v w → IsAtRest w.log
    → IsServed (2 * length es) (wait c count es) (λ a. a ≡ Ok slots) t w
wait_served c count es slots t u v w none began arms looks settles rest =
    let after : Program Waited = settle_all es [] (enough count) in
    let last : enough count slots ≡ Done (Ok slots) = rw (le-leb count (complete_count slots) settles.enough) refl in
    let front : Runs (length es) (arm_all es after) after t v = runs_look (length es) (arm_all es after) after t u v (arms after) looks in
    let back : Runs (length es) after (Done (Ok slots)) v w =
    subst (λ q. Runs (length es) after q v w) last (settles.settles [] (enough count)) in
    serves (2 * length es) (wait c count es) (λ a. a ≡ Ok slots) t w (Ok slots) began refl
    (runs_within (length es + length es) (2 * length es) (wait c count es (kept_of t.number t.log)) (Done (Ok slots)) t w
    (omega arith)
    (subst (λ p. Runs (length es + length es) p (Done (Ok slots)) t w) (sym (wait_is c count es (kept_of t.number t.log) none))
    (runs_then (length es) (length es) (arm_all es after) after (Done (Ok slots)) t v w front back)))
    rest

-- one that is refused makes no event
pub wait_is_refused : (c : Setup) (count : ℕ) (es : List ℕ) (why : Refusal) (t : CallerFace)
    → wait_refusal c count es (kept_of t.number t.log) ≡ Some why → IsAtRest t.log
    → IsServed (2 * length es) (wait c count es) (λ a. a ≡ Err why) t t
wait_is_refused c count es why t is rest =
    let e : wait c count es (kept_of t.number t.log) ≡ Done (Err why) = rw is refl in
    done_served (2 * length es) (wait c count es) (λ a. a ≡ Err why) t (Err why) e rest refl

-- the refusal of a wait, by those of its parts
pub refusal_is : (c : Setup) (count k : ℕ) (es : List ℕ) (log : List Entry) (a b d : Option Refusal) → count ≤ length es
    → a ≡ doubled_at [] 0 es
    → b ≡ refused_at NotOwnerAt (λ e. not (owner_of c e == k)) 0 es → d ≡ refused_at ExtendedAt (kept_of k log).extended 0 es
    → option_or a (option_or b d) ≡ wait_refusal c count es (kept_of k log)
refusal_is c count k es log a b d le p q r =
    let same : b ≡ refused_at NotOwnerAt (is_others_block c (kept_of k log)) 0 es = q
    ∙ ap (λ j. refused_at NotOwnerAt (λ e. not (owner_of c e == j)) 0 es) (sym (kept_caller (nothing_kept k) log)) in
    rw (le-ltb (length es) count le) ((λ i. option_or (p i) (option_or (same i) (r i))))
