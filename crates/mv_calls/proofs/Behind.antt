-- The last entry of a possible log was the machine's next one.
use Rattle.std.proofs.Common.{◌≡◌, ℕ, ◌+◌, ◌==◌, Bool, true, false, List, [], ◌∷◌, ◌++◌, length, cond, refl, sym, ap, ◌∙◌, subst}
use Rattle.std.proofs.Common.{arith, append-nil, append_assoc, length-append}
use Rattle.std.proofs.lemmas.Bool.{eqb-true}
use Rattle.mv_latch.specs.declared.operation.Wake.{Wake}
use Rattle.mv_machine.specs.declared.entry.Entry.{Entry}
use Rattle.mv_machine.specs.Legal.{Legal, after, next, of}
use Rattle.mv_machine.specs.Parts.{IsPossible, KeepsBudgets}
use Rattle.mv_config.specs.Setup.{Setup}
use Rattle.mv_machine.specs.System.{opening}
use Rattle.mv_machine.specs.Told.{told, told_at}
use Rattle.mv_machine.proofs.Histories.{LegalFrom-front, LegalFrom-rest}
use Rattle.mv_machine.proofs.Longer.{told_from-append, told_nothing_from}
use Rattle.mv_machine.proofs.Objects.{of-append}
use Rattle.mv_calls.specs.Behind.{IsBehind}

-- a history parted at the caller's last entry
record Parted (k : ℕ) (h log : List Entry) (e : Entry) : Type 0 where
  before : List Entry
  later : List Entry
  whole : h ≡ before ++ e ∷ later
  logged : of k before ≡ log
  caller : (e.caller == k) ≡ true
  no_more : of k later ≡ []

module _ (k : ℕ) where
  one_parted : (x : Entry) (h log : List Entry) (e : Entry) (b : Bool) → (x.caller == k) ≡ b
      → ((more : List Entry) → of k h ≡ more ++ e ∷ [] → Parted k h more e)
      → cond b (x ∷ of k h) (of k h) ≡ log ++ e ∷ [] → Parted k (x ∷ h) log e
  one_parted x h log e false is rest q =
      let r = rest log q in record {
        before = x ∷ r.before;
        later = r.later;
        whole = ap (λ zs. x ∷ zs) r.whole;
        logged = rw is r.logged;
        caller = r.caller;
        no_more = r.no_more;
      }
  one_parted x h [] e true is rest q =
      let same : x ≡ e = cc in
      let none : of k h ≡ [] = cc in record {
        before = [];
        later = h;
        whole = ap (λ z. z ∷ h) same;
        logged = refl;
        caller = subst (λ (z : Entry). (z.caller == k) ≡ true) same is;
        no_more = none;
      }
  one_parted x h (y ∷ log) e true is rest q =
      let same : x ≡ y = cc in
      let behind : of k h ≡ log ++ e ∷ [] = cc in
      let r = rest log behind in record {
        before = x ∷ r.before;
        later = r.later;
        whole = ap (λ zs. x ∷ zs) r.whole;
        logged = rw (is, r.logged) (ap (λ z. z ∷ log) same);
        caller = r.caller;
        no_more = r.no_more;
      }

  parted : (h log : List Entry) (e : Entry) → of k h ≡ log ++ e ∷ [] → Parted k h log e
  parted [] [] e q = absurd (cc q)
  parted [] (y ∷ log) e q = absurd (cc q)
  parted (x ∷ h) log e q = one_parted x h log e (x.caller == k) refl (λ more r. parted h more e r) q

-- a front keeps the budgets that the whole keeps
pub front_keeps : (c : Setup) (xs ys : List Entry) → KeepsBudgets c (xs ++ ys) → KeepsBudgets c xs
front_keeps c xs ys b = λ j lt.
    let whole = b j lt in
    let parts : length (of j (xs ++ ys)) ≡ length (of j xs) + length (of j ys) = ap length (of-append j xs ys)
    ∙ length-append (of j xs) (of j ys) in
    omega arith

-- so the last entry of a possible log has a legal history behind it
pub last_is_behind : (c : Setup) (k : ℕ) (log : List Entry) (e : Entry) (shown : List (List Wake)) → IsPossible c k (log ++ e ∷ []) shown
    → IsBehind c k log e shown
last_is_behind c k log e shown p =
    let s = parted k p.history log e p.logged in
    let legal : Legal c (s.before ++ e ∷ s.later) = subst (Legal c) s.whole p.legal in
    let again : (s.before ++ e ∷ []) ++ s.later ≡ s.before ++ e ∷ s.later = append_assoc s.before (e ∷ []) s.later in
    record {
      before = s.before;
      legal = LegalFrom-front c (opening c) s.before (e ∷ s.later) legal;
      budgets = front_keeps c (s.before ++ e ∷ []) s.later (subst (KeepsBudgets c) (s.whole ∙ sym again) p.budgets);
      logged = s.logged;
      caller = eqb-true e.caller k s.caller;
      follows = (LegalFrom-rest c (opening c) s.before (e ∷ s.later) legal).0;
      told =
          sym (ap (λ ws. told c k s.before ++ ws) (ap (λ ws. told_at (after c s.before) k e.caller e.object e.op ++ ws)
          (told_nothing_from (next (after c s.before) e) k s.later s.no_more) ∙ append-nil _))
          ∙ (sym (told_from-append (opening c) k s.before (e ∷ s.later)) ∙ (ap (told c k) (sym s.whole) ∙ p.told));
    }

-- and the log before it is possible, with what was told before
pub front_is_possible : (c : Setup) (k : ℕ) (log : List Entry) (e : Entry) (shown : List (List Wake)) → (b : IsBehind c k log e shown)
    → IsPossible c k log (told c k b.before)
front_is_possible c k log e shown b = record {
  history = b.before;
  legal = b.legal;
  budgets = front_keeps c b.before (e ∷ []) b.budgets;
  logged = b.logged;
  told = refl;
}
