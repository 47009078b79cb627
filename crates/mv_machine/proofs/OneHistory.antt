-- Logs that are the callers' parts of one history within the budgets.
use Rattle.std.proofs.Common.{◌≡◌, ℕ, zero, suc, ◌+◌, ◌-◌, ◌<◌, ◌≤◌, IsTrue, List, [], ◌∷◌, length, get_or, sum, sym, refl, ap, ◌∙◌}
use Rattle.std.proofs.Common.{subst, arith, le_refl}
use Rattle.std.proofs.lemmas.Bool.{false≢true}
use Rattle.std.proofs.lemmas.List.Sums.{sum_by-cons}
use Rattle.std.specs.List.{AllByRecursion}
use mathlib.Core.Logic.{dite}
use native.Mathlib.Decide.{ℕ_discrete}
use Rattle.mv_config.specs.Limits.{events_limit}
use Rattle.mv_machine.specs.declared.entry.Entry.{Entry}
use Rattle.mv_machine.specs.declared.entry.Object.{Object}
use Rattle.mv_machine.specs.declared.entry.Object.TheVariants.{Ecb, Element, Volume, Latches}
use Rattle.mv_machine.specs.declared.entry.Op.{Op}
use Rattle.mv_machine.specs.declared.entry.Op.TheVariants as op_on
use Rattle.mv_machine.specs.Legal.{Legal, LegalFrom, next, of}
use Rattle.mv_machine.specs.Merge.{entry_count, merged, AreOneHistory}
use Rattle.mv_machine.specs.Parts.{parts_from, parts, KeepsBudgets}
use Rattle.mv_config.specs.Setup.{Setup}
use Rattle.mv_machine.specs.Objects.{IsObjectOf}
use Rattle.mv_machine.specs.System.{System, opening, admitted}
use Rattle.mv_machine.proofs.Merged.{merged_legal, merged_callers, total_parts}
use Rattle.mv_machine.proofs.Places.{of_mine, of_other}
use Rattle.mv_config.proofs.Validity.{budgets_kept}
use Rattle.mv_config.specs.Check.{IsValid}

-- ---- a history within the budgets is within their sum
total_from : (n k : ℕ) (es : List Entry) (bs : List ℕ) → ((j : ℕ) → k ≤ j → j < k + n → length (of j es) ≤ get_or bs (j - k) 0)
    → entry_count (parts_from k n es) ≤ sum bs
total_from zero k es bs l = omega arith
total_from (suc n) k es [] l =
    let first : length (of k es) ≤ 0 = l k (le_refl k) (omega arith) in
    let rest = total_from n (suc k) es [] (λ j low high. l j (omega arith) (omega arith)) in
    omega arith
total_from (suc n) k es (b ∷ bs) l =
    let here : k - k ≡ 0 = omega arith in
    let first : length (of k es) ≤ b = subst (λ z. length (of k es) ≤ get_or (b ∷ bs) z 0) here (l k (le_refl k) (omega arith)) in
    let rest = total_from n (suc k) es bs (λ j low high.
    let back : j - k ≡ suc (j - suc k) = omega arith in
    subst (λ z. length (of j es) ≤ get_or (b ∷ bs) z 0) back (l j (omega arith) (omega arith))) in
    omega (arith, sum_by-cons (λ (x : ℕ). x) b bs)

pub within_budgets : (c : Setup) (es : List Entry) → Legal c es → KeepsBudgets c es → length es ≤ sum c.budgets
within_budgets c es l b =
    let all : entry_count (parts c.callers es) ≤ sum c.budgets = total_from c.callers 0 es c.budgets (λ j low high.
    subst (λ z. length (of j es) ≤ get_or c.budgets z 0) (let same : j ≡ j - 0 = omega arith in same) (b j (omega arith))) in
    omega (arith, total_parts c es l)

-- ---- the parts of a history
pub parts_count : (n k : ℕ) (es : List Entry) → length (parts_from k n es) ≡ n
parts_count zero k es = refl
parts_count (suc n) k es = ap suc (parts_count n (suc k) es)

pub same_parts : (n k : ℕ) (fs es : List Entry) → ((j : ℕ) → of j fs ≡ of j es) → parts_from k n fs ≡ parts_from k n es
same_parts zero k fs es same = refl
same_parts (suc n) k fs es same = λ i. same k i ∷ same_parts n (suc k) fs es same i

-- a legal entry's object is the configuration's
pub object_there : (c : Setup) (s : System) (k : ℕ) (o : Object) (op : Op) → IsTrue (admitted c s k o op) → IsObjectOf c o
object_there c s k (Ecb n) (op_on.Ecb op) h = grind arith
object_there c s k (Element n) (op_on.Element op) h = grind arith
object_there c s k (Volume n) (op_on.Volume op) h = grind arith
object_there c s k Latches (op_on.Latch op) h = tt
object_there c s k o op h = absurd (false≢true h)

-- what holds of each object holds of each entry's
pub on_objects : (c : Setup) (P : Object → Type 0) → ((o : Object) → IsObjectOf c o → P o) → (s : System) (es : List Entry)
    → LegalFrom c s es
    → AllByRecursion (λ e. P e.object) es
on_objects c P all s [] l = tt
on_objects c P all s (e ∷ es) l =
    (all e.object (object_there c s e.caller e.object e.op l.0.admits), on_objects c P all (next s e) es l.1)

-- what holds of each entry holds of each part's
pub in_part : (P : Entry → Type 0) (k : ℕ) (es : List Entry) → AllByRecursion P es → AllByRecursion P (of k es)
in_part P k [] a = tt
in_part P k (x ∷ xs) a = dite (ℕ_discrete x.caller k)
    (λ m. rw (of_mine k x xs m) (a.0, in_part P k xs a.1))
    (λ m. rw (of_other k x xs m) (in_part P k xs a.1))

pub in_parts : (P : Entry → Type 0) (n k : ℕ) (es : List Entry) → AllByRecursion P es
    → AllByRecursion (λ log. AllByRecursion P log) (parts_from k n es)
in_parts P zero k es a = tt
in_parts P (suc n) k es a = (in_part P k es a, in_parts P n (suc k) es a)

-- ---- so for logs that are one history
pub logs_count : (c : Setup) (logs : List (List Entry)) → AreOneHistory c logs → length logs ≡ c.callers
logs_count c logs h = ap length (sym h.parts) ∙ parts_count c.callers 0 h.history

pub logs_total : (c : Setup) (logs : List (List Entry)) → AreOneHistory c logs → entry_count logs ≤ sum c.budgets
logs_total c logs h =
    omega (arith, ap entry_count h.parts, total_parts c h.history h.legal, within_budgets c h.history h.legal h.budgets)

pub on_logs : (c : Setup) (P : Object → Type 0) → ((o : Object) → IsObjectOf c o → P o) → (logs : List (List Entry)) → AreOneHistory c logs
    → AllByRecursion (λ log. AllByRecursion (λ e. P e.object) log) logs
on_logs c P all logs h =
    rw h.parts at (in_parts (λ e. P e.object) c.callers 0 h.history (on_objects c P all (opening c) h.history h.legal))

pub logs_legal : (c : Setup) (logs : List (List Entry)) → AreOneHistory c logs → Legal c (merged logs)
logs_legal c logs h = subst (λ z. Legal c (merged z)) h.parts (merged_legal c h.history h.legal)

pub logs_parts : (c : Setup) (logs : List (List Entry)) → AreOneHistory c logs → parts c.callers (merged logs) ≡ logs
logs_parts c logs h =
    ap (λ z. parts c.callers (merged z)) (sym h.parts)
    ∙ same_parts c.callers 0 (merged (parts c.callers h.history)) h.history (λ k. merged_callers c h.history k h.legal)
    ∙ h.parts

pub budgets_fit : (c : Setup) (es : List Entry) → IsValid c → Legal c es → KeepsBudgets c es → length es ≤ events_limit
budgets_fit c es v l b = omega (arith, within_budgets c es l b, budgets_kept c v)
