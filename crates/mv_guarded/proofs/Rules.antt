-- Rules that a caller's log keeps: with entries more, and of each entry of a history. For programs, and for the laws.
use Rattle.std.proofs.Common.{◌≡◌, ℕ, ◌<◌, List, [], ◌∷◌, ◌++◌, inl, inr, refl, sym, ap, ◌∙◌, subst, append_assoc}
use Rattle.std.specs.List.{AllByRecursion}
use Rattle.std.proofs.lemmas.Bool.{cases_eq}
use Rattle.std.proofs.lemmas.List.{append-nil}
use Rattle.mv_machine.specs.declared.entry.Entry.{Entry}
use Rattle.mv_machine.specs.declared.entry.Object.{Object}
use Rattle.mv_machine.specs.declared.entry.Op.{Op}
use Rattle.mv_machine.specs.Legal.{Legal, of}
use Rattle.mv_config.specs.Setup.{Setup}
use Rattle.mv_machine.specs.System.{opening}
use Rattle.mv_machine.proofs.Lists.{all_back}
use Rattle.mv_machine.proofs.Objects.{of-append}
use Rattle.mv_machine.proofs.Places.{of_mine, of_other}
use Rattle.mv_board.specs.Faces.{CallerFace}
use Rattle.mv_calls.proofs.Interleaved.{callers_exist}
use Rattle.mv_guarded.specs.Guarded.{Keeps}

module _ (rule : ℕ → List Entry → Object → Op → Type 0) (k : ℕ) where
  -- one entry more
  pub keeps_push : (before es : List Entry) (e : Entry) → Keeps rule k before es → rule k (before ++ es) e.object e.op
      → Keeps rule k before (es ++ e ∷ [])
  keeps_push before [] e all one = (subst (λ log. rule k log e.object e.op) (append-nil before) one, tt)
  keeps_push before (x ∷ es) e all one = (
    all.0,
    keeps_push (before ++ x ∷ []) es e all.1
        (subst (λ log. rule k log e.object e.op) (sym (append_assoc before (x ∷ []) es)) one),
  )

  -- entries more that the rule lets a caller make at any time
  pub keeps_append : (P : Object → Op → Type 0) → ((log : List Entry) (o : Object) (op : Op) → P o op → rule k log o op)
      → (log es : List Entry) → Keeps rule k [] log → AllByRecursion (λ e. P e.object e.op) es → Keeps rule k [] (log ++ es)
  keeps_append P may log [] all each = subst (Keeps rule k []) (sym (append-nil log)) all
  keeps_append P may log (e ∷ es) all each =
      subst (Keeps rule k []) (append_assoc log (e ∷ []) es)
      (keeps_append P may (log ++ e ∷ []) es (keeps_push [] log e all (may log e.object e.op each.0)) each.1)

  -- entries more, before each of which something holds that they keep, and by which the rule lets a caller make them
  pub keeps_while : (P : Object → Op → Type 0) (I : List Entry → Type 0)
      → ((log : List Entry) (e : Entry) → I log → P e.object e.op → rule k log e.object e.op × I (log ++ e ∷ []))
      → (log es : List Entry) → Keeps rule k [] log → I log → AllByRecursion (λ e. P e.object e.op) es
      → Keeps rule k [] (log ++ es) × I (log ++ es)
  keeps_while P I may log [] all now each = (subst (Keeps rule k []) (sym (append-nil log)) all, subst I (sym (append-nil log)) now)
  keeps_while P I may log (e ∷ es) all now each =
      let one = may log e now each.0 in
      let rest = keeps_while P I may (log ++ e ∷ []) es (keeps_push [] log e all one.0) one.1 each.1 in
      (subst (Keeps rule k []) (append_assoc log (e ∷ []) es) rest.0, subst I (append_assoc log (e ∷ []) es) rest.1)

  -- the entries before a moment
  pub keeps_front : (before front later : List Entry) → Keeps rule k before (front ++ later) → Keeps rule k before front
  keeps_front before [] later all = tt
  keeps_front before (x ∷ front) later all = (all.0, keeps_front (before ++ x ∷ []) front later all.1)

  -- the entry at a place
  pub keeps_at : (before front : List Entry) (e : Entry) (later : List Entry) → Keeps rule k before (front ++ e ∷ later)
      → rule k (before ++ front) e.object e.op
  keeps_at before [] e later all = subst (λ log. rule k log e.object e.op) (sym (append-nil before)) all.0
  keeps_at before (x ∷ front) e later all =
      subst (λ log. rule k log e.object e.op) (append_assoc before (x ∷ []) front) (keeps_at (before ++ x ∷ []) front e later all.1)

  -- a rule that follows from it
  pub keeps_weaker : (weaker : ℕ → List Entry → Object → Op → Type 0)
      → ((log : List Entry) (o : Object) (op : Op) → rule k log o op → weaker k log o op)
      → (before es : List Entry) → Keeps rule k before es → Keeps weaker k before es
  keeps_weaker weaker follows before [] all = tt
  keeps_weaker weaker follows before (e ∷ es) all =
      (follows before e.object e.op all.0, keeps_weaker weaker follows (before ++ e ∷ []) es all.1)

-- a task that has made one entry more, which the rule allows
pub keeps_event : (rule : ℕ → List Entry → Object → Op → Type 0) (t u : CallerFace) (e : Entry) → u.number ≡ t.number
    → u.log ≡ t.log ++ e ∷ [] → rule t.number t.log e.object e.op → Keeps rule t.number [] t.log → Keeps rule u.number [] u.log
keeps_event rule t u e same logged may keeps =
    subst (λ k. Keeps rule k [] u.log) (sym same)
    (subst (Keeps rule t.number []) (sym logged) (keeps_push rule t.number [] t.log e keeps may))

-- ---- entries of a history

-- what holds of an entry wherever it is
pub all_split : (P : Entry → Type 0) (before es later : List Entry)
    → ((front : List Entry) (e : Entry) (rest : List Entry) → before ++ (es ++ later) ≡ front ++ e ∷ rest → P e) → AllByRecursion P es
all_split P before [] later each = tt
all_split P before (e ∷ es) later each = (
  each before e (es ++ later) refl,
  all_split P (before ++ e ∷ []) es later
      (λ front x rest is. each front x rest (sym (append_assoc before (e ∷ []) (es ++ later)) ∙ is)),
)

-- an entry's caller is one of the configuration's
pub caller_exists : (c : Setup) (es front : List Entry) (e : Entry) (later : List Entry) → Legal c es → es ≡ front ++ e ∷ later
    → e.caller < c.callers
caller_exists c es front e later legal is = (all_back (λ (x : Entry). x.caller < c.callers) front (e ∷ later)
    (subst (AllByRecursion (λ x. x.caller < c.callers)) is (callers_exist c (opening c) es legal))).0

-- each entry of a history is what its caller's rule lets the caller do after its entries so far
pub entry_keeps : (rule : ℕ → List Entry → Object → Op → Type 0) (c : Setup) (es : List Entry) → Legal c es
    → ((k : ℕ) → k < c.callers → Keeps rule k [] (of k es)) → (front : List Entry) (e : Entry) (later : List Entry)
    → es ≡ front ++ e ∷ later → rule e.caller (of e.caller front) e.object e.op
entry_keeps rule c es legal all front e later is =
    let k = e.caller in
    keeps_at rule k [] (of k front) e (of k later)
    (subst (Keeps rule k []) (ap (of k) is ∙ of-append k front (e ∷ later) ∙ ap (λ xs. of k front ++ xs) (of_mine k e later refl))
    (all k (caller_exists c es front e later legal is)))

-- each caller has kept its rule at each moment
pub keeps_so_far : (rule : ℕ → List Entry → Object → Op → Type 0) (c : Setup) (es : List Entry)
    → ((k : ℕ) → k < c.callers → Keeps rule k [] (of k es)) → (before later : List Entry) → es ≡ before ++ later → (k : ℕ)
    → k < c.callers → Keeps rule k [] (of k before)
keeps_so_far rule c es all before later is k lt =
    keeps_front rule k [] (of k before) (of k later)
    (subst (Keeps rule k []) (ap (of k) is ∙ of-append k before later) (all k lt))

-- ---- a caller's entry, where it is among all

pub record Place (k : ℕ) (es front : List Entry) (e : Entry) (rest : List Entry) : Type 0 where
  pub before : List Entry
  pub later : List Entry
  pub split : es ≡ before ++ e ∷ later
  pub mine : e.caller ≡ k
  pub own : of k before ≡ front
  pub others : of k later ≡ rest

first_place : (k : ℕ) (x : Entry) (es front : List Entry) (e : Entry) (rest : List Entry) → x.caller ≡ k
    → ((more : List Entry) → of k es ≡ more ++ e ∷ rest → Place k es more e rest) → x ∷ of k es ≡ front ++ e ∷ rest
    → Place k (x ∷ es) front e rest
first_place k x es [] e rest own next is =
    let same : x ≡ e = cc is in
    let tail : of k es ≡ rest = cc is in
    let mine = ap (λ (y : Entry). y.caller) (sym same) ∙ own in
    record { before = []; later = es; split = ap (λ y. y ∷ es) same; mine = mine; own = refl; others = tail }
first_place k x es (y ∷ front) e rest own next is =
    let same : x ≡ y = cc is in
    let tail : of k es ≡ front ++ e ∷ rest = cc is in
    let p = next front tail in record {
      before = x ∷ p.before;
      later = p.later;
      split = ap (λ ys. x ∷ ys) p.split;
      mine = p.mine;
      own = of_mine k x p.before own ∙ (λ i. same i ∷ p.own i);
      others = p.others;
    }

none_left : (front : List Entry) (e : Entry) (rest : List Entry) → [] ≡ front ++ e ∷ rest → ⊥
none_left [] e rest is = cc is
none_left (x ∷ front) e rest is = cc is

place_next : (k : ℕ) (x : Entry) (es front : List Entry) (e : Entry) (rest : List Entry)
    → ((more : List Entry) → of k es ≡ more ++ e ∷ rest → Place k es more e rest) → of k (x ∷ es) ≡ front ++ e ∷ rest
    → Place k (x ∷ es) front e rest
place_next k x es front e rest next is = elim (cases_eq x.caller k) [
  | inl own ↦ first_place k x es front e rest own next (sym (of_mine k x es own) ∙ is)
  | inr other ↦
      let p = next front (sym (of_other k x es other) ∙ is) in record {
        before = x ∷ p.before;
        later = p.later;
        split = ap (λ ys. x ∷ ys) p.split;
        mine = p.mine;
        own = of_other k x p.before other ∙ p.own;
        others = p.others;
      }
]

pub placed : (k : ℕ) (es front : List Entry) (e : Entry) (rest : List Entry) → of k es ≡ front ++ e ∷ rest → Place k es front e rest
placed k [] front e rest is = absurd (none_left front e rest is)
placed k (x ∷ es) front e rest is = place_next k x es front e rest (λ more tail. placed k es more e rest tail) is
