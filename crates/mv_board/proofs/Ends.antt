-- How a board ends: what the joined seats hold is one history, by the callers in their order.
use Rattle.std.proofs.Common.{◌≡◌, ℕ, zero, suc, ◌+◌, ◌*◌, ◌^◌, ◌<◌, List, [], ◌∷◌, ◌++◌, length, get_or, map, refl, sym, ap, ◌∙◌}
use Rattle.std.proofs.Common.{subst, arith, append-nil, append_assoc}
use Rattle.std.specs.List.{AllByRecursion}
use Rattle.std.proofs.lemmas.List.{nil_from_length, map-append}
use mathlib.Core.Option.{some}
use lib.ListN.{get_elem?}
use Rattle.atomic_table.specs.Table.{Final, Seen}
use Rattle.mv_machine.specs.declared.entry.Entry.{Entry}
use Rattle.mv_machine.specs.declared.entry.Object.TheVariants.{Volume}
use Rattle.mv_machine.specs.Legal.{Legal, after, of}
use Rattle.mv_machine.specs.Merge.{merged, AreOneHistory}
use Rattle.mv_machine.specs.Packing.{word_at}
use Rattle.mv_machine.specs.Parts.{KeepsBudgets, parts_from, parts}
use Rattle.mv_config.specs.Setup.{Setup}
use Rattle.mv_machine.proofs.Words.{numbers_after}
use Rattle.mv_board.specs.declared.item.Item.{Item}
use Rattle.mv_board.specs.declared.view.Part.{Part}
use Rattle.mv_board.specs.declared.view.View.{View}
use Rattle.mv_board.specs.Faces.{BoardFace, CallerFace, IsOf, AreInOrder, AreNumbered, IsPartIn, IsIn, part_of, log_of}
use Rattle.mv_board.specs.Rule.{history_of, IsPart, Ruled}
use Rattle.mv_board.specs.Words.{number_in}
use Rattle.mv_board.proofs.Standing.{Table}
use Rattle.mv_board.proofs.Views.{keeps_budgets, logs_parts}

-- A history ends a board: it is legal and within the budgets, and each caller's part is its part of it.
pub record Ends (c : Setup) (ps : List Part) (h : List Entry) : Type 0 where
  pub legal : Legal c h
  pub budgets : KeepsBudgets c h
  pub logs : parts c.callers h ≡ map log_of ps
  pub parts : AllByRecursion (IsPartIn c h) ps

-- ---- all callers' parts are the history

logs_in_order : (c : Setup) (h : List Entry) (k : ℕ) (ps : List Part) → AreNumbered k ps → AllByRecursion (IsPart c h) ps
    → parts_from k (length ps) h ≡ map log_of ps
logs_in_order c h k [] o a = refl
logs_in_order c h k (p ∷ ps) o a = λ i. (ap (λ z. of z h) (sym o.0) ∙ sym a.0.logged) i ∷ logs_in_order c h (suc k) ps o.1 a.1 i

parts_in : (c : Setup) (h : List Entry) (ps : List Part) → AllByRecursion (IsPart c h) ps → AllByRecursion (IsPartIn c h) ps
parts_in c h [] a = tt
parts_in c h (p ∷ ps) a = (record { logged = sym a.0.logged; told = sym a.0.shown; met = a.0.had }, parts_in c h ps a.1)

module _ (c : Setup) (s : Table) (r : Ruled c s) (ps : List Part) (all : length ps ≡ c.callers) (numbered : AreNumbered 0 ps)
    (known : AllByRecursion (IsPart c (history_of c s.views)) ps) where
  ends : Ends c ps (history_of c s.views)
  ends =
      let h : List Entry = history_of c s.views in record {
        legal = r.legal;
        budgets = keeps_budgets c s.views h r.logs;
        logs = ap (λ n. parts n h) (sym all) ∙ logs_in_order c h 0 ps numbered known;
        parts = parts_in c h ps known;
      }

  -- and that is the merge of their logs
  merges : merged (map log_of ps) ≡ history_of c s.views
  merges = ap merged (sym ends.logs ∙ sym (logs_parts c s.views (history_of c s.views) r.logs))

-- one view that holds them all is enough
pub closes : (c : Setup) (ws : List ℕ) (items : List Item) (id : ℕ) (v : View) → length v.parts ≡ c.callers → AreNumbered 0 v.parts
    → Final (Seen (Ruled c) id v) ws items
    → AreOneHistory c (map log_of v.parts) × Ends c v.parts (merged (map log_of v.parts))
closes c ws items id v all numbered f =
    let s : Table = f.0 in
    let r : Ruled c s = f.1.0 in
    let at : get_elem? s.views id ≡ some v = f.1.1 in
    let h : List Entry = history_of c s.views in
    let known : AllByRecursion (IsPart c h) v.parts = (r.logs.known id v at).parts in
    let end : Ends c v.parts h = ends c s r v.parts all numbered known in (
      record { history = h; legal = end.legal; budgets = end.budgets; parts = end.logs },
      subst (Ends c v.parts) (sym (merges c s r v.parts all numbered known)) end,
    )

-- ---- the words of the volumes

low_bits : (place n : ℕ) → n < 2 ^ 32 → number_in (place * 2 ^ 45 + n) ≡ n
low_bits place n lt = omega arith

-- a word that is there is the one that a read of the list gives
pub word_read : (ws : List ℕ) (n w : ℕ) → get_elem? ws n ≡ some w → get_or ws n 0 ≡ w
word_read [] n w e = cc
word_read (x ∷ xs) zero w e = cc
word_read (x ∷ xs) (suc n) w e = word_read xs n w e

-- each volume's word has the number that the history leads it to
pub words_held : (c : Setup) (ws : List ℕ) (items : List Item) (id : ℕ) (v : View) → length v.parts ≡ c.callers → AreNumbered 0 v.parts
    → Final (Seen (Ruled c) id v) ws items
    → (n : ℕ) → n < c.volumes → number_in (get_or ws n 0) ≡ ((after c (merged (map log_of v.parts))).volume n).state
words_held c ws items id v all numbered f n there =
    let s : Table = f.0 in
    let r : Ruled c s = f.1.0 in
    let h : List Entry = history_of c s.views in
    let known : AllByRecursion (IsPart c h) v.parts = (r.logs.known id v f.1.1).parts in
    let word : get_or s.words n 0 ≡ word_at (after c h) (Volume n) = r.words (Volume n) there in
    ap (λ z. number_in (get_or z n 0)) (sym f.2)
    ∙ (ap number_in word ∙ low_bits _ _ ((numbers_after c h r.legal).numbers n))
    ∙ ap (λ es. ((after c es).volume n).state) (sym (merges c s r v.parts all numbered known))

-- ---- the callers come back one after the other

-- one more is numbered behind them
pub numbered_more : (k : ℕ) (ps : List Part) (p : Part) → AreNumbered k ps → p.caller ≡ length ps + k → AreNumbered k (ps ++ p ∷ [])
numbered_more k [] p all next = (omega arith, tt)
numbered_more k (q ∷ ps) p all next = (all.0, numbered_more (suc k) ps p all.1 (omega arith))

-- of callers in order each is of the board, and has the number of those before it
pub next_in_order : (b : BoardFace) (k : ℕ) (before : List CallerFace) (x : CallerFace) (rest : List CallerFace)
    → AreInOrder b k (before ++ x ∷ rest)
    → IsOf b x × (x.number ≡ length (map part_of before) + k)
next_in_order b k [] x rest o = let number = o.1 in (o.0, omega arith)
next_in_order b k (y ∷ before) x rest o = let next = next_in_order b (suc k) before x rest o.2 in let number = next.1 in
    (next.0, omega arith)

-- the same of the first of those that are left
pub next_left : (b : BoardFace) (callers before left rest : List CallerFace) (x : CallerFace) → AreInOrder b 0 callers
    → before ++ left ≡ callers → left ≡ x ∷ rest → IsOf b x × (x.number ≡ length (map part_of before) + 0)
next_left b callers before left rest x order whole first =
    next_in_order b 0 before x rest (subst (AreInOrder b 0) (sym whole ∙ ap (λ xs. before ++ xs) first) order)

-- one more of them was taken from those that are left
pub taken_more : {A : Type 0} → (before left rest all : List A) (x : A) → before ++ left ≡ all → left ≡ x ∷ rest
    → (before ++ x ∷ []) ++ rest ≡ all
taken_more before left rest all x whole first =
    append_assoc before (x ∷ []) rest ∙ (ap (λ xs. before ++ xs) (sym first) ∙ whole)

-- and one less is left
pub left_less : {A : Type 0} → (left rest : List A) (x : A) (n m : ℕ) → n ≡ length left → left ≡ x ∷ rest → m + 1 ≡ n → m ≡ length rest
left_less left rest x n m all first less = let more = ap length first in omega arith

-- and one part more has come back
pub back_more : (before : List CallerFace) (x : CallerFace) (ps : List Part) → ps ≡ map part_of before
    → ps ++ part_of x ∷ [] ≡ map part_of (before ++ x ∷ [])
back_more before x ps back = ap (λ qs. qs ++ part_of x ∷ []) back ∙ sym (map-append part_of before (x ∷ []))

-- behind the last of them the parts of all have come back
pub all_back : (before rest all : List CallerFace) (ps : List Part) → before ++ rest ≡ all → length rest ≡ 0 → ps ≡ map part_of before
    → ps ≡ map part_of all
all_back before rest all ps e none back =
    back ∙ ap (map part_of) (sym (append-nil before) ∙ (ap (λ xs. before ++ xs) (sym (nil_from_length rest none)) ∙ e))

-- what is said of their parts, as they came back to the board, is said of them
pub each_in : {b d : BoardFace} {ps : List Part} (h : List Entry) (xs : List CallerFace) → b ≡ d → ps ≡ map part_of xs
    → AllByRecursion (IsPartIn b.config h) ps → AllByRecursion (IsIn d.config h) xs
each_in {d = d} h xs board back all = go xs (rw (board, back) at all) where
  go : (ys : List CallerFace) → AllByRecursion (IsPartIn d.config h) (map part_of ys) → AllByRecursion (IsIn d.config h) ys
  go [] each = tt
  go (y ∷ ys) each = (each.0, go ys each.1)

pub logs_of_parts : (xs : List CallerFace) → map log_of (map part_of xs) ≡ map (λ k. k.log) xs
logs_of_parts [] = refl
logs_of_parts (x ∷ xs) = ap (λ ls. x.log ∷ ls) (logs_of_parts xs)

pub logs_more : (ps : List Part) (p : Part) → map log_of ps ++ log_of p ∷ [] ≡ map log_of (ps ++ p ∷ [])
logs_more [] p = refl
logs_more (q ∷ ps) p = ap (λ ls. log_of q ∷ ls) (logs_more ps p)
