-- What another caller does keeps the owner's part.
use Rattle.std.proofs.Common.{◌≡◌, ◌==◌, ◌&&◌, ◌⊎◌, ℕ, Bool, true, false, List, [], ◌∷◌, ◌++◌, Some, cond, inl, inr, refl, sym, ap}
use Rattle.std.proofs.Common.{◌∙◌, arith}
use Rattle.std.specs.List.{AllByRecursion}
use Rattle.std.proofs.lemmas.Bool.{cases_Bool, false≢true, eq-eqb, and_parts}
use Rattle.mv_ecb.specs.declared.operation.EcbOp.{EcbOp}
use Rattle.mv_ecb.specs.Word.{EcbState, Complete}
use Rattle.mv_ecb.specs.Table.{ecb_step}
use Rattle.mv_element.specs.declared.operation.ElementOp.{ElementOp}
use Rattle.mv_element.specs.declared.element.ElementState.{ElementState}
use Rattle.mv_element.specs.declared.element.Phase.TheVariants.{Free, Prereleased, Released}
use Rattle.mv_element.specs.Table.{element_step}
use Rattle.mv_machine.specs.declared.entry.Entry.{Entry}
use Rattle.mv_machine.specs.declared.entry.Object.{Object}
use Rattle.mv_machine.specs.declared.entry.Object.TheVariants.{Ecb, Element, Volume, Latches}
use Rattle.mv_machine.specs.declared.entry.Op.{Op}
use Rattle.mv_machine.specs.declared.entry.Op.TheVariants as op_on
use Rattle.mv_machine.specs.declared.entry.Reply.{Reply}
use Rattle.mv_machine.specs.Elements.{Event}
use Rattle.mv_machine.specs.Legal.{IsNext, next, Legal, after, same_object, of}
use Rattle.mv_machine.specs.Owned.{owner_at, is_owners, is_clear, HasNo}
use Rattle.mv_config.specs.Setup.{Setup, owner_of, element_owner}
use Rattle.mv_machine.specs.System.{System, ecb_admitted, element_admitted}
use Rattle.mv_machine.proofs.EntryRuns.{entry_of, along, rest_is_legal, at_end}
use Rattle.mv_machine.proofs.Objects.{same_is}
use Rattle.mv_machine.proofs.OneObject.{Subject, PassesBy, HappensAt}
use Rattle.mv_machine.proofs.Subjects.{block, element, block_meets, element_meets}

-- ---- an owner's operation is made by the owner
ecb_made_by : (c : Setup) (k n : ℕ) (op : EcbOp) → ecb_admitted c k n op ≡ true → is_owners (op_on.Ecb op) ≡ true → owner_of c n ≡ k
ecb_made_by c k n op a own = grind arith

element_made_by : (c : Setup) (k n : ℕ) (op : ElementOp) → element_admitted c k n op ≡ true → is_owners (op_on.Element op) ≡ true
    → element_owner c n ≡ k
element_made_by c k n op a own = grind arith

pub made_by_owner : (c : Setup) (s : System) (k : ℕ) (o : Object) (p : ℕ) (op : Op) (r : Reply) → IsNext c s (entry_of k o p op r)
    → is_owners op ≡ true → owner_at c o ≡ Some k
made_by_owner c s k (Ecb n) p (op_on.Ecb op) r h own = ap (λ z. Some z) (ecb_made_by c k n op (and_parts _ _ h.admits).1 own)
made_by_owner c s k (Element n) p (op_on.Element op) r h own = ap (λ z. Some z) (element_made_by c k n op (and_parts _ _ h.admits).1 own)
made_by_owner c s k (Volume n) p (op_on.Volume op) r h own = absurd (false≢true own)
made_by_owner c s k Latches p (op_on.Latch op) r h own = absurd (false≢true own)
made_by_owner c s k o p op r h own = absurd (false≢true h.admits)

pub owner_makes : (c : Setup) (xs ys : List Entry) (e : Entry) → Legal c (xs ++ e ∷ ys) → is_owners e.op ≡ true
    → owner_at c e.object ≡ Some e.caller
owner_makes c xs ys e l own = made_by_owner c (after c xs) e.caller e.object e.place e.op e.reply (rest_is_legal c xs (e ∷ ys) l).0 own

-- ---- where the owner's entries have no such operation, no entry has one
-- what the owner's entries say of each entry
abbrev pub OwnersHasNo : (Op → Bool) → Object → ℕ → Entry → Type 0
OwnersHasNo test o owner e = (e.caller == owner) ≡ true → (same_object e.object o && test e.op) ≡ false

owners_entries : (test : Op → Bool) (o : Object) (owner : ℕ) (es : List Entry) → HasNo test o (of owner es)
    → AllByRecursion (OwnersHasNo test o owner) es
owners_entries test o owner [] a = tt
owners_entries test o owner (e ∷ es) a = go (e.caller == owner) refl a (owners_entries test o owner es) where
  go : (b : Bool) → (e.caller == owner) ≡ b → HasNo test o (cond b (e ∷ of owner es) (of owner es))
      → (HasNo test o (of owner es) → AllByRecursion (OwnersHasNo test o owner) es) → AllByRecursion (OwnersHasNo test o owner) (e ∷ es)
  go true is w rest = ((λ _. w.0), rest w.1)
  go false is w rest = ((λ own. absurd (false≢true (sym is ∙ own))), rest w)

pub not_made : (c : Setup) (s : System) (test : Op → Bool) (o : Object) (owner : ℕ) (e : Entry)
    → ((op : Op) → test op ≡ true → is_owners op ≡ true) → owner_at c o ≡ Some owner
    → IsNext c s e → OwnersHasNo test o owner e → same_object e.object o ≡ true → test e.op ≡ false
not_made c s test o owner e owned is h none same = elim (cases_Bool (test e.op)) [
  | inl made ↦
      let by : owner_at c e.object ≡ Some e.caller = made_by_owner c s e.caller e.object e.place e.op e.reply h (owned e.op made) in
      let at : owner_at c e.object ≡ Some owner = ap (owner_at c) (same_is e.object o same) ∙ is in
      let own : e.caller ≡ owner = cc in
      let never : (same_object e.object o && test e.op) ≡ false = none (eq-eqb e.caller owner own) in
      absurd (false≢true (sym never ∙ (rw (same, made) refl)))
  | inr not_so ↦ not_so
]

-- ---- what an object keeps under each operation that does not meet the test, it keeps until its owner makes one
kept_by_others : {O R S : Type 0} (x : Subject O R S) (c : Setup) (owner : ℕ) (test : Op → Bool) (P : S → Type 0)
    → ((s : System) (e : Entry) → IsNext c s e → PassesBy x s e ⊎ HappensAt x s e)
    → owner_at c x.object ≡ Some owner → ((op : Op) → test op ≡ true → is_owners op ≡ true)
    → ((v : Event O R) (z : S) → test (x.on v.op) ≡ false → P z → P (x.table v.caller v.place v.op z).0)
    → (xs ys : List Entry) → Legal c (xs ++ ys) → HasNo test x.object (of owner ys) → P (x.cell (after c xs)).state
    → P (x.cell (after c (xs ++ ys))).state
kept_by_others x c owner test P meets is owned keeps xs ys l none p =
    at_end c (λ s. P (x.cell s).state) xs ys
    (along c (λ s. P (x.cell s).state) (OwnersHasNo test x.object owner) step (after c xs) ys (rest_is_legal c xs ys l)
    (owners_entries test x.object owner ys none) p) where
      step : (s : System) (e : Entry) → IsNext c s e → OwnersHasNo test x.object owner e → P (x.cell s).state
          → P (x.cell (next s e)).state
      step s e h never q = elim (meets s e h) [
        | inl w ↦ rw (w.kept) q
        | inr w ↦
            let other : test e.op ≡ false = not_made c s test x.object owner e owned is h never w.there in
            rw (w.after) (keeps w.event (x.cell s).state (ap test (sym w.op) ∙ other) q)
      ]

-- so a block keeps it
pub ecb_kept : (c : Setup) (n : ℕ) (test : Op → Bool) (P : EcbState → Type 0) → ((op : Op) → test op ≡ true → is_owners op ≡ true)
    → ((x : EcbOp) (z : EcbState) → test (op_on.Ecb x) ≡ false → P z → P (ecb_step x z).0)
    → (xs ys : List Entry) → Legal c (xs ++ ys) → HasNo test (Ecb n) (of (owner_of c n) ys) → P ((after c xs).ecb n).state
    → P ((after c (xs ++ ys)).ecb n).state
ecb_kept c n test P owned keeps xs ys l none p =
    kept_by_others (block n) c (owner_of c n) test P (block_meets c n) refl owned (λ v. keeps v.op) xs ys l none p

-- and an element
pub element_kept : (c : Setup) (n : ℕ) (P : ElementState → Type 0)
    → ((x : ElementOp) (z : ElementState) → is_owners (op_on.Element x) ≡ false → P z → P (element_step x z).0)
    → (xs ys : List Entry) → Legal c (xs ++ ys) → HasNo is_owners (Element n) (of (element_owner c n) ys)
    → P ((after c xs).element n).state → P ((after c (xs ++ ys)).element n).state
element_kept c n P keeps xs ys l none p =
    kept_by_others (element n) c (element_owner c n) is_owners P (element_meets c n) refl (λ _ own. own) (λ v. keeps v.op) xs ys l none p

-- ---- the tables, for operations that are not the owner's
clear_is_owners : (op : Op) → is_clear op ≡ true → is_owners op ≡ true
clear_is_owners (op_on.Ecb op) is = grind arith
clear_is_owners op is = absurd (false≢true is)

complete_next : (code : ℕ) (op : EcbOp) (z : EcbState) → is_clear (op_on.Ecb op) ≡ false → z ≡ Complete code
    → (ecb_step op z).0 ≡ Complete code
complete_next code op z other is = grind arith

generation_next : (g : ℕ) (op : ElementOp) (z : ElementState) → is_owners (op_on.Element op) ≡ false → z.generation ≡ g
    → (element_step op z).0.generation ≡ g
generation_next g op z other is = grind arith

free_next : (op : ElementOp) (z : ElementState) → is_owners (op_on.Element op) ≡ false → z.phase ≡ Free → (element_step op z).0.phase ≡ Free
free_next op z other is = grind arith

free_before : (op : ElementOp) (z : ElementState) → is_owners (op_on.Element op) ≡ false → (element_step op z).0.phase ≡ Free
    → z.phase ≡ Free
free_before op z other is = grind arith

released_next : (op : ElementOp) (z : ElementState) → is_owners (op_on.Element op) ≡ false → z.phase ≡ Released → (element_step op z).0 ≡ z
released_next op z other is = grind arith

prereleased_next : (op : ElementOp) (z : ElementState) → is_owners (op_on.Element op) ≡ false → z.phase ≡ Prereleased
    → (element_step op z).0 ≡ z
prereleased_next op z other is = grind arith

-- ---- what the owner finds again
pub complete_kept : (c : Setup) (xs ys : List Entry) (n code : ℕ) → Legal c (xs ++ ys) → HasNo is_clear (Ecb n) (of (owner_of c n) ys)
    → ((after c xs).ecb n).state ≡ Complete code → ((after c (xs ++ ys)).ecb n).state ≡ Complete code
complete_kept c xs ys n code l none is = ecb_kept c n is_clear (λ z. z ≡ Complete code) clear_is_owners (complete_next code) xs ys l none is

pub generation_kept : (c : Setup) (xs ys : List Entry) (n : ℕ) → Legal c (xs ++ ys)
    → HasNo is_owners (Element n) (of (element_owner c n) ys)
    → ((after c (xs ++ ys)).element n).state.generation ≡ ((after c xs).element n).state.generation
generation_kept c xs ys n l none =
    let g : ℕ = ((after c xs).element n).state.generation in
    element_kept c n (λ z. z.generation ≡ g) (generation_next g) xs ys l none refl

pub free_kept : (c : Setup) (xs ys : List Entry) (n : ℕ) → Legal c (xs ++ ys) → HasNo is_owners (Element n) (of (element_owner c n) ys)
    → ((after c xs).element n).state.phase ≡ Free → ((after c (xs ++ ys)).element n).state.phase ≡ Free
free_kept c xs ys n l none is = element_kept c n (λ z. z.phase ≡ Free) free_next xs ys l none is

pub free_was : (c : Setup) (xs ys : List Entry) (n : ℕ) → Legal c (xs ++ ys) → HasNo is_owners (Element n) (of (element_owner c n) ys)
    → ((after c (xs ++ ys)).element n).state.phase ≡ Free → ((after c xs).element n).state.phase ≡ Free
free_was c xs ys n l none is =
    element_kept c n (λ z. z.phase ≡ Free → ((after c xs).element n).state.phase ≡ Free)
    (λ x z other was now. was (free_before x z other now)) xs ys l none (λ now. now) is

pub released_kept : (c : Setup) (xs ys : List Entry) (n : ℕ) → Legal c (xs ++ ys) → HasNo is_owners (Element n) (of (element_owner c n) ys)
    → ((after c xs).element n).state.phase ≡ Released → ((after c (xs ++ ys)).element n).state ≡ ((after c xs).element n).state
released_kept c xs ys n l none is =
    let z : ElementState = ((after c xs).element n).state in
    element_kept c n (λ y. y ≡ z)
    (λ x y other same. released_next x y other (ap (λ (w : ElementState). w.phase) same ∙ is) ∙ same) xs ys l none refl

pub prereleased_kept : (c : Setup) (xs ys : List Entry) (n : ℕ) → Legal c (xs ++ ys)
    → HasNo is_owners (Element n) (of (element_owner c n) ys)
    → ((after c xs).element n).state.phase ≡ Prereleased → ((after c (xs ++ ys)).element n).state ≡ ((after c xs).element n).state
prereleased_kept c xs ys n l none is =
    let z : ElementState = ((after c xs).element n).state in
    element_kept c n (λ y. y ≡ z)
    (λ x y other same. prereleased_next x y other (ap (λ (w : ElementState). w.phase) same ∙ is) ∙ same) xs ys l none refl
