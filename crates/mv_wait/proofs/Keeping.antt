-- The tables of a task, and what it keeps.
use Rattle.std.proofs.Common.{◌≡◌, ◌≢◌, ℕ, ◌+◌, ◌<◌, ◌==◌, Bool, true, false, length}
use Rattle.std.proofs.Common.{cond, get_or, set, Some, slice_get, refl, sym, ap, ◌∙◌, subst, arith}
use Rattle.std.proofs.lemmas.Bool.{false≢true, eqb-true, eq-eqb, ne_eqb}
use Rattle.std.proofs.lemmas.Option.{slice_get_within, slice_get-get_or, get_or_from_slice_get}
use Rattle.std.proofs.lemmas.List.{get_or-set_same, get_or-set_other}
use Rattle.std.proofs.Math.ListN.{length-set}
use Rattle.mv_element.specs.declared.operation.ElementOp.{ElementOp}
use Rattle.mv_element.specs.declared.operation.ElementReply.{ElementReply}
use Rattle.mv_element.specs.declared.operation.ElementReply.TheVariants as element_reply
use Rattle.mv_machine.specs.declared.entry.Object.TheVariants.{Ecb, Element}
use Rattle.mv_machine.specs.declared.entry.Op.TheVariants as op_on
use Rattle.mv_machine.specs.declared.entry.Reply.TheVariants as reply_of
use Rattle.mv_machine.specs.System.{with_at}
use Rattle.mv_calls.specs.Keeping.{Kept, kept_after, extended_with, in_use_with, generation_with, generation_after}
use Rattle.mv_ecb.specs.declared.operation.EcbOp.{EcbOp}
use Rattle.mv_ecb.specs.declared.operation.EcbReply.{EcbReply}
use Rattle.mv_wait.specs.declared.keep.Keep.{Keep}
use Rattle.mv_wait.specs.declared.keep.OwnElement.{OwnElement}
use Rattle.mv_wait.specs.Keep.{Keeps, AreExtended, AreElements, AreHeld, in_use_after, element_after}

-- where the numbers are one, the value there is the same
used_same : (used : ℕ → Bool) (n m : ℕ) → used m ≡ cond (m == n) (used n) (used m)
used_same used n m = go (m == n) refl where
  go : (b : Bool) → (m == n) ≡ b → used m ≡ cond b (used n) (used m)
  go true is = ap used (eqb-true m n is)
  go false is = refl

in_use_at : (used : ℕ → Bool) (n m : ℕ) (r : ElementReply)
    → in_use_with used (Element n) (reply_of.Element r) m ≡ cond (m == n) (in_use_after (used n) r) (used m)
in_use_at used n m (element_reply.Opened g) = refl
in_use_at used n m element_reply.InUse = used_same used n m
in_use_at used n m element_reply.Parked = used_same used n m
in_use_at used n m (element_reply.Given code next) = used_same used n m
in_use_at used n m (element_reply.Spent g) = used_same used n m
in_use_at used n m element_reply.Busy = used_same used n m
in_use_at used n m element_reply.NotYet = used_same used n m
in_use_at used n m element_reply.Early = used_same used n m
in_use_at used n m element_reply.Woke = used_same used n m
in_use_at used n m element_reply.Already = used_same used n m
in_use_at used n m element_reply.Closed = refl
in_use_at used n m (element_reply.State s) = used_same used n m

module _ (used : ℕ → Bool) (generation : ℕ → ℕ) (k : Keep) (n : ℕ) (op : ElementOp) (reply : ElementReply) where
  -- what is said of an element then
  abbrev Says : ℕ → OwnElement → Type 0
  Says j e = (e.in_use ≡ in_use_with used (Element n) (reply_of.Element reply) (k.first + j))
      × (e.generation ≡ with_at generation n (generation_after (generation n) op reply) (k.first + j))

  at_it : (j : ℕ) (old new e : OwnElement) → k.first + j ≡ n
      → (old.in_use ≡ used (k.first + j)) × (old.generation ≡ generation (k.first + j)) → new ≡ element_after old op reply → e ≡ new
      → Says j e
  at_it j old new e here was is same =
      let m : e ≡ element_after old op reply = same ∙ is in
      let hit : (k.first + j == n) ≡ true = eq-eqb (k.first + j) n here in (
        ap (λ (x : OwnElement). x.in_use) m
            ∙ (ap (λ b. in_use_after b reply) (was.0 ∙ ap used here)
            ∙ sym (in_use_at used n (k.first + j) reply ∙ ap (λ b. cond b (in_use_after (used n) reply) (used (k.first + j))) hit)),
        ap (λ (x : OwnElement). x.generation) m
            ∙ (ap (λ g. generation_after g op reply) (was.1 ∙ ap generation here)
            ∙ sym (ap (λ b. cond b (generation_after (generation n) op reply) (generation (k.first + j))) hit)),
      )

  at_other : (j : ℕ) (e : OwnElement) → k.first + j ≢ n → (e.in_use ≡ used (k.first + j)) × (e.generation ≡ generation (k.first + j))
      → Says j e
  at_other j e apart was =
      let miss : (k.first + j == n) ≡ false = ne_eqb (k.first + j) n apart in (
        was.0 ∙ sym (in_use_at used n (k.first + j) reply ∙ ap (λ b. cond b (in_use_after (used n) reply) (used (k.first + j))) miss),
        was.1 ∙ sym (ap (λ b. cond b (generation_after (generation n) op reply) (generation (k.first + j))) miss),
      )

  pub element_kept : (i : ℕ) (old new : OwnElement) → n ≡ k.first + i → i < length k.elements.items → old ≡ get_or k.elements.items i old
      → new ≡ element_after old op reply
      → AreElements used generation k → (j : ℕ) (e : OwnElement) → slice_get (set k.elements.items i new) j ≡ Some e → Says j e
  element_kept i old new is lt was after all j e found = go (j == i) refl where
    within : j < length (set k.elements.items i new)
    within = slice_get_within (set k.elements.items i new) j e found

    read : get_or (set k.elements.items i new) j e ≡ e
    read = get_or_from_slice_get (set k.elements.items i new) j e e found

    go : (b : Bool) → (j == i) ≡ b → Says j e
    go true hit =
        let same : j ≡ i = eqb-true j i hit in
        at_it j old new e (omega arith)
        (subst (λ m. (old.in_use ≡ used (k.first + m)) × (old.generation ≡ generation (k.first + m))) (sym same)
        (all i old (slice_get-get_or k.elements.items i old lt ∙ ap (λ x. Some x) (sym was))))
        after (sym read ∙ (ap (λ m. get_or (set k.elements.items i new) m e) same ∙ get_or-set_same k.elements.items i new e lt))
    go false miss =
        let apart : j ≢ i = λ q. false≢true (sym miss ∙ eq-eqb j i q) in
        let size = length-set k.elements.items i new in
        let inside = within in
        at_other j e (λ q. apart (omega arith))
        (all j e (slice_get-get_or k.elements.items j e (omega arith)
        ∙ ap (λ x. Some x) (sym (get_or-set_other k.elements.items i j new e apart) ∙ read)))

-- ---- one event

pub block_kept : (kept : Kept) (k new : Keep) (n : ℕ) (op : EcbOp) (reply : EcbReply) → new ≡ record k { extended = new.extended }
    → AreExtended (extended_with kept.extended (Ecb n) (op_on.Ecb op) (reply_of.Ecb reply)) new → Keeps kept k
    → Keeps (kept_after kept (Ecb n) (op_on.Ecb op) (reply_of.Ecb reply)) new
block_kept kept k new n op reply same extended all = record {
  extended = extended;
  elements = subst (λ (z : Keep). AreElements kept.in_use kept.generation z) (sym same) all.elements;
  requests = subst (λ (z : Keep). AreHeld kept.requests z.requests.slots) (sym same) all.requests;
}

pub element_follows : (kept : Kept) (k new : Keep) (n : ℕ) (op : ElementOp) (reply : ElementReply)
    → new ≡ record k { elements = new.elements }
    → AreElements (in_use_with kept.in_use (Element n) (reply_of.Element reply))
    (generation_with kept.generation (Element n) (op_on.Element op) (reply_of.Element reply)) new → Keeps kept k
    → Keeps (kept_after kept (Element n) (op_on.Element op) (reply_of.Element reply)) new
element_follows kept k new n op reply same elements all = record {
  extended = subst (λ (z : Keep). AreExtended kept.extended z) (sym same) all.extended;
  elements = elements;
  requests = subst (λ (z : Keep). AreHeld kept.requests z.requests.slots) (sym same) all.requests;
}
