-- Two lists with the same entries at each object, and of each caller, are one history.
use Rattle.std.proofs.Common.{◌≡◌, ◌↔◌, ℕ, List, sym, ap, ◌∙◌, subst}
use Rattle.mv_machine.specs.declared.entry.Entry.{Entry}
use Rattle.mv_machine.specs.declared.entry.Object.{Object}
use Rattle.mv_machine.specs.declared.entry.Object.TheVariants.{Ecb, Element, Volume, Latches}
use Rattle.mv_machine.specs.Legal.{Legal, SameAt, after, of, «at»}
use Rattle.mv_machine.specs.Parts.{Had}
use Rattle.mv_config.specs.Setup.{Setup}
use Rattle.mv_machine.specs.System.{System, opening}
use Rattle.mv_machine.specs.Told.{told}
use Rattle.mv_machine.proofs.Objects.{part_is_legal, legal_from_parts, same_parts_legal, after_part, told_by_part, same_flip, same_trans}

-- two lists with the same entries at each object
abbrev pub SameObjects : List Entry → List Entry → Type 0
SameObjects es fs = (o : Object) → «at» o es ≡ «at» o fs

pub legal_by_parts : (c : Setup) (es : List Entry) → Legal c es ↔ ((o : Object) → Legal c («at» o es))
legal_by_parts c es = (λ l o. part_is_legal c (opening c) o es l, legal_from_parts c (opening c) es)

pub after_by_part : (c : Setup) (es : List Entry) (o : Object) → Legal c es → SameAt o (after c es) (after c («at» o es))
after_by_part c es o l = after_part c (opening c) o es l

pub same_legal : (c : Setup) (es fs : List Entry) → SameObjects es fs → Legal c es → Legal c fs
same_legal c es fs same l = same_parts_legal c (opening c) es fs same l

-- machines that agree at each object are one
same_everywhere : (s t : System) → ((o : Object) → SameAt o s t) → s ≡ t
same_everywhere s t h = λ i. record {
  ecb = λ n. h (Ecb n) i;
  element = λ n. h (Element n) i;
  volume = λ n. h (Volume n) i;
  latches = h Latches i;
}

pub same_after : (c : Setup) (es fs : List Entry) → SameObjects es fs → Legal c es → after c es ≡ after c fs
same_after c es fs same l = same_everywhere (after c es) (after c fs) (λ o.
    same_trans o (after c es) (after c («at» o es)) (after c fs) (after_by_part c es o l)
    (subst (λ xs. SameAt o (after c xs) (after c fs)) (sym (same o))
    (same_flip o (after c fs) (after c («at» o fs)) (after_by_part c fs o (same_legal c es fs same l)))))

pub same_told : (c : Setup) (es fs : List Entry) (k : ℕ) → «at» Latches es ≡ «at» Latches fs → told c k es ≡ told c k fs
same_told c es fs k same = told_by_part (opening c) k es ∙ (ap (λ xs. told c k xs) same ∙ sym (told_by_part (opening c) k fs))

pub same_had : (c : Setup) (es fs : List Entry) (k n w : ℕ) (o : Object) → «at» o es ≡ «at» o fs → of k es ≡ of k fs → Had c es k n o w
    → Had c fs k n o w
same_had c es fs k n w o objects callers h = record {
  place = h.place;
  state = h.state;
  unpacks = h.unpacks;
  reached = rw objects at h.reached;
  was = rw objects at h.was;
  made = rw callers at h.made;
  behind = rw callers at h.behind;
  ahead = rw callers at h.ahead;
}
