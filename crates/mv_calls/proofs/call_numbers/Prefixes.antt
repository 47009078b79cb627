-- The call numbers of the first entries are the first of the call numbers.
use Rattle.std.proofs.Common.{◌≡◌, ℕ, zero, suc, ◌+◌, ◌<◌, List, [], ◌∷◌, ◌++◌, length, take, drop, slice_get, get_or, Some, subst, refl}
use Rattle.std.proofs.Common.{sym, ap, ◌∙◌, arith}
use Rattle.std.proofs.lemmas.List.{take-append-drop, take_more, length-take-le, get_or-take}
use Rattle.std.proofs.lemmas.Option.{slice_get-get_or, slice_get_within}
use Rattle.mv_machine.specs.declared.entry.Entry.{Entry}
use Rattle.mv_machine.specs.Legal.{Legal, LegalFrom, next}
use Rattle.mv_config.specs.Setup.{Setup}
use Rattle.mv_machine.specs.System.{System, opening, with_at}
use Rattle.mv_machine.proofs.Histories.{LegalFrom-front}
use Rattle.mv_calls.specs.Numbers.{Numbering, unnumbered, numbered_at, calls, calls_from}

-- there is a number for each entry
pub calls_from-length : (c : Setup) (s : System) (table : ℕ → Numbering) (es : List Entry) → length (calls_from c s table es) ≡ length es
calls_from-length c s table [] = refl
calls_from-length c s table (e ∷ es) = ap (λ n. suc n)
    (calls_from-length c (next s e) (with_at table e.caller (numbered_at c s table e)) es)

-- and so from the opening on
pub calls_length : (c : Setup) (es : List Entry) → length (calls c es) ≡ length es
calls_length c es = calls_from-length c (opening c) (λ k. unnumbered) es

-- the numbers of a front are the front of the numbers
pub calls_from-take : (c : Setup) (s : System) (table : ℕ → Numbering) (n : ℕ) (es : List Entry)
    → calls_from c s table (take n es) ≡ take n (calls_from c s table es)
calls_from-take c s table zero es = refl
calls_from-take c s table (suc n) [] = refl
calls_from-take c s table (suc n) (e ∷ es) = ap (λ ns. (numbered_at c s table e).group ∷ ns)
    (calls_from-take c (next s e) (with_at table e.caller (numbered_at c s table e)) n es)

-- and so from the opening on
pub calls-take : (c : Setup) (n : ℕ) (es : List Entry) → calls c (take n es) ≡ take n (calls c es)
calls-take c n es = calls_from-take c (opening c) (λ k. unnumbered) n es

-- one more entry than up to a place
pub one_more : (es : List Entry) (i : ℕ) (e : Entry) → i < length es → e ≡ get_or es i e → take (i + 1) es ≡ take i es ++ e ∷ []
one_more es i e lt at = take_more es i e lt ∙ ap (λ (x : Entry). take i es ++ x ∷ []) (sym at)

-- a front of a legal list is legal
pub legal_take : (c : Setup) (n : ℕ) (es : List Entry) → Legal c es → Legal c (take n es)
legal_take c n es l = LegalFrom-front c (opening c) (take n es) (drop n es)
    (subst (λ xs. LegalFrom c (opening c) xs) (sym (take-append-drop n es)) l)

-- what stands at a place stands there in the front up to it
pub slice_get_front : (xs : List ℕ) (i x : ℕ) → slice_get xs i ≡ Some x → slice_get (take (i + 1) xs) i ≡ Some x
slice_get_front xs i x at =
    let lt : i < length xs = slice_get_within xs i x at in
    let inside : i < length (take (i + 1) xs) = rw (length-take-le (i + 1) xs (omega arith)) (omega arith) in
    slice_get-get_or (take (i + 1) xs) i x inside ∙ ap (λ v. Some v) (get_or-take (i + 1) xs i x (omega arith)) ∙ sym
    (slice_get-get_or xs i x lt) ∙ at
