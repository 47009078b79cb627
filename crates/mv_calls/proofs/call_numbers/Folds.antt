-- The numbers of one caller's entries, by what the caller heard alone.
use Rattle.std.proofs.Common.{◌≡◌, ℕ, suc, if◌then◌else◌, List, [], ◌∷◌, ◌++◌, length, inl, inr, refl, sym, ap, ◌∙◌}
use Rattle.std.proofs.lemmas.Bool.{cases_eq, eq-eqb, ne_eqb}
use Rattle.mv_machine.specs.declared.entry.Entry.{Entry}
use Rattle.mv_machine.specs.Legal.{next, of}
use Rattle.mv_config.specs.Setup.{Setup}
use Rattle.mv_machine.specs.System.{System, with_at}
use Rattle.mv_machine.specs.Told.{told_from}
use Rattle.mv_calls.specs.Program.{Heard, noted}
use Rattle.mv_calls.specs.Numbers.{Numbering, numbered_at, calls_from, numbers_of}
use Rattle.mv_calls.proofs.call_numbers.Stays.{then_numbered}
use Rattle.mv_calls.proofs.Hearing.{hearing, heard_from, noted_is}

-- the number of each of these, and the numbering after them
abbrev pub groups : Setup → Numbering → List Heard → List ℕ
groups c t [] = []
groups c t (h ∷ hs) = (then_numbered c t h).group ∷ groups c (then_numbered c t h) hs

-- after all of these
abbrev pub numbered_all : Setup → Numbering → List Heard → Numbering
numbered_all c t [] = t
numbered_all c t (h ∷ hs) = numbered_all c (then_numbered c t h) hs

-- the numbers of two lists, one behind the other
pub groups-append : (c : Setup) (t : Numbering) (xs ys : List Heard)
    → groups c t (xs ++ ys) ≡ groups c t xs ++ groups c (numbered_all c t xs) ys
groups-append c t [] ys = refl
groups-append c t (x ∷ xs) ys = ap (λ gs. (then_numbered c t x).group ∷ gs) (groups-append c (then_numbered c t x) xs ys)

-- there is a number for each
pub groups-length : (c : Setup) (t : Numbering) (xs : List Heard) → length (groups c t xs) ≡ length xs
groups-length c t [] = refl
groups-length c t (x ∷ xs) = ap (λ n. suc n) (groups-length c (then_numbered c t x) xs)

-- the numbers of a caller's entries from a machine on are those of what it hears from there on
numbers_hearing : (c : Setup) (s : System) (table : ℕ → Numbering) (k : ℕ) (es : List Entry)
    → numbers_of k es (calls_from c s table es) ≡ groups c (table k) (heard_from s k es)
numbers_hearing c s table k [] = refl
numbers_hearing c s table k (e ∷ es) =
    let now : Numbering = numbered_at c s table e in
    let later = numbers_hearing c (next s e) (with_at table e.caller now) k es in
    elim (cases_eq e.caller k) [
      | inl own ↦
          let same : now ≡ then_numbered c (table k) (hearing s e) = ap (λ i. then_numbered c (table i) (hearing s e)) own in
          let here : with_at table e.caller now k ≡ now = ap (λ b. if b then now else table k) (eq-eqb k e.caller (sym own)) in
          rw (eq-eqb e.caller k own)
          (ap (λ ns. now.group ∷ ns) (later ∙ ap (λ t. groups c t (heard_from (next s e) k es)) here)
          ∙ ap (λ (t : Numbering). t.group ∷ groups c t (heard_from (next s e) k es)) same)
      | inr other ↦
          let there : with_at table e.caller now k ≡ table k =
          ap (λ b. if b then now else table k) (ne_eqb k e.caller (λ same. other (sym same))) in
          rw (ne_eqb e.caller k other) (later ∙ ap (λ t. groups c t (heard_from (next s e) k es)) there)
    ]

-- by its entries and what it was told
pub numbers_heard : (c : Setup) (s : System) (table : ℕ → Numbering) (k : ℕ) (es : List Entry)
    → numbers_of k es (calls_from c s table es) ≡ groups c (table k) (noted (of k es) (told_from s k es))
numbers_heard c s table k es =
    numbers_hearing c s table k es ∙ ap (λ hs. groups c (table k) hs) (sym (noted_is s k es))
