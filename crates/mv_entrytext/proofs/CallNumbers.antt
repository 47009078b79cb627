-- Call numbers beside entries: one for each in version 2, and none in version 1.
use Rattle.std.proofs.Common.{◌≡◌, ℕ, ◌+◌, ◌≤◌, List, [], ◌∷◌, ◌++◌, length, Option, Some, None, cond, subst}
use Rattle.std.proofs.Common.{refl, sym, ap, ◌∙◌, arith}
use Rattle.std.specs.List.{AllByRecursion}
use Rattle.std.proofs.lemmas.List.{length-append}
use Rattle.std.proofs.lemmas.List.Elements.{All-from_recursion, recursion_from_All}
use Rattle.std.proofs.lemmas.Bool.{eq-eqb}
use Rattle.mv_machine.specs.declared.entry.Entry.{Entry}
use Rattle.mv_machine.specs.Legal.{next}
use Rattle.mv_machine.proofs.Lists.{all_push}
use Rattle.mv_calls.specs.Numbers.{Numbering, unnumbered, numbered_at, calls_from, calls}
use Rattle.mv_config.specs.Setup.{Setup}
use Rattle.mv_machine.specs.System.{System, opening, with_at}
use Rattle.mv_calls.proofs.call_numbers.Kept.{round_low}
use Rattle.mv_calls.proofs.call_numbers.Prefixes.{calls_length}
use Rattle.mv_operationtext.specs.declared.version.Version.{Version}
use Rattle.mv_operationtext.specs.declared.version.Version.TheVariants.{One, Two}
use Rattle.mv_operationtext.specs.Ranges.{highest_u32}
use Rattle.mv_operationtext.proofs.OneCallNumber.{IsCallIn}
use Rattle.mv_entrytext.specs.Journal.{Line, EntryOf, entry_lines}
use Rattle.mv_entrytext.specs.Lines.{with_call}
use Rattle.mv_entrytext.specs.Fault.{AreCallNumbers, AreCallsIn}

-- those of a list
abbrev pub AreEach : Version → List Entry → List ℕ → Type 0
AreEach One es ns = ns ≡ []
AreEach Two es ns = (length ns ≡ length es) × AllByRecursion (λ n. n ≤ highest_u32) ns

-- the same as contracts say it
pub calls_from_each : (v : Version) (es : List Entry) (ns : List ℕ) → AreEach v es ns → AreCallsIn v es ns
calls_from_each One es ns h = h
calls_from_each Two es ns h = record { one_each = h.0; each = All-from_recursion (λ n. n ≤ highest_u32) ns h.1 }

-- and back
pub each_from_calls : (v : Version) (es : List Entry) (ns : List ℕ) → AreCallsIn v es ns → AreEach v es ns
each_from_calls One es ns h = h
each_from_calls Two es ns h = (h.one_each, recursion_from_All (λ n. n ≤ highest_u32) ns h.each)

-- before the first entry there is no number
pub no_numbers : (v : Version) (es : List Entry) (ns : List ℕ) → es ≡ [] → ns ≡ [] → AreEach v es ns
no_numbers One es ns e n = n
no_numbers Two es ns e n = (
  ap (λ (x : List ℕ). length x) n ∙ sym (ap (λ (x : List Entry). length x) e),
  subst (λ x. AllByRecursion (λ n. n ≤ highest_u32) x) (sym n) tt,
)

-- ---- one entry more

-- its number, if its line has one, comes behind the others
pub number_more : (v : Version) (es : List Entry) (ns : List ℕ) (call : Option ℕ) (e : Entry) → AreEach v es ns → IsCallIn v call
    → AreEach v (es ++ e ∷ []) (with_call call ns)
number_more One es ns None e h m = h
number_more One es ns (Some n) e h m = absurd m
number_more Two es ns None e h m = absurd m
number_more Two es ns (Some n) e h m =
    (length-append ns (n ∷ []) ∙ ap (λ (k : ℕ). k + 1) h.0 ∙ sym (length-append es (e ∷ [])), all_push (λ k. k ≤ highest_u32) ns n h.1 m)

-- without numbers
pub plain_more : (es : List Entry) (e : Entry) → entry_lines (es ++ e ∷ []) [] ≡ entry_lines es [] ++ EntryOf None e ∷ []
plain_more [] e = refl
plain_more (x ∷ es) e = ap (λ (ls : List Line). EntryOf None x ∷ ls) (plain_more es e)

-- with a number for each
pub numbered_more : (es : List Entry) (ns : List ℕ) (e : Entry) (n : ℕ) → length ns ≡ length es
    → entry_lines (es ++ e ∷ []) (ns ++ n ∷ []) ≡ entry_lines es ns ++ EntryOf (Some n) e ∷ []
numbered_more [] [] e n h = refl
numbered_more [] (m ∷ ns) e n h = absurd (omega arith)
numbered_more (x ∷ es) [] e n h = absurd (omega arith)
numbered_more (x ∷ es) (m ∷ ns) e n h = ap (λ (ls : List Line). EntryOf (Some m) x ∷ ls) (numbered_more es ns e n (omega arith))

-- so its line comes behind theirs
pub lines_more : (v : Version) (es : List Entry) (ns : List ℕ) (call : Option ℕ) (e : Entry) → AreEach v es ns → IsCallIn v call
    → entry_lines (es ++ e ∷ []) (with_call call ns) ≡ entry_lines es ns ++ EntryOf call e ∷ []
lines_more One es ns None e h m =
    subst (λ (x : List ℕ). entry_lines (es ++ e ∷ []) x ≡ entry_lines es x ++ EntryOf None e ∷ []) (sym h) (plain_more es e)
lines_more One es ns (Some n) e h m = absurd m
lines_more Two es ns None e h m = absurd m
lines_more Two es ns (Some n) e h m = numbered_more es ns e n h.0

-- ---- the machine's numbers

-- each is of four bytes, where the entries are so few
calls_fit : (c : Setup) (s : System) (table : ℕ → Numbering) (es : List Entry) (i : ℕ) → ((k : ℕ) → (table k).group ≤ i)
    → i + length es ≤ highest_u32 → AllByRecursion (λ n. n ≤ highest_u32) (calls_from c s table es)
calls_fit c s table [] i low le = tt
calls_fit c s table (e ∷ es) i low le =
    let after = numbered_at c s table e in
    let here : after.group ≤ i + 1 =
    subst (λ b. (cond b after (table e.caller)).group ≤ i + 1) (eq-eqb e.caller e.caller refl) (round_low c s table e i low e.caller) in
    (omega arith, calls_fit c (next s e) (with_at table e.caller after) es (i + 1) (round_low c s table e i low) (omega arith))

-- so there is one for each entry
pub calls_are_numbers : (c : Setup) (es : List Entry) → length es ≤ highest_u32 → AreCallNumbers es (calls c es)
calls_are_numbers c es le = record {
  one_each = calls_length c es;
  each = All-from_recursion (λ n. n ≤ highest_u32) (calls c es)
      (calls_fit c (opening c) (λ k. unnumbered) es 0 (λ k. omega arith) (omega arith));
}
