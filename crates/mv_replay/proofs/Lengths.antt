-- How long a journal is: how many bytes each line has at most, and that the text of as many events as a run may have is within the
-- limit.
use Rattle.std.proofs.Common.{◌≡◌, ℕ, suc, ◌*◌, ◌≤◌, None, Bool, true, List, [], ◌∷◌, ◌++◌, length, length-append, refl, ap, arith}
use Rattle.std.proofs.lemmas.Bool.{leb-true, and_parts}
use Rattle.std.proofs.lemmas.List.Elements.{recursion_from_All}
use Rattle.std.specs.Prelude.{nat_le, Option, Some, IfSome, codes, decimal}
use Rattle.std.specs.List.{AllByRecursion, flat_map, list_all}
use Rattle.mv_machine.specs.declared.entry.Entry.{Entry}
use Rattle.mv_config.specs.Check.{IsValid, first_limit, is_within}
use Rattle.mv_config.specs.Limits.{events_limit, callers_limit, ecbs_limit, exits_limit, targets_limit}
use Rattle.mv_config.specs.Setup.{Setup, SetupExit}
use Rattle.mv_config.proofs.Validity.{no_bad_limit}
use Rattle.mv_operationtext.specs.declared.version.Version.{Version}
use Rattle.mv_operationtext.specs.declared.version.Version.TheVariants.{One, Two}
use Rattle.mv_operationtext.specs.Ranges.{highest_u32}
use Rattle.mv_operationtext.specs.EntryText.{HasText, caller_text, entry_text}
use Rattle.mv_entrytext.specs.Fault.{HasJournal, AreCallsIn}
use Rattle.mv_entrytext.specs.Journal.{JournalOf, Budget, Owner, ExitTo, Events, EntryOf, End, line_text, line, entry_lines}
use Rattle.mv_entrytext.specs.Journal.{counts_text, lists_text, head_text, text_of}
use Rattle.mv_entrytext.proofs.ConfigNumbers.{IsExit, HasNumbers, has_numbers}
use Rattle.mv_replay.specs.Judgement.{journal_limit}
use Rattle.mv_replay.proofs.EventLengths.{six_digits, ten_digits, event_short}

-- ---- the lines of entries

-- there is one for each
entry_line_each : (es : List Entry) (ns : List ℕ) → length (entry_lines es ns) ≡ length es
entry_line_each [] ns = refl
entry_line_each (e ∷ es) [] = ap (λ (n : ℕ). suc n) (entry_line_each es [])
entry_line_each (e ∷ es) (n ∷ ns) = ap (λ (n : ℕ). suc n) (entry_line_each es ns)

-- where no element has more bytes than that, all together have no more than so many for each
all_short : {A : Type 0} (P : A → Type 0) (f : A → List ℕ) (m : ℕ) (xs : List A) → ((x : A) → P x → length (f x) ≤ m)
    → AllByRecursion P xs → length (flat_map f xs) ≤ length xs * m
all_short P f m [] each h = omega arith
all_short P f m (x ∷ xs) each h = omega (arith, length-append (f x) (flat_map f xs), each x h.0, all_short P f m xs each h.1)

-- a caller and the number of its call, if there is one
caller_short : (caller : ℕ) (call : Option ℕ) → caller ≤ highest_u32 → IfSome call (λ n. n ≤ highest_u32)
    → length (caller_text caller call) ≤ 21
caller_short caller None le fits = omega (arith, ten_digits caller le)
caller_short caller (Some n) le fits = simp length-append (omega (arith, ten_digits caller le, ten_digits n fits))

-- with the place and the words of the event
entry_short : (call : Option ℕ) (e : Entry) → HasText e → IfSome call (λ n. n ≤ highest_u32) → length (line (EntryOf call e)) ≤ 115
unfolding entry_text line
entry_short call e h fits =
    let caller = caller_short e.caller call h.1.caller fits in
    let event = event_short e.object e.op e.reply h.0.event h.1.object h.1.op h.1.reply in
    simp length-append (omega (arith, caller, six_digits e.place h.0.place, event))

-- so each line of entries
entries_short : (es : List Entry) (ns : List ℕ) → AllByRecursion HasText es → AllByRecursion (λ n. n ≤ highest_u32) ns
    → AllByRecursion (λ l. length (line l) ≤ 115) (entry_lines es ns)
entries_short [] ns h fit = tt
entries_short (e ∷ es) [] h fit = (entry_short None e h.0 tt, entries_short es [] h.1 fit)
entries_short (e ∷ es) (n ∷ ns) h fit = (entry_short (Some n) e h.0 fit.0, entries_short es ns h.1 fit.1)

-- ---- the head

-- the version
version_short : (v : Version) → length (line_text (JournalOf v)) ≤ 9
version_short One = omega arith
version_short Two = omega arith

-- and how many there are of what
counts_short : (v : Version) (c : Setup) → HasNumbers c → length (counts_text v c) ≤ 115
unfolding counts_text line
counts_short v c h =
    simp length-append (omega (
      arith,
      version_short v,
      ten_digits c.callers h.callers,
      ten_digits c.elements_per_caller h.elements,
      ten_digits c.volumes h.volumes,
      ten_digits c.latches h.latches,
      ten_digits c.quota h.quota,
      ten_digits c.posted_quota h.posted,
    ))

-- a caller's budget
budget_short : (n : ℕ) → n ≤ highest_u32 → length (line (Budget n)) ≤ 18
unfolding line
budget_short n le = simp length-append (omega (arith, ten_digits n le))

-- the owner of an event control block
owner_short : (n : ℕ) → n ≤ highest_u32 → length (line (Owner n)) ≤ 15
unfolding line
owner_short n le = simp length-append (omega (arith, ten_digits n le))

-- a target of an exit
target_short : (n : ℕ) → n ≤ highest_u32 → length (codes " " ++ decimal n) ≤ 11
target_short n le = simp length-append (omega (arith, ten_digits n le))

-- whether an exit has as many targets as it may
abbrev has_few_targets : SetupExit → Bool
has_few_targets x = is_within 1 targets_limit (length x.targets)

-- an exit with numbers of four bytes and no more targets than it may have
record IsShortExit (x : SetupExit) : Type 0 where
  numbers : IsExit x
  few : length x.targets ≤ targets_limit

-- its line
exit_short : (x : SetupExit) → IsShortExit x → length (line (ExitTo x)) ≤ 104
unfolding line
exit_short x h =
    let targets = all_short (λ n. n ≤ highest_u32) (λ n. codes " " ++ decimal n) 11 x.targets target_short h.numbers.targets in
    simp length-append (omega (arith, ten_digits x.source h.numbers.source, targets, h.few))

-- a configuration whose lists are no longer than they may be
record IsShort (c : Setup) : Type 0 where
  budgets : length c.budgets ≤ callers_limit
  owners : length c.owners ≤ ecbs_limit
  exits : length c.exits ≤ exits_limit
  targets : list_all has_few_targets c.exits ≡ true

-- as those of one that keeps all its limits
limits_kept : (c : Setup) → first_limit c ≡ None → IsShort c
limits_kept c f = record { budgets = grind arith; owners = grind arith; exits = grind arith; targets = grind arith }

-- its exits are such
exits_short : (xs : List SetupExit) → AllByRecursion IsExit xs → list_all has_few_targets xs ≡ true → AllByRecursion IsShortExit xs
exits_short [] h few = tt
exits_short (x ∷ xs) h few =
    let both = and_parts (has_few_targets x) (list_all has_few_targets xs) few in
    let most = and_parts (nat_le 1 (length x.targets)) (nat_le (length x.targets) targets_limit) both.0 in
    (record { numbers = h.0; few = leb-true (length x.targets) targets_limit most.1 }, exits_short xs h.1 both.1)

-- budgets, owners and exits: 16 lines, 131,072 and 32,768
lists_short : (c : Setup) → IsValid c → length (lists_text c) ≤ 5_374_240
unfolding lists_text
lists_short c v =
    let h = has_numbers c v in
    let few = limits_kept c (no_bad_limit c v) in
    let budgets = all_short (λ n. n ≤ highest_u32) (λ n. line (Budget n)) 18 c.budgets budget_short h.budgets in
    let owners = all_short (λ n. n ≤ highest_u32) (λ n. line (Owner n)) 15 c.owners owner_short h.owners in
    let exits = all_short IsShortExit (λ x. line (ExitTo x)) 104 c.exits exit_short (exits_short c.exits h.exits few.targets) in
    simp length-append (omega (arith, few.budgets, few.owners, few.exits, budgets, owners, exits))

-- the line that the events follow
events_short : length (line Events) ≤ 7
unfolding line
events_short = omega arith

-- all of it
head_short : (v : Version) (c : Setup) → IsValid c → length (head_text v c) ≤ 5_374_362
unfolding head_text
head_short v c valid =
    simp length-append (omega (arith, counts_short v c (has_numbers c valid), lists_short c valid, events_short))

-- ---- the whole text

-- the last line
end_short : (n : ℕ) → n ≤ highest_u32 → length (line (End n)) ≤ 15
unfolding line
end_short n le = simp length-append (omega (arith, ten_digits n le))

-- the numbers of calls, where there are any
calls_fit : (v : Version) (es : List Entry) (ns : List ℕ) → AreCallsIn v es ns → AllByRecursion (λ n. n ≤ highest_u32) ns
calls_fit One es [] h = tt
calls_fit One es (n ∷ ns) h = absurd cc
calls_fit Two es ns h = recursion_from_All (λ n. n ≤ highest_u32) ns h.each

-- Of no more events than a run may have, in either version and whatever the numbers of the calls: 524,287 lines beside the head and
-- the end have 65,667,382 bytes at most.
pub text_fits : (v : Version) (c : Setup) (es : List Entry) (ns : List ℕ) → HasJournal c es → AreCallsIn v es ns
    → length es ≤ events_limit → length (text_of v c es ns) ≤ journal_limit
unfolding text_of
text_fits v c es ns h calls few =
    let each = entries_short es ns (recursion_from_All HasText es h.each) (calls_fit v es ns calls) in
    let entries = all_short (λ l. length (line l) ≤ 115) line 115 (entry_lines es ns) (λ l short. short) each in
    simp length-append (omega (
      arith,
      head_short v c h.valid,
      entries,
      entry_line_each es ns,
      end_short (length es) h.count,
      few,
    ))
