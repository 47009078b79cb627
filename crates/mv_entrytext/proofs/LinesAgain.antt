-- The text of a journal is passed line by line.
use Rattle.std.proofs.Common.{◌≡◌, ℕ, ◌+◌, ◌≤◌, ◌<◌, true, List, [], ◌∷◌, ◌++◌, length, Option, Some, None, decimal, map, refl, sym, ap}
use Rattle.std.proofs.Common.{subst, ◌∙◌, arith, append_assoc}
use Rattle.std.specs.Prelude.{codes}
use Rattle.std.specs.List.{flat_map, AllByRecursion}
use Rattle.std.specs.Str.Parse.{AllDigits}
use Rattle.std.proofs.lemmas.Bool.{eq-eqb, ne_eqb}
use Rattle.std.proofs.lemmas.Str.Parse.{digit_from_value}
use Rattle.std.proofs.lemmas.List.{append-nil}
use Rattle.std.proofs.lemmas.List.Elements.{recursion_from_All}
use Rattle.std.proofs.lemmas.List.Concat.{flat_map-cons}
use Rattle.mv_machine.specs.declared.entry.Entry.{Entry}
use Rattle.mv_config.specs.Setup.{Setup, SetupExit}
use Rattle.mv_config.specs.Check.{IsValid}
use Rattle.mv_entrytext.proofs.Heads.{valid_said}
use Rattle.mv_line.specs.Fault.{HasPassed}
use Rattle.mv_line.specs.Line.{lines_of, ended_part, ended_lines, cut_off}
use Rattle.mv_line.specs.Part.{parts_at}
use Rattle.mv_line.proofs.Ended.{line_first, ended_whole, none_cut_off}
use Rattle.mv_line.proofs.Passes.{at_first, at_next, whole_at_end}
use Rattle.mv_operationtext.specs.declared.version.Version.{Version}
use Rattle.mv_operationtext.specs.declared.version.Version.TheVariants.{One, Two}
use Rattle.mv_operationtext.specs.Ranges.{highest_u32}
use Rattle.mv_operationtext.specs.Words.{◌<+>◌}
use Rattle.mv_operationtext.specs.Reading.{Reader, behind, after, parted_by, any_u32}
use Rattle.mv_operationtext.specs.EntryText.{HasText, entry_read, entry_text, caller_text, object_text, op_text, reply_text}
use Rattle.mv_entrytext.specs.Journal.{Line, JournalOf, Callers, Elements, Volumes, Latches, Quota, Budget, Owner, ExitTo, Events}
use Rattle.mv_entrytext.specs.Journal.{EntryOf, End, line_text, line, entry_lines, counts_text, lists_text, head_text, text_of}
use Rattle.mv_entrytext.specs.Lines.{Stage, AtVersion, AtCallers, AtElements, AtVolumes, AtLatches, AtQuota, AtBudgets, AtOwners, AtExits}
use Rattle.mv_entrytext.specs.Lines.{AtEntries, AtEnd, numbers, exit_from, exit_read, count_line, next_line, line_read, with_call, Draft}
use Rattle.mv_entrytext.specs.Lines.{blank, draft_with}
use Rattle.mv_entrytext.specs.Draft.{draft_at}
use Rattle.mv_entrytext.specs.Fault.{kind_said, kind_of, listed, draft_after, line_rules, HasJournal, AreCallsIn, text_fault, journal_of}
use Rattle.mv_operationtext.proofs.Numbers.{numeral_of, u32_again, parted_again}
use Rattle.mv_entrytext.proofs.Parts.{Lacks-decimal, parts_first, parts_last}
use Rattle.mv_entrytext.proofs.OneLine.{is_one_line}
use Rattle.mv_entrytext.proofs.ConfigNumbers.{AreU32, IsExit, HasNumbers, has_numbers}
use Rattle.mv_entrytext.proofs.CallNumbers.{AreEach, each_from_calls}
use Rattle.mv_operationtext.proofs.OneCallNumber.{IsCallIn}
use Rattle.mv_operationtext.proofs.EntryAgain.{entry_again}

-- ---- each line is read again

to_the_end : {A : Type 0} (reader : Reader A) (a : A) (text : List ℕ) → reader (text ++ []) ≡ Some (a, []) → reader text ≡ Some (a, [])
to_the_end reader a text h = rw (append-nil text) at h

u32_alone : (n : ℕ) → n ≤ highest_u32 → any_u32 true (decimal n) ≡ Some (n, [])
u32_alone n le = to_the_end (any_u32 true) n (decimal n) (u32_again n [] le refl)

version_read : (v : Version) → line_read true AtVersion (line_text (JournalOf v)) ≡ Some (JournalOf v)
unfolding next_line count_line behind after
version_read One = refl
version_read Two = refl

callers_read : (n : ℕ) → n ≤ highest_u32 → line_read true AtCallers (line_text (Callers n)) ≡ Some (Callers n)
unfolding next_line count_line behind after
callers_read n le = rw (u32_alone n le) refl

elements_read : (n : ℕ) → n ≤ highest_u32 → line_read true AtElements (line_text (Elements n)) ≡ Some (Elements n)
unfolding next_line count_line behind after
elements_read n le = rw (u32_alone n le) refl

volumes_read : (n : ℕ) → n ≤ highest_u32 → line_read true AtVolumes (line_text (Volumes n)) ≡ Some (Volumes n)
unfolding next_line count_line behind after
volumes_read n le = rw (u32_alone n le) refl

latches_read : (n : ℕ) → n ≤ highest_u32 → line_read true AtLatches (line_text (Latches n)) ≡ Some (Latches n)
unfolding next_line count_line behind after
latches_read n le = rw (u32_alone n le) refl

quota_read : (q p : ℕ) → q ≤ highest_u32 → p ≤ highest_u32 → line_read true AtQuota (line_text (Quota q p)) ≡ Some (Quota q p)
unfolding next_line count_line behind after
quota_read q p lq lp =
    let both = to_the_end (parted_by (any_u32 true) (λ _. any_u32 true)) (q, p) (decimal q <+> decimal p)
    (parted_again (any_u32 true) (λ _. any_u32 true) q p (decimal q) (decimal p) [] (u32_again q (32 ∷ (decimal p ++ [])) lq refl)
    (u32_again p [] lp refl)) in
    rw both refl

budget_read : (n : ℕ) → n ≤ highest_u32 → line_read true AtBudgets (line_text (Budget n)) ≡ Some (Budget n)
unfolding next_line count_line behind after
budget_read n le = rw (u32_alone n le) refl

-- where an owner may stand, and where an exit may
abbrev MayOwn : Stage → Type 0
MayOwn AtBudgets = Unit {0}
MayOwn AtOwners = Unit {0}
MayOwn _ = ⊥

abbrev MayExit : Stage → Type 0
MayExit AtBudgets = Unit {0}
MayExit AtOwners = Unit {0}
MayExit AtExits = Unit {0}
MayExit _ = ⊥

owner_read : (s : Stage) (n : ℕ) → MayOwn s → n ≤ highest_u32 → line_read true s (line_text (Owner n)) ≡ Some (Owner n)
unfolding next_line count_line behind after
owner_read AtBudgets n m le = rw (u32_alone n le) refl
owner_read AtOwners n m le = rw (u32_alone n le) refl
owner_read s n m le = absurd m

events_read : (s : Stage) → MayExit s → line_read true s (line_text Events) ≡ Some Events
unfolding next_line count_line behind after
events_read AtBudgets m = refl
events_read AtOwners m = refl
events_read AtExits m = refl
events_read s m = absurd m

end_read : (v : Version) (n : ℕ) → n ≤ highest_u32 → line_read true (AtEntries v) (line_text (End n)) ≡ Some (End n)
unfolding next_line count_line behind after
end_read v n le = rw (u32_alone n le) refl

-- the fields of an exit
abbrev pub targets_text : List ℕ → List ℕ
targets_text ts = flat_map (λ t. codes " " ++ decimal t) ts

fields_again : (n : ℕ) (ts : List ℕ) → parts_at 32 (decimal n ++ targets_text ts) ≡ decimal n ∷ map decimal ts
fields_again n [] = ap (parts_at 32) (append-nil (decimal n)) ∙ parts_last 32 (decimal n) (Lacks-decimal 32 n (omega arith))
fields_again n (t ∷ ts) =
    ap (λ (x : List ℕ). parts_at 32 (decimal n ++ x)) (flat_map-cons (λ t. codes " " ++ decimal t) t ts)
    ∙ parts_first 32 (decimal n) (decimal t ++ targets_text ts) (Lacks-decimal 32 n (omega arith))
    ∙ ap (λ (x : List (List ℕ)). decimal n ∷ x) (fields_again t ts)

numbers_again : (ns : List ℕ) → AreU32 ns → numbers true (map decimal ns) ≡ Some ns
unfolding numbers
numbers_again [] h = refl
numbers_again (n ∷ ns) h = rw (u32_alone n h.0, numbers_again ns h.1) refl

exit_again : (x : SetupExit) → IsExit x → exit_read true (decimal x.source ++ targets_text x.targets) ≡ Some (x, [])
unfolding exit_read
exit_again x h =
    let all : AreU32 (x.source ∷ x.targets) = (h.source, h.targets) in
    rw (fields_again x.source x.targets, numbers_again (x.source ∷ x.targets) all) (go x.targets h.some refl) where
      go : (ts : List ℕ) → 1 ≤ length ts → x.targets ≡ ts → exit_from (x.source ∷ x.targets) ≡ Some (x, [])
      go [] some e = absurd (omega arith)
      go (t ∷ ts) some e = rw e refl

exit_line_read : (s : Stage) (x : SetupExit) → MayExit s → IsExit x → line_read true s (line_text (ExitTo x)) ≡ Some (ExitTo x)
unfolding next_line count_line behind after
exit_line_read AtBudgets x m h = rw (exit_again x h) refl
exit_line_read AtOwners x m h = rw (exit_again x h) refl
exit_line_read AtExits x m h = rw (exit_again x h) refl
exit_line_read s x m h = absurd m

-- an entry begins with a digit, and so with no word
first_digit : (ds : List ℕ) → 0 < length ds → AllDigits 10 ds → (c : ℕ) × (cs : List ℕ) × (ds ≡ c ∷ cs) × (c ≤ 57)
first_digit [] some h = absurd (omega arith)
first_digit (c ∷ cs) some h = (c, cs, refl, (digit_from_value c h.0).1)

no_end : (reader : Reader ℕ) (text : List ℕ) (c : ℕ) (cs : List ℕ) → text ≡ c ∷ cs → c ≤ 57 → behind (codes "END ") reader text ≡ None
unfolding behind after
no_end reader text c cs e le = rw (e, ne_eqb 69 c (λ q. omega arith)) refl

-- the text of a caller with what stands behind it begins with a digit
caller_first : (k : ℕ) (call : Option ℕ) (more : List ℕ) → k ≤ highest_u32
    → (c : ℕ) × (cs : List ℕ) × (caller_text k call ++ more ≡ c ∷ cs) × (c ≤ 57)
caller_first k None more le =
    let n = numeral_of k (omega (arith, le)) in
    let d = first_digit (decimal k) n.0.0 n.0.1 in
    (d.0, d.1 ++ more, ap (λ (x : List ℕ). x ++ more) d.2, d.3)
caller_first k (Some m) more le =
    let n = numeral_of k (omega (arith, le)) in
    let d = first_digit (decimal k) n.0.0 n.0.1 in
    (d.0, (d.1 ++ 46 ∷ decimal m) ++ more, ap (λ (x : List ℕ). (x ++ 46 ∷ decimal m) ++ more) d.2, d.3)

pub entry_line_read : (v : Version) (call : Option ℕ) (e : Entry) → HasText e → IsCallIn v call
    → line_read true (AtEntries v) (line_text (EntryOf call e)) ≡ Some (EntryOf call e)
unfolding next_line count_line entry_text
entry_line_read v call e h m =
    let more = 32 ∷ (object_text e.object <+> decimal e.place <+> op_text e.op <+> codes "=" <+> reply_text e.reply) in
    let d = caller_first e.caller call more h.1.caller in
    let none = no_end (any_u32 true) (caller_text e.caller call ++ more) d.0 d.1 d.2 d.3 in
    rw (none, to_the_end (entry_read true v) (call, e) (caller_text e.caller call ++ more) (entry_again v call e h m)) refl

-- ---- a line is passed

-- a line that is read and says no fault has none, and its draft is that of what it says
pub nothing_listed : (d : Draft) (l : Line) (text : List ℕ) → line_read true d.stage text ≡ Some l → kind_said d (Some l) ≡ None
    → listed (kind_of d text) ≡ []
nothing_listed d l text read said = rw (read, said) refl

-- so it is passed
pub said_passed : (cut : List ℕ) (lines : List (List ℕ)) (number : ℕ) (d : Draft) (l : Line) (text : List ℕ) (left behind : List (List ℕ))
    → HasPassed (line_rules cut) blank lines number d left → left ≡ text ∷ behind → line_read true d.stage text ≡ Some l
    → kind_said d (Some l) ≡ None → HasPassed (line_rules cut) blank lines (number + 1) (draft_with l d) behind
said_passed cut lines number d l text left behind p shape read said =
    subst (λ (o : Option Line). HasPassed (line_rules cut) blank lines (number + 1) (draft_after d o) behind) read
    (at_next (line_rules cut) blank lines number d left p text behind shape (nothing_listed d l text read said))

-- a text is passed up to its rest
pub record Goes (d : Draft) (text : List ℕ) (next : Draft) (rest : List ℕ) : Type 0 where
  pub pass : (cut : List ℕ) (lines : List (List ℕ)) (number : ℕ) → HasPassed (line_rules cut) blank lines number d (lines_of text)
      → (later : ℕ) × HasPassed (line_rules cut) blank lines later next (lines_of rest)

goes_on : (a b c : Draft) (x y z : List ℕ) → Goes a x b y → Goes b y c z → Goes a x c z
goes_on a b c x y z p q = record {
  pass = λ cut lines number h. let one = p.pass cut lines number h in q.pass cut lines one.0 one.1;
}

stays : (d : Draft) (x : List ℕ) → Goes d x d x
stays d x = record { pass = λ cut lines number h. (number, h) }

line_part : (l : Line) (rest : List ℕ) → lines_of (line l ++ rest) ≡ line_text l ∷ lines_of rest
unfolding line
line_part l rest = ap lines_of (append_assoc (line_text l) (10 ∷ []) rest) ∙ line_first (line_text l) rest (is_one_line l)

one_line : (d : Draft) (l : Line) (rest : List ℕ) → line_read true d.stage (line_text l) ≡ Some l → kind_said d (Some l) ≡ None
    → Goes d (line l ++ rest) (draft_with l d) rest
one_line d l rest read said = record {
  pass =
      λ cut lines number h. (
        number + 1,
        said_passed cut lines number d l (line_text l) (lines_of (line l ++ rest)) (lines_of rest) h (line_part l rest) read said,
      );
}

-- ---- the lists of the head, and the entries

-- within the head
abbrev in_head : Stage → Version → Setup → Draft
in_head s v c = draft_at s v c [] []

text_is : (a b : Draft) (x y z : List ℕ) → x ≡ y → Goes a y b z → Goes a x b z
text_is a b x y z e g = subst (λ (t : List ℕ). Goes a t b z) (sym e) g

first_of : {A : Type 0} (f : A → List ℕ) (x : A) (xs : List A) (rest : List ℕ)
    → flat_map f (x ∷ xs) ++ rest ≡ f x ++ (flat_map f xs ++ rest)
first_of f x xs rest = ap (λ (t : List ℕ). t ++ rest) (flat_map-cons f x xs) ∙ append_assoc (f x) (flat_map f xs) rest

budgets_pass : (v : Version) (ns : List ℕ) (c : Setup) (all rest : List ℕ) → AreU32 ns → all ≡ c.budgets ++ ns
    → Goes (in_head AtBudgets v c) (flat_map (λ n. line (Budget n)) ns ++ rest) (in_head AtBudgets v (record c { budgets = all })) rest
budgets_pass v [] c all rest h e = rw (e, append-nil c.budgets) (stays (in_head AtBudgets v c) rest)
budgets_pass v (n ∷ ns) c all rest h e =
    let f = λ (n : ℕ). line (Budget n) in
    let next = record c { budgets = c.budgets ++ n ∷ [] } in
    let one = one_line (in_head AtBudgets v c) (Budget n) (flat_map f ns ++ rest) (budget_read n h.0) refl in
    let later = budgets_pass v ns next all rest h.1 (e ∙ sym (append_assoc c.budgets (n ∷ []) ns)) in
    let last = in_head AtBudgets v (record c { budgets = all }) in
    text_is (in_head AtBudgets v c) last _ _ rest (first_of f n ns rest)
    (goes_on (in_head AtBudgets v c) (in_head AtBudgets v next) last _ _ _ one later)

own_to_exit : (s : Stage) → MayOwn s → MayExit s
own_to_exit AtBudgets m = tt
own_to_exit AtOwners m = tt
own_to_exit s m = absurd m

-- behind the owners, and behind the exits, the line that comes next may be an exit
owners_pass : (v : Version) (ns : List ℕ) (s : Stage) (c : Setup) (all rest : List ℕ) → MayOwn s → AreU32 ns → all ≡ c.owners ++ ns
    → (t : Stage) × MayExit t
    × Goes (in_head s v c) (flat_map (λ n. line (Owner n)) ns ++ rest) (in_head t v (record c { owners = all })) rest
owners_pass v [] s c all rest m h e = (s, own_to_exit s m, rw (e, append-nil c.owners) (stays (in_head s v c) rest))
owners_pass v (n ∷ ns) s c all rest m h e =
    let f = λ (n : ℕ). line (Owner n) in
    let next = record c { owners = c.owners ++ n ∷ [] } in
    let one = one_line (in_head s v c) (Owner n) (flat_map f ns ++ rest) (owner_read s n m h.0) refl in
    let later = owners_pass v ns AtOwners next all rest tt h.1 (e ∙ sym (append_assoc c.owners (n ∷ []) ns)) in
    let last = in_head later.0 v (record c { owners = all }) in
    let whole = goes_on (in_head s v c) (in_head AtOwners v next) last _ _ _ one later.2 in
    (later.0, later.1, text_is (in_head s v c) last _ _ rest (first_of f n ns rest) whole)

exits_pass : (v : Version) (xs : List SetupExit) (s : Stage) (c : Setup) (all : List SetupExit) (rest : List ℕ) → MayExit s
    → AllByRecursion IsExit xs → all ≡ c.exits ++ xs
    → (t : Stage) × MayExit t
    × Goes (in_head s v c) (flat_map (λ x. line (ExitTo x)) xs ++ rest) (in_head t v (record c { exits = all })) rest
exits_pass v [] s c all rest m h e = (s, m, rw (e, append-nil c.exits) (stays (in_head s v c) rest))
exits_pass v (x ∷ xs) s c all rest m h e =
    let f = λ (x : SetupExit). line (ExitTo x) in
    let next = record c { exits = c.exits ++ x ∷ [] } in
    let one = one_line (in_head s v c) (ExitTo x) (flat_map f xs ++ rest) (exit_line_read s x m h.0) refl in
    let later = exits_pass v xs AtExits next all rest tt h.1 (e ∙ sym (append_assoc c.exits (x ∷ []) xs)) in
    let last = in_head later.0 v (record c { exits = all }) in
    let whole = goes_on (in_head s v c) (in_head AtExits v next) last _ _ _ one later.2 in
    (later.0, later.1, text_is (in_head s v c) last _ _ rest (first_of f x xs rest) whole)

-- an entry's line, with the number of its call in version 2
one_entry : (v : Version) (c : Setup) (before : List Entry) (said : List ℕ) (call : Option ℕ) (x : Entry) (rest : List ℕ) → HasText x
    → IsCallIn v call → Goes (draft_at (AtEntries v) v c before said) (line (EntryOf call x) ++ rest)
    (draft_at (AtEntries v) v c (before ++ x ∷ []) (with_call call said)) rest
one_entry v c before said call x rest h m =
    one_line (draft_at (AtEntries v) v c before said) (EntryOf call x) rest (entry_line_read v call x h m) refl

-- those of entries without numbers
plain_pass : (es : List Entry) (c : Setup) (before all : List Entry) (said rest : List ℕ) → AllByRecursion HasText es → all ≡ before ++ es
    → Goes (draft_at (AtEntries One) One c before said) (flat_map line (entry_lines es []) ++ rest)
    (draft_at (AtEntries One) One c all said) rest
plain_pass [] c before all said rest h e = rw (e, append-nil before) (stays (draft_at (AtEntries One) One c before said) rest)
plain_pass (x ∷ es) c before all said rest h e =
    let one = one_entry One c before said None x (flat_map line (entry_lines es []) ++ rest) h.0 tt in
    let later = plain_pass es c (before ++ x ∷ []) all said rest h.1 (e ∙ sym (append_assoc before (x ∷ []) es)) in
    text_is (draft_at (AtEntries One) One c before said) (draft_at (AtEntries One) One c all said) _ _ rest
    (first_of line (EntryOf None x) (entry_lines es []) rest)
    (goes_on (draft_at (AtEntries One) One c before said) (draft_at (AtEntries One) One c (before ++ x ∷ []) said)
    (draft_at (AtEntries One) One c all said) _ _ _ one later)

-- and those of entries with a number each
numbered_pass : (es : List Entry) (ns : List ℕ) (c : Setup) (before all : List Entry) (said numbers rest : List ℕ)
    → AllByRecursion HasText es → length ns ≡ length es → AllByRecursion (λ n. n ≤ highest_u32) ns → all ≡ before ++ es
    → numbers ≡ said ++ ns
    → Goes (draft_at (AtEntries Two) Two c before said) (flat_map line (entry_lines es ns) ++ rest)
    (draft_at (AtEntries Two) Two c all numbers) rest
numbered_pass [] [] c before all said numbers rest h l u e f =
    rw (e, append-nil before, f, append-nil said) (stays (draft_at (AtEntries Two) Two c before said) rest)
numbered_pass [] (n ∷ ns) c before all said numbers rest h l u e f = absurd (omega arith)
numbered_pass (x ∷ es) [] c before all said numbers rest h l u e f = absurd (omega arith)
numbered_pass (x ∷ es) (n ∷ ns) c before all said numbers rest h l u e f =
    let one = one_entry Two c before said (Some n) x (flat_map line (entry_lines es ns) ++ rest) h.0 u.0 in
    let later = numbered_pass es ns c (before ++ x ∷ []) all (said ++ n ∷ []) numbers rest h.1 (omega arith) u.1
    (e ∙ sym (append_assoc before (x ∷ []) es)) (f ∙ sym (append_assoc said (n ∷ []) ns)) in
    text_is (draft_at (AtEntries Two) Two c before said) (draft_at (AtEntries Two) Two c all numbers) _ _ rest
    (first_of line (EntryOf (Some n) x) (entry_lines es ns) rest)
    (goes_on (draft_at (AtEntries Two) Two c before said) (draft_at (AtEntries Two) Two c (before ++ x ∷ []) (said ++ n ∷ []))
    (draft_at (AtEntries Two) Two c all numbers) _ _ _ one later)

entries_pass : (v : Version) (es : List Entry) (ns : List ℕ) (c : Setup) (rest : List ℕ) → AllByRecursion HasText es → AreEach v es ns
    → Goes (draft_at (AtEntries v) v c [] []) (flat_map line (entry_lines es ns) ++ rest) (draft_at (AtEntries v) v c es ns) rest
entries_pass One es ns c rest h m =
    subst (λ (x : List ℕ). Goes (draft_at (AtEntries One) One c [] []) (flat_map line (entry_lines es x) ++ rest)
    (draft_at (AtEntries One) One c es x) rest) (sym m) (plain_pass es c [] es [] rest h refl)
entries_pass Two es ns c rest h m = numbered_pass es ns c [] es [] ns rest h m.0 m.1 refl refl

-- ---- the whole

-- the text, line by line
regrouped : (v : Version) (c : Setup) (es : List Entry) (ns : List ℕ) → text_of v c es ns
    ≡ line (JournalOf v) ++ (line (Callers c.callers) ++ (line (Elements c.elements_per_caller) ++ (line (Volumes c.volumes)
    ++ (line (Latches c.latches) ++ (line (Quota c.quota c.posted_quota)
    ++ (flat_map (λ n. line (Budget n)) c.budgets ++ (flat_map (λ n. line (Owner n)) c.owners
    ++ (flat_map (λ x. line (ExitTo x)) c.exits ++ (line Events ++ (flat_map line (entry_lines es ns)
    ++ (line (End (length es)) ++ [])))))))))))
unfolding text_of head_text counts_text lists_text
regrouped v c es ns = simp (append_assoc, append-nil)

events_said : (s : Stage) (v : Version) (c : Setup) → IsValid c → kind_said (in_head s v c) (Some Events) ≡ None
events_said s v c valid = valid_said (in_head s v c) valid

end_said : (v : Version) (c : Setup) (es : List Entry) (ns : List ℕ)
    → kind_said (draft_at (AtEntries v) v c es ns) (Some (End (length es))) ≡ None
end_said v c es ns = rw (eq-eqb (length es) (length es) refl) refl

-- what the lines of the counts have said
abbrev counts : Setup → Setup
counts c = record c { budgets = []; owners = []; exits = [] }

counts_pass : (v : Version) (c : Setup) (rest : List ℕ) → HasNumbers c
    → Goes blank (line (JournalOf v) ++ (line (Callers c.callers) ++ (line (Elements c.elements_per_caller) ++ (line (Volumes c.volumes)
    ++ (line (Latches c.latches) ++ (line (Quota c.quota c.posted_quota) ++ rest)))))) (in_head AtBudgets v (counts c)) rest
counts_pass v c rest h =
    let d1 = draft_with (JournalOf v) blank in
    let d2 = draft_with (Callers c.callers) d1 in
    let d3 = draft_with (Elements c.elements_per_caller) d2 in
    let d4 = draft_with (Volumes c.volumes) d3 in
    let d5 = draft_with (Latches c.latches) d4 in
    let d6 = draft_with (Quota c.quota c.posted_quota) d5 in
    let t5 = line (Quota c.quota c.posted_quota) ++ rest in
    let t4 = line (Latches c.latches) ++ t5 in
    let t3 = line (Volumes c.volumes) ++ t4 in
    let t2 = line (Elements c.elements_per_caller) ++ t3 in
    let t1 = line (Callers c.callers) ++ t2 in
    goes_on blank d1 d6 (line (JournalOf v) ++ t1) t1 rest (one_line blank (JournalOf v) t1 (version_read v) refl)
    (goes_on d1 d2 d6 t1 t2 rest (one_line d1 (Callers c.callers) t2 (callers_read c.callers h.callers) refl)
    (goes_on d2 d3 d6 t2 t3 rest (one_line d2 (Elements c.elements_per_caller) t3 (elements_read c.elements_per_caller h.elements) refl)
    (goes_on d3 d4 d6 t3 t4 rest (one_line d3 (Volumes c.volumes) t4 (volumes_read c.volumes h.volumes) refl)
    (goes_on d4 d5 d6 t4 t5 rest (one_line d4 (Latches c.latches) t5 (latches_read c.latches h.latches) refl)
    (one_line d5 (Quota c.quota c.posted_quota) rest (quota_read c.quota c.posted_quota h.quota h.posted) refl)))))

journal_passes : (v : Version) (c : Setup) (es : List Entry) (ns : List ℕ) → HasJournal c es → AreCallsIn v es ns
    → Goes blank (text_of v c es ns) (draft_at AtEnd v c es ns) []
journal_passes v c es ns h m =
    let n = has_numbers c h.valid in
    let each = recursion_from_All HasText es h.each in
    let last = line (End (length es)) ++ [] in
    let events = flat_map line (entry_lines es ns) ++ last in
    let begin = line Events ++ events in
    let exits = flat_map (λ x. line (ExitTo x)) c.exits ++ begin in
    let owners = flat_map (λ n. line (Owner n)) c.owners ++ exits in
    let budgets = flat_map (λ n. line (Budget n)) c.budgets ++ owners in
    let c1 = record (counts c) { budgets = c.budgets } in
    let c2 = record c1 { owners = c.owners } in
    let p1 = counts_pass v c budgets n in
    let p2 = budgets_pass v c.budgets (counts c) c.budgets owners n.budgets refl in
    let p3 = owners_pass v c.owners AtBudgets c1 c.owners exits tt n.owners refl in
    let p4 = exits_pass v c.exits p3.0 c2 c.exits begin p3.1 n.exits refl in
    let p5 = one_line (in_head p4.0 v c) Events events (events_read p4.0 p4.1) (events_said p4.0 v c h.valid) in
    let p6 = entries_pass v es ns c last each (each_from_calls v es ns m) in
    let p7 = one_line (draft_at (AtEntries v) v c es ns) (End (length es)) [] (end_read v (length es) h.count) (end_said v c es ns) in
    let over = draft_at AtEnd v c es ns in
    let a6 = goes_on (draft_at (AtEntries v) v c [] []) (draft_at (AtEntries v) v c es ns) over events last [] p6 p7 in
    let a5 = goes_on (in_head p4.0 v c) (draft_at (AtEntries v) v c [] []) over begin events [] p5 a6 in
    let a4 = goes_on (in_head p3.0 v c2) (in_head p4.0 v c) over exits begin [] p4.2 a5 in
    let a3 = goes_on (in_head AtBudgets v c1) (in_head p3.0 v c2) over owners exits [] p3.2 a4 in
    let a2 = goes_on (in_head AtBudgets v (counts c)) (in_head AtBudgets v c1) over budgets owners [] p2 a3 in
    text_is blank over (text_of v c es ns) _ [] (regrouped v c es ns)
    (goes_on blank (in_head AtBudgets v (counts c)) over _ budgets [] p1 a2)

-- its last line ends with LF, and nothing is cut off
ends : (v : Version) (c : Setup) (es : List Entry) (ns : List ℕ) → (front : List ℕ) × (text_of v c es ns ≡ front ++ 10 ∷ [])
unfolding text_of line
ends v c es ns =
    let last = line_text (End (length es)) in
    (head_text v c ++ flat_map line (entry_lines es ns) ++ last, sym (append_assoc _ last (10 ∷ [])))

-- a journal that is written has no fault, and is read again
pub no_fault_again : (v : Version) (c : Setup) (es : List Entry) (ns : List ℕ) → HasJournal c es → AreCallsIn v es ns
    → (text_fault (text_of v c es ns) ≡ None) × (draft_at AtEnd v c es ns ≡ journal_of (text_of v c es ns))
unfolding text_fault journal_of
no_fault_again v c es ns h m =
    let text = text_of v c es ns in
    let e = ends v c es ns in
    let whole : ended_part text ≡ text = ap ended_part e.1 ∙ ended_whole e.0 ∙ sym e.1 in
    let none : cut_off text ≡ [] = ap cut_off e.1 ∙ none_cut_off e.0 in
    let rules = line_rules (cut_off text) in
    let first : HasPassed rules blank (ended_lines text) 1 blank (lines_of text) =
    subst (λ (x : List ℕ). HasPassed rules blank (ended_lines text) 1 blank (lines_of x)) whole (at_first rules blank (ended_lines text)) in
    let last = (journal_passes v c es ns h m).pass (cut_off text) (ended_lines text) 1 first in
    whole_at_end rules blank (ended_lines text) last.0 (draft_at AtEnd v c es ns) [] last.1 refl (rw none refl)

pub no_fault : (v : Version) (c : Setup) (es : List Entry) (ns : List ℕ) → HasJournal c es → AreCallsIn v es ns
    → text_fault (text_of v c es ns) ≡ None
no_fault v c es ns h m = (no_fault_again v c es ns h m).0

pub read_again : (v : Version) (c : Setup) (es : List Entry) (ns : List ℕ) → HasJournal c es → AreCallsIn v es ns
    → journal_of (text_of v c es ns) ≡ draft_at AtEnd v c es ns
read_again v c es ns h m = sym (no_fault_again v c es ns h m).1

-- a text determines its version, configuration, entries and call numbers
pub one_journal : (v w : Version) (c d : Setup) (es fs : List Entry) (ns ms : List ℕ) → HasJournal c es → AreCallsIn v es ns
    → HasJournal d fs → AreCallsIn w fs ms → text_of v c es ns ≡ text_of w d fs ms → (v ≡ w) × (c ≡ d) × (es ≡ fs) × (ns ≡ ms)
one_journal v w c d es fs ns ms p q r s e =
    let same : draft_at AtEnd v c es ns ≡ draft_at AtEnd w d fs ms =
    sym (read_again v c es ns p q) ∙ ap journal_of e ∙ read_again w d fs ms r s in (
      ap (λ (x : Draft). x.version) same,
      ap (λ (x : Draft). x.setup) same,
      ap (λ (x : Draft). x.entries) same,
      ap (λ (x : Draft). x.calls) same,
    )

pub reads_back : (v : Version) (c : Setup) (es : List Entry) (ns : List ℕ) → HasJournal c es → AreCallsIn v es ns
    → ((journal_of (text_of v c es ns)).version ≡ v) × ((journal_of (text_of v c es ns)).setup ≡ c)
    × ((journal_of (text_of v c es ns)).entries ≡ es) × ((journal_of (text_of v c es ns)).calls ≡ ns)
reads_back v c es ns h m =
    let is = read_again v c es ns h m in
    (ap (λ (x : Draft). x.version) is, ap (λ (x : Draft). x.setup) is, ap (λ (x : Draft). x.entries) is, ap (λ (x : Draft). x.calls) is)
