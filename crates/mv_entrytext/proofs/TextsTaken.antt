-- A text without fault is the text of the journal that it is read as.
use Rattle.std.proofs.Common.{◌≡◌, ℕ, ◌+◌, ◌≤◌, Bool, true, false, cond, eqb, not, ◌||◌, List, [], ◌∷◌, ◌++◌, length, Option, Some}
use Rattle.std.proofs.Common.{None, refl, sym, ap, subst, ◌∙◌, arith, append_assoc}
use Rattle.std.specs.Prelude.{codes, fold, is_some}
use Rattle.std.specs.List.{flat_map, AllByRecursion}
use Rattle.std.proofs.lemmas.Bool.{eqb-true, false≢true, and_parts}
use Rattle.std.proofs.lemmas.List.{append-nil, nil_from_length, flat_map_more}
use Rattle.std.proofs.lemmas.List.Elements.{All-from_recursion}
use Rattle.std.specs.Option.{option_or}
use Rattle.mv_machine.specs.declared.entry.Entry.{Entry}
use Rattle.mv_config.specs.declared.config.CheckRefusal.{CheckRefusal}
use Rattle.mv_config.specs.Check.{IsValid, refusal_of}
use Rattle.mv_entrytext.proofs.Heads.{config_said}
use Rattle.mv_config.specs.Setup.{Setup, SetupExit}
use Rattle.mv_line.specs.Fault.{faults_by_line, first_of_list}
use Rattle.mv_line.specs.Line.{ended_part, ended_lines, cut_off}
use Rattle.mv_line.proofs.Faults.{line_passed, no_kinds, no_fault_at_end}
use Rattle.mv_line.proofs.Ended.{ended_text, ended_again, cut_again}
use Rattle.mv_machine.proofs.Lists.{all_push}
use Rattle.mv_entrytext.specs.declared.fault.Kind.{Kind}
use Rattle.mv_entrytext.specs.declared.fault.Kind.TheVariants.{NoForm, BadNumber, BadConfig, WrongCount}
use Rattle.mv_operationtext.specs.declared.version.Version.{Version}
use Rattle.mv_operationtext.specs.Ranges.{highest_u32}
use Rattle.mv_operationtext.specs.EntryText.{HasText}
use Rattle.mv_entrytext.specs.Journal.{Line, JournalOf, Callers, Elements, Volumes, Latches, Quota, Budget, Owner, ExitTo, Events}
use Rattle.mv_entrytext.specs.Journal.{EntryOf, End, line_text, line, entry_lines, counts_text, lists_text, head_text, text_of}
use Rattle.mv_entrytext.specs.Lines.{Stage, AtVersion, AtCallers, AtElements, AtVolumes, AtLatches, AtQuota, AtBudgets, AtOwners}
use Rattle.mv_entrytext.specs.Lines.{AtExits, AtEntries, AtEnd, line_read, Draft, blank, with_call, draft_with}
use Rattle.mv_entrytext.specs.Fault.{kind_said, kind_of, is_read, is_ended, listed, draft_after, with_line, line_rules}
use Rattle.mv_entrytext.specs.Fault.{text_fault, journal_of, HasJournal, AreCallsIn}
use Rattle.mv_entrytext.proofs.CallNumbers.{AreEach, calls_from_each, no_numbers, number_more, lines_more}
use Rattle.mv_operationtext.proofs.OneCallNumber.{IsCallIn}
use Rattle.mv_entrytext.proofs.LinesTaken.{MayCome, line_taken}

-- ---- the text of the lines so far

abbrev budgets_text : List ℕ → List ℕ
budgets_text ns = flat_map (λ n. line (Budget n)) ns

abbrev owners_text : List ℕ → List ℕ
owners_text ns = flat_map (λ n. line (Owner n)) ns

abbrev exits_text : List SetupExit → List ℕ
exits_text xs = flat_map (λ x. line (ExitTo x)) xs

abbrev entries_text : List Entry → List ℕ → List ℕ
entries_text es ns = flat_map line (entry_lines es ns)

-- the counts up to that of the elements, that of the volumes, that of the latches
abbrev up_to_elements : Version → Setup → List ℕ
up_to_elements v c = line (JournalOf v) ++ line (Callers c.callers) ++ line (Elements c.elements_per_caller)

abbrev up_to_volumes : Version → Setup → List ℕ
up_to_volumes v c = up_to_elements v c ++ line (Volumes c.volumes)

abbrev up_to_latches : Version → Setup → List ℕ
up_to_latches v c = up_to_volumes v c ++ line (Latches c.latches)

abbrev up_to_budgets : Version → Setup → List ℕ
up_to_budgets v c = up_to_latches v c ++ line (Quota c.quota c.posted_quota) ++ budgets_text c.budgets

abbrev up_to_exits : Version → Setup → List ℕ
up_to_exits v c = up_to_budgets v c ++ owners_text c.owners ++ exits_text c.exits

abbrev up_to_entries : Version → Setup → List Entry → List ℕ → List ℕ
up_to_entries v c es ns = up_to_exits v c ++ line Events ++ entries_text es ns

-- no entry so far, and no number
pub record HasNoEntry (es : List Entry) (ns : List ℕ) : Type 0 where
  pub entries : es ≡ []
  pub calls : ns ≡ []

-- the lists of a configuration before the first of their lines
pub record HasNoList (c : Setup) (es : List Entry) (ns : List ℕ) : Type 0 where
  pub budgets : c.budgets ≡ []
  pub owners : c.owners ≡ []
  pub exits : c.exits ≡ []
  pub none : HasNoEntry es ns

-- what stands before the end of the entries, whose lines are read as those of this version
pub record AreEntries (read v : Version) (front : List ℕ) (c : Setup) (es : List Entry) (ns : List ℕ) : Type 0 where
  pub version : read ≡ v
  pub text : front ≡ up_to_entries v c es ns
  pub valid : IsValid c
  pub each : AllByRecursion HasText es
  pub calls : AreEach v es ns

-- the whole
pub record IsWritten (v : Version) (front : List ℕ) (c : Setup) (es : List Entry) (ns : List ℕ) : Type 0 where
  pub text : front ≡ up_to_entries v c es ns ++ line (End (length es))
  pub journal : HasJournal c es
  pub calls : AreCallsIn v es ns

-- the front of the text is that of what was said
abbrev pub SoFar : Stage → Version → Setup → List Entry → List ℕ → List ℕ → Type 0
SoFar AtVersion v c es ns front = (front ≡ []) × HasNoList c es ns
SoFar AtCallers v c es ns front = (front ≡ line (JournalOf v)) × HasNoList c es ns
SoFar AtElements v c es ns front = (front ≡ line (JournalOf v) ++ line (Callers c.callers)) × HasNoList c es ns
SoFar AtVolumes v c es ns front = (front ≡ up_to_elements v c) × HasNoList c es ns
SoFar AtLatches v c es ns front = (front ≡ up_to_volumes v c) × HasNoList c es ns
SoFar AtQuota v c es ns front = (front ≡ up_to_latches v c) × HasNoList c es ns
SoFar AtBudgets v c es ns front = (front ≡ up_to_budgets v c) × (c.owners ≡ []) × (c.exits ≡ []) × HasNoEntry es ns
SoFar AtOwners v c es ns front = (front ≡ up_to_budgets v c ++ owners_text c.owners) × (c.exits ≡ []) × HasNoEntry es ns
SoFar AtExits v c es ns front = (front ≡ up_to_exits v c) × HasNoEntry es ns
SoFar (AtEntries read) v c es ns front = AreEntries read v front c es ns
SoFar AtEnd v c es ns front = IsWritten v front c es ns

-- ---- one line more

-- where no owner was named, the list of owners is empty, and so with exits
no_owner : (v : Version) (c : Setup) (es : List Entry) (ns front : List ℕ) → SoFar AtBudgets v c es ns front
    → SoFar AtOwners v c es ns front
no_owner v c es ns front h =
    (h.0 ∙ sym (ap (λ (x : List ℕ). up_to_budgets v c ++ owners_text x) h.1 ∙ append-nil (up_to_budgets v c)), h.2, h.3)

no_exit : (v : Version) (c : Setup) (es : List Entry) (ns front : List ℕ) → SoFar AtOwners v c es ns front → SoFar AtExits v c es ns front
no_exit v c es ns front h = (
  h.0 ∙ sym (ap (λ (x : List SetupExit). up_to_budgets v c ++ owners_text c.owners ++ exits_text x) h.1
      ∙ append-nil (up_to_budgets v c ++ owners_text c.owners)),
  h.2,
)

then_owner : (v : Version) (c : Setup) (es : List Entry) (ns front : List ℕ) (n : ℕ) → SoFar AtOwners v c es ns front
    → SoFar AtOwners v (record c { owners = c.owners ++ n ∷ [] }) es ns (front ++ line (Owner n))
then_owner v c es ns front n h =
    (ap (λ (x : List ℕ). x ++ line (Owner n)) h.0 ∙ flat_map_more (λ n. line (Owner n)) (up_to_budgets v c) c.owners n, h.1, h.2)

then_exit : (v : Version) (c : Setup) (es : List Entry) (ns front : List ℕ) (x : SetupExit) → SoFar AtExits v c es ns front
    → SoFar AtExits v (record c { exits = c.exits ++ x ∷ [] }) es ns (front ++ line (ExitTo x))
then_exit v c es ns front x h = (
  ap (λ (t : List ℕ). t ++ line (ExitTo x)) h.0
      ∙ flat_map_more (λ x. line (ExitTo x)) (up_to_budgets v c ++ owners_text c.owners) c.exits x,
  h.1,
)

no_lines : (es : List Entry) (ns : List ℕ) → HasNoEntry es ns → entries_text es ns ≡ []
no_lines es ns h =
    ap (λ (x : List Entry). entries_text x ns) h.entries ∙ ap (λ (x : List ℕ). entries_text [] x) h.calls

then_events : (v : Version) (c : Setup) (es : List Entry) (ns front : List ℕ) → SoFar AtExits v c es ns front → IsValid c
    → SoFar (AtEntries v) v c es ns (front ++ line Events)
then_events v c es ns front h valid =
    record {
      version = refl;
      text = ap (λ (t : List ℕ). t ++ line Events) h.0
          ∙ sym (ap (λ (x : List ℕ). up_to_exits v c ++ line Events ++ x) (no_lines es ns h.1)
          ∙ append-nil (up_to_exits v c ++ line Events));
      valid = valid;
      each = subst (λ x. AllByRecursion HasText x) (sym h.1.entries) tt;
      calls = no_numbers v es ns h.1.entries h.1.calls;
    }

no_refusal : (o : Option CheckRefusal) → cond {A = Option Kind} (is_some o) (Some BadConfig) None ≡ None → o ≡ None
no_refusal None e = refl
no_refusal (Some r) e = absurd cc

right_count : (a b : ℕ) → cond {A = Option Kind} (not (eqb a b)) (Some WrongCount) None ≡ None → a ≡ b
right_count a b e = go (eqb a b) refl e where
  go : (t : Bool) → eqb a b ≡ t → cond {A = Option Kind} (not t) (Some WrongCount) None ≡ None → a ≡ b
  go true q h = eqb-true a b q
  go false q h = absurd cc

plus : (front : List ℕ) (l : Line) (before : List ℕ) → front ≡ before → front ++ line l ≡ before ++ line l
plus front l before e = ap (λ (x : List ℕ). x ++ line l) e

-- an entry's line stands behind the others
then_entry : (read v : Version) (c : Setup) (es : List Entry) (ns front : List ℕ) (call : Option ℕ) (e : Entry)
    → AreEntries read v front c es ns → HasText e → IsCallIn read call
    → AreEntries v v (front ++ line (EntryOf call e)) c (es ++ e ∷ []) (with_call call ns)
then_entry read v c es ns front call e h t m =
    let mine : IsCallIn v call = subst (λ w. IsCallIn w call) h.version m in
    record {
      version = refl;
      text = plus front (EntryOf call e) (up_to_entries v c es ns) h.text
          ∙ flat_map_more line (up_to_exits v c ++ line Events) (entry_lines es ns) (EntryOf call e)
          ∙ ap (λ (ls : List Line). up_to_exits v c ++ line Events ++ flat_map line ls) (sym (lines_more v es ns call e h.calls mine));
      valid = h.valid;
      each = all_push HasText es e h.each t;
      calls = number_more v es ns call e h.calls mine;
    }

-- the last line
then_end : (read v : Version) (c : Setup) (es : List Entry) (ns front : List ℕ) (n : ℕ) → AreEntries read v front c es ns → length es ≡ n
    → n ≤ highest_u32 → IsWritten v (front ++ line (End n)) c es ns
then_end read v c es ns front n h count m =
    record {
      text = plus front (End n) (up_to_entries v c es ns) h.text ∙ ap (λ (x : ℕ). up_to_entries v c es ns ++ line (End x)) (sym count);
      journal = record { valid = h.valid; each = All-from_recursion HasText es h.each; count = omega arith };
      calls = calls_from_each v es ns h.calls;
    }

-- the next line of the counts
same_lists : (c d : Setup) (es : List Entry) (ns : List ℕ) → HasNoList c es ns → d.budgets ≡ c.budgets → d.owners ≡ c.owners
    → d.exits ≡ c.exits → HasNoList d es ns
same_lists c d es ns h b o x = record { budgets = b ∙ h.budgets; owners = o ∙ h.owners; exits = x ∙ h.exits; none = h.none }

one_line : (s : Stage) (v : Version) (c : Setup) (es : List Entry) (ns front : List ℕ) (l : Line) → SoFar s v c es ns front → MayCome s l
    → kind_said (record { stage = s; version = v; setup = c; entries = es; calls = ns }) (Some l) ≡ None
    → let next = draft_with l (record { stage = s; version = v; setup = c; entries = es; calls = ns }) in
    SoFar next.stage next.version next.setup next.entries next.calls (front ++ line l)
one_line AtVersion v c es ns front (JournalOf w) h m k = (plus front (JournalOf w) [] h.0, h.1)
one_line AtCallers v c es ns front (Callers n) h m k =
    (plus front (Callers n) _ h.0, same_lists c (record c { callers = n }) es ns h.1 refl refl refl)
one_line AtElements v c es ns front (Elements n) h m k =
    (plus front (Elements n) _ h.0, same_lists c (record c { elements_per_caller = n }) es ns h.1 refl refl refl)
one_line AtVolumes v c es ns front (Volumes n) h m k =
    (plus front (Volumes n) _ h.0, same_lists c (record c { volumes = n }) es ns h.1 refl refl refl)
one_line AtLatches v c es ns front (Latches n) h m k =
    (plus front (Latches n) _ h.0, same_lists c (record c { latches = n }) es ns h.1 refl refl refl)
one_line AtQuota v c es ns front (Quota q p) h m k = (
  plus front (Quota q p) _ h.0
      ∙ sym (ap (λ (x : List ℕ). up_to_latches v c ++ line (Quota q p) ++ budgets_text x) h.1.budgets ∙ append-nil _),
  h.1.owners,
  h.1.exits,
  h.1.none,
)
one_line AtBudgets v c es ns front (Budget n) h m k =
    (plus front (Budget n) _ h.0 ∙ flat_map_more (λ n. line (Budget n)) _ c.budgets n, h.1, h.2, h.3)
one_line AtBudgets v c es ns front (Owner n) h m k = then_owner v c es ns front n (no_owner v c es ns front h)
one_line AtBudgets v c es ns front (ExitTo x) h m k = then_exit v c es ns front x (no_exit v c es ns front (no_owner v c es ns front h))
one_line AtBudgets v c es ns front Events h m k =
    then_events v c es ns front (no_exit v c es ns front (no_owner v c es ns front h)) (no_refusal (refusal_of c) (config_said c ∙ k))
one_line AtOwners v c es ns front (Owner n) h m k = then_owner v c es ns front n h
one_line AtOwners v c es ns front (ExitTo x) h m k = then_exit v c es ns front x (no_exit v c es ns front h)
one_line AtOwners v c es ns front Events h m k =
    then_events v c es ns front (no_exit v c es ns front h) (no_refusal (refusal_of c) (config_said c ∙ k))
one_line AtExits v c es ns front (ExitTo x) h m k = then_exit v c es ns front x h
one_line AtExits v c es ns front Events h m k = then_events v c es ns front h (no_refusal (refusal_of c) (config_said c ∙ k))
one_line (AtEntries read) v c es ns front (EntryOf call e) h m k = then_entry read v c es ns front call e h m.0 m.1
one_line (AtEntries read) v c es ns front (End n) h m k = then_end read v c es ns front n h (right_count (length es) n k) m
one_line s v c es ns front l h m k = absurd m

-- ---- all lines

-- a line without fault is read strictly, and what it says is no fault
pub record IsSaid (d : Draft) (text : List ℕ) : Type 0 where
  pub said : Line
  pub read : line_read true d.stage text ≡ Some said
  pub fine : kind_said d (Some said) ≡ None

abbrev kind_by : Bool → Bool → Option Kind → Option Kind
kind_by strict loose said = option_or (cond (not (strict || loose)) (Some NoForm) (cond (not strict) (Some BadNumber) None)) said

kind_none : (strict loose : Bool) (said : Option Kind) → kind_by strict loose said ≡ None → (strict ≡ true) × (said ≡ None)
kind_none true loose said e = (refl, e)
kind_none false true said e = absurd cc
kind_none false false said e = absurd cc

is_said : (d : Draft) (text : List ℕ) → kind_of d text ≡ None → IsSaid d text
is_said d text e =
    let k = kind_none (is_read true d.stage text) (is_read false d.stage text) (kind_said d (line_read true d.stage text)) e in
    go (line_read true d.stage text) refl k.0 k.1 where
      go : (o : Option Line) → line_read true d.stage text ≡ o → is_some o ≡ true → kind_said d o ≡ None → IsSaid d text
      go None r s f = absurd (false≢true s)
      go (Some l) r s f = record { said = l; read = r; fine = f }

end_only : (s : Stage) → is_ended s ≡ true → s ≡ AtEnd
end_only AtEnd e = refl
end_only s e = absurd (false≢true e)

nothing_listed : (kind : Option Kind) → listed kind ≡ [] → kind ≡ None
nothing_listed None e = refl
nothing_listed (Some k) e = absurd cc

abbrev SoFarD : Draft → List ℕ → Type 0
SoFarD d front = SoFar d.stage d.version d.setup d.entries d.calls front

-- where lines have no fault, what they have said is all, nothing is cut off, and they are its text
pub record AreRead (cut : List ℕ) (d : Draft) (text : List ℕ) : Type 0 where
  pub stage : d.stage ≡ AtEnd
  pub none : cut ≡ []
  pub so_far : SoFarD d text

line_is : (l : Line) → line_text l ++ codes "\n" ≡ line l
unfolding line
line_is l = refl

lines_read : (cut : List ℕ) (lines : List (List ℕ)) (number : ℕ) (d : Draft) (front : List ℕ)
    → first_of_list (faults_by_line (line_rules cut) number d lines) ≡ None → SoFarD d front
    → AreRead cut (fold with_line d lines) (front ++ ended_text lines)
lines_read cut [] number d front e h =
    let both = and_parts (is_ended d.stage) (eqb (length cut) 0) (no_fault_at_end (line_rules cut) number d e) in
    record {
      stage = end_only d.stage both.0;
      none = nil_from_length cut (eqb-true (length cut) 0 both.1);
      so_far = subst (λ (x : List ℕ). SoFarD d x) (sym (append-nil front)) h;
    }
lines_read cut (text ∷ lines) number d front e h =
    let rules = line_rules cut in
    let none = no_kinds rules number d text lines e in
    let s = is_said d text (nothing_listed (kind_of d text) none) in
    let t = line_taken d.stage text s.said s.read in
    let one = one_line d.stage d.version d.setup d.entries d.calls front s.said h t.1 s.fine in
    let next : with_line d text ≡ draft_with s.said d = ap (draft_after d) s.read in
    let rest : first_of_list (faults_by_line rules (number + 1) (draft_with s.said d) lines) ≡ None =
    ap (λ (x : Draft). first_of_list (faults_by_line rules (number + 1) x lines)) (sym next)
    ∙ ap first_of_list (sym (line_passed rules number d text lines none)) ∙ e in
    let ih = lines_read cut lines (number + 1) (draft_with s.said d) (front ++ line s.said) rest one in
    let text_is : front ++ ended_text (text ∷ lines) ≡ (front ++ line s.said) ++ ended_text lines =
    ap (λ (x : List ℕ). front ++ (x ++ 10 ∷ [] ++ ended_text lines)) t.0
    ∙ ap (λ (x : List ℕ). front ++ (x ++ ended_text lines)) (line_is s.said) ∙ sym (append_assoc front (line s.said) (ended_text lines)) in
    subst (λ (x : Draft). AreRead cut (fold with_line x lines) (front ++ ended_text (text ∷ lines))) (sym next)
    (subst (λ (x : List ℕ). AreRead cut (fold with_line (draft_with s.said d) lines) x) (sym text_is) ih)

all_lines : (v : Version) (c : Setup) (es : List Entry) (ns : List ℕ)
    → up_to_entries v c es ns ++ line (End (length es)) ≡ text_of v c es ns
unfolding text_of head_text counts_text lists_text
all_lines v c es ns = simp append_assoc

-- the bytes are the text of what was said
pub record IsTextOf (bytes : List ℕ) (d : Draft) : Type 0 where
  pub text : bytes ≡ text_of d.version d.setup d.entries d.calls
  pub journal : HasJournal d.setup d.entries
  pub calls : AreCallsIn d.version d.entries d.calls

-- a text without fault is the text of what it is read as
pub is_read_whole : (bytes : List ℕ) → text_fault bytes ≡ None → IsTextOf bytes (journal_of bytes)
unfolding text_fault journal_of
is_read_whole bytes e =
    let all = lines_read (cut_off bytes) (ended_lines bytes) 1 blank [] e
    (refl, record { budgets = refl; owners = refl; exits = refl; none = record { entries = refl; calls = refl } }) in
    let d = journal_of bytes in
    let last =
    subst (λ (s : Stage). SoFar s d.version d.setup d.entries d.calls (ended_text (ended_lines bytes))) all.stage all.so_far in
    let is : bytes ≡ ended_text (ended_lines bytes) =
    sym (cut_again bytes) ∙ ap (λ (x : List ℕ). ended_part bytes ++ x) all.none ∙ append-nil (ended_part bytes)
    ∙ sym (ended_again bytes) in
    record {
      text = is ∙ last.text ∙ all_lines d.version d.setup d.entries d.calls;
      journal = last.journal;
      calls = last.calls;
    }
