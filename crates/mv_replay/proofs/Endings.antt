-- A text asks for one ending at most, and a replay has that one where nothing fails.
use Rattle.std.proofs.Common.{◌≡◌, ℕ, ◌+◌, List, length, Option, Some, None, refl, sym, ap, ◌∙◌, arith, inl, inr}
use Rattle.std.proofs.lemmas.Option.{same_Some}
use Rattle.mv_machine.specs.declared.entry.Entry.{Entry}
use Rattle.mv_config.specs.Setup.{Setup}
use Rattle.mv_line.specs.declared.fault.TextFault.{TextFault}
use Rattle.mv_operationtext.specs.declared.version.Version.{Version}
use Rattle.mv_entrytext.specs.Fault.{StatesJournal, text_fault}
use Rattle.mv_replay.specs.declared.status.ReplayStatus.{ReplayStatus}
use Rattle.mv_replay.specs.declared.status.ReplayStatus.TheVariants.{Done, TooLong, ReadFailed, ReportFailed, NoMemory, Illegal, Text}
use Rattle.mv_entrytext.specs.Journal.{first_line}
use Rattle.mv_replay.specs.Judgement.{calls_in, AreRight, IsFirstWrong, IsLegalJournal, IsIllegalAt}
use Rattle.mv_ending.specs.Ending.{EndsAs}
use Rattle.mv_ending.specs.Written.{Nothing}
use Rattle.mv_replay.specs.Outcome.{IsFound, Asks, InputOf, Owes, Writes, extent_of}
use Rattle.mv_replay.proofs.Reported.{read_before, unreported, not_unread}
use Rattle.mv_replay.proofs.Wrong.{one_first, not_first}

-- ---- what a text is found to be

-- a legal journal has no fault
pub legal_is_sound : (bytes : List ℕ) (count : ℕ) → IsLegalJournal bytes count → text_fault bytes ≡ None
legal_is_sound bytes count l = l.states.faultless

-- nor has one with a first entry that is wrong
pub illegal_is_sound : (bytes : List ℕ) (line : ℕ) → IsIllegalAt bytes line → text_fault bytes ≡ None
illegal_is_sound bytes line i = i.states.faultless

-- what it states is one thing
one_journal : (bytes : List ℕ) (v w : Version) (c d : Setup) (es fs : List Entry) (ns ms : List ℕ) → StatesJournal bytes v c es ns
    → StatesJournal bytes w d fs ms → (v ≡ w) × (c ≡ d) × (es ≡ fs) × (ns ≡ ms)
one_journal bytes v w c d es fs ns ms s t =
    (sym s.version ∙ t.version, sym s.setup ∙ t.setup, sym s.entries ∙ t.entries, sym s.calls ∙ t.calls)

-- so neither has one
not_faulty : (bytes : List ℕ) (f : TextFault) → text_fault bytes ≡ None → text_fault bytes ≡ Some f → ⊥
not_faulty bytes f none some =
    let both : None ≡ Some f = sym none ∙ some in
    absurd cc

-- and no text is both: in a legal journal no entry is wrong
pub not_both : (bytes : List ℕ) (count line : ℕ) → IsLegalJournal bytes count → IsIllegalAt bytes line → ⊥
not_both bytes count line l i =
    let ns = calls_in l.version l.setup l.entries in
    let same = one_journal bytes l.version i.version l.setup i.setup l.entries i.entries ns i.calls l.states i.states in
    let right : AreRight l.version l.setup l.entries ns = record { legal = l.legal; numbers = refl } in
    let other : AreRight i.version i.setup i.entries i.calls = rw (← same.0, ← same.1, ← same.2, ← same.3) right in
    not_first i.version i.setup i.entries i.calls i.index other i.first

-- a text has one number of entries
pub one_count : (bytes : List ℕ) (m n : ℕ) → IsLegalJournal bytes m → IsLegalJournal bytes n → m ≡ n
one_count bytes m n k l =
    let same = one_journal bytes k.version l.version k.setup l.setup k.entries l.entries (calls_in k.version k.setup k.entries)
    (calls_in l.version l.setup l.entries) k.states l.states in
    k.number ∙ ap (λ (es : List Entry). length es) same.2 ∙ sym l.number

-- one line with its first wrong entry
pub one_line : (bytes : List ℕ) (m n : ℕ) → IsIllegalAt bytes m → IsIllegalAt bytes n → m ≡ n
one_line bytes m n i j =
    let same = one_journal bytes i.version j.version i.setup j.setup i.entries j.entries i.calls j.calls i.states j.states in
    let first : IsFirstWrong j.version j.setup j.entries j.calls i.index = rw (← same.0, ← same.1, ← same.2, ← same.3) i.first in
    let at : i.index ≡ j.index = one_first j.version j.setup j.entries j.calls i.index j.index first j.first in
    i.place ∙ ap (λ (c : Setup). first_line c + i.index) same.1 ∙ ap (λ (k : ℕ). first_line j.setup + k) at ∙ sym j.place

-- so it is found to be one thing
pub one_finding : (bytes : List ℕ) (s t : ReplayStatus) → IsFound bytes s → IsFound bytes t → s ≡ t
one_finding bytes TooLong t a b = absurd a
one_finding bytes ReadFailed t a b = absurd a
one_finding bytes ReportFailed t a b = absurd a
one_finding bytes NoMemory t a b = absurd a
one_finding bytes Done Done a b = refl
one_finding bytes Done (Illegal n) a b = absurd (not_both bytes a.0 n a.1 b)
one_finding bytes Done (Text g) a b = absurd (not_faulty bytes g (legal_is_sound bytes a.0 a.1) b)
one_finding bytes (Illegal m) Done a b = absurd (not_both bytes b.0 m b.1 a)
one_finding bytes (Illegal m) (Illegal n) a b = ap (λ (k : ℕ). Illegal k) (one_line bytes m n a b)
one_finding bytes (Illegal m) (Text g) a b = absurd (not_faulty bytes g (illegal_is_sound bytes m a) b)
one_finding bytes (Text f) Done a b = absurd (not_faulty bytes f (legal_is_sound bytes b.0 b.1) a)
one_finding bytes (Text f) (Illegal n) a b = absurd (not_faulty bytes f (illegal_is_sound bytes n b) a)
one_finding bytes (Text f) (Text g) a b = ap (λ (h : TextFault). Text h) (same_Some f g (sym a ∙ b))
one_finding bytes s t a b = absurd b

-- ---- the ending that an input asks for

-- nothing is both above the limit and within it
pub one_ending : (bytes : List ℕ) (s t : ReplayStatus) → Asks bytes s → Asks bytes t → s ≡ t
one_ending bytes TooLong TooLong a b = refl
one_ending bytes TooLong t a b = absurd (omega (arith, b.0))
one_ending bytes s TooLong a b = absurd (omega (arith, a.0))
one_ending bytes s t a b = one_finding bytes s t a.1 b.1

-- ---- a command has it, where the source did not fail, and the report did not where it was begun

-- where the source tells its bytes
ends_as : (bytes : List ℕ) (new : Option (List ℕ)) (s t : ReplayStatus) → InputOf s (Some bytes) new
    → (s ≡ ReadFailed → ⊥) → (s ≡ ReportFailed → t ≡ Done → ⊥) → Asks bytes t → EndsAs NoMemory s t
ends_as bytes new Done t i read wrote a = inl (one_ending bytes Done t (i.0.short, i.1) a)
ends_as bytes new TooLong t i read wrote a = inl (one_ending bytes TooLong t i.long a)
ends_as bytes new ReadFailed t i read wrote a = absurd (read refl)
ends_as bytes new ReportFailed t i read wrote a = absurd (wrote refl (sym (one_ending bytes Done t (i.0.short, i.1) a)))
ends_as bytes new NoMemory t i read wrote a = inr refl
ends_as bytes new (Illegal line) t i read wrote a = inl (one_ending bytes (Illegal line) t (i.0.short, i.1) a)
ends_as bytes new (Text fault) t i read wrote a = inl (one_ending bytes (Text fault) t (i.0.short, i.1) a)

-- whether or not it does
owed : (s : ReplayStatus) (old new : Option (List ℕ)) (D R : Type 0) → InputOf s old new
    → (s ≡ ReadFailed → D) → (s ≡ ReportFailed → R) → Owes D R old s
owed s None new D R input read report sound = tt
owed s (Some bytes) new D R input read report sound =
    λ t a wrote. ends_as bytes new s t input (λ e. sound (read e)) (λ failed done. wrote done (report failed)) a

-- where it ended before it reported
pub owed_unread : (s : ReplayStatus) (old new : Option (List ℕ)) (D R : Type 0) → InputOf s old new
    → (s ≡ ReadFailed → D) → extent_of s ≡ Nothing → Owes D R old s
owed_unread s old new D R input read none = owed s old new D R input read (unreported R s none)

-- and where it has read a legal journal, and has written so much of its report
pub owed_written : (s : ReplayStatus) (old new report0 report1 : Option (List ℕ)) (report : List ℕ) (D R : Type 0)
    → InputOf Done old new → Writes s report0 report1 report → (s ≡ ReportFailed → R) → Owes D R old s
owed_written s old new report0 report1 report D R input wrote failed =
    owed s old new D R (read_before s old new report0 report1 report input wrote)
    (λ e. absurd (not_unread s report0 report1 report wrote e)) failed
