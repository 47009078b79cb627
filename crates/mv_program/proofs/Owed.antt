-- An input asks a command for one ending at most, and a run has that one where nothing fails.
use Rattle.std.proofs.Common.{◌≡◌, ℕ, true, List, [], Option, Some, None, refl, sym, ap, subst, ◌∙◌, arith, inl, inr}
use Rattle.std.specs.Prelude.{IfSome, IsSomeAnd}
use Rattle.mv_deck.specs.Fault.{first_fault}
use Rattle.mv_ending.specs.Ending.{EndsAs}
use Rattle.mv_script.specs.Fault as scripts
use Rattle.mv_replay.specs.declared.status.ReplayStatus.{ReplayStatus}
use Rattle.mv_replay.specs.declared.status.ReplayStatus.TheVariants as replay
use Rattle.mv_replay.specs.Outcome as replays
use Rattle.mv_replay.proofs.Endings as judged
use Rattle.mv_program.specs.declared.command.Command.{Command}
use Rattle.mv_program.specs.declared.command.Command.TheVariants.{Spool, Load, Journal, Polled}
use Rattle.mv_program.specs.declared.command.Command.TheVariants as asked
use Rattle.mv_program.specs.declared.status.Status.{Status}
use Rattle.mv_program.specs.declared.status.Status.TheVariants.{Done, Words, Deck, TooLong, ReadFailed, ReportFailed}
use Rattle.mv_program.specs.declared.status.Status.TheVariants.{JournalFailed, NoMemory, Illegal, Text}
use Rattle.mv_program.specs.declared.status.Status.TheVariants.{Script}
use Rattle.mv_program.specs.Program.{IsFound, IsScriptFound, TextAsks, TextOf, DeckOf, ScriptOf, EndsLoad, InputOf, Asks}
use Rattle.mv_program.specs.Program.{has_journal, reads_input, input_told}
use Rattle.mv_program.specs.Status.{replay_of}

-- ---- decks and scripts

-- what has a fault is not without one
apart : {F : Type 0} (first : Option F) (f : F) → first ≡ None → first ≡ Some f → ⊥
apart first f none some =
    let both : None ≡ Some f = sym none ∙ some in
    absurd cc

-- and has one first fault
one_fault : {F : Type 0} (first : Option F) (f g : F) → first ≡ Some f → first ≡ Some g → f ≡ g
one_fault first f g a b =
    let both : Some f ≡ Some g = sym a ∙ b in
    cc

-- so a deck is found to be one thing
one_deck : (n : ℕ) (bytes : List ℕ) (s t : Status) → IsFound n bytes s → IsFound n bytes t → s ≡ t
one_deck n bytes Done Done a b = refl
one_deck n bytes Done (Deck g) a b = absurd (apart (first_fault bytes n) g a b)
one_deck n bytes (Deck f) Done a b = absurd (apart (first_fault bytes n) f b a)
one_deck n bytes (Deck f) (Deck g) a b = ap Deck (one_fault (first_fault bytes n) f g a b)
one_deck n bytes Done t a b = absurd b
one_deck n bytes (Deck f) t a b = absurd b
one_deck n bytes s t a b = absurd a

-- and a script is
one_script : (bytes : List ℕ) (s t : Status) → IsScriptFound bytes s → IsScriptFound bytes t → s ≡ t
one_script bytes Done Done a b = refl
one_script bytes Done (Script g) a b = absurd (apart (scripts.first_fault bytes) g a b)
one_script bytes (Script f) Done a b = absurd (apart (scripts.first_fault bytes) f b a)
one_script bytes (Script f) (Script g) a b = ap Script (one_fault (scripts.first_fault bytes) f g a b)
one_script bytes Done t a b = absurd b
one_script bytes (Script f) t a b = absurd b
one_script bytes s t a b = absurd a

-- of texts that are found to be one thing
module _ (Found : List ℕ → Status → Type 0) (one : (bytes : List ℕ) (s t : Status) → Found bytes s → Found bytes t → s ≡ t) where
  -- an input asks for one ending
  one_ending : (bytes : List ℕ) (s t : Status) → TextAsks Found bytes s → TextAsks Found bytes t → s ≡ t
  one_ending bytes TooLong TooLong a b = refl
  one_ending bytes TooLong t a b = absurd (omega (arith, b.0))
  one_ending bytes s TooLong a b = absurd (omega (arith, a.0))
  one_ending bytes s t a b = one bytes s t a.1 b.1

  -- and a command ends so, but for the faults
  text_ends : (bytes : List ℕ) (new : Option (List ℕ)) (s t : Status) → TextOf Found s (Some bytes) new
      → (s ≡ ReadFailed → ⊥) → (t ≡ Done → s ≡ ReportFailed → ⊥) → (t ≡ Done → s ≡ JournalFailed → ⊥)
      → TextAsks Found bytes t → EndsAs NoMemory s t
  text_ends bytes new Done t i read report journal a = inl (one_ending bytes Done t (i.read.short, i.is) a)
  text_ends bytes new TooLong t i read report journal a = inl (one_ending bytes TooLong t i.long a)
  text_ends bytes new ReadFailed t i read report journal a = absurd (read refl)
  text_ends bytes new ReportFailed t i read report journal a =
      absurd (report (sym (one_ending bytes Done t (i.read.short, i.is) a)) refl)
  text_ends bytes new JournalFailed t i read report journal a =
      absurd (journal (sym (one_ending bytes Done t (i.read.short, i.is) a)) refl)
  text_ends bytes new NoMemory t i read report journal a = inr refl
  text_ends bytes new s t i read report journal a = absurd i

-- a deck's run ends as its input asks
deck_ends : (n : ℕ) (bytes : List ℕ) (new : Option (List ℕ)) (s t : Status) → DeckOf n s (Some bytes) new
    → (s ≡ ReadFailed → ⊥) → (t ≡ Done → s ≡ ReportFailed → ⊥) → (t ≡ Done → s ≡ JournalFailed → ⊥)
    → TextAsks (IsFound n) bytes t → EndsAs NoMemory s t
deck_ends n bytes new (Deck f) t i read report journal a =
    inl (one_ending (IsFound n) (one_deck n) bytes (Deck f) t (i.read.short, i.is) a)
deck_ends n bytes new s t i read report journal a = text_ends (IsFound n) (one_deck n) bytes new s t i read report journal a

-- and a script's
script_ends : (bytes : List ℕ) (new : Option (List ℕ)) (s t : Status) → ScriptOf s (Some bytes) new
    → (s ≡ ReadFailed → ⊥) → (t ≡ Done → s ≡ ReportFailed → ⊥) → (t ≡ Done → s ≡ JournalFailed → ⊥)
    → TextAsks IsScriptFound bytes t → EndsAs NoMemory s t
script_ends bytes new (Script f) t i read report journal a =
    inl (one_ending IsScriptFound one_script bytes (Script f) t (i.read.short, i.is) a)
script_ends bytes new s t i read report journal a = text_ends IsScriptFound one_script bytes new s t i read report journal a

-- ---- journals

-- the status of a replay's ending
abbrev status_by : ReplayStatus → Status
status_by replay.Done = Done
status_by replay.TooLong = TooLong
status_by replay.ReadFailed = ReadFailed
status_by replay.ReportFailed = ReportFailed
status_by replay.NoMemory = NoMemory
status_by (replay.Illegal line) = Illegal line
status_by (replay.Text f) = Text f

-- a status of which something holds that is said of replays is that of a replay's ending
as_replay : (P : ReplayStatus → Type 0) (s : Status) → IsSomeAnd (replay_of s) P → (r : ReplayStatus) × P r × (s ≡ status_by r)
as_replay P Done h = (replay.Done, h, refl)
as_replay P Words h = absurd h
as_replay P (Deck f) h = absurd h
as_replay P TooLong h = (replay.TooLong, h, refl)
as_replay P ReadFailed h = (replay.ReadFailed, h, refl)
as_replay P ReportFailed h = (replay.ReportFailed, h, refl)
as_replay P JournalFailed h = absurd h
as_replay P NoMemory h = (replay.NoMemory, h, refl)
as_replay P (Script f) h = absurd h
as_replay P (Illegal line) h = (replay.Illegal line, h, refl)
as_replay P (Text f) h = (replay.Text f, h, refl)

-- no journal asks for two endings
one_judgement : (bytes : List ℕ) (s t : Status) → IsSomeAnd (replay_of s) (replays.Asks bytes)
    → IsSomeAnd (replay_of t) (replays.Asks bytes) → s ≡ t
one_judgement bytes s t a b =
    let p = as_replay (replays.Asks bytes) s a in
    let q = as_replay (replays.Asks bytes) t b in
    p.2 ∙ ap status_by (judged.one_ending bytes p.0 q.0 p.1 q.1) ∙ sym q.2

-- a command on a journal ends as its input asks
journal_ends : (bytes : List ℕ) (new : Option (List ℕ)) (s t : Status)
    → IsSomeAnd (replay_of s) (λ r. replays.InputOf r (Some bytes) new) → (s ≡ ReadFailed → ⊥)
    → (t ≡ Done → s ≡ ReportFailed → ⊥) → IsSomeAnd (replay_of t) (replays.Asks bytes) → EndsAs NoMemory s t
journal_ends bytes new Done t i read report a = inl (one_judgement bytes Done t (i.0.short, i.1) a)
journal_ends bytes new Words t i read report a = absurd i
journal_ends bytes new (Deck f) t i read report a = absurd i
journal_ends bytes new TooLong t i read report a = inl (one_judgement bytes TooLong t i.long a)
journal_ends bytes new ReadFailed t i read report a = absurd (read refl)
journal_ends bytes new ReportFailed t i read report a = absurd (report (sym (one_judgement bytes Done t (i.0.short, i.1) a)) refl)
journal_ends bytes new JournalFailed t i read report a = absurd i
journal_ends bytes new NoMemory t i read report a = inr refl
journal_ends bytes new (Script f) t i read report a = absurd i
journal_ends bytes new (Illegal line) t i read report a = inl (one_judgement bytes (Illegal line) t (i.0.short, i.1) a)
journal_ends bytes new (Text f) t i read report a = inl (one_judgement bytes (Text f) t (i.0.short, i.1) a)

-- ---- loads

-- a load ends as any input asks of it
load_ends : (s t : Status) → EndsLoad s → (s ≡ ReportFailed → ⊥) → (s ≡ JournalFailed → ⊥) → t ≡ Done → EndsAs NoMemory s t
load_ends Done t i report journal a = inl (sym a)
load_ends ReportFailed t i report journal a = absurd (report refl)
load_ends JournalFailed t i report journal a = absurd (journal refl)
load_ends NoMemory t i report journal a = inr refl
load_ends s t i report journal a = absurd i

-- it fails no source
load_never_reads : (s : Status) → EndsLoad s → s ≡ ReadFailed → ⊥
load_never_reads s i e = subst (λ (k : Status). EndsLoad k) e i

-- ---- every command

-- a command ends as its input asks
command_ends : (c : Command) (bytes : List ℕ) (new : Option (List ℕ)) (s t : Status) → InputOf (Some c) s (Some bytes) new
    → (s ≡ ReadFailed → ⊥) → (t ≡ Done → s ≡ ReportFailed → ⊥) → (t ≡ Done → has_journal c ≡ true → s ≡ JournalFailed → ⊥)
    → Asks c bytes t → EndsAs NoMemory s t
command_ends (Spool n) bytes new s t i read report journal a = deck_ends n bytes new s t i read report (λ done. journal done refl) a
command_ends (Load jobs n) bytes new s t i read report journal a = load_ends s t i.0 (λ e. report a e) (λ e. journal a refl e) a
command_ends asked.Script bytes new s t i read report journal a = script_ends bytes new s t i read report (λ done. journal done refl) a
command_ends (Journal k) bytes new s t i read report journal a = journal_ends bytes new s t i read report a
command_ends (Polled n seed) bytes new s t i read report journal a = deck_ends n bytes new s t i read report (λ done. journal done refl) a

-- The causes of failed streams, each by the status that it has.
abbrev pub Owes : Status → Option (List ℕ) → Type 0 → Type 0 → Type 0 → Option Command → Type 0
Owes s old D R K c = IfSome c (λ command. (reads_input command ≡ true → D → ⊥)
    → IfSome (input_told command old) (λ bytes. (t : Status) → Asks command bytes t
    → (t ≡ Done → (R → ⊥) × (has_journal command ≡ true → K → ⊥)) → EndsAs NoMemory s t))

-- so a run owes that of the input that it tells of, where its source told that
owed_of : (c : Command) (s : Status) (told new : Option (List ℕ)) (D R K : Type 0) → InputOf (Some c) s told new
    → (s ≡ ReadFailed → D) → (s ≡ ReportFailed → R) → (s ≡ JournalFailed → K) → (D → ⊥)
    → IfSome told (λ bytes. (t : Status) → Asks c bytes t → (t ≡ Done → (R → ⊥) × (has_journal c ≡ true → K → ⊥)) → EndsAs NoMemory s t)
owed_of c s None new D R K input read report journal sound = tt
owed_of c s (Some bytes) new D R K input read report journal sound =
    λ t a wrote. command_ends c bytes new s t input (λ e. sound (read e))
    (λ done e. (wrote done).0 (report e)) (λ done has e. (wrote done).1 has (journal e)) a

-- whether or not its words are a command, and a load whatever its source tells
owed : (c : Option Command) (s : Status) (old new : Option (List ℕ)) (D R K : Type 0) → InputOf c s old new
    → (s ≡ ReadFailed → D) → (s ≡ ReportFailed → R) → (s ≡ JournalFailed → K) → Owes s old D R K c
owed None s old new D R K input read report journal = tt
owed (Some (Spool n)) s old new D R K input read report journal =
    λ sound. owed_of (Spool n) s old new D R K input read report journal (sound refl)
owed (Some (Load jobs n)) s old new D R K input read report journal =
    λ sound. owed_of (Load jobs n) s (Some []) (Some []) ⊥ R K (input.0, refl) (load_never_reads s input.0) report journal (λ none. none)
owed (Some asked.Script) s old new D R K input read report journal =
    λ sound. owed_of asked.Script s old new D R K input read report journal (sound refl)
owed (Some (Journal k)) s old new D R K input read report journal =
    λ sound. owed_of (Journal k) s old new D R K input read report journal (sound refl)
owed (Some (Polled n seed)) s old new D R K input read report journal =
    λ sound. owed_of (Polled n seed) s old new D R K input read report journal (sound refl)

-- and by the words that are the command
pub owed_for : (w c : Option Command) (s : Status) (old new : Option (List ℕ)) (D R K : Type 0) → w ≡ c → InputOf c s old new
    → (s ≡ ReadFailed → D) → (s ≡ ReportFailed → R) → (s ≡ JournalFailed → K) → Owes s old D R K w
owed_for w c s old new D R K e input read report journal =
    subst (λ (k : Option Command). Owes s old D R K k) (sym e) (owed c s old new D R K input read report journal)
