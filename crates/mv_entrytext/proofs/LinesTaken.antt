-- Each line that is read strictly is the text of what it says.
use Rattle.std.proofs.Common.{◌≡◌, ℕ, ◌≤◌, true, List, [], ◌∷◌, ◌++◌, Option, Some, None, decimal, refl, sym, ap, subst, ◌∙◌}
use Rattle.std.specs.Prelude.{codes}
use Rattle.std.specs.Option.{option_map}
use Rattle.std.specs.List.{join_with_byte}
use Rattle.std.proofs.lemmas.List.{append-nil}
use Rattle.std.proofs.lemmas.List.Concat.{flat_map-cons}
use Rattle.std.proofs.lemmas.Option.{same_Some}
use Rattle.mv_config.specs.Setup.{SetupExit}
use Rattle.mv_line.specs.Part.{parts_at}
use Rattle.mv_operationtext.specs.declared.version.Version.TheVariants.{One, Two}
use Rattle.mv_operationtext.specs.Ranges.{highest_u32}
use Rattle.mv_operationtext.specs.Reading.{whole, parted, any_u32}
use Rattle.mv_operationtext.specs.EntryText.{HasText, entry_read}
use Rattle.mv_entrytext.specs.Journal.{Line, JournalOf, Callers, Elements, Volumes, Latches, Quota, Budget, Owner, ExitTo, Events}
use Rattle.mv_entrytext.specs.Journal.{EntryOf, End, line_text}
use Rattle.mv_entrytext.specs.Lines.{Stage, AtVersion, AtCallers, AtElements, AtVolumes, AtLatches, AtQuota, AtBudgets, AtOwners}
use Rattle.mv_entrytext.specs.Lines.{AtExits, AtEntries, AtEnd, numbers, exit_from, exit_read, count_line, next_line, line_read}
use Rattle.mv_operationtext.proofs.OneCallNumber.{IsCallIn}
use Rattle.mv_entrytext.proofs.LinesAgain.{targets_text}
use Rattle.mv_entrytext.proofs.Parts.{joined_again}
use Rattle.mv_operationtext.proofs.Taken.{Takes, bound, takes_nothing, takes_word, takes_part, takes_number_behind, word_or, u32_or, takes_made}
use Rattle.mv_operationtext.proofs.Taken.{takes_whole, takes_u32}
use Rattle.mv_operationtext.proofs.KindsTaken.{pair_text, takes_two, numbered_text, IsNumbered, takes_entry}

-- ---- the fields of an exit

-- numbers, parted by single spaces
abbrev spaced : List ℕ → List ℕ
spaced [] = []
spaced (n ∷ ns) = decimal n ++ targets_text ns

spaced_more : (n m : ℕ) (ns : List ℕ) → decimal n ++ 32 ∷ spaced (m ∷ ns) ≡ spaced (n ∷ m ∷ ns)
spaced_more n m ns = ap (λ (x : List ℕ). decimal n ++ x) (sym (flat_map-cons (λ t. codes " " ++ decimal t) m ns))

mapped_cons : (n : ℕ) (o : Option (List ℕ)) (ns : List ℕ) → option_map (λ ms. n ∷ ms) o ≡ Some ns
    → (ms : List ℕ) × (o ≡ Some ms) × (n ∷ ms ≡ ns)
mapped_cons n None ns e = absurd cc
mapped_cons n (Some ms) ns e = (ms, refl, same_Some (n ∷ ms) ns e)

one_number : (field : List ℕ) (n : ℕ) → whole (any_u32 true) field ≡ Some n → field ≡ decimal n
one_number field n e = (takes_whole decimal (λ n. n ≤ highest_u32) (any_u32 true) takes_u32 field n e).0

some_number : (g : List ℕ) (fs : List (List ℕ)) (ms : List ℕ) → numbers true (g ∷ fs) ≡ Some ms
    → (m : ℕ) × (ks : List ℕ) × (ms ≡ m ∷ ks)
unfolding numbers
some_number g fs ms e =
    let b = bound (λ n. option_map (λ ks. n ∷ ks) (numbers true fs)) (whole (any_u32 true) g) ms e in
    let m = mapped_cons b.0 (numbers true fs) ms b.2 in
    (b.0, m.0, sym m.2)

one_more : (n : ℕ) (ms : List ℕ) (m : ℕ) (ks : List ℕ) → ms ≡ m ∷ ks → decimal n ++ 32 ∷ spaced ms ≡ spaced (n ∷ ms)
one_more n ms m ks e = rw e (spaced_more n m ks)

takes_numbers : (fields : List (List ℕ)) (ns : List ℕ) → numbers true fields ≡ Some ns → join_with_byte 32 fields ≡ spaced ns
unfolding numbers
takes_numbers [] ns e = ap spaced (same_Some [] ns e)
takes_numbers (f ∷ []) ns e =
    let b = bound (λ n. option_map (λ ms. n ∷ ms) (Some [])) (whole (any_u32 true) f) ns e in
    one_number f b.0 b.1 ∙ sym (append-nil (decimal b.0)) ∙ ap spaced (same_Some (b.0 ∷ []) ns b.2)
takes_numbers (f ∷ g ∷ fs) ns e =
    let b = bound (λ n. option_map (λ ms. n ∷ ms) (numbers true (g ∷ fs))) (whole (any_u32 true) f) ns e in
    let m = mapped_cons b.0 (numbers true (g ∷ fs)) ns b.2 in
    let s = some_number g fs m.0 m.1 in
    ap (λ (x : List ℕ). x ++ 32 ∷ join_with_byte 32 (g ∷ fs)) (one_number f b.0 b.1)
    ∙ ap (λ (x : List ℕ). decimal b.0 ++ 32 ∷ x) (takes_numbers (g ∷ fs) m.0 m.1) ∙ one_more b.0 m.0 s.0 s.1 s.2 ∙ ap spaced m.2

abbrev exit_text : SetupExit → List ℕ
exit_text x = decimal x.source ++ targets_text x.targets

from_numbers : (ns : List ℕ) (x : SetupExit) (rest : List ℕ) → exit_from ns ≡ Some (x, rest) → spaced ns ≡ exit_text x ++ rest
from_numbers [] x rest e = absurd cc
from_numbers (s ∷ []) x rest e = absurd cc
from_numbers (s ∷ t ∷ ts) x rest e =
    let made : SetupExit = record { source = s; targets = t ∷ ts } in
    let same : (made, []) ≡ (x, rest) = same_Some (made, []) (x, rest) e in
    subst (λ y. spaced (s ∷ t ∷ ts) ≡ exit_text y.0 ++ y.1) same (sym (append-nil (exit_text made)))

takes_exit : Takes exit_text (λ x. Unit {0}) (exit_read true)
unfolding exit_read
takes_exit text rest x e =
    let b = bound exit_from (numbers true (parts_at 32 text)) (x, rest) e in
    (sym (joined_again 32 text) ∙ takes_numbers (parts_at 32 text) b.0 b.1 ∙ from_numbers b.0 x rest b.2, tt)

-- ---- lines

-- which lines may come next
abbrev pub MayCome : Stage → Line → Type 0
MayCome AtVersion (JournalOf v) = Unit {0}
MayCome AtCallers (Callers n) = Unit {0}
MayCome AtElements (Elements n) = Unit {0}
MayCome AtVolumes (Volumes n) = Unit {0}
MayCome AtLatches (Latches n) = Unit {0}
MayCome AtQuota (Quota q p) = Unit {0}
MayCome AtBudgets (Budget n) = Unit {0}
MayCome AtBudgets (Owner n) = Unit {0}
MayCome AtBudgets (ExitTo x) = Unit {0}
MayCome AtBudgets Events = Unit {0}
MayCome AtOwners (Owner n) = Unit {0}
MayCome AtOwners (ExitTo x) = Unit {0}
MayCome AtOwners Events = Unit {0}
MayCome AtExits (ExitTo x) = Unit {0}
MayCome AtExits Events = Unit {0}
MayCome (AtEntries v) (EntryOf call e) = HasText e × IsCallIn v call
MayCome (AtEntries v) (End n) = n ≤ highest_u32
MayCome _ _ = ⊥

pub takes_line : (s : Stage) → Takes line_text (λ l. MayCome s l) (next_line true s)
unfolding next_line count_line
takes_line AtVersion =
    word_or line_text (λ l. MayCome AtVersion l) (codes "JOURNAL 1") (JournalOf One) refl tt _
    (takes_word line_text (λ l. MayCome AtVersion l) (codes "JOURNAL 2") (JournalOf Two) refl tt)
takes_line AtCallers =
    takes_number_behind line_text (λ l. MayCome AtCallers l) (codes "CALLERS ") (λ n. Callers n) (λ n. refl) (λ n h. tt)
takes_line AtElements =
    takes_number_behind line_text (λ l. MayCome AtElements l) (codes "ELEMENTS ") (λ n. Elements n) (λ n. refl) (λ n h. tt)
takes_line AtVolumes =
    takes_number_behind line_text (λ l. MayCome AtVolumes l) (codes "VOLUMES ") (λ n. Volumes n) (λ n. refl) (λ n h. tt)
takes_line AtLatches =
    takes_number_behind line_text (λ l. MayCome AtLatches l) (codes "LATCHES ") (λ n. Latches n) (λ n. refl) (λ n h. tt)
takes_line AtQuota =
    takes_part line_text (λ l. MayCome AtQuota l) _ (codes "QUOTA ") (λ x. Quota x.0 x.1) pair_text
    (λ x. (x.0 ≤ highest_u32) × (x.1 ≤ highest_u32)) (parted (any_u32 true) (any_u32 true)) (λ x. refl) (λ x h. tt) takes_two
takes_line AtBudgets =
    let u32 = u32_or line_text (λ l. MayCome AtBudgets l) in
    u32 (codes "BUDGET ") (λ n. Budget n) (λ n. refl) (λ n h. tt) _
    (u32 (codes "ECB ") (λ n. Owner n) (λ n. refl) (λ n h. tt) _
    (word_or line_text (λ l. MayCome AtBudgets l) (codes "EVENTS") Events refl tt _
    (takes_part line_text (λ l. MayCome AtBudgets l) _ (codes "EXIT ") (λ x. ExitTo x) exit_text (λ x. Unit {0}) (exit_read true)
    (λ x. refl) (λ x h. tt) takes_exit)))
takes_line AtOwners =
    u32_or line_text (λ l. MayCome AtOwners l) (codes "ECB ") (λ n. Owner n) (λ n. refl) (λ n h. tt) _
    (word_or line_text (λ l. MayCome AtOwners l) (codes "EVENTS") Events refl tt _
    (takes_part line_text (λ l. MayCome AtOwners l) _ (codes "EXIT ") (λ x. ExitTo x) exit_text (λ x. Unit {0}) (exit_read true)
    (λ x. refl) (λ x h. tt) takes_exit))
takes_line AtExits =
    word_or line_text (λ l. MayCome AtExits l) (codes "EVENTS") Events refl tt _
    (takes_part line_text (λ l. MayCome AtExits l) _ (codes "EXIT ") (λ x. ExitTo x) exit_text (λ x. Unit {0}) (exit_read true)
    (λ x. refl) (λ x h. tt) takes_exit)
takes_line (AtEntries v) =
    u32_or line_text (λ l. MayCome (AtEntries v) l) (codes "END ") (λ n. End n) (λ n. refl) (λ n h. h) _
    (takes_made line_text (λ l. MayCome (AtEntries v) l) (λ x. EntryOf x.0 x.1) numbered_text (λ x. IsNumbered v x) (entry_read true v)
    (λ x h. refl) (λ x h. h) (takes_entry v))
takes_line AtEnd = takes_nothing line_text (λ l. MayCome AtEnd l)

-- a line that is read is its text
pub line_taken : (s : Stage) (text : List ℕ) (l : Line) → line_read true s text ≡ Some l → (text ≡ line_text l) × MayCome s l
line_taken s text l e = takes_whole line_text (λ x. MayCome s x) (next_line true s) (takes_line s) text l e
