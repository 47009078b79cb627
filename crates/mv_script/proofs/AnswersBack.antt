-- An answer's text that LF follows is read again: its word tells which answer it is, and what is shown behind it.
use Rattle.std.proofs.Common.{◌≡◌, ℕ, ◌+◌, ◌*◌, ◌/◌, ◌%◌, ◌^◌, Bool, true, false, cond, eqb, ◌||◌, List, [], ◌∷◌, ◌++◌, drop}
use Rattle.std.proofs.Common.{Option, Some, None, decimal, option_map, refl, sym, ap, ◌∙◌, arith, append_assoc}
use Rattle.std.specs.Prelude.{codes, unwrap_or, All, flat_map}
use Rattle.std.specs.Str.Parse.{AllDigits}
use Rattle.std.proofs.lemmas.Bool.{false≢true, ne_eqb}
use Rattle.std.proofs.lemmas.List.Concat.{flat_map-cons}
use Rattle.std.proofs.lemmas.List.Elements.{All-head, All-tail}
use Rattle.std.proofs.lemmas.Str.Parse.{digit_from_value}
use Rattle.mv_element.specs.Code.{keeps_code}
use Rattle.mv_element.specs.Element.{free}
use Rattle.mv_element.specs.declared.element.ElementState.{ElementState}
use Rattle.mv_element.specs.declared.element.Phase.{Phase}
use Rattle.mv_element.specs.declared.element.Phase.TheVariants.{Free, Reset, Prereleased, Paused, Released}
use Rattle.mv_element.specs.declared.element.Token.{Token}
use Rattle.mv_element.proofs.States.{same_state}
use Rattle.mv_calls.specs.declared.outcomes.WaitSlot.{WaitSlot}
use Rattle.mv_calls.specs.declared.outcomes.WaitSlot.TheVariants as slot
use Rattle.mv_script.specs.declared.answer.Answer.{Answer}
use Rattle.mv_script.specs.declared.answer.Answer.TheVariants as answer
use Rattle.mv_script.specs.AnswerText.{slot_text, phase_text, answer_text, IsNumber, IsSlotInRange, IsInRange}
use Rattle.mv_script.proofs.NumbersBack.{number_in, behind_digits, Ends, number_again, digits_of_number}

-- ---- words

-- what stands behind a word, where the text begins with it
abbrev pub behind : List ℕ → List ℕ → Option (List ℕ)
behind [] text = Some text
behind (w ∷ word) [] = None
behind (w ∷ word) (b ∷ text) = cond (eqb w b) (behind word text) None

-- the first of these words that the text begins with: what it stands for, and what stands behind it
abbrev pub in_front : {A : Type 0} → List (List ℕ × A) → List ℕ → Option (A × List ℕ)
in_front [] text = None
in_front {A} (w ∷ words) text = elim (behind w.0 text) as (λ found. Option (A × List ℕ)) [
  | Some rest ↦ Some (w.1, rest)
  | None ↦ in_front words text
]

-- ---- phases and states

abbrev pub phases : List (List ℕ × Phase)
phases =
    (codes "FREE ", Free) ∷ (codes "RESET ", Reset) ∷ (codes "PRERELEASED ", Prereleased) ∷ (codes "PAUSED ", Paused)
    ∷ (codes "RELEASED ", Released) ∷ []

abbrev pub phase_in : List ℕ → Phase × List ℕ
phase_in text = unwrap_or (in_front phases text) (Free, text)

phase_again : (p : Phase) (rest : List ℕ) → phase_in (phase_text p ++ 32 ∷ rest) ≡ (p, rest)
phase_again Free rest = refl
phase_again Reset rest = refl
phase_again Prereleased rest = refl
phase_again Paused rest = refl
phase_again Released rest = refl

-- the state with these fields, where the phase may have such a code
abbrev pub kept_as : (g : ℕ) (p : Phase) (d : ℕ) (b : Bool) → (keeps_code p || eqb d 0) ≡ b → ElementState
kept_as g p d true e = record { generation = g; phase = p; code = d; kept = e }
kept_as g p d false e = free g

abbrev pub state_of : ℕ → Phase → ℕ → ElementState
state_of g p d = kept_as g p d (keeps_code p || eqb d 0) refl

state_again : (s : ElementState) → state_of s.generation s.phase s.code ≡ s
state_again s = go (keeps_code s.phase || eqb s.code 0) refl where
  go : (b : Bool) (e : (keeps_code s.phase || eqb s.code 0) ≡ b) → kept_as s.generation s.phase s.code b e ≡ s
  go true e = same_state (kept_as s.generation s.phase s.code true e) s refl refl refl
  go false e = absurd (false≢true (sym e ∙ s.kept))

-- ---- slots

-- the slots of a line: C begins one with a code, and O is one
abbrev pub slots_in : List ℕ → List WaitSlot
slots_in [] = []
slots_in (b ∷ bs) =
    cond (eqb b 67) (slot.Complete (number_in bs) ∷ slots_in bs)
    (cond (eqb b 79) (slot.Open ∷ slots_in bs) (cond (eqb b 10) [] (slots_in bs)))

-- what stands behind the first LF
abbrev pub behind_line : List ℕ → List ℕ
behind_line [] = []
behind_line (b ∷ bs) = cond (eqb b 10) bs (behind_line bs)

digits_passed : (ds rest : List ℕ) → AllDigits 10 ds
    → (slots_in (ds ++ rest) ≡ slots_in rest) × (behind_line (ds ++ rest) ≡ behind_line rest)
digits_passed [] rest h = (refl, refl)
digits_passed (c ∷ cs) rest h =
    let k = digit_from_value c h.0 in
    let more = digits_passed cs rest h.1 in
    let lf : eqb c 10 ≡ false = ne_eqb c 10 (λ e. omega (arith, k.0)) in (
      rw (ne_eqb c 67 (λ e. omega (arith, k.1)), ne_eqb c 79 (λ e. omega (arith, k.1)), lf) more.0,
      rw lf more.1,
    )

-- no digit follows a slot
slots_end : (slots : List WaitSlot) (rest : List ℕ) → Ends (flat_map slot_text slots ++ 10 ∷ rest)
slots_end [] rest = (refl, refl)
slots_end (slot.Complete code ∷ slots) rest = (refl, refl)
slots_end (slot.Open ∷ slots) rest = (refl, refl)

slots_again : (slots : List WaitSlot) (rest : List ℕ) → All IsSlotInRange slots
    → (slots_in (flat_map slot_text slots ++ 10 ∷ rest) ≡ slots) × (behind_line (flat_map slot_text slots ++ 10 ∷ rest) ≡ rest)
slots_again [] rest h = (refl, refl)
slots_again (slot.Complete code ∷ slots) rest h =
    let more = slots_again slots rest (All-tail IsSlotInRange (slot.Complete code) slots h) in
    let lt : IsNumber code = All-head IsSlotInRange (slot.Complete code) slots h in
    let text = flat_map slot_text slots ++ 10 ∷ rest in
    let number = number_again code text lt (slots_end slots rest) in
    let passed = digits_passed (decimal code) text (digits_of_number code lt) in
    let is : flat_map slot_text (slot.Complete code ∷ slots) ++ 10 ∷ rest ≡ 32 ∷ 67 ∷ (decimal code ++ text) =
    ap (λ (x : List ℕ). x ++ 10 ∷ rest) (flat_map-cons slot_text (slot.Complete code) slots)
    ∙ ap (λ (x : List ℕ). 32 ∷ 67 ∷ x) (append_assoc (decimal code) (flat_map slot_text slots) (10 ∷ rest)) in (
      ap slots_in is ∙ ap (λ (n : ℕ). slot.Complete n ∷ slots_in (decimal code ++ text)) number.0
          ∙ ap (λ (x : List WaitSlot). slot.Complete code ∷ x) (passed.0 ∙ more.0),
      ap behind_line is ∙ passed.1 ∙ more.1,
    )
slots_again (slot.Open ∷ slots) rest h =
    let more = slots_again slots rest (All-tail IsSlotInRange slot.Open slots h) in
    let is : flat_map slot_text (slot.Open ∷ slots) ++ 10 ∷ rest ≡ 32 ∷ 79 ∷ (flat_map slot_text slots ++ 10 ∷ rest) =
    ap (λ (x : List ℕ). x ++ 10 ∷ rest) (flat_map-cons slot_text slot.Open slots) in
    (ap slots_in is ∙ ap (λ (x : List WaitSlot). slot.Open ∷ x) more.0, ap behind_line is ∙ more.1)

-- ---- answers

-- what is read behind a word: nothing more; or a number and the one byte behind it; or a phase; or the slots of a line
pub data Form : Type 0 where
  Plain : (shown : Answer) → Form
  Number : (next : ℕ → Form) → Form
  Phased : (next : Phase → Form) → Form
  Slotted : (next : List WaitSlot → Form) → Form

abbrev pub filled : Form → List ℕ → Answer × List ℕ
filled (Plain a) text = (a, text)
filled (Number next) text = filled (next (number_in text)) (drop 1 (behind_digits text))
filled (Phased next) text = filled (next (phase_in text).0) (phase_in text).1
filled (Slotted next) text = filled (next (slots_in text)) (behind_line text)

abbrev pub one : (ℕ → Answer) → Form
one f = Number (λ n. Plain (f n))

abbrev pub two : (ℕ → ℕ → Answer) → Form
two f = Number (λ m. one (f m))

-- the token of these numbers
abbrev pub token : ℕ → ℕ → Token
token n g = record { element = n; generation = g }

-- each word; one that another begins with, behind that one
abbrev pub words : List (List ℕ × Form)
words =
    (codes "WAITED", Slotted (λ slots. Plain (answer.Waited slots)))
    ∷ (codes "TOOMANY\n", Plain answer.TooMany)
    ∷ (codes "DOUBLED ", one (λ n. answer.Doubled n))
    ∷ (codes "NOTOWNER ", one (λ n. answer.NotOwnerAt n))
    ∷ (codes "EXTENDED ", one (λ n. answer.ExtendedAt n))
    ∷ (codes "POSTED\n", Plain answer.Posted)
    ∷ (codes "WOKE\n", Plain answer.Woke)
    ∷ (codes "ALREADY ", one (λ n. answer.AlreadyPosted n))
    ∷ (codes "MOVED ", two (λ place state. answer.Moved (2 ^ 45 * place + state)))
    ∷ (codes "WORD ", one (λ n. answer.Word n))
    ∷ (codes "NOTOWNER\n", Plain answer.NotOwner)
    ∷ (codes "DONE\n", Plain answer.Done)
    ∷ (codes "BADEXIT\n", Plain answer.BadExit)
    ∷ (codes "EXTENDED\n", Plain answer.Extended)
    ∷ (codes "COMPLETE ", one (λ n. answer.Complete n))
    ∷ (codes "VALUE ", one (λ n. answer.Value n))
    ∷ (codes "TOKEN ", two (λ n g. answer.Token (token n g)))
    ∷ (codes "NOELEMENT\n", Plain answer.NoElement)
    ∷ (codes "GIVEN ", Number (λ code. two (λ n g. answer.Given code (token n g))))
    ∷ (codes "SPENT ", one (λ n. answer.Spent n))
    ∷ (codes "EARLY\n", Plain answer.Early)
    ∷ (codes "ALREADY\n", Plain answer.AlreadyReleased)
    ∷ (codes "TARGET SPENT ", one (λ n. answer.TargetSpent n))
    ∷ (codes "TARGET ALREADY\n", Plain answer.TargetAlready)
    ∷ (codes "STATE ", Number (λ g. Phased (λ p. one (λ code. answer.State (state_of g p code)))))
    ∷ (codes "GRANTED\n", Plain answer.Granted)
    ∷ (codes "PENDING\n", Plain answer.Pending)
    ∷ (codes "BADLATCH\n", Plain answer.BadLatch)
    ∷ (codes "QUOTA\n", Plain answer.Quota)
    ∷ (codes "NOTNOW ", one (λ n. answer.NotNow n))
    ∷ (codes "PURGED\n", Plain answer.Purged)
    ∷ (codes "WAITING\n", Plain answer.Waiting)
    ∷ (codes "GONE\n", Plain answer.Gone)
    ∷ (codes "NOTOKEN\n", Plain answer.NoToken)
    ∷ (codes "RELEASED ", one (λ n. answer.Released n))
    ∷ (codes "ENTERED ", one (λ n. answer.Entered n))
    ∷ (codes "EVENT ", two (λ m n. answer.Event m n))
    ∷ (codes "DRAINED\n", Plain answer.Drained)
    ∷ (codes "PURGED ", two (λ m n. answer.PurgedCounts m n))
    ∷ []

-- what a text is read as, and what stands behind its line
abbrev pub read : List ℕ → Option (Answer × List ℕ)
read text = option_map (λ found. filled found.0 found.1) (in_front words text)

-- ---- what was written is read

number_filled : (next : ℕ → Form) (n b : ℕ) (rest : List ℕ) → IsNumber n → Ends (b ∷ rest)
    → filled (Number next) (decimal n ++ b ∷ rest) ≡ filled (next n) rest
number_filled next n b rest lt e =
    let x = number_again n (b ∷ rest) lt e in
    ap (λ (m : ℕ). filled (next m) (drop 1 (behind_digits (decimal n ++ b ∷ rest)))) x.0
    ∙ ap (λ (r : List ℕ). filled (next n) (drop 1 r)) x.1

one_again : (f : ℕ → Answer) (n : ℕ) (rest : List ℕ) → IsNumber n → filled (one f) (decimal n ++ 10 ∷ rest) ≡ (f n, rest)
one_again f n rest lt = number_filled (λ m. Plain (f m)) n 10 rest lt (refl, refl)

-- a byte between two texts
regrouped : (xs : List ℕ) (b : ℕ) (ys zs : List ℕ) → ((xs ++ b ∷ []) ++ ys) ++ zs ≡ xs ++ b ∷ (ys ++ zs)
regrouped xs b ys zs = append_assoc (xs ++ b ∷ []) ys zs ∙ append_assoc xs (b ∷ []) (ys ++ zs)

-- a number, and more of a line
number_then : (next : ℕ → Form) (n b : ℕ) (more rest : List ℕ) → IsNumber n → Ends (b ∷ (more ++ 10 ∷ rest))
    → filled (Number next) (((decimal n ++ b ∷ []) ++ more) ++ 10 ∷ rest) ≡ filled (next n) (more ++ 10 ∷ rest)
number_then next n b more rest lt e =
    ap (filled (Number next)) (regrouped (decimal n) b more (10 ∷ rest))
    ∙ number_filled next n b (more ++ 10 ∷ rest) lt e

two_again : (f : ℕ → ℕ → Answer) (m n b : ℕ) (rest : List ℕ) → IsNumber m → IsNumber n
    → Ends (b ∷ (decimal n ++ 10 ∷ rest))
    → filled (two f) (((decimal m ++ b ∷ []) ++ decimal n) ++ 10 ∷ rest) ≡ (f m n, rest)
two_again f m n b rest lm ln e = number_then (λ x. one (f x)) m b (decimal n) rest lm e ∙ one_again (f m) n rest ln

-- an element's state, behind the word
state_filled : (s : ElementState) (rest : List ℕ) → IsNumber s.generation → IsNumber s.code
    → filled (Number (λ g. Phased (λ p. one (λ code. answer.State (state_of g p code)))))
    (((decimal s.generation ++ 32 ∷ []) ++ ((phase_text s.phase ++ 32 ∷ []) ++ decimal s.code)) ++ 10 ∷ rest) ≡ (answer.State s, rest)
state_filled s rest lg lc =
    let tail = decimal s.code ++ 10 ∷ rest in
    let next = λ (found : Phase × List ℕ). filled (one (λ code. answer.State (state_of s.generation found.0 code))) found.1 in
    number_then (λ g. Phased (λ p. one (λ code. answer.State (state_of g p code)))) s.generation 32
    ((phase_text s.phase ++ 32 ∷ []) ++ decimal s.code) rest
    lg (refl, refl)
    ∙ ap (λ (text : List ℕ). next (phase_in text)) (regrouped (phase_text s.phase) 32 (decimal s.code) (10 ∷ rest))
    ∙ ap next (phase_again s.phase tail)
    ∙ one_again (λ code. answer.State (state_of s.generation s.phase code)) s.code rest lc
    ∙ ap (λ (x : ElementState). (answer.State x, rest)) (state_again s)

-- a word that was met, by its place and its state
word_filled : (w : ℕ) (rest : List ℕ) → IsNumber w
    → filled (two (λ place state. answer.Moved (2 ^ 45 * place + state)))
    (((decimal (w / 2 ^ 45) ++ 32 ∷ []) ++ decimal (w % 2 ^ 45)) ++ 10 ∷ rest) ≡ (answer.Moved w, rest)
word_filled w rest lt =
    let whole : 2 ^ 45 * (w / 2 ^ 45) + w % 2 ^ 45 ≡ w = omega arith in
    two_again (λ place state. answer.Moved (2 ^ 45 * place + state)) (w / 2 ^ 45) (w % 2 ^ 45) 32 rest (omega arith) (omega arith)
    (refl, refl)
    ∙ ap (λ (x : ℕ). (answer.Moved x, rest)) whole

pub again : (a : Answer) (rest : List ℕ) → IsInRange a → read (answer_text a ++ 10 ∷ rest) ≡ Some (a, rest)
again (answer.Waited slots) rest h =
    let s = slots_again slots rest h in
    ap (λ (x : List WaitSlot). Some (answer.Waited x, behind_line (flat_map slot_text slots ++ 10 ∷ rest))) s.0
    ∙ ap (λ (r : List ℕ). Some (answer.Waited slots, r)) s.1
again answer.TooMany rest h = refl
again (answer.Doubled n) rest h = ap (λ x. Some x) (one_again (λ n. answer.Doubled n) n rest h)
again (answer.NotOwnerAt n) rest h = ap (λ x. Some x) (one_again (λ n. answer.NotOwnerAt n) n rest h)
again (answer.ExtendedAt n) rest h = ap (λ x. Some x) (one_again (λ n. answer.ExtendedAt n) n rest h)
again answer.Posted rest h = refl
again answer.Woke rest h = refl
again (answer.AlreadyPosted n) rest h = ap (λ x. Some x) (one_again (λ n. answer.AlreadyPosted n) n rest h)
again (answer.Moved w) rest h = ap (λ x. Some x) (word_filled w rest h)
again (answer.Word n) rest h = ap (λ x. Some x) (one_again (λ n. answer.Word n) n rest h)
again answer.NotOwner rest h = refl
again answer.Done rest h = refl
again answer.BadExit rest h = refl
again answer.Extended rest h = refl
again (answer.Complete n) rest h = ap (λ x. Some x) (one_again (λ n. answer.Complete n) n rest h)
again (answer.Value n) rest h = ap (λ x. Some x) (one_again (λ n. answer.Value n) n rest h)
again (answer.Token t) rest h =
    ap (λ x. Some x) (two_again (λ n g. answer.Token (token n g)) t.element t.generation 46 rest h.0 h.1 (refl, refl))
again answer.NoElement rest h = refl
again (answer.Given code t) rest h =
    ap (λ x. Some x) (number_then (λ code. two (λ n g. answer.Given code (token n g))) code 32
    ((decimal t.element ++ 46 ∷ []) ++ decimal t.generation)
    rest h.0 (refl, refl)
    ∙ two_again (λ n g. answer.Given code (token n g)) t.element t.generation 46 rest h.1.0 h.1.1 (refl, refl))
again (answer.Spent n) rest h = ap (λ x. Some x) (one_again (λ n. answer.Spent n) n rest h)
again answer.Early rest h = refl
again answer.AlreadyReleased rest h = refl
again (answer.TargetSpent n) rest h = ap (λ x. Some x) (one_again (λ n. answer.TargetSpent n) n rest h)
again answer.TargetAlready rest h = refl
again (answer.State s) rest h = ap (λ x. Some x) (state_filled s rest h.0 h.1)
again answer.Granted rest h = refl
again answer.Pending rest h = refl
again answer.BadLatch rest h = refl
again answer.Quota rest h = refl
again (answer.NotNow n) rest h = ap (λ x. Some x) (one_again (λ n. answer.NotNow n) n rest h)
again answer.Purged rest h = refl
again answer.Waiting rest h = refl
again answer.Gone rest h = refl
again answer.NoToken rest h = refl
again (answer.Released n) rest h = ap (λ x. Some x) (one_again (λ n. answer.Released n) n rest h)
again (answer.Entered n) rest h = ap (λ x. Some x) (one_again (λ n. answer.Entered n) n rest h)
again (answer.Event m n) rest h =
    ap (λ x. Some x) (two_again (λ m n. answer.Event m n) m n 32 rest h.0 h.1 (refl, refl))
again answer.Drained rest h = refl
again (answer.PurgedCounts m n) rest h =
    ap (λ x. Some x) (two_again (λ m n. answer.PurgedCounts m n) m n 32 rest h.0 h.1 (refl, refl))
