-- The handing out of jobs in a run: each job is released once and given once, with its code; each initiator is closed once; each
-- release reaches its pause; and in the end all elements are free.
use Rattle.std.specs.Prelude.{◌≡◌, ℕ, ◌<◌, ◌==◌, ◌||◌, Bool, true, false, List, [], ◌∷◌, length, filter, Option, Some, None, ◌⊎◌}
use Rattle.std.specs.Prelude.{if◌then◌else◌}
use Rattle.std.specs.List.{filter_map, AllByRecursion}
use Rattle.mv_element.specs.declared.operation.ElementOp.TheVariants.{Release}
use Rattle.mv_element.specs.declared.operation.ElementReply.TheVariants.{Given, Early, Woke}
use Rattle.mv_machine.specs.declared.entry.Entry.{Entry}
use Rattle.mv_machine.specs.declared.entry.Object.{Object}
use Rattle.mv_machine.specs.declared.entry.Object.TheVariants.{Element}
use Rattle.mv_machine.specs.declared.entry.Op.{Op}
use Rattle.mv_machine.specs.declared.entry.Op.TheVariants as op_on
use Rattle.mv_machine.specs.declared.entry.Reply.{Reply}
use Rattle.mv_machine.specs.declared.entry.Reply.TheVariants as reply_of
use Rattle.mv_deck.specs.Deck.{JobData}
use Rattle.mv_plan.specs.Jobs.{end_of}
use Rattle.mv_deck.specs.EndCode.{not_run}
use Rattle.mv_plan.specs.SpoolSetup.{initiator, spool_setup}
use Rattle.mv_plan.specs.SpoolTasks.{code_of}
use Rattle.mv_element.specs.declared.element.Phase.TheVariants.{Free}
use Rattle.mv_machine.specs.Legal.{after}
use Rattle.mv_machine.specs.Orderly.{IsExact}

-- the code of a Release, if an operation is one
abbrev pub released_code : Op → Option ℕ
released_code (op_on.Element (Release generation code)) = Some code
released_code op = None

-- the code that a pause was given, if a reply gives one
abbrev pub gift_code : Reply → Option ℕ
gift_code (reply_of.Element (Given code now)) = Some code
gift_code r = None

-- the code, if it names job j, with or without the mark that the job is not to be run
abbrev pub naming : ℕ → Option ℕ → Option ℕ
naming j None = None
naming j (Some code) = if (code == code_of j false) || (code == code_of j true) then Some code else None

-- the codes of Releases that name job j
abbrev pub released_codes : ℕ → List Entry → List ℕ
released_codes j es = filter_map (λ e. naming j (released_code e.op)) es

-- the codes that pauses were given and that name job j
abbrev pub given_codes : ℕ → List Entry → List ℕ
given_codes j es = filter_map (λ e. naming j (gift_code e.reply)) es

-- whether an event is a Release of element m with code 0
abbrev pub is_closing : ℕ → Object → Op → Bool
is_closing m (Element k) (op_on.Element (Release generation code)) = if k == m then code == 0 else false
is_closing m o op = false

-- the Releases of element m with code 0
abbrev pub closings : ℕ → List Entry → List Entry
closings m es = filter (λ e. is_closing m e.object e.op) es

-- if an event is a Release, it is of an initiator's element, its code is 0 or names a job, and it is accepted
abbrev pub IsRightRelease : ℕ → ℕ → Object → Op → Reply → Type 0
IsRightRelease n initiators (Element m) (op_on.Element (Release generation code)) r =
    ((i : ℕ) × (i < initiators) × (m ≡ initiator i))
    × ((code ≡ 0) ⊎ ((j : ℕ) × (skipped : Bool) × (j < n) × (code ≡ code_of j skipped)))
    × ((r ≡ reply_of.Element Early) ⊎ (r ≡ reply_of.Element Woke))
IsRightRelease n initiators o op r = Unit {0}

-- the code of job j, with the mark if and only if the job is not to be run
abbrev pub right_code : List JobData → ℕ → ℕ
right_code deck j = code_of j (end_of deck j == not_run)

-- exactly one Release names job j, and exactly one pause is given a code that names it; both have the right code
pub record IsHandedOut (deck : List JobData) (es : List Entry) (j : ℕ) : Type 0 where
  pub released : released_codes j es ≡ right_code deck j ∷ []
  pub given : given_codes j es ≡ right_code deck j ∷ []

-- every job is handed out, and nothing else is
pub record AreHandedOut (deck : List JobData) (initiators : ℕ) (es : List Entry) : Type 0 where
  -- each job is handed out once
  pub jobs : (j : ℕ) → j < length deck → IsHandedOut deck es j
  -- each Release is on an initiator's element, names a job or has code 0, and is accepted
  pub releases : AllByRecursion (λ e. IsRightRelease (length deck) initiators e.object e.op e.reply) es
  -- each initiator has one Release with code 0
  pub closing : (i : ℕ) → i < initiators → length (closings (initiator i) es) ≡ 1
  -- each Release reaches its pause
  pub exact : IsExact es
  -- in the end all elements are free
  pub free : (m : ℕ) → ((after (spool_setup deck initiators) es).element m).state.phase ≡ Free
