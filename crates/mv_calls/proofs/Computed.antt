-- Histories of calls that are computed: that a list of entries is legal, and that a program is done on a list of events, by
-- equations that compute; and what the rows of the modules beside this one claim.
use Rattle.std.proofs.Common.{◌≡◌, ℕ, nat_le, Bool, true, List, [], ◌∷◌, map, take, drop, replicate, Option, Some, sym, ap}
use Rattle.mv_ecb.specs.declared.operation.EcbOp.{EcbOp}
use Rattle.mv_ecb.specs.declared.operation.EcbReply.{EcbReply}
use Rattle.mv_element.specs.declared.operation.ElementOp.{ElementOp}
use Rattle.mv_element.specs.declared.operation.ElementReply.{ElementReply}
use Rattle.mv_latch.specs.declared.operation.LatchOp.{LatchOp}
use Rattle.mv_latch.specs.declared.operation.LatchReply.{LatchReply}
use Rattle.mv_machine.specs.declared.entry.Entry.{Entry}
use Rattle.mv_machine.specs.declared.entry.Object.{Object}
use Rattle.mv_machine.specs.declared.entry.Object.TheVariants.{Ecb, Element, Volume, Latches}
use Rattle.mv_machine.specs.declared.entry.Op.{Op}
use Rattle.mv_machine.specs.declared.entry.Op.TheVariants as op_on
use Rattle.mv_machine.specs.declared.entry.Reply.{Reply}
use Rattle.mv_machine.specs.declared.entry.Reply.TheVariants as reply_of
use Rattle.mv_machine.specs.declared.entry.VolumeOp.{VolumeOp}
use Rattle.mv_machine.specs.declared.entry.VolumeReply.{VolumeReply}
use Rattle.mv_machine.specs.Legal.{LegalFrom, Legal, next}
use Rattle.mv_config.specs.Setup.{Setup, SetupExit}
use Rattle.mv_machine.specs.System.{System, opening, admitted, place_of, reply_to}
use Rattle.mv_calls.specs.Keeping.{Kept, nothing_kept, kept_from}
use Rattle.mv_calls.specs.Program.{Program, Done, Heard, asks, heard, left, Says, IsDoneOn, entries}
use Rattle.mv_calls.specs.Runs.{heard_in}
use Rattle.mv_calls.specs.Services.{Service, Answer, program, most_events}
use Rattle.mv_machine.proofs.EntryRuns.{entry_of}

-- whether an event is admitted, its place and its reply
pub record Answered : Type 0 where
  pub admits : Bool
  pub place : ℕ
  pub reply : Option Reply

-- what the machine answers to each of these
abbrev pub answers : Setup → System → List Entry → List Answered
answers c s [] = []
answers c s (e ∷ es) =
    record {
      admits = admitted c s e.caller e.object e.op;
      place = place_of s e.object;
      reply = reply_to s e.caller e.object e.op;
    } ∷ answers c (next s e) es

-- what they say that it answers
abbrev pub claims : List Entry → List Answered
claims es = map (λ e. record { admits = true; place = e.place; reply = Some e.reply }) es

-- what a first element is
first_of_list : {A : Type 0} (x y : A) (xs ys : List A) → x ∷ xs ≡ y ∷ ys → x ≡ y
first_of_list x y xs ys e = cc e

-- and the rest
rest_of_list : {A : Type 0} (x y : A) (xs ys : List A) → x ∷ xs ≡ y ∷ ys → xs ≡ ys
rest_of_list x y xs ys e = cc e

-- the parts of two answers that are one
admits_same : (x y : Answered) → x ≡ y → x.admits ≡ y.admits
admits_same x y e = cc e

-- the place
place_same : (x y : Answered) → x ≡ y → x.place ≡ y.place
place_same x y e = cc e

-- the reply
reply_same : (x y : Answered) → x ≡ y → x.reply ≡ y.reply
reply_same x y e = cc e

-- a list is legal from a machine on where the answers are the claims
legal_from : (c : Setup) (s : System) (es : List Entry) → answers c s es ≡ claims es → LegalFrom c s es
legal_from c s [] e = tt
legal_from c s (x ∷ es) e = (
  record {
    admits = admits_same _ _ (first_of_list _ _ _ _ e);
    place = sym (place_same _ _ (first_of_list _ _ _ _ e));
    reply = sym (reply_same _ _ (first_of_list _ _ _ _ e));
  },
  legal_from c (next s x) es (rest_of_list _ _ _ _ e),
)

-- and from the opening on
pub legal_by : (c : Setup) (es : List Entry) → answers c (opening c) es ≡ claims es → Legal c es
legal_by c es e = legal_from c (opening c) es e

-- what a program says, by what it hears
abbrev pub said : {A : Type 0} → Program A → List Heard → List (Option (Object × Op))
said p [] = []
said p (h ∷ hs) = asks p ∷ said (heard p h) hs

-- a program says a list where what it says is the list
says_by : {A : Type 0} (p : Program A) (hs : List Heard) → said p hs ≡ map (λ h. Some (h.entry.object, h.entry.op)) hs → Says p hs
says_by p [] e = tt
says_by p (h ∷ hs) e = (first_of_list _ _ _ _ e, says_by (heard p h) hs (rest_of_list _ _ _ _ e))

-- and is done on it where nothing but its answer is left
pub made : {A : Type 0} {p : Program A} {hs : List Heard} {a : A} → said p hs ≡ map (λ h. Some (h.entry.object, h.entry.op)) hs
    → left p hs ≡ Done a → IsDoneOn p hs a
made {p = p} {hs = hs} s d = record { says = says_by p hs s; done = d }

-- ---- rows

-- a call of a row: how many of its task's next entries it makes, and what it answers
pub record Step : Type 0 where
  pub service : Service
  pub makes : ℕ
  pub answer : Answer service

-- the same, written as it is read
abbrev pub does : (s : Service) → ℕ → Answer s → Step
does s n a = record { service = s; makes = n; answer = a }

-- Calls of a task, one after the other: each is done on its entries with its answer, begun with what is kept by then, and makes
-- no more events than it may need. No entry is left.
abbrev pub AreMade : Setup → Kept → List Heard → List Step → Type 0
AreMade c kept hs [] = hs ≡ []
AreMade c kept hs (s ∷ steps) =
    IsDoneOn (program c s.service kept) (take s.makes hs) s.answer
    × (nat_le s.makes (most_events c kept s.service) ≡ true)
    × AreMade c (kept_from kept (entries (take s.makes hs))) (drop s.makes hs) steps

-- a legal history, in which a task makes these calls
pub record IsRow (c : Setup) (k : ℕ) (es : List Entry) (steps : List Step) : Type 0 where
  pub legal : Legal c es
  pub made : AreMade c (nothing_kept k) (heard_in c k es) steps

-- what each call of a row says, what is left of it, and whether it makes no more events than it may need; and what no call heard
abbrev pub Outcomes : List Step → Type 0
Outcomes [] = List Heard
Outcomes (s ∷ steps) = List (Option (Object × Op)) × Program (Answer s.service) × Bool × Outcomes steps

-- as the programs of these calls have it
abbrev pub outcomes : Setup → Kept → List Heard → (steps : List Step) → Outcomes steps
outcomes c kept hs [] = hs
outcomes c kept hs (s ∷ steps) = (
  said (program c s.service kept) (take s.makes hs),
  left (program c s.service kept) (take s.makes hs),
  nat_le s.makes (most_events c kept s.service),
  outcomes c (kept_from kept (entries (take s.makes hs))) (drop s.makes hs) steps,
)

-- as the row has it
abbrev pub foreseen : List Heard → (steps : List Step) → Outcomes steps
foreseen hs [] = []
foreseen hs (s ∷ steps) = (
  map (λ h. Some (h.entry.object, h.entry.op)) (take s.makes hs),
  Done s.answer,
  true,
  foreseen (drop s.makes hs) steps,
)

-- calls are made where the two are the same
are_made : (c : Setup) (kept : Kept) (hs : List Heard) (steps : List Step) → outcomes c kept hs steps ≡ foreseen hs steps
    → AreMade c kept hs steps
are_made c kept hs [] e = e
are_made c kept hs (s ∷ steps) e = (
  made (ap (λ (x : Outcomes (s ∷ steps)). x.0) e) (ap (λ (x : Outcomes (s ∷ steps)). x.1) e),
  ap (λ (x : Outcomes (s ∷ steps)). x.2) e,
  are_made c (kept_from kept (entries (take s.makes hs))) (drop s.makes hs) steps (ap (λ (x : Outcomes (s ∷ steps)). x.3) e),
)

-- a row, by computing what the machine answers and what its calls come to
pub row : {c : Setup} {k : ℕ} {es : List Entry} {steps : List Step} → answers c (opening c) es ≡ claims es
    → outcomes c (nothing_kept k) (heard_in c k es) steps ≡ foreseen (heard_in c k es) steps → IsRow c k es steps
row {c = c} {k = k} {es = es} {steps = steps} answered came = record {
  legal = legal_by c es answered;
  made = are_made c (nothing_kept k) (heard_in c k es) steps came;
}

-- a configuration of so many tasks, with four elements each and ample budgets, and these owners of blocks and exits
abbrev tasks : ℕ → List ℕ → List SetupExit → Setup
tasks n owners exits = record {
  callers = n;
  elements_per_caller = 4;
  volumes = 8;
  latches = 8;
  quota = 8;
  posted_quota = 4;
  budgets = replicate n 100;
  owners = owners;
  exits = exits;
}

-- of one task
abbrev pub one_task : List ℕ → List SetupExit → Setup
one_task owners exits = tasks 1 owners exits

-- of two
abbrev pub two_tasks : List ℕ → List SetupExit → Setup
two_tasks owners exits = tasks 2 owners exits

-- of three
abbrev pub three_tasks : List ℕ → List SetupExit → Setup
three_tasks owners exits = tasks 3 owners exits

-- an entry of this caller on this block at this place, and so on the other objects
abbrev pub at_block : ℕ → ℕ → ℕ → EcbOp → EcbReply → Entry
at_block k n place op reply = entry_of k (Ecb n) place (op_on.Ecb op) (reply_of.Ecb reply)

-- on an element
abbrev pub at_element : ℕ → ℕ → ℕ → ElementOp → ElementReply → Entry
at_element k n place op reply = entry_of k (Element n) place (op_on.Element op) (reply_of.Element reply)

-- on a volume
abbrev pub at_volume : ℕ → ℕ → ℕ → VolumeOp → VolumeReply → Entry
at_volume k n place op reply = entry_of k (Volume n) place (op_on.Volume op) (reply_of.Volume reply)

-- on the latch set
abbrev pub at_latches : ℕ → ℕ → LatchOp → LatchReply → Entry
at_latches k place op reply = entry_of k Latches place (op_on.Latch op) (reply_of.Latch reply)
