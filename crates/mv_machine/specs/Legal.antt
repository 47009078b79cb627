-- Which lists of entries are legal, and the state of the machine after them.
use Rattle.std.specs.Prelude.{◌≡◌, ℕ, ◌+◌, ◌==◌, Bool, true, false, IsTrue, List, [], ◌∷◌, filter, Some}
use Rattle.mv_machine.specs.declared.entry.Object.{Object}
use Rattle.mv_machine.specs.declared.entry.Object.TheVariants.{Ecb, Element, Volume, Latches}
use Rattle.mv_machine.specs.declared.entry.Entry.{Entry}
use Rattle.mv_config.specs.Setup.{Setup}
use Rattle.mv_machine.specs.System.{System, opening, place_of, admitted, reply_to, moved}

-- an entry is the next of the machine: it is admitted, and its place and reply are the machine's
pub record IsNext (c : Setup) (s : System) (e : Entry) : Type 0 where
  pub admits : IsTrue (admitted c s e.caller e.object e.op)
  pub place : e.place ≡ place_of s e.object
  pub reply : Some e.reply ≡ reply_to s e.caller e.object e.op

-- the machine after one entry
abbrev pub next : System → Entry → System
next s e = moved s e.caller e.object e.op

-- the machine after a list of entries
abbrev pub after_from : System → List Entry → System
after_from s [] = s
after_from s (e ∷ es) = after_from (next s e) es

-- each entry in turn is the next of the machine
abbrev pub LegalFrom : Setup → System → List Entry → Type 0
LegalFrom c s [] = Unit {0}
LegalFrom c s (e ∷ es) = IsNext c s e × LegalFrom c (next s e) es

-- a list of entries is legal: each in turn is the next of the machine, from the opening state on
abbrev pub Legal : Setup → List Entry → Type 0
Legal c es = LegalFrom c (opening c) es

-- the machine after a list of entries, from the opening state on
abbrev pub after : Setup → List Entry → System
after c es = after_from (opening c) es

-- the entries of one caller
abbrev pub of : ℕ → List Entry → List Entry
of k es = filter (λ e. e.caller == k) es

-- whether two objects are the same
abbrev pub same_object : Object → Object → Bool
same_object (Ecb a) (Ecb b) = a == b
same_object (Element a) (Element b) = a == b
same_object (Volume a) (Volume b) = a == b
same_object Latches Latches = true
same_object _ _ = false

-- the entries on one object
abbrev pub «at» : Object → List Entry → List Entry
«at» o es = filter (λ e. same_object e.object o) es

-- an object has the same place and state in two machines
abbrev pub SameAt : Object → System → System → Type 0
SameAt (Ecb n) s t = s.ecb n ≡ t.ecb n
SameAt (Element n) s t = s.element n ≡ t.element n
SameAt (Volume n) s t = s.volume n ≡ t.volume n
SameAt Latches s t = s.latches ≡ t.latches

-- the places of these entries count up by one from this place
abbrev pub CountsFrom : ℕ → List Entry → Type 0
CountsFrom place [] = Unit {0}
CountsFrom place (e ∷ es) = (e.place ≡ place) × CountsFrom (place + 1) es
