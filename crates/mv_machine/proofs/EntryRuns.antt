-- What each entry keeps, a legal list keeps.
use Rattle.std.proofs.Common.{ℕ, List, [], ◌∷◌, ◌++◌}
use Rattle.std.specs.List.{AllByRecursion}
use Rattle.mv_machine.specs.declared.entry.Entry.{Entry}
use Rattle.mv_machine.specs.declared.entry.Object.{Object}
use Rattle.mv_machine.specs.declared.entry.Op.{Op}
use Rattle.mv_machine.specs.declared.entry.Reply.{Reply}
use Rattle.mv_machine.specs.Legal.{IsNext, next, after_from, LegalFrom, Legal, after}
use Rattle.mv_config.specs.Setup.{Setup}
use Rattle.mv_machine.specs.System.{System, opening}
use Rattle.mv_machine.proofs.Histories.{after_from-append, LegalFrom-rest}

-- an entry by its parts, which are then looked at one by one
abbrev pub entry_of : ℕ → Object → ℕ → Op → Reply → Entry
entry_of k o p op r = record { caller = k; object = o; place = p; op = op; reply = r }

-- with a premise of each entry
pub along : (c : Setup) (P : System → Type 0) (Q : Entry → Type 0) → ((s : System) (e : Entry) → IsNext c s e → Q e → P s → P (next s e))
    → (s : System) (es : List Entry) → LegalFrom c s es → AllByRecursion Q es → P s → P (after_from s es)
along c P Q keeps s [] l q p = p
along c P Q keeps s (e ∷ es) l q p = along c P Q keeps (next s e) es l.1 q.1 (keeps s e l.0 q.0 p)

-- for every entry
pub along_all : (c : Setup) (P : System → Type 0) → ((s : System) (e : Entry) → IsNext c s e → P s → P (next s e))
    → (s : System) (es : List Entry) → LegalFrom c s es → P s → P (after_from s es)
along_all c P keeps s [] l p = p
along_all c P keeps s (e ∷ es) l p = along_all c P keeps (next s e) es l.1 (keeps s e l.0 p)

-- the rest of a legal list, from where its front leads to
pub rest_is_legal : (c : Setup) (xs ys : List Entry) → Legal c (xs ++ ys) → LegalFrom c (after c xs) ys
rest_is_legal c xs ys l = LegalFrom-rest c (opening c) xs ys l

-- a fact of where the rest leads to is one of where the whole list does
pub at_end : (c : Setup) (P : System → Type 0) (xs ys : List Entry) → P (after_from (after c xs) ys) → P (after c (xs ++ ys))
at_end c P xs ys p = rw (after_from-append (opening c) xs ys) p
