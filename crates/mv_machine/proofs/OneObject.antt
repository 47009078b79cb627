-- Runs of one object alone, of any kind.
use Rattle.std.proofs.Common.{◌≡◌, ℕ, List, [], ◌∷◌, ◌++◌, ◌⊎◌, inl, inr, Option, Some, None, true, refl, append-nil, append_assoc}
use Rattle.std.specs.List.{filter_map}
use Rattle.mv_machine.specs.declared.entry.Entry.{Entry}
use Rattle.mv_machine.specs.declared.entry.Object.{Object}
use Rattle.mv_machine.specs.declared.entry.Op.{Op}
use Rattle.mv_machine.specs.Elements.{Event}
use Rattle.mv_machine.specs.Legal.{IsNext, next, same_object, LegalFrom}
use Rattle.mv_config.specs.Setup.{Setup}
use Rattle.mv_machine.specs.System.{System, Cell, advanced}

-- what an event does to a state: its caller and its place, the operation, the state
abbrev pub Table : (O R S : Type 0) → Type 0
Table O R S = ℕ → ℕ → O → S → S × R

pub record IsAnsweredBy {O R S : Type 0} (table : Table O R S) (cell : Cell S) (v : Event O R) : Type 0 where
  pub place : v.place ≡ cell.place
  pub reply : v.reply ≡ (table v.caller v.place v.op cell.state).1

abbrev pub next_cell : {O R S : Type 0} → Table O R S → Cell S → Event O R → Cell S
next_cell table cell v = advanced cell (table v.caller v.place v.op cell.state).0

abbrev pub cell_after : {O R S : Type 0} → Table O R S → Cell S → List (Event O R) → Cell S
cell_after table cell [] = cell
cell_after table cell (v ∷ vs) = cell_after table (next_cell table cell v) vs

abbrev pub RunFrom : {O R S : Type 0} → Table O R S → Cell S → List (Event O R) → Type 0
RunFrom table cell [] = Unit {0}
RunFrom table cell (v ∷ vs) = IsAnsweredBy table cell v × RunFrom table (next_cell table cell v) vs

module _ {O R S : Type 0} (table : Table O R S) where
  pub cell_after-append : (cell : Cell S) (xs ys : List (Event O R))
      → cell_after table cell (xs ++ ys) ≡ cell_after table (cell_after table cell xs) ys
  cell_after-append cell [] ys = refl
  cell_after-append cell (x ∷ xs) ys = cell_after-append (next_cell table cell x) xs ys

  pub RunFrom-front : (cell : Cell S) (xs ys : List (Event O R)) → RunFrom table cell (xs ++ ys) → RunFrom table cell xs
  RunFrom-front cell [] ys l = tt
  RunFrom-front cell (x ∷ xs) ys l = (l.0, RunFrom-front (next_cell table cell x) xs ys l.1)

  pub RunFrom-rest : (cell : Cell S) (xs ys : List (Event O R)) → RunFrom table cell (xs ++ ys)
      → RunFrom table (cell_after table cell xs) ys
  RunFrom-rest cell [] ys l = l
  RunFrom-rest cell (x ∷ xs) ys l = RunFrom-rest (next_cell table cell x) xs ys l.1

  -- an invariant of a history and the state that it leads to
  pub along : (Inv : List (Event O R) → S → Type 0)
      → ((past : List (Event O R)) (cell : Cell S) (v : Event O R) → IsAnsweredBy table cell v → Inv past cell.state
      → Inv (past ++ v ∷ []) (table v.caller v.place v.op cell.state).0)
      → (past : List (Event O R)) (cell : Cell S) → Inv past cell.state
      → (vs : List (Event O R)) → RunFrom table cell vs → Inv (past ++ vs) (cell_after table cell vs).state
  along Inv keeps past cell inv [] l = rw append-nil inv
  along Inv keeps past cell inv (v ∷ vs) l =
      rw append_assoc at (along Inv keeps (past ++ v ∷ []) (next_cell table cell v) (keeps past cell v l.0 inv) vs l.1)

-- ---- from a legal list to the run of one object

-- an object that is looked at: its table, where the machine has it, which operations are of its kind, and which entries are its events
pub record Subject (O R S : Type 0) : Type 0 where
  pub table : Table O R S
  pub object : Object
  pub cell : System → Cell S
  pub on : O → Op
  pub as_event : Entry → Option (Event O R)

module _ {O R S : Type 0} (x : Subject O R S) where
  -- an entry passes the object by
  pub record PassesBy (s : System) (e : Entry) : Type 0 where
    pub none : x.as_event e ≡ None
    pub kept : x.cell (next s e) ≡ x.cell s

  -- or is an event on it
  pub record HappensAt (s : System) (e : Entry) : Type 0 where
    pub event : Event O R
    pub is : x.as_event e ≡ Some event
    pub op : e.op ≡ x.on event.op
    pub there : same_object e.object x.object ≡ true
    pub answered : IsAnsweredBy x.table (x.cell s) event
    pub after : x.cell (next s e) ≡ next_cell x.table (x.cell s) event

  -- where each next entry is one of these, the object's events of a legal list are a run of it
  pub run_of : (c : Setup) → ((s : System) (e : Entry) → IsNext c s e → PassesBy s e ⊎ HappensAt s e)
      → (s : System) (es : List Entry) → LegalFrom c s es → RunFrom x.table (x.cell s) (filter_map x.as_event es)
  run_of c one s [] l = tt
  run_of c one s (e ∷ es) l =
      let rest : RunFrom x.table (x.cell (next s e)) (filter_map x.as_event es) = run_of c one (next s e) es l.1 in
      elim (one s e l.0) [
        | inl w ↦ rw (w.none) (rw w.kept at rest)
        | inr w ↦ rw (w.is) (w.answered, rw w.after at rest)
      ]
