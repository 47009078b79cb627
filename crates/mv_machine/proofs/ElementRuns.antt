-- From a legal list to the run of one element.
use Rattle.std.proofs.Common.{ℕ, List, inl, inr, arith}
use Rattle.mv_element.specs.declared.operation.ElementOp.{ElementOp}
use Rattle.mv_element.specs.declared.element.ElementState.{ElementState}
use Rattle.mv_element.specs.Table.{element_step}
use Rattle.mv_machine.specs.declared.entry.Entry.{Entry}
use Rattle.mv_config.specs.Setup.{Setup}
use Rattle.mv_machine.specs.System.{System, Cell, opening, advanced}
use Rattle.mv_machine.specs.Legal.{after_from, LegalFrom, Legal, after}
use Rattle.mv_machine.specs.Elements.{element_events, IsOrderlyElement, FitsItsPlace}
use Rattle.mv_machine.proofs.EntryRuns.{along_all}
use Rattle.mv_machine.proofs.OneObject.{RunFrom, run_of}
use Rattle.mv_machine.proofs.ElementLaws.{element_is_orderly}
use Rattle.mv_machine.proofs.Subjects.{element, element_table, element_meets}

-- the events on one element are a run of it
pub element_run : (c : Setup) (s : System) (n : ℕ) (es : List Entry) → LegalFrom c s es
    → RunFrom element_table (s.element n) (element_events n es)
element_run c s n es l = run_of (element n) c (element_meets c n) s es l

pub elements_are_orderly : (c : Setup) (es : List Entry) → Legal c es → (n : ℕ) → IsOrderlyElement (element_events n es)
elements_are_orderly c es l n = element_is_orderly (element_events n es) (element_run c (opening c) n es l)

-- what each event of an element keeps, a legal list keeps
pub element_along : (P : Cell ElementState → Type 0)
    → ((cell : Cell ElementState) (op : ElementOp) → P cell → P (advanced cell (element_step op cell.state).0))
    → (c : Setup) (n : ℕ) (s : System) (es : List Entry) → LegalFrom c s es → P (s.element n) → P ((after_from s es).element n)
element_along P keeps c n = along_all c (λ t. P (t.element n)) (λ s e h p.
    elim (element_meets c n s e h) [ inl w ↦ rw (w.kept) p | inr w ↦ rw (w.after) (keeps (s.element n) w.event.op p) ])

pub fits_next : (cell : Cell ElementState) (op : ElementOp) → FitsItsPlace cell
    → FitsItsPlace (advanced cell (element_step op cell.state).0)
fits_next cell op f = grind arith

pub generation_fits : (c : Setup) (es : List Entry) (n : ℕ) → Legal c es → FitsItsPlace ((after c es).element n)
generation_fits c es n l = element_along FitsItsPlace fits_next c n (opening c) es l (omega arith)
