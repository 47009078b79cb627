-- One pick, which the machine makes.
use Rattle.std.proofs.Common.{List, sym, subst}
use Rattle.std.specs.List.{AllByRecursion}
use Rattle.mv_machine.specs.declared.entry.Entry.{Entry}
use Rattle.mv_machine.specs.History.{HistoryFace, IsGiven}
use Rattle.mv_machine.specs.Room.{IsPicked, history_of}
use Rattle.mv_machine.specs.State.{Exists, system_of}
use Rattle.mv_machine.specs.System.{place_of}
use Rattle.mv_machine.proofs.Gives.{objects_there, place_fits, then, goes_on, given}
use Rattle.mv_machine.proofs.merging.History.next.Goals as goal

pub ready-requires-clause-objects : goal.ready-requires-clause-objects
ready-requires-clause-objects c =
    subst (λ (ls : List (List Entry)). AllByRecursion (λ log. AllByRecursion (λ e. Exists c.self.inside.state e.object) log) ls)
    (sym c.deref.ensures.value) (objects_there c.self.inside c.self.invariant)

pub step-requires-clause-place : goal.step-requires-clause-place
step-requires-clause-place c =
    place_fits c.self.inside c.self.invariant c.in_ok-picked.picked
    (rw (c.deref-2.ensures.value, c.deref.ensures.value) at c.in_ok-picked.ensures)

-- what is picked
picked_is : (c : goal.After-step) → IsPicked (place_of (system_of c.self.inside.state)) c.self.inside.merged.items c.self.inside.logs.items
    c.in_ok-picked.picked
picked_is c = rw (c.deref-2.ensures.value, c.deref.ensures.value) at c.in_ok-picked.ensures

pub invariant_of-self : goal.invariant_of-self
invariant_of-self c =
    goes_on c.self.inside c.self.invariant c.in_ok-picked.picked (picked_is c) c.step.new.self c.step.ensures.opened
    c.step.ensures.after c.step.ensures.wakes

pub returns : goal.returns
returns c =
    subst (λ (old : HistoryFace). IsGiven old c.in_ok-picked.picked.entry
    (history_of (then c.self.inside c.self.invariant c.in_ok-picked.picked (picked_is c) c.step.new.self c.step.ensures.opened
    c.step.ensures.after c.step.ensures.wakes))) c.self.view_is
    (given c.self.inside c.self.invariant c.in_ok-picked.picked (picked_is c) c.step.new.self c.step.ensures.opened
    c.step.ensures.after c.step.ensures.wakes)
