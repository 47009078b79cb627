-- The views of the seats: how they begin, are split and joined, and how they change with each step.
use Rattle.std.specs.Prelude.{ℕ, ◌+◌, ◌-◌, ◌==◌, Bool, true, false, not, List, [], ◌∷◌, ◌++◌, length, filter, slice_index, Option, Some}
use Rattle.mv_latch.specs.declared.operation.Wake.{Wake}
use Rattle.mv_latch.specs.declared.request.Request.{Request}
use Rattle.mv_machine.specs.declared.entry.Entry.{Entry}
use Rattle.mv_machine.specs.declared.entry.Object.{Object}
use Rattle.mv_machine.specs.declared.entry.Object.TheVariants.{Ecb, Element, Latches}
use Rattle.mv_machine.specs.declared.entry.Op.{Op}
use Rattle.mv_machine.specs.declared.entry.Op.TheVariants as op_on
use Rattle.mv_config.specs.Setup.{Setup}
use Rattle.mv_latch.specs.declared.operation.LatchOp.TheVariants.{Obtain}
use Rattle.mv_board.specs.declared.view.Part.{Part}
use Rattle.mv_board.specs.declared.view.Named.{Named}
use Rattle.mv_board.specs.declared.view.View.{View}
use Rattle.mv_board.specs.declared.watch.Watch.{Watch}
use Rattle.mv_board.specs.declared.watch.Watch.TheVariants as watch

-- ---- parts

-- the part of a caller that has done nothing
abbrev pub fresh : Setup → ℕ → Part
fresh c k = record { caller = k; left = slice_index c.budgets k; log = []; told = []; sights = [] }

-- the first of these parts: that of the view's own caller
abbrev pub first_of : List Part → Part
first_of [] = record { caller = 0; left = 0; log = []; told = []; sights = [] }
first_of (p ∷ ps) = p

-- the part of the caller whose seat has this view
abbrev pub own : View → Part
own v = first_of v.parts

-- the own part with one event more, and with what that event showed
abbrev pub part_logged : Entry → List (List Wake) → Part → Part
part_logged e shown p = record p { left = p.left - 1; log = p.log ++ e ∷ []; told = p.told ++ shown }

-- the own part after its caller read a word
abbrev pub part_met : Object → ℕ → Part → Part
part_met o w p = record p { sights = p.sights ++ record { object = o; word = w; after = length p.log } ∷ [] }

-- these parts with the first one changed
abbrev pub with_own : (Part → Part) → List Part → List Part
with_own f [] = []
with_own f (p ∷ ps) = f p ∷ ps

-- ---- watches

-- whether an event takes a watch off the list: an event on a block or an element takes off the watch of that object, and one on
-- the latch set other than Obtain takes off all watches of requests
abbrev pub takes_off : Object → Op → Watch → Bool
takes_off (Ecb n) op (watch.Ecb m) = m == n
takes_off (Element n) op (watch.Element m) = m == n
takes_off Latches (op_on.Latch (Obtain latch requestor mode form)) (watch.Latch l id) = false
takes_off Latches op (watch.Latch l id) = true
takes_off o op w = false

-- the watches that stay listed after an event
abbrev pub off : Object → Op → List Watch → List Watch
off o op ws = filter (λ w. not (takes_off o op w)) ws

-- ---- views

-- the view of a seat that gave everything away
abbrev pub spent_view : View
spent_view = record { parts = []; made = 0; turn = []; returned = []; ready = []; about = [] }

-- the view of caller k that has done nothing, with this count of callers
abbrev pub fresh_view : Setup → ℕ → ℕ → View
fresh_view c k made = record { parts = fresh c k ∷ []; made = made; turn = []; returned = []; ready = []; about = c ∷ [] }

-- the view of the first seat: that of caller 0, which counts one caller
abbrev pub first_view : Setup → View
first_view c = fresh_view c 0 1

-- the view that remains at a split: it counts one caller more
abbrev pub cut_left : View → View
cut_left v = record v { made = v.made + 1 }

-- the part of a new caller k; none if there is no configuration
abbrev pub fresh_in : List Setup → ℕ → List Part
fresh_in [] k = []
fresh_in (c ∷ cs) k = fresh c k ∷ []

-- the view of the new seat of a split, which has the next caller
abbrev pub cut_right : View → View
cut_right v = record { parts = fresh_in v.about v.made; made = 0; turn = []; returned = []; ready = []; about = v.about }

-- the configuration of the first of two views, or of the second if the first has none
abbrev pub either_about : List Setup → List Setup → List Setup
either_about [] cs = cs
either_about (c ∷ cs) ds = c ∷ cs

-- the view of two joined seats: it has the parts of both, and lists no watch
abbrev pub joined : View → View → View
joined v w = record {
  parts = v.parts ++ w.parts;
  made = v.made + w.made;
  turn = v.turn ++ w.turn;
  returned = v.returned;
  ready = [];
  about = either_about v.about w.about;
}

-- the view after an event of its own caller, and after what that showed
abbrev pub logged : Entry → List (List Wake) → View → View
logged e shown v = record v { parts = with_own (part_logged e shown) v.parts; ready = off e.object e.op v.ready }

-- the view after its caller read a word
abbrev pub met : Object → ℕ → View → View
met o w v = record v { parts = with_own (part_met o w) v.parts }

-- the view with this watch listed, if what it watches is ready
abbrev pub listed : Bool → Option Watch → View → View
listed true (Some w) v = record v { ready = v.ready ++ w ∷ [] }
listed _ _ v = v

-- the view with these as the lists that it names: one element if it holds the turn, otherwise none
abbrev pub with_turn : List Named → View → View
with_turn ts v = record v { turn = ts }

-- the view after its caller gave these lists back without an event
abbrev pub with_returned : List (List Request) → View → View
with_returned lists v = record v { returned = v.returned ++ lists ∷ [] }
