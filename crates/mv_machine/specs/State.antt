-- How contracts see the state of the machine.
use Rattle.std.specs.Prelude.{◌≡◌, ℕ, ◌*◌, ◌<◌, ◌≤◌, List, length, slice_index_or, Option, vec_capacity}
use Rattle.mv_ecb.specs.Word.{EcbState, Zero}
use Rattle.mv_element.specs.declared.element.ElementState.{ElementState}
use Rattle.mv_element.specs.Element.{free}
use Rattle.mv_latch.specs.declared.operation.Wake.{Wake}
use Rattle.mv_latch.specs.LatchSet.{IsNewId}
use Rattle.mv_machine.specs.declared.entry.Object.{Object}
use Rattle.mv_machine.specs.declared.entry.Object.TheVariants.{Ecb, Element, Volume, Latches}
use Rattle.mv_machine.specs.declared.entry.Op.{Op}
use Rattle.mv_machine.specs.declared.entry.Reply.{Reply}
use Rattle.mv_machine.specs.declared.state.EcbCell.{EcbCell}
use Rattle.mv_machine.specs.declared.state.ElementCell.{ElementCell}
use Rattle.mv_machine.specs.declared.state.State.{State}
use Rattle.mv_machine.specs.declared.state.VolumeCell.{VolumeCell}
use Rattle.mv_machine.specs.Elements.{FitsItsPlace}
use Rattle.mv_config.specs.Setup.{Setup, element_count}
use Rattle.mv_machine.specs.System.{System, Cell, latches_of, answer, after_step, wakes_after}

-- the cell of a block that does not exist, with which a table of blocks is filled up
abbrev pub no_ecb : EcbCell
no_ecb = record { place = 0; word = Zero }

-- a block's cell
abbrev pub ecb_cell : EcbCell → Cell EcbState
ecb_cell x = record { place = x.place; state = x.word }

-- the cell of an element that does not exist, with which a table of elements is filled up
abbrev pub no_element : ElementCell
no_element = record { place = 0; state = free 0 }

-- an element's cell
abbrev pub element_cell : ElementCell → Cell ElementState
element_cell x = record { place = x.place; state = x.state }

-- the cell of a volume that does not exist, with which a table of volumes is filled up
abbrev pub no_volume : VolumeCell
no_volume = record { place = 0; number = 0 }

-- a volume's cell
abbrev pub volume_cell : VolumeCell → Cell ℕ
volume_cell x = record { place = x.place; state = x.number }

-- a list as a table over all numbers: the values that a view gives of its items, and after the last one that of `none`
abbrev pub table : {A B : Type 0} → (A → B) → A → List A → ℕ → B
table view none xs n = view (slice_index_or xs n none)

-- the machine that a state represents
abbrev pub system_of : State → System
system_of s = record {
  ecb = table ecb_cell no_ecb s.ecbs.items;
  element = table element_cell no_element s.elements.items;
  volume = table volume_cell no_volume s.volumes.items;
  latches = record { place = s.latch_place; state = s.latches.lists };
}

-- the wakes of the last event on the latch set, or none before the first one
abbrev pub wakes_of : State → List Wake
wakes_of s = s.wakes.items

-- the state has the objects and quotas of this configuration, room for all that its steps do, and generations and request
-- numbers that fit the places
pub record IsOpenedWith (c : Setup) (s : State) : Type 0 where
  pub ecbs : length s.ecbs.items ≡ length c.owners
  pub elements : length s.elements.items ≡ element_count c
  pub volumes : length s.volumes.items ≡ c.volumes
  pub lists : length s.latches.lists ≡ c.latches
  pub latches : s.latches ≡ latches_of c s.latches.lists
  pub room : c.callers * c.quota ≤ vec_capacity s.wakes
  pub new_ids : (id : ℕ) → s.latch_place ≤ id → IsNewId id s.latches.lists
  pub generations : (n : ℕ) → FitsItsPlace ((system_of s).element n)

-- a state has this object
abbrev pub Exists : State → Object → Type 0
Exists s (Ecb n) = n < length s.ecbs.items
Exists s (Element n) = n < length s.elements.items
Exists s (Volume n) = n < length s.volumes.items
Exists s Latches = Unit {0}

-- a state has this latch
abbrev pub HasLatch : State → ℕ → Type 0
HasLatch s latch = latch < length s.latches.lists

-- one operation was answered as the machine answers it, and the state is the one after the operation
pub record IsStep (c : Setup) (old new : State) (caller : ℕ) (o : Object) (op : Op) (result : Option (ℕ × Reply)) : Type 0 where
  pub answered : result ≡ answer c (system_of old) caller o op
  pub after : system_of new ≡ after_step c (system_of old) caller o op
  pub wakes : wakes_of new ≡ wakes_after c (system_of old) (wakes_of old) caller o op
  pub opened : IsOpenedWith c new
