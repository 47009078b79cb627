-- What each kind of step says of the view of the seat that makes it.
use Rattle.std.specs.Prelude.{◌≡◌, ◌≢◌, ℕ, ◌<◌, Bool, true, false, List, [], ◌++◌, length, Some, None}
use Rattle.std.specs.Prelude as std
use Rattle.std.specs.List.{AllByRecursion, Contains}
use mathlib.Core.Option.{Option, none, some}
use Rattle.atomic_table.specs.Table.{Me, Step}
use Rattle.mv_ecb.specs.Word.{is_complete}
use Rattle.mv_element.specs.declared.element.ElementState.{ElementState}
use Rattle.mv_machine.specs.declared.entry.Entry.{Entry}
use Rattle.mv_machine.specs.declared.entry.Object.{Object}
use Rattle.mv_machine.specs.declared.entry.Object.TheVariants.{Ecb, Element}
use Rattle.mv_machine.specs.declared.entry.Op.{Op}
use Rattle.mv_machine.specs.declared.entry.Op.TheVariants as op_on
use Rattle.mv_machine.specs.declared.entry.Reply.{Reply}
use Rattle.mv_machine.specs.declared.entry.VolumeOp.TheVariants.{Read}
use Rattle.mv_machine.specs.declared.packing.WordState.{WordState}
use Rattle.mv_machine.specs.declared.packing.WordState.TheVariants as state_of
use Rattle.mv_config.specs.Limits.{events_limit}
use Rattle.mv_machine.specs.Packing.{unpack}
use Rattle.mv_machine.specs.Parts.{IsBelow, IsPossible}
use Rattle.mv_board.specs.declared.item.Item.{Item}
use Rattle.mv_board.specs.declared.item.Item.TheVariants.{Said}
use Rattle.mv_board.specs.declared.view.Sight.{Sight}
use Rattle.mv_board.specs.declared.view.View.{View}
use Rattle.mv_board.specs.declared.watch.Watch.{Watch}
use Rattle.mv_board.specs.declared.watch.Watch.TheVariants as watch
use Rattle.mv_machine.specs.Parked.{parked}
use Rattle.mv_element.specs.Element.{is_released}
use Rattle.mv_board.specs.View.{own, with_own, logged, met, listed}
use Rattle.mv_board.specs.Words.{object_of, changed, fits, test_of}

-- ---- what was announced

-- the operation that an item announces; a read of a volume if it announces none
abbrev pub op_said : Item → Op
op_said (Said op) = op
op_said _ = op_on.Volume Read

-- the operation that a step announces; a read of a volume if it announces none
abbrev pub op_of : Option Item → Op
op_of (some i) = op_said i
op_of none = op_on.Volume Read

-- ---- what a view says of its own caller

-- the own log and told list occur in some history of the configuration
abbrev pub PossibleFor : View → Type 0
PossibleFor v = AllByRecursion (λ c. IsPossible c (own v).caller (own v).log (own v).told) v.about

-- whether a state is what a watch of its object waits for
abbrev pub is_ready : WordState → Bool
is_ready (state_of.Ecb s) = is_complete s
is_ready (state_of.Element s) = is_released s.phase
is_ready (state_of.Volume n) = false

-- the watch of a block or an element; a volume and the latch set have none
abbrev pub watch_of : Object → std.Option Watch
watch_of (Ecb n) = Some (watch.Ecb n)
watch_of (Element n) = Some (watch.Element n)
watch_of _ = None

-- ---- steps on a word

-- What a seat learns of a word that it reads. The word is one of the object's; its place is above those of the caller's own
-- events on that object, and leaves room for an event if one is left. If the object's watch is listed, the state is ready, and
-- that of an element is of the generation of the pause that parked.
pub record Meets (v : View) (o : Object) (w : ℕ) : Type 0 where
  pub place : ℕ
  pub state : WordState
  pub unpacks : unpack o w ≡ Some (place, state)
  pub fitting : fits place state ≡ true
  pub above : IsBelow o place (own v).log
  pub room : 0 < (own v).left → place < events_limit
  pub ready : (x : Watch) → watch_of o ≡ Some x → Contains v.ready x → is_ready state ≡ true
  pub pause : (n g : ℕ) (s : ElementState) → o ≡ Element n → state ≡ state_of.Element s → Contains v.ready (watch.Element n)
      → parked n (own v).log ≡ Some g → s.generation ≡ g

-- a load of a word
pub record Looked (st : Step Item) (m : Me Item View) (r : ℕ) (n : Me Item View) : Type 0 where
  pub slots : n.1 ≡ m.1
  pub view : n.0 ≡ met (object_of st.word) r m.0
  pub meets : Meets m.0 (object_of st.word) r

-- a load of a word that lists the object's watch if its state is ready
pub record Peeked (st : Step Item) (m : Me Item View) (r : ℕ) (n : Me Item View) : Type 0 where
  pub slots : n.1 ≡ m.1
  pub meets : Meets m.0 (object_of st.word) r
  pub view : n.0 ≡ listed (is_ready meets.state) (watch_of (object_of st.word)) (met (object_of st.word) r m.0)

-- the entry of an event of the view's own caller on a word
abbrev pub entry_of : View → Object → Op → ℕ → Reply → Entry
entry_of v o op place reply = record { caller = (own v).caller; object = o; place = place; op = op; reply = reply }

-- the own caller's event took effect on the word r
pub record Made (v : View) (o : Object) (op : Op) (r : ℕ) (new : View) : Type 0 where
  pub place : ℕ
  pub word : ℕ
  pub reply : Reply
  pub change : changed o op r ≡ Some (place, word, reply)
  pub view : new ≡ logged (entry_of v o op place reply) [] v
  pub possible : PossibleFor new

-- an exchange of a word: an event if the word was the expected one, otherwise only a look at the word
pub record Tried (st : Step Item) (m : Me Item View) (r : ℕ) (n : Me Item View) : Type 0 where
  pub slots : n.1 ≡ m.1
  pub meets : Meets m.0 (object_of st.word) r
  pub hit : r ≡ st.first → Made m.0 (object_of st.word) (op_of st.said) r n.0
  pub miss : r ≢ st.first → n.0 ≡ met (object_of st.word) r m.0

-- an addition to a word, which is always an event
pub record Tested (st : Step Item) (m : Me Item View) (r : ℕ) (n : Me Item View) : Type 0 where
  pub slots : n.1 ≡ m.1
  pub meets : Meets m.0 (object_of st.word) r
  pub event : Made m.0 (object_of st.word) (test_of (object_of st.word)) r n.0

-- these words were read at the object, when the log had n entries
abbrev pub AreAt : Object → ℕ → List Sight → Type 0
AreAt o n sights = AllByRecursion (λ s. (s.object ≡ o) × (s.after ≡ n)) sights

-- looks at an object's word, which only add what was read to the view v
pub record LooksOn (v : View) (o : Object) (w : View) : Type 0 where
  pub more : List Sight
  pub there : AreAt o (length (own v).log) more
  pub view : w ≡ record v { parts = with_own (λ p. record p { sights = p.sights ++ more }) v.parts }

-- looks at an object's word, and then an event on a word that the view admits
pub record MadeAfterLooks (v : View) (o : Object) (op : Op) (place : ℕ) (reply : Reply) (new : View) : Type 0 where
  pub between : View
  pub looks : LooksOn v o between
  pub word : ℕ
  pub meets : Meets v o word
  pub changes : (next : ℕ) × (changed o op word ≡ Some (place, next, reply))
  pub above : IsBelow o place (own v).log
  pub view : new ≡ logged (entry_of v o op place reply) [] between
  pub possible : PossibleFor new
