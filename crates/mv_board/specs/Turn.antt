-- What each kind of step on the turn of the latch set says of the view of the seat that makes it.
use Rattle.std.specs.Prelude.{◌≡◌, ◌≢◌, ℕ, ◌<◌, ◌≤◌, true, [], ◌∷◌, length, Some}
use Rattle.std.specs.List.{AllByRecursion, Contains}
use mathlib.Core.Option.{some}
use Rattle.atomic_table.specs.Table.{Me, Step, rest}
use Rattle.mv_latch.specs.declared.operation.LatchOp.{LatchOp}
use Rattle.mv_latch.specs.Latch.{confirm_reply, is_settled}
use Rattle.mv_latch.specs.LatchSet.{list_of, latch_admitted, latch_step, wakes, IsNewId}
use Rattle.mv_machine.specs.declared.entry.Entry.{Entry}
use Rattle.mv_machine.specs.declared.entry.Object.TheVariants.{Latches}
use Rattle.mv_machine.specs.declared.entry.Op.TheVariants as op_on
use Rattle.mv_machine.specs.declared.entry.Reply.TheVariants as reply_of
use Rattle.mv_machine.specs.Kept.{allowed, HasMade}
use Rattle.mv_config.specs.Limits.{events_limit}
use Rattle.mv_machine.specs.Parts.{IsBelow}
use Rattle.mv_machine.specs.System.{latches_of}
use Rattle.mv_board.specs.declared.item.Item.{Item}
use Rattle.mv_board.specs.declared.item.Item.TheVariants.{Held, Sought}
use Rattle.mv_board.specs.declared.item.Lists.{Lists}
use Rattle.mv_board.specs.declared.view.Named.{Named}
use Rattle.mv_board.specs.declared.view.View.{View}
use Rattle.mv_board.specs.declared.watch.Watch.TheVariants as watch
use Rattle.mv_board.specs.Steps.{op_of, PossibleFor}
use Rattle.mv_board.specs.View.{own, logged, listed, with_turn, with_returned}

-- the lists, as the view that holds the turn names them
abbrev pub named_by : Lists → Named
named_by l = record { place = l.place; lists = l.latches.lists }

-- What a seat learns of the lists that it takes. Their place is above those of its own entries, and leaves room for an event if
-- one is left. There is one list for each latch of the configuration, and each latch of a request that the caller made exists.
-- The lists admit every operation that the caller's log allows, and a request whose watch is listed no longer waits.
pub record MeetsLists (v : View) (l : Lists) : Type 0 where
  pub above : IsBelow Latches l.place (own v).log
  pub room : 0 < (own v).left → l.place < events_limit
  pub new : (id : ℕ) → l.place ≤ id → IsNewId id l.latches.lists
  pub set : AllByRecursion (λ c. l.latches ≡ latches_of c l.latches.lists) v.about
  pub count : AllByRecursion (λ c. length l.latches.lists ≡ c.latches) v.about
  pub admits : AllByRecursion (λ c. (op : LatchOp) → allowed c (own v).caller (own v).log Latches (op_on.Latch op) ≡ true
      → latch_admitted (own v).caller op l.latches ≡ true) v.about
  pub made : (latch id : ℕ) → HasMade latch id (own v).log → latch < length l.latches.lists
  pub ready : (latch id : ℕ) → Contains v.ready (watch.Latch latch id)
      → is_settled (confirm_reply (own v).caller id (list_of l.latches.lists latch)) ≡ true

-- an exchange that takes the turn if it is free: the seat may then take the lists out of the slot; otherwise nothing changes
pub record Took (st : Step Item) (m : Me Item View) (r : ℕ) (n : Me Item View) : Type 0 where
  pub free : r ≡ 0 → (l : Lists) × (n.1 ≡ (0, Held l) ∷ m.1) × (n.0 ≡ with_turn (named_by l ∷ []) m.0) × MeetsLists m.0 l
  pub busy : r ≢ 0 → n ≡ m

-- the entry of the caller's event on the lists that its view names
abbrev pub latch_entry : View → LatchOp → Named → Entry
latch_entry v op t = record {
  caller = (own v).caller;
  object = Latches;
  place = t.place;
  op = op_on.Latch op;
  reply = reply_of.Latch (latch_step (own v).caller t.place op t.lists).1;
}

-- an exchange that gives the turn back with an event
pub record Gave (st : Step Item) (m : Me Item View) (r : ℕ) (n : Me Item View) : Type 0 where
  pub slots : n.1 ≡ rest m.1
  pub view : (op : LatchOp) (t : Named) → op_of st.said ≡ op_on.Latch op → m.0.turn ≡ t ∷ []
      → n.0 ≡ with_turn [] (logged (latch_entry m.0 op t) (wakes (own m.0).caller op t.lists ∷ []) m.0)
  pub possible : PossibleFor n.0

-- an exchange that gives the turn back without an event, after a look at one request
pub record Returned (st : Step Item) (m : Me Item View) (r : ℕ) (n : Me Item View) : Type 0 where
  pub slots : n.1 ≡ rest m.1
  pub view : (latch id : ℕ) (t : Named) → st.said ≡ some (Sought latch id) → m.0.turn ≡ t ∷ []
      → n.0 ≡ with_turn [] (with_returned t.lists
      (listed (is_settled (confirm_reply (own m.0).caller id (list_of t.lists latch))) (Some (watch.Latch latch id)) m.0))
