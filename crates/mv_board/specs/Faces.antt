-- What contracts see of a board and of a caller, and how a call changes a caller. Here b is a board, c a configuration, k a
-- caller's number, f a caller before a call, and g the same caller after it.
use Rattle.std.specs.Prelude.{◌≡◌, ◌≢◌, ℕ, suc, ◌+◌, ◌<◌, Bool, true, false, List, [], ◌∷◌, ◌++◌, length, slice_index, Some, if◌then◌else◌}
use Rattle.std.specs.List.{AllByRecursion, Contains}
use Rattle.atomic_table.specs.Seated.{TableId}
use Rattle.mv_ecb.specs.declared.operation.EcbOp.TheVariants as ecb_op
use Rattle.mv_ecb.specs.declared.operation.EcbReply.TheVariants as ecb_reply
use Rattle.mv_element.specs.declared.operation.ElementOp.TheVariants as element_op
use Rattle.mv_element.specs.declared.operation.ElementReply.TheVariants.{Given}
use Rattle.mv_latch.specs.Latch.{confirm_reply, is_settled}
use Rattle.mv_latch.specs.LatchSet.{list_of}
use Rattle.mv_latch.specs.declared.operation.LatchOp.TheVariants.{Confirm}
use Rattle.mv_latch.specs.declared.operation.Wake.{Wake}
use Rattle.mv_latch.specs.declared.request.Request.{Request}
use Rattle.mv_machine.specs.declared.entry.Entry.{Entry}
use Rattle.mv_machine.specs.declared.entry.Object.{Object}
use Rattle.mv_machine.specs.declared.entry.Object.TheVariants.{Ecb, Element, Latches}
use Rattle.mv_machine.specs.declared.entry.Op.{Op}
use Rattle.mv_machine.specs.declared.entry.Op.TheVariants as op_on
use Rattle.mv_machine.specs.declared.entry.Reply.{Reply}
use Rattle.mv_machine.specs.declared.entry.Reply.TheVariants as reply_of
use Rattle.mv_machine.specs.declared.packing.WordState.{WordState}
use Rattle.mv_machine.specs.Packing.{unpack, reply_in}
use Rattle.mv_machine.specs.Legal.{of}
use Rattle.mv_machine.specs.Parts.{IsBelow, Had}
use Rattle.mv_config.specs.Setup.{Setup, owner_of, element_owner, element_count}
use Rattle.mv_machine.specs.System.{System}
use Rattle.mv_machine.specs.Told.{told}
use Rattle.mv_board.specs.declared.caller.Moved.{Moved}
use Rattle.mv_board.specs.declared.view.Part.{Part}
use Rattle.mv_board.specs.declared.view.Sight.{Sight}
use Rattle.mv_board.specs.declared.watch.Watch.{Watch}
use Rattle.mv_board.specs.declared.watch.Watch.TheVariants as watch
use Rattle.mv_machine.specs.Parked.{parked}
use Rattle.mv_machine.specs.Kept.{HasMade}
use Rattle.mv_board.specs.Steps.{AreAt, is_ready}
use Rattle.mv_board.specs.View.{off}

-- what contracts see of a board: the id of its table, and its configuration
pub record BoardFace : Type 0 where
  pub table : TableId
  pub config : Setup

-- what contracts see of a caller: the table at which it has its seat, the configuration, its number, and what it did and observed
pub record CallerFace : Type 0 where
  pub table : TableId
  pub about : List Setup
  pub number : ℕ
  -- the number of events that it may still make, and the number of entries for which its log has room
  pub left : ℕ
  pub room : ℕ
  -- its entries, the wakes that each of its events on the latch set showed it, and the last of these
  pub log : List Entry
  pub told : List (List Wake)
  pub wakes : List Wake
  -- each word that it read without an event, the lists that it gave back without an event, and the watches that it saw ready
  pub met : List Sight
  pub returned : List (List (List Request))
  pub ready : List Watch

-- the caller is one of this board
abbrev pub IsOf : BoardFace → CallerFace → Type 0
IsOf b f = (f.table ≡ b.table) × (f.about ≡ b.config ∷ [])

-- f and g are the same caller of the same board
pub record IsSame (f g : CallerFace) : Type 0 where
  pub table : g.table ≡ f.table
  pub about : g.about ≡ f.about
  pub number : g.number ≡ f.number

-- f is caller k of a new board, with all its events left and room for their entries
pub record IsFresh (b : BoardFace) (k : ℕ) (f : CallerFace) : Type 0 where
  pub board : IsOf b f
  pub number : f.number ≡ k
  pub left : f.left ≡ slice_index b.config.budgets k
  pub room : f.room ≡ f.left
  pub log : f.log ≡ []
  pub told : f.told ≡ []
  pub wakes : f.wakes ≡ []
  pub met : f.met ≡ []
  pub returned : f.returned ≡ []
  pub ready : f.ready ≡ []

-- these are the callers of a new board, in order from number k on
abbrev pub AreFresh : BoardFace → ℕ → List CallerFace → Type 0
AreFresh b k [] = Unit {0}
AreFresh b k (f ∷ fs) = IsFresh b k f × AreFresh b (suc k) fs

-- what an event shows its caller: an event on the latch set shows its wakes, any other shows nothing
abbrev pub Shows : Object → CallerFace → CallerFace → Type 0
Shows Latches f g = g.told ≡ f.told ++ g.wakes ∷ []
Shows o f g = (g.told ≡ f.told) × (g.wakes ≡ f.wakes)

-- the words that an event reads before it takes effect: only words of its own object, and none on the latch set; words read
-- earlier stay recorded
abbrev pub LooksAt : Object → CallerFace → CallerFace → Type 0
LooksAt Latches f g = g.met ≡ f.met
LooksAt o f g = (more : List Sight) × (g.met ≡ f.met ++ more) × AreAt o (length f.log) more

-- The caller made one event at this place, which is above the places of its earlier events on the object, and no other event.
pub record HappenedAt (f : CallerFace) (o : Object) (place : ℕ) (op : Op) (reply : Reply) (g : CallerFace) : Type 0 where
  pub same : IsSame f g
  pub above : IsBelow o place f.log
  pub logged : g.log ≡ f.log ++ record { caller = f.number; object = o; place = place; op = op; reply = reply } ∷ []
  pub left : g.left + 1 ≡ f.left
  pub room : g.room + 1 ≡ f.room
  pub shown : Shows o f g
  pub met : LooksAt o f g
  pub returned : g.returned ≡ f.returned
  pub ready : g.ready ≡ off o op f.ready

-- the caller made one event, at some place
abbrev pub Happened : CallerFace → Object → Op → Reply → CallerFace → Type 0
Happened f o op reply g = (place : ℕ) × HappenedAt f o place op reply g

-- The caller read the word w of the object, and made no event. The word's place is above those of the caller's own events on that
-- object. What becomes of `ready` is left to the definitions that use this one.
pub record Found (f : CallerFace) (o : Object) (w : ℕ) (g : CallerFace) : Type 0 where
  pub same : IsSame f g
  pub place : ℕ
  pub state : WordState
  pub unpacks : unpack o w ≡ Some (place, state)
  pub above : IsBelow o place f.log
  pub met : g.met ≡ f.met ++ record { object = o; word = w; after = length f.log } ∷ []
  pub log : g.log ≡ f.log
  pub left : g.left ≡ f.left
  pub room : g.room ≡ f.room
  pub told : g.told ≡ f.told
  pub wakes : g.wakes ≡ f.wakes
  pub returned : g.returned ≡ f.returned

-- an exchange that succeeded: the event has the place that is packed in the expected word and the reply to the state in it, and
-- the caller read no other word before it
pub record Exchanged (f : CallerFace) (o : Object) (op : Op) (expected : ℕ) (reply : Reply) (g : CallerFace) : Type 0 where
  pub place : ℕ
  pub state : WordState
  pub unpacks : unpack o expected ≡ Some (place, state)
  pub replies : reply_in op state ≡ Some reply
  pub happened : HappenedAt f o place op reply g
  pub met : g.met ≡ f.met

-- an exchange that failed: the caller read another word than the expected one
pub record Missed (f : CallerFace) (o : Object) (expected : ℕ) (moved : Moved) (g : CallerFace) : Type 0 where
  pub other : moved.0 ≢ expected
  pub found : Found f o moved.0 g
  pub ready : g.ready ≡ f.ready

-- ---- looks at what a caller waits for

-- the caller may watch this: its own block, its own element, or a request that it made
abbrev pub MayWatch : Setup → CallerFace → Watch → Type 0
MayWatch c f (watch.Ecb n) = (n < length c.owners) × (owner_of c n ≡ f.number)
MayWatch c f (watch.Element n) = (n < element_count c) × (element_owner c n ≡ f.number)
MayWatch c f (watch.Latch latch id) = HasMade latch id f.log

-- the listed watches, with this one appended if it is ready
abbrev pub with_watch : Bool → Watch → List Watch → List Watch
with_watch is w ws = if is then ws ++ w ∷ [] else ws

-- the caller read the object's word, and the answer says whether the state in it is ready
pub record PeekedAt (f : CallerFace) (o : Object) (w : Watch) (is : Bool) (g : CallerFace) : Type 0 where
  pub word : ℕ
  pub found : Found f o word g
  pub answer : is ≡ is_ready found.state
  pub ready : g.ready ≡ with_watch is w f.ready

-- the caller took the lists of the latch set and gave them back unchanged, and the answer says whether the request no longer
-- waits
pub record PeekedIn (f : CallerFace) (latch id : ℕ) (is : Bool) (g : CallerFace) : Type 0 where
  pub lists : List (List Request)
  pub answer : is ≡ is_settled (confirm_reply f.number id (list_of lists latch))
  pub returned : g.returned ≡ f.returned ++ lists ∷ []
  pub ready : g.ready ≡ with_watch is (watch.Latch latch id) f.ready
  pub same : IsSame f g
  pub log : g.log ≡ f.log
  pub left : g.left ≡ f.left
  pub room : g.room ≡ f.room
  pub told : g.told ≡ f.told
  pub wakes : g.wakes ≡ f.wakes
  pub met : g.met ≡ f.met

-- the caller looked at what a watch names
abbrev pub Peeks : CallerFace → Watch → Bool → CallerFace → Type 0
Peeks f (watch.Ecb n) is g = PeekedAt f (Ecb n) (watch.Ecb n) is g
Peeks f (watch.Element n) is g = PeekedAt f (Element n) (watch.Element n) is g
Peeks f (watch.Latch latch id) is g = PeekedIn f latch id is g

-- ---- what a listed watch promises of the reply

-- whether a reply says that the pause was given its code
abbrev pub is_given : Reply → Bool
is_given (reply_of.Element (Given code next)) = true
is_given _ = false

-- whether a reply says that the block is complete
abbrev pub is_complete_reply : Reply → Bool
is_complete_reply (reply_of.Ecb (ecb_reply.Complete code)) = true
is_complete_reply _ = false

-- whether a reply says that the request no longer waits
abbrev pub is_settled_reply : Reply → Bool
is_settled_reply (reply_of.Latch r) = is_settled r
is_settled_reply _ = false

-- If the watch of the object is listed, the reply is as it promises: Complete to the Settle of a block, Given to the Resume of
-- the pause of an element that parked, and Granted or Gone to the Confirm of a request.
abbrev pub IsAsListed : CallerFace → Object → Op → Reply → Type 0
IsAsListed f (Ecb n) (op_on.Ecb ecb_op.Settle) r = Contains f.ready (watch.Ecb n) → is_complete_reply r ≡ true
IsAsListed f (Element n) (op_on.Element (element_op.Resume g)) r = Contains f.ready (watch.Element n) → parked n f.log ≡ Some g
    → is_given r ≡ true
IsAsListed f Latches (op_on.Latch (Confirm latch id)) r = Contains f.ready (watch.Latch latch id) → is_settled_reply r ≡ true
IsAsListed f o op r = Unit {0}

-- the last of these lists of wakes; empty if there is none
abbrev pub last_of : List (List Wake) → List Wake
last_of [] = []
last_of (ws ∷ []) = ws
last_of (ws ∷ more ∷ rest) = last_of (more ∷ rest)

-- ---- the end of a board

-- these are callers of this board, in order from number k on
abbrev pub AreInOrder : BoardFace → ℕ → List CallerFace → Type 0
AreInOrder b k [] = Unit {0}
AreInOrder b k (f ∷ fs) = IsOf b f × (f.number ≡ k) × AreInOrder b (suc k) fs

-- what a board that ends keeps of a caller that came back
abbrev pub part_of : CallerFace → Part
part_of f = record { caller = f.number; left = f.left; log = f.log; told = f.told; sights = f.met }

-- the log in a part
abbrev pub log_of : Part → List Entry
log_of p = p.log

-- what contracts see of a board that ends: the board, and the parts of the callers that came back so far, in order
pub record ClosingFace : Type 0 where
  pub board : BoardFace
  pub back : List Part

-- the callers of these parts have the numbers from k on, in order
abbrev pub AreNumbered : ℕ → List Part → Type 0
AreNumbered k [] = Unit {0}
AreNumbered k (p ∷ ps) = (p.caller ≡ k) × AreNumbered (suc k) ps

-- the log and the told list of a part are its caller's in the history, and each word that the caller read was the object's
-- between the caller's entries on that object
pub record IsPartIn (c : Setup) (history : List Entry) (p : Part) : Type 0 where
  pub logged : of p.caller history ≡ p.log
  pub told : told c p.caller history ≡ p.told
  pub met : AllByRecursion (λ m. Had c history p.caller m.after m.object m.word) p.sights

-- the log, the told list and the words of a caller are its own in the history
abbrev pub IsIn : Setup → List Entry → CallerFace → Type 0
IsIn c history f = IsPartIn c history (part_of f)

-- these are the numbers in the volumes of the configuration
abbrev pub AreHeld : Setup → System → List ℕ → Type 0
AreHeld c s numbers = (volume : ℕ) → volume < c.volumes → slice_index numbers volume ≡ (s.volume volume).state
