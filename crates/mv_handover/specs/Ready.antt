-- A task between two calls, what a call adds to its log, and what each task has done when it is back.
use Rattle.std.specs.Prelude.{◌≡◌, ℕ, ◌+◌, ◌<◌, false, List, [], ◌∷◌, ◌++◌, length, slice_index_or, Vec}
use Rattle.std.specs.List.{AllByRecursion}
use Rattle.std.proofs.Common.{Global}
use Rattle.mv_wait.specs.Prelude.{EcbOp, code_limit, Entry, Ecb, owner_of, BoardFace, CallerFace, IsOf, kept_of, IsAtRest}
use Rattle.mv_wait.specs.Prelude.ecb_op.{Arm, Settle, Clear, Post}
use Rattle.mv_wait.specs.Prelude.ecb_reply.{Complete}
use Rattle.mv_wait.specs.Prelude.op_on
use Rattle.mv_wait.specs.Prelude.reply_of
use Rattle.mv_attach.specs.Rooms.{HasRoom}
use Rattle.mv_handover.specs.Setup.{slots, slots_setup, HasSlots}
use Rattle.mv_handover.specs.Slots.{posts, takes, part}

-- this is task k of a hand-over on this board; it is at rest, and holds no block extended
pub record CanHandOver (b : BoardFace) (k : ℕ) (t : CallerFace) : Type 0 where
  pub config : HasSlots b.config
  pub task : IsOf b t
  pub number : t.number ≡ k
  pub rest : IsAtRest t.log
  pub plain : (e : ℕ) → (kept_of t.number t.log).extended e ≡ false

-- this is task k of a hand-over, and it has made no event
abbrev pub IsNew : BoardFace → ℕ → CallerFace → Type 0
IsNew b k t = CanHandOver b k t × (t.log ≡ [])

-- the block exists, and is the task's own
abbrev pub IsOwn : BoardFace → ℕ → CallerFace → Type 0
IsOwn b ecb t = (ecb < 8) × (owner_of b.config ecb ≡ t.number)

-- ---- calls

-- the task made these entries, and no others
pub record Added (es : List Entry) (t u : CallerFace) : Type 0 where
  pub number : u.number ≡ t.number
  pub logged : u.log ≡ t.log ++ es
  pub left : u.left + length es ≡ t.left

-- the entry is this operation on this block
pub record IsOn (ecb : ℕ) (op : EcbOp) (e : Entry) : Type 0 where
  pub object : e.object ≡ Ecb ecb
  pub makes : e.op ≡ op_on.Ecb op

-- the task posted this block with this code
pub record Put (ecb code : ℕ) (t u : CallerFace) : Type 0 where
  pub entry : Entry
  pub added : Added (entry ∷ []) t u
  pub post : IsOn ecb (Post code) entry

-- the task waited for this block, found it complete with this code, and cleared it
pub record Took (ecb code : ℕ) (t u : CallerFace) : Type 0 where
  pub first : Entry
  pub second : Entry
  pub third : Entry
  pub added : Added (first ∷ second ∷ third ∷ []) t u
  pub arm : IsOn ecb Arm first
  pub settle : IsOn ecb Settle second
  pub found : second.reply ≡ reply_of.Ecb (Complete code)
  pub clear : IsOn ecb Clear third

-- ---- tasks that are back

-- the producer put these items, each into its slot
pub record HasPut (b : BoardFace) (items : List ℕ) (t : CallerFace) : Type 0 where
  pub ready : CanHandOver b 0 t
  pub posts : (s : ℕ) → s < slots → posts s t.log ≡ part s items

-- the consumer took these items, each out of its slot, and put none
pub record HasTaken (b : BoardFace) (items : List ℕ) (t : CallerFace) : Type 0 where
  pub ready : CanHandOver b 1 t
  pub takes : (s : ℕ) → s < slots → takes s t.log ≡ part s items
  pub posts : (s : ℕ) → s < slots → posts s t.log ≡ []

-- ---- the work of both tasks

-- there is a room for each of the two tasks, and the consumer's is large enough
pub record AreRooms (count : ℕ) (rooms : Vec (Vec ℕ Global) Global) : Type 0 where
  pub two : length rooms.items ≡ 2
  pub room : (d : Vec ℕ Global) → HasRoom count (slice_index_or rooms.items 1 d)

-- what task k requires before it starts
pub record CanStart (b : BoardFace) (items : List ℕ) (k : ℕ) (room : Vec ℕ Global) : Type 0 where
  pub config : b.config ≡ slots_setup (length items)
  pub codes : AllByRecursion (λ x. x < code_limit) items
  pub space : k ≡ 1 → HasRoom (length items) room

-- what task k has done when it is back: the producer put all items, and the consumer took as many
pub record HasDone (b : BoardFace) (items : List ℕ) (k : ℕ) (t : CallerFace) (taken : List ℕ) : Type 0 where
  pub put : k ≡ 0 → HasPut b items t
  pub took : k ≡ 1 → HasTaken b taken t
  pub count : k ≡ 1 → length taken ≡ length items
