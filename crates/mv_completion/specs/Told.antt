-- The configuration of a completion, and what each of its tasks has done.
use Rattle.std.specs.Prelude.{◌≡◌, ℕ, List, [], ◌∷◌}
use Rattle.std.specs.List.{AllByRecursion}
use Rattle.mv_wait.specs.Prelude.ecb_op.{Post}
use Rattle.mv_wait.specs.Prelude.{Entry, Object, Ecb, Op, of, Setup}
use Rattle.mv_wait.specs.Prelude.op_on
use Rattle.mv_attach.specs.Blocks.{blocks_setup}
use Rattle.mv_attach.specs.Entries.{Finds, IsPosted}

-- caller 0 may make two events, to wait for block 0, its own, and caller 1 one event, to post that block
abbrev pub completion_setup : Setup
completion_setup = blocks_setup (2 ∷ 1 ∷ []) (0 ∷ [])

-- the waiter reported this code: caller 0's wait found the block complete with it, and a post completed the block with it
pub record IsTold (code told : ℕ) (es : List Entry) : Type 0 where
  pub is : told ≡ code
  pub found : Finds (of 0 es) 0 code
  pub posted : IsPosted es 0 code

-- this operation posts no other code than `code`
abbrev pub PostsIt : ℕ → Object → Op → Type 0
PostsIt code (Ecb n) (op_on.Ecb (Post other)) = other ≡ code
PostsIt code object op = Unit {0}

-- none of these entries posts another code than `code`
abbrev pub PostIt : ℕ → List Entry → Type 0
PostIt code es = AllByRecursion (λ e. PostsIt code e.object e.op) es

-- the task of number k is back: it posted no other code, and if it is the waiter, it reported the code that its wait found
pub record HasDone (code k : ℕ) (log : List Entry) (told : ℕ) : Type 0 where
  pub posts : PostIt code log
  pub finds : k ≡ 0 → Finds log 0 told
