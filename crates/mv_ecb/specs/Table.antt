-- The operations on an event control block, as a table of states.
use Rattle.std.specs.Prelude.{ℕ, ◌^◌, ◌<◌, ◌≤◌, ◌==◌, if◌then◌else◌}
use Rattle.mv_ecb.specs.declared.operation.EcbOp.{EcbOp}
use Rattle.mv_ecb.specs.declared.operation.EcbOp.TheVariants.{Arm, Extend, Settle, Clear, Post, Test}
use Rattle.mv_ecb.specs.declared.operation.EcbReply.{EcbReply}
use Rattle.mv_ecb.specs.declared.operation.EcbReply.TheVariants.{Armed, Linked, Open, Posted, Woke, Already, Word}
use Rattle.mv_ecb.specs.declared.operation.EcbReply.TheVariants as reply
use Rattle.mv_ecb.specs.Word.{EcbState, Zero, Waiting, Extended, Complete, word_of}

-- the bound of codes and of the numbers of exits, which have 30 bits
abbrev pub code_limit : ℕ
code_limit = 2 ^ 30

-- an operation's code is below the limit, and its exit is from 1 to below the limit
abbrev pub IsEcbOp : EcbOp → Type 0
IsEcbOp Arm = Unit {0}
IsEcbOp (Extend x) = (1 ≤ x) × (x < code_limit)
IsEcbOp Settle = Unit {0}
IsEcbOp Clear = Unit {0}
IsEcbOp (Post d) = d < code_limit
IsEcbOp Test = Unit {0}

-- the table, one line for each cell: the operation and the state give the new state and the reply
abbrev pub ecb_step : EcbOp → EcbState → EcbState × EcbReply
ecb_step Arm Zero = (Waiting, Armed)
ecb_step Arm Waiting = (Waiting, reply.Waiting)
ecb_step Arm (Extended y) = (Extended y, Linked y)
ecb_step Arm (Complete c) = (Complete c, reply.Complete c)
ecb_step (Extend x) Zero = (Extended x, Armed)
ecb_step (Extend x) Waiting = (Waiting, reply.Waiting)
ecb_step (Extend x) (Extended y) = (Extended y, Linked y)
ecb_step (Extend x) (Complete c) = (Complete c, reply.Complete c)
ecb_step Settle Zero = (Zero, Open)
ecb_step Settle Waiting = (Zero, Open)
ecb_step Settle (Extended y) = (Extended y, Linked y)
ecb_step Settle (Complete c) = (Complete c, reply.Complete c)
ecb_step Clear s = (Zero, Word (word_of s))
ecb_step (Post d) Zero = (Complete d, Posted)
ecb_step (Post d) Waiting = (Complete d, Woke 0)
ecb_step (Post d) (Extended y) = (Complete d, Woke y)
ecb_step (Post d) (Complete c) = (Complete c, Already c)
ecb_step Test s = (s, Word (word_of s))

-- the reply of a block that keeps its word to Arm, Extend and Settle, if a block without a code or an exit has the reply
-- `neither`
abbrev pub standing_reply : EcbReply → EcbState → EcbReply
standing_reply neither (Extended y) = Linked y
standing_reply neither (Complete c) = reply.Complete c
standing_reply neither _ = neither

-- Arm if the exit x is 0, otherwise Extend x
abbrev pub wait_step : ℕ → EcbState → EcbState × EcbReply
wait_step x s = if x == 0 then ecb_step Arm s else ecb_step (Extend x) s
