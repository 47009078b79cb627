-- What goes through a block: the codes with which it is posted, and those that are taken out of it.
use Rattle.std.specs.Prelude.{ℕ, ◌+◌, ◌%◌, ◌==◌, List, [], ◌∷◌, ◌++◌, Option, Some, None, if◌then◌else◌}
use Rattle.std.specs.List.{filter_map}
use Rattle.mv_wait.specs.Prelude.{EcbOp, Entry, Object, Ecb, Op, Reply}
use Rattle.mv_wait.specs.Prelude.ecb_op.{Settle, Clear, Post}
use Rattle.mv_wait.specs.Prelude.ecb_reply.{Complete}
use Rattle.mv_wait.specs.Prelude.op_on
use Rattle.mv_wait.specs.Prelude.reply_of
use Rattle.mv_handover.specs.Setup.{slots}

-- the code, if this operation is a post of block n
abbrev pub post_code : ℕ → Object → Op → Option ℕ
post_code n (Ecb m) (op_on.Ecb (Post code)) = if m == n then Some code else None
post_code n o op = None

-- the codes of all posts of block n, in order
abbrev pub posts : ℕ → List Entry → List ℕ
posts n es = filter_map (λ e. post_code n e.object e.op) es

-- the code that is seen in a block: from a settle that finds the block complete until a clear
abbrev pub seen_by : EcbOp → Reply → Option ℕ → Option ℕ
seen_by Settle (reply_of.Ecb (Complete code)) seen = Some code
seen_by Clear reply seen = None
seen_by op reply seen = seen

-- the code that is seen in block n after one more entry
abbrev pub seen_with : ℕ → Option ℕ → Object → Op → Reply → Option ℕ
seen_with n seen (Ecb m) (op_on.Ecb op) reply = if m == n then seen_by op reply seen else seen
seen_with n seen o op reply = seen

-- the code that is seen in block n after these entries
abbrev pub seen_after : ℕ → Option ℕ → List Entry → Option ℕ
seen_after n seen [] = seen
seen_after n seen (e ∷ es) = seen_after n (seen_with n seen e.object e.op e.reply) es

-- the code that an operation takes out: a clear takes out the one that is seen
abbrev pub taken_by : EcbOp → Option ℕ → List ℕ
taken_by Clear (Some code) = code ∷ []
taken_by op seen = []

-- the code that an operation takes out of block n
abbrev pub taken_with : ℕ → Option ℕ → Object → Op → List ℕ
taken_with n seen (Ecb m) (op_on.Ecb op) = if m == n then taken_by op seen else []
taken_with n seen o op = []

-- the codes that are taken out of block n, in order: those with which it was found complete before a clear
abbrev pub takes_from : ℕ → Option ℕ → List Entry → List ℕ
takes_from n seen [] = []
takes_from n seen (e ∷ es) =
    taken_with n seen e.object e.op ++ takes_from n (seen_with n seen e.object e.op e.reply) es

-- the codes that a history takes out of block n
abbrev pub takes : ℕ → List Entry → List ℕ
takes n es = takes_from n None es

-- those items that go to slot s, if the items go to the slots in turn and the first of them is number i
abbrev pub part_from : ℕ → ℕ → List ℕ → List ℕ
part_from s i [] = []
part_from s i (x ∷ xs) = (if i % slots == s then x ∷ [] else []) ++ part_from s (i + 1) xs

-- those items that go to slot s, if the items go to the slots in turn
abbrev pub part : ℕ → List ℕ → List ℕ
part s xs = part_from s 0 xs
