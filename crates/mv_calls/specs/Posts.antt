-- Posts of event control blocks, each with the posts of its exit, and these with the posts of their exits.
use Rattle.std.specs.Prelude.{ℕ, suc, zero, ◌==◌, Bool, true, false, ◌&&◌, List, [], ◌∷◌, length, Option, Some, None, option_map}
use Rattle.std.specs.Prelude.{option_and_then, if◌then◌else◌}
use Rattle.mv_ecb.specs.declared.operation.EcbOp.TheVariants as ecb_op
use Rattle.mv_ecb.specs.declared.operation.EcbReply.{EcbReply}
use Rattle.mv_ecb.specs.declared.operation.EcbReply.TheVariants as ecb_reply
use Rattle.mv_latch.specs.declared.operation.Wake.{Wake}
use Rattle.mv_machine.specs.declared.entry.Object.{Object}
use Rattle.mv_machine.specs.declared.entry.Object.TheVariants.{Ecb}
use Rattle.mv_machine.specs.declared.entry.Op.{Op}
use Rattle.mv_machine.specs.declared.entry.Op.TheVariants as op_on
use Rattle.mv_machine.specs.declared.entry.Reply.{Reply}
use Rattle.mv_machine.specs.declared.entry.Reply.TheVariants as reply_of
use Rattle.mv_machine.specs.Packing.{unpack, reply_in}
use Rattle.mv_config.specs.Setup.{Setup, targets_of}
use Rattle.mv_calls.specs.declared.outcomes.PostAnswer.{PostAnswer}
use Rattle.mv_calls.specs.declared.outcomes.PostAnswer.TheVariants as answer
use Rattle.mv_calls.specs.Keeping.{Kept}
use Rattle.mv_calls.specs.Program.{Program, Do, Done, Wrong, Call, and_then, on_ecb}

-- the rest of a program after the reply to a post
abbrev pub posting : {A : Type 0} → (PostAnswer → Program A) → EcbReply → Program A
posting f ecb_reply.Posted = f answer.Posted
posting f (ecb_reply.Woke x) = f answer.Woke
posting f (ecb_reply.Already c) = f (answer.Already c)
posting f reply = Wrong

-- the blocks that are posted after a first post: the targets of the exit that it started
abbrev pub posted_next : Setup → EcbReply → List ℕ
posted_next c (ecb_reply.Woke x) = targets_of c x
posted_next c reply = []

-- these blocks are posted in order, and then the program is done with this answer
abbrev pub each_posted : (ℕ → Program PostAnswer) → List ℕ → PostAnswer → Program PostAnswer
each_posted post [] a = Done a
each_posted post (e ∷ es) a = and_then (post e) (λ b. each_posted post es a)

-- a post, with exits followed this deep: depth first, each target with its own exit before the next target
abbrev pub post_within : ℕ → Setup → ℕ → ℕ → Program PostAnswer
post_within zero c code e = Wrong
post_within (suc depth) c code e =
    Do (Ecb e) (op_on.Ecb (ecb_op.Post code))
    (λ h. on_ecb h.entry.reply (λ r. posting (λ a. each_posted (post_within depth c code) (posted_next c r) a) r))

-- post: the answer is the outcome at the block itself. Exits lead to higher blocks, so no chain of exits is deeper than there
-- are blocks
abbrev pub post : Setup → ℕ → ℕ → Call PostAnswer
post c e code kept = post_within (length c.owners) c code e

-- ---- what a word lets a caller expect

-- the place and the reply that an operation has on an object with this word, if the word represents a state
abbrev pub expected_of : Object → Op → ℕ → Option (ℕ × Reply)
expected_of o op w = option_and_then (λ u. option_map (λ r. (u.0, r)) (reply_in op u.1)) (unpack o w)

-- whether an event has the place and the reply that were expected
abbrev pub is_expected : (Reply → Reply → Bool) → Option (ℕ × Reply) → ℕ → Reply → Bool
is_expected same None place reply = false
is_expected same (Some e) place reply = (e.0 == place) && same e.1 reply

-- whether two replies of blocks are the same reply to a post
abbrev pub same_posting : EcbReply → EcbReply → Bool
same_posting ecb_reply.Posted ecb_reply.Posted = true
same_posting (ecb_reply.Woke x) (ecb_reply.Woke y) = x == y
same_posting (ecb_reply.Already c) (ecb_reply.Already d) = c == d
same_posting x y = false

-- whether two replies of any kind are the same reply to a post of a block
abbrev pub same_post_reply : Reply → Reply → Bool
same_post_reply (reply_of.Ecb x) (reply_of.Ecb y) = same_posting x y
same_post_reply x y = false

-- A compare and swap: one event, which may be made only if the object's word is the expected one. The program continues by the reply.
abbrev pub tried : {A : Type 0} → (Reply → Reply → Bool) → Object → Op → ℕ → (Reply → Program A) → Program A
tried same o op expected f =
    Do o op (λ h. if is_expected same (expected_of o op expected) h.entry.place h.entry.reply then f h.entry.reply else Wrong)

-- try post: makes one post, which has to find the block as expected
abbrev pub try_post : ℕ → ℕ → ℕ → Call PostAnswer
try_post e expected code kept =
    tried same_post_reply (Ecb e) (op_on.Ecb (ecb_op.Post code)) expected (λ r. on_ecb r (posting (λ a. Done a)))

-- ---- posts that wakes ask for

-- a wake with a block posts the block, a wake without one posts nothing; then the program `last` follows
abbrev pub wake_posted : {A : Type 0} → Setup → Option ℕ → ℕ → Kept → Program A → Program A
wake_posted c None code kept last = last
wake_posted c (Some e) code kept last = and_then (post c e code kept) (λ p. last)

-- the blocks of these wakes are posted in order, and then the program `last` follows
abbrev pub wakes_posted : {A : Type 0} → Setup → List Wake → Kept → Program A → Program A
wakes_posted c [] kept last = last
wakes_posted c (w ∷ ws) kept last = wake_posted c w.ecb w.code kept (wakes_posted c ws kept last)
