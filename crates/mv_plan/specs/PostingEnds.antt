-- The ends of jobs in a run: each is posted once to each of the job's three blocks, and a task that waits for it finds it.
use Rattle.std.specs.Prelude.{◌≡◌, ℕ, ◌+◌, ◌<◌, ◌==◌, List, [], ◌∷◌, length, map, Option, Some, None, ◌⊎◌, if◌then◌else◌}
use Rattle.std.specs.List.{AllByRecursion, filter_map}
use Rattle.mv_ecb.specs.declared.operation.EcbOp.TheVariants as ecb_op
use Rattle.mv_ecb.specs.declared.operation.EcbReply.TheVariants as ecb_reply
use Rattle.mv_machine.specs.declared.entry.Entry.{Entry}
use Rattle.mv_machine.specs.declared.entry.Object.{Object}
use Rattle.mv_machine.specs.declared.entry.Object.TheVariants.{Ecb}
use Rattle.mv_machine.specs.declared.entry.Op.{Op}
use Rattle.mv_machine.specs.declared.entry.Op.TheVariants as op_on
use Rattle.mv_machine.specs.declared.entry.Reply.{Reply}
use Rattle.mv_machine.specs.declared.entry.Reply.TheVariants as reply_of
use Rattle.mv_deck.specs.Deck.{JobData}
use Rattle.mv_plan.specs.Jobs.{end_of}
use Rattle.mv_plan.specs.SpoolSetup.{done, end_for_scheduler, end_for_writer}

-- the code and the reply of an event that is a post of block b
abbrev pub post_in : ℕ → Object → Op → Reply → Option (ℕ × Reply)
post_in b (Ecb m) (op_on.Ecb (ecb_op.Post code)) reply = if m == b then Some (code, reply) else None
post_in b object op reply = None

-- the codes and the replies of the posts of block b, in order
abbrev pub posts : ℕ → List Entry → List (ℕ × Reply)
posts b es = filter_map (λ e. post_in b e.object e.op e.reply) es

-- the codes of the posts of block b, in order
abbrev pub post_codes : ℕ → List Entry → List ℕ
post_codes b es = map (λ p. p.0) (posts b es)

-- if an event finds one of a job's two end blocks complete, it finds the job's end there
abbrev pub FindsEnd : List JobData → Entry → Type 0
FindsEnd deck e = (j code : ℕ) → j < length deck
    → (e.object ≡ Ecb (end_for_scheduler (length deck) j)) ⊎ (e.object ≡ Ecb (end_for_writer (length deck) j))
    → e.reply ≡ reply_of.Ecb (ecb_reply.Complete code) → code ≡ end_of deck j

-- Each of a job's three blocks is posted once, with the job's end; the post of the first starts the job's exit; and a task that
-- finds one of the other two complete finds the end there.
pub record EndsArePosted (deck : List JobData) (es : List Entry) : Type 0 where
  pub done : (j : ℕ) → j < length deck → posts (done (length deck) j) es ≡ (end_of deck j, reply_of.Ecb (ecb_reply.Woke (j + 1))) ∷ []
  pub scheduler : (j : ℕ) → j < length deck → post_codes (end_for_scheduler (length deck) j) es ≡ end_of deck j ∷ []
  pub writer : (j : ℕ) → j < length deck → post_codes (end_for_writer (length deck) j) es ≡ end_of deck j ∷ []
  pub found : AllByRecursion (FindsEnd deck) es
