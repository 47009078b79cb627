-- Which histories of the spool can be continued to a run. A task is doomed if no replies can bring its program to its answer.
use Rattle.std.specs.Prelude.{◌≡◌, ℕ, ◌+◌, ◌<◌, ◌≤◌, List, [], ◌∷◌, ◌++◌, length, ◌⊎◌}
use Rattle.std.specs.List.{AllByRecursion}
use Rattle.mv_ecb.specs.declared.operation.EcbOp.TheVariants as ecb_op
use Rattle.mv_ecb.specs.declared.operation.EcbReply.TheVariants as ecb_reply
use Rattle.mv_machine.specs.declared.entry.Entry.{Entry}
use Rattle.mv_machine.specs.declared.entry.Object.TheVariants.{Ecb}
use Rattle.mv_machine.specs.declared.entry.Op.TheVariants as op_on
use Rattle.mv_machine.specs.declared.entry.Reply.TheVariants as reply_of
use Rattle.mv_calls.specs.Program.{Program, Heard, IsDoneOn}
use Rattle.mv_calls.specs.Runs.{left_in}
use Rattle.mv_deck.specs.Deck.{JobData}
use Rattle.mv_deck.specs.Weight.{weight}
use Rattle.mv_plan.specs.SpoolRun.{Follows, IsRun}
use Rattle.mv_plan.specs.SpoolSetup.{spool_setup, end_for_scheduler}
use Rattle.mv_plan.specs.SpoolTasks.{task_program}

-- some events, each with some reply, bring the program to an answer
abbrev pub CanFinish : {A : Type 0} → Program A → Type 0
CanFinish {A} p = (events : List Heard) × (answer : A) × IsDoneOn p events answer

-- The history follows the plan, and what is left of each task's program can finish. Each task is looked at by itself: that all of them can
-- finish together is what the laws say.
pub record HasNoDoomedTask (deck : List JobData) (initiators : ℕ) (es : List Entry) : Type 0 where
  pub follows : Follows deck initiators es
  pub finish : (k : ℕ) → k < initiators + 3 → CanFinish (left_in (spool_setup deck initiators) (task_program deck initiators) k es)

-- some task can make its next event, and no task is doomed after it
abbrev pub HasNextEvent : List JobData → ℕ → List Entry → Type 0
HasNextEvent deck initiators es = (e : Entry) × HasNoDoomedTask deck initiators (es ++ e ∷ [])

-- No deadlock after these entries: no task is doomed, and all tasks are done or one of them can make its next event. What a run keeps at
-- each moment.
pub record CannotDeadlock (deck : List JobData) (initiators : ℕ) (es : List Entry) : Type 0 where
  pub undoomed : HasNoDoomedTask deck initiators es
  pub next : IsRun deck initiators es ⊎ HasNextEvent deck initiators es

-- the history has at most as many entries as the deck weighs, and with some more it is a run
pub record ExtendsToARun (deck : List JobData) (initiators : ℕ) (es : List Entry) : Type 0 where
  pub short : length es ≤ weight deck initiators
  pub rest : List Entry
  pub run : IsRun deck initiators (es ++ rest)

-- The entry is no early settle: if it settles a job's end for the scheduler, it does not find that block open. The scheduler waits for the
-- ends of all jobs that an AFTER names and settles each once, so a settle that finds one open dooms it.
abbrev pub IsNoEarlySettle : List JobData → Entry → Type 0
IsNoEarlySettle deck e = (j : ℕ) → j < length deck → e.object ≡ Ecb (end_for_scheduler (length deck) j) → e.op ≡ op_on.Ecb ecb_op.Settle
    → e.reply ≡ reply_of.Ecb ecb_reply.Open → ⊥

-- no entry is an early settle
abbrev pub HasNoEarlySettle : List JobData → List Entry → Type 0
HasNoEarlySettle deck es = AllByRecursion (IsNoEarlySettle deck) es
