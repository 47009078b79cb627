-- A spool: its blocks, and how far posts lead in its configuration.
use Rattle.std.proofs.Common.{rules, ◌≡◌, ℕ, ◌+◌, ◌*◌, ◌<◌, ◌≤◌, [], length, get_or, ap, ◌∙◌}
use Rattle.std.proofs.Common.{true, subst, arith}
use Rattle.std.specs.List.{AllByRecursion}
use Rattle.mv_board.specs.Faces.{CallerFace, IsFresh}
use Rattle.mv_deck.specs.declared.deck.After.{After}
use Rattle.mv_deck.specs.Operand.{most_after}
use Rattle.mv_deck.specs.Sound.{HasGoodNumbers}
use Rattle.mv_config.specs.Reach.{reach, release_cost}
use Rattle.mv_config.specs.Setup.{Setup, is_exit_of, owner_of}
use Rattle.mv_plan.specs.Jobs.{job_at}
use Rattle.mv_plan.specs.SpoolSetup.{block_owners, done, task_budgets}
use Rattle.mv_plan.proofs.deck.Ends.{sound_job}
use Rattle.mv_plan.proofs.deck.Planned.{planned, IsPlannedJob}
use Rattle.mv_plan.proofs.deck.Setup.{exit_source}
use Rattle.mv_machine.proofs.Lists.{all_map}
use Rattle.mv_work.specs.declared.need.Need.TheVariants as need
use Rattle.mv_work.specs.Meeting.{MayMeet}
use Rattle.mv_work.specs.Spool.{IsSpool, SpoolFace}
use Rattle.mv_work.specs.Steps.{BearsSteps}
use Rattle.mv_wait.specs.Run.{MayCall}
use Rattle.mv_work.proofs.Decks.{numbers_of}
use Rattle.mv_work.proofs.Reaches.{block_count, reach_alone, reach_done, release_cost_is}

module _ {s : SpoolFace} (spool : IsSpool s) where
  -- the numbers of a job's steps are in their ranges
  pub job_numbers : (j : ℕ) → AllByRecursion HasGoodNumbers (job_at s.jobs j).steps
  job_numbers j = numbers_of [] s.jobs j spool.sound.jobs_stand

  module _ (j : ℕ) (lt : j < length s.jobs) where
    job_is : IsPlannedJob (0 + j) (job_at s.jobs j)
    job_is = sound_job 0 s.jobs j (planned s.jobs s.initiators spool.sound).jobs lt

    -- a job waits for few jobs
    pub after_few : length (job_at s.jobs j).after ≤ most_after
    after_few = job_is.few

    -- of the deck
    pub after_earlier : AllByRecursion (λ (part : After). part.job < length s.jobs) (job_at s.jobs j).after
    after_earlier = all_map (λ (part : After) (is : part.job < 0 + j). omega arith) (job_at s.jobs j).after job_is.earlier

  pub block_there : (e : ℕ) → e < 4 * length s.jobs + s.initiators → e < length s.board.config.owners
  block_there e lt =
      let count : length s.board.config.owners ≡ 4 * length s.jobs + s.initiators = ap (λ (c : Setup). length c.owners) spool.config
      ∙ block_count (length s.jobs) s.initiators in omega arith

  -- a block of this task, which is not one that a job is done by
  pub block_own : (k e : ℕ) → e < 4 * length s.jobs + s.initiators → get_or (block_owners (length s.jobs) s.initiators) e 0 ≡ k
      → ((j : ℕ) → j < length s.jobs → e ≡ done (length s.jobs) j → ⊥) → MayMeet s.board.config k (need.Block e)
  block_own k e lt own apart = (
    block_there e lt,
    ap (λ (c : Setup). owner_of c e) spool.config ∙ own,
    λ starts.
        let at = exit_source (length s.jobs) e starts.0
        (subst (λ (c : Setup). is_exit_of c starts.0 e ≡ true) spool.config starts.1) in apart at.0 at.1 at.3,
  )

  -- a post that enters a job leads no further
  pub entered_cost : (j : ℕ) → j < length s.jobs → reach s.board.config j ≡ 1
  entered_cost j lt =
      ap (λ c. reach c j) spool.config ∙ reach_alone s.jobs s.initiators j (omega arith) (λ m low q. omega arith)

  -- nor does one that says that an initiator is idle
  pub idle_cost : (e : ℕ) → 4 * length s.jobs ≤ e → 0 < s.initiators → reach s.board.config e ≡ 1
  idle_cost e le some =
      ap (λ c. reach c e) spool.config ∙ reach_alone s.jobs s.initiators e (omega arith) (λ m low q. omega arith)

  -- the end of a job makes four events at most
  pub done_cost : (j : ℕ) → j < length s.jobs
      → release_cost s.board.config + reach s.board.config (done (length s.jobs) j) ≡ 4
  done_cost j lt =
      let purge : release_cost s.board.config ≡ 1 = ap release_cost spool.config ∙ release_cost_is s.jobs s.initiators in
      let post : reach s.board.config (done (length s.jobs) j) ≡ 3 = ap (λ c. reach c (done (length s.jobs) j)) spool.config
      ∙ reach_done s.jobs s.initiators j lt in omega arith

  -- the configuration has what steps name
  pub steps_borne : BearsSteps s.board.config
  steps_borne = (
    ap (λ (c : Setup). c.latches) spool.config,
    ap (λ (c : Setup). c.volumes) spool.config,
    ap release_cost spool.config ∙ release_cost_is s.jobs s.initiators,
  )

  -- a new task has the events of its budget
  pub fresh_left : (k : ℕ) (t : CallerFace) → IsFresh s.board k t → t.left ≡ get_or (task_budgets s.jobs s.initiators) k 0
  fresh_left k t fresh = fresh.left ∙ ap (λ (c : Setup). get_or c.budgets k 0) spool.config

  -- and is at rest
  pub fresh_rests : (k most : ℕ) (t : CallerFace) → IsFresh s.board k t → most ≤ get_or (task_budgets s.jobs s.initiators) k 0
      → MayCall s.board most t
  fresh_rests k most t fresh le =
      record { board = fresh.board; rest = search rules; left = (let left = fresh_left k t fresh in omega arith) }
