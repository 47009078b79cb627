use Rattle.std.proofs.Common.{ℕ, ◌+◌, ◌*◌, ◌-◌, ◌<◌, List, length, sym, ap, ◌∙◌, arith}
use Rattle.std.proofs.lemmas.List.{length-map}
use Rattle.mv_deck.specs.declared.deck.After.{After}
use Rattle.mv_plan.specs.Jobs.{job_at}
use Rattle.mv_plan.specs.SpoolSetup.{end_for_scheduler, scheduler}
use Rattle.mv_plan.specs.SpoolTasks.{ends_awaited, ends_of}
use Rattle.mv_work.specs.declared.need.Blocks.{Blocks}
use Rattle.mv_work.specs.declared.need.Need.TheVariants as need
use Rattle.mv_work.specs.declared.next.Next.TheVariants as next
use Rattle.mv_work.specs.declared.stage.SchedulerStage.TheVariants as stage
use Rattle.mv_work.specs.Needs.{IsWaitFor}
use Rattle.mv_work.specs.Scheduling.{SchedulerAsks, exit_set, scheduler_due, then_jobs}
use Rattle.mv_work.proofs.Calls.{blocks_fit}
use Rattle.mv_work.proofs.Dispatching.{ends_asked, is_none, is_some}
use Rattle.mv_work.proofs.Ranges.{ends_exist}
use Rattle.mv_work.proofs.Spools.{block_there}
use Rattle.mv_work.proofs.Waits.{asks_first, comes_as, rests_less}
use Rattle.mv_work.proofs.spool.Spool.on_entry.Goals as goal

pub returns-then-is_empty : goal.returns-then-is_empty
returns-then-is_empty g c =
    let s = c.args.self.now in
    comes_as (ap (λ (parts : List After).
    then_jobs s c.args.job (ends_awaited s.board.config (length s.jobs) parts (exit_set s c.args.job)))
    (sym c.after_of-after.ensures.parts ∙ is_none c.after_of-after.result.now c.if-is_empty.ensures)) c.set_exit.ensures

pub end_blocks-requires-clause-earlier : goal.end_blocks-requires-clause-earlier
end_blocks-requires-clause-earlier g c = rw (c.jobs.ensures.jobs, c.after_of-after.ensures.parts) c.after_of-after.ensures.earlier

pub returns : goal.returns
returns g c =
    let s = c.args.self.now in
    let j = c.args.job in
    let n = length s.jobs in
    let spool = c.jobs.ensures.spool in
    let after = (job_at s.jobs j).after in
    let read = c.after_of-after.result.now in
    let few = c.after_of-after.ensures.few in
    let some : 0 < length after = rw (← c.after_of-after.ensures.parts) (is_some (length read) c.if-is_empty.ensures) in
    let size = ap (λ (parts : List After). length parts) c.after_of-after.ensures.parts in
    let last = block_there spool (4 * n - 1) (omega arith) in
    let blocks : Blocks = record { count = length read; ecbs = c.end_blocks.result } in
    let all = length-map after (λ (part : After). end_for_scheduler n part.job) in
    let is : IsWaitFor (length after) (ends_of n after) blocks = record {
      count = size;
      blocks = c.end_blocks.ensures ∙ ap (λ n. ends_of n read) c.jobs.ensures.jobs ∙ ap (ends_of n) c.after_of-after.ensures.parts;
    } in
    let long = ap (λ (es : List ℕ). length es) is.blocks ∙ all in
    let asks : SchedulerAsks s (then_jobs s j (ends_awaited s.board.config n after (exit_set s j)))
    (2 * length after + scheduler_due s (stage.Ends j))
    (next.Wait (stage.Ends j) (need.Blocks blocks)) = record {
      asks = (
        ends_asked s j some is,
        record {
          numbers = omega arith;
          blocks = long;
          may = blocks_fit s.board.config is scheduler (omega arith)
              (ends_exist n (length s.board.config.owners) after (omega arith) c.after_of-after.ensures.earlier);
        },
        omega arith,
      );
    } in
    asks_first asks (rests_less c.requires.task (omega arith))
