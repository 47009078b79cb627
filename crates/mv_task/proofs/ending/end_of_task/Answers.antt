use Rattle.std.proofs.Common.{◌≡◌, ◌+◌, ◌≤◌, Option, ℕ, length, sym, subst, arith}
use Rattle.mv_config.specs.Reach.{reach, release_cost}
use Rattle.mv_calls.specs.Endings.{end_of_task, used_elements}
use Rattle.mv_calls.specs.Services.{mother_events}
use Rattle.mv_wait.specs.Run.{IsServed, keeps}
use Rattle.mv_task.proofs.Ends.{mother_served, orphan_served, left_behind, still_of}
use Rattle.mv_task.proofs.ending.end_of_task.Goals as goal

pub end_of_job-requires-clause-task : goal.end_of_job-requires-clause-task
end_of_job-requires-clause-task g c =
    let s = c.args.station.now.config in
    let t = c.args.task.now in
    let left = subst (λ (m : Option ℕ). length (used_elements s (keeps t)) + release_cost s + mother_events s m ≤ t.left) c.in-Some.is
    c.requires.task.left in record {
      board = still_of c.args.station.now s t c.give_back_all.new.task c.give_back_all.ensures.closed c.requires.task.board;
      rest = c.give_back_all.ensures.rest;
      left = left_behind s (release_cost s + reach s c.in-Some.ecb) t c.give_back_all.new.task c.give_back_all.ensures.closed
          (omega arith);
    }

pub purge-requires : goal.purge-requires
purge-requires g c =
    let s = c.args.station.now.config in
    let t = c.args.task.now in
    let left = subst (λ (m : Option ℕ). length (used_elements s (keeps t)) + release_cost s + mother_events s m ≤ t.left) c.in-None.is
    c.requires.task.left in record {
      task = record {
        board = still_of c.args.station.now s t c.give_back_all.new.task c.give_back_all.ensures.closed c.requires.task.board;
        rest = c.give_back_all.ensures.rest;
        left = left_behind s (release_cost s) t c.give_back_all.new.task c.give_back_all.ensures.closed (omega arith);
      };
    }

pub returns-in-Some : goal.returns-in-Some
returns-in-Some g c =
    let a = c.args in
    let s = a.station.now.config in
    let t = a.task.now in
    let u = c.end_of_job.new.task in record {
      served = subst (λ (m : Option ℕ). IsServed (length (used_elements s (keeps t)) + release_cost s + mother_events s m)
          (end_of_task s a.requestor m a.code) (λ x. x ≡ c.end_of_job.result) t u) (sym c.in-Some.is)
          (mother_served s a.requestor a.code (λ x. x ≡ c.end_of_job.result) t c.give_back_all.new.task u c.in-Some.ecb
          c.give_back_all.ensures.closed c.requires.task.rest c.end_of_job.ensures.served);
    }

pub returns-in-None : goal.returns-in-None
returns-in-None g c =
    let a = c.args in
    let s = a.station.now.config in
    let t = a.task.now in
    let u = c.purge.new.task in record {
      served = subst (λ (m : Option ℕ). IsServed (length (used_elements s (keeps t)) + release_cost s + mother_events s m)
          (end_of_task s a.requestor m a.code) (λ x. x ≡ c.purge.result) t u) (sym c.in-None.is)
          (orphan_served s a.requestor a.code (λ x. x ≡ c.purge.result) t c.give_back_all.new.task u
          c.give_back_all.ensures.closed c.requires.task.rest c.purge.ensures.served);
    }
