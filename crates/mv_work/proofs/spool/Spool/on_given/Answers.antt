use Rattle.std.proofs.Common.{◌≡◌, ℕ, ◌+◌, ◌-◌, ◌<◌, Bool, false, true, if◌then◌else◌, length, set, Option, refl, sym, ap, ◌∙◌, arith}
use Rattle.std.proofs.lemmas.List.{get_or_default, length-set}
use Rattle.std.proofs.lemmas.Result.{err_from_is_err_and}
use Rattle.mv_deck.specs.Deck.{JobData}
use Rattle.mv_plan.specs.Jobs.{job_at}
use Rattle.mv_plan.specs.SpoolTasks.{Named, job_named}
use Rattle.mv_calls.specs.Program.{wrong}
use Rattle.mv_work.specs.Initiating.{given_then, named_then, jobs_of_records, rounds_after, job_marks, left_of, steps_events}
use Rattle.mv_work.specs.Parts.{named_of}
use Rattle.mv_work.specs.Spool.{SpoolFace}
use Rattle.mv_plan.proofs.points.Initiator.{named_is}
use Rattle.mv_work.proofs.Rounds.{left_less, one_given, ended, unnamed, last_named, named_now}
use Rattle.mv_work.proofs.Waits.{comes_as, comes_astray, comes_nowhere, rests_less}
use Rattle.mv_work.proofs.spool.Spool.on_given.Given as bound
use Rattle.mv_work.proofs.spool.Spool.on_given.Goals as goal
use Rattle.mv_work.proofs.spool.Spool.on_given.Goals.{After-index}

-- what a code names, as the plan has it
named_so : {jobs n : ℕ} (code : ℕ) (o : Option Named) → jobs ≡ n → o ≡ job_named jobs code → o ≡ job_named n code
named_so code o count is = is ∙ ap (λ m. job_named m code) count

pub returns-in_err-deallocate-clause-comes : goal.returns-in_err-deallocate-clause-comes
returns-in_err-deallocate-clause-comes g c =
    let on = ap (λ (s : SpoolFace). s.board) c.self.view_is in
    let p = err_from_is_err_and c.from_residual.result c.from_residual.ensures.1 in
    rw p.1 (comes_astray (ended c.args.self.now c.args.me.now c.args.round c.args.given c.if-given-eq-NO_JOB.true
    (rw on at c.in_err-deallocate.ensures.served) refl))

pub returns-then-given-eq-NO_JOB-clause-comes : goal.returns-then-given-eq-NO_JOB-clause-comes
returns-then-given-eq-NO_JOB-clause-comes g c =
    let on = ap (λ (s : SpoolFace). s.board) c.self.view_is in record {
      come = ended c.args.self.now c.args.me.now c.args.round c.args.given c.if-given-eq-NO_JOB.true
          (rw on at c.in_ok-deallocate.ensures.served) refl;
    }

pub returns-in_err-named-clause-comes : goal.returns-in_err-named-clause-comes
returns-in_err-named-clause-comes g c =
    let p = err_from_is_err_and c.from_residual-in_err-named.result c.from_residual-in_err-named.ensures.1 in
    rw p.1 (comes_nowhere c.args.task.now
    (unnamed c.args.self.now c.args.me.now c.args.round c.args.given c.if-given-eq-NO_JOB.false
    (named_so c.args.given.code _ c.jobs-jobs.ensures.jobs c.in_err-named.ensures)) c.requires.task.rest)

pub returns-then-round-jobs-clause-comes : goal.returns-then-round-jobs-clause-comes
returns-then-round-jobs-clause-comes g c =
    comes_nowhere c.args.task.now
    (last_named c.args.self.now c.args.me.now c.args.round c.args.given c.if-given-eq-NO_JOB.false
    (named_so c.args.given.code _ c.jobs-jobs.ensures.jobs c.in_ok-named.ensures) (omega arith)) c.requires.task.rest

-- the job that a code names is one of the deck's
place_of : (g : bound.Over) (c : After-index g) → c.in_ok-named.named.job < length c.args.self.now.jobs
place_of g c = (named_is (length c.args.self.now.jobs) c.args.given.code (named_of c.in_ok-named.named)
    (sym (named_so c.args.given.code _ c.jobs-jobs.ensures.jobs c.in_ok-named.ensures))).0

-- what is left to do, by whether the job was given before
left_is : (g : bound.Over) (c : After-index g) (b : Bool) → c.index.result.now ≡ b
    → given_then c.args.self.now c.args.me.now (length c.args.self.now.jobs - c.args.round) c.args.given
    ≡ (if b then wrong else named_then c.args.self.now c.args.me.now (rounds_after c.args.self.now c.args.round) c.args.given.next
    (named_of c.in_ok-named.named))
left_is g c b is =
    let between = c.requires.between in
    let within = between.round in
    let size = between.size in
    let some = named_so c.args.given.code _ c.jobs-jobs.ensures.jobs c.in_ok-named.ensures in
    let place = place_of g c in
    named_now c.args.self.now c.args.me.now c.args.round c.args.given c.if-given-eq-NO_JOB.false some (omega arith) between.given
    (omega arith) b
    (get_or_default c.args.me.now.given.items c.in_ok-named.named.job false c.index.result.now (omega arith) ∙ sym c.index.ensures ∙ is)

-- and of what is left of the jobs, its own is gone, where it was not given before
left_one : (g : bound.Over) (c : After-index g) → c.index.result.now ≡ false → (f : JobData → ℕ)
    → left_of f (set c.args.me.now.given.items c.in_ok-named.named.job true) c.args.self.now.jobs
    + f (job_at c.args.self.now.jobs c.in_ok-named.named.job)
    ≡ left_of f c.args.me.now.given.items c.args.self.now.jobs
left_one g c is f =
    let given = c.args.me.now.given.items in
    let job = c.in_ok-named.named.job in
    let size = c.requires.between.size in
    let lt = place_of g c in
    left_less f given c.args.self.now.jobs job false (omega arith) size
    (get_or_default given job false c.index.result.now (omega arith) ∙ sym c.index.ensures ∙ is)

pub returns-then-index-clause-comes : goal.returns-then-index-clause-comes
returns-then-index-clause-comes g c =
    comes_nowhere c.args.task.now (left_is g (goal.at.returns-then-index-clause-comes g c).After-index true c.if-index.true)
    c.requires.task.rest

pub start_job-requires-clause-at : goal.start_job-requires-clause-at
start_job-requires-clause-at g c =
    let given = c.args.me.now.given.items in
    let job = c.in_ok-named.named.job in
    let between = c.requires.between in
    let within = between.round in
    let size = between.size in
    let lt = place_of g (goal.at.start_job-requires-clause-at g c).After-index in
    let less = left_one g (goal.at.start_job-requires-clause-at g c).After-index c.if-index.false job_marks in
    let room = between.room in record {
      index = between.index;
      round = omega arith;
      job = lt;
      size = length-set given job true ∙ size;
      given = one_given (jobs_of_records c.args.me.now.noted.jobs) given job between.given (omega arith);
      room = omega arith;
    }

pub start_job-requires-clause-task : goal.start_job-requires-clause-task
start_job-requires-clause-task g c =
    let within = c.requires.between.round in
    let less = left_one g (goal.at.start_job-requires-clause-task g c).After-index c.if-index.false (λ j. steps_events j.steps) in
    rests_less c.requires.task (omega arith)

pub returns-clause-comes : goal.returns-clause-comes
returns-clause-comes g c =
    comes_as (left_is g (goal.at.returns-clause-comes g c).After-index false c.if-index.false) c.start_job.ensures.comes
