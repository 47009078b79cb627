use Rattle.std.proofs.Common.{◌+◌, drop, map, sum_by, sym, ap, ◌∙◌, arith}
use Rattle.std.proofs.lemmas.List.{drop_all, drop_more}
use Rattle.std.proofs.lemmas.List.Sums.{sum_by-cons}
use Rattle.mv_deck.specs.declared.deck.Job.{Job}
use Rattle.mv_deck.specs.Deck.{job_data}
use Rattle.mv_plan.specs.Jobs.{job_at, no_job}
use Rattle.mv_work.specs.Initiating.{job_marks, steps_marks}
use Rattle.mv_work.proofs.Decks.{job_count, job_read}
use Rattle.mv_work.proofs.initiator.marks_of_jobs.Goals as goal

pub loop-k-preserved : goal.loop-k-preserved
loop-k-preserved c =
    let deck = c.args.jobs.now in
    let jobs = map job_data deck in
    let k = c.loop-k.k in
    let job = c.index-jobs-k.result in
    let lt = c.loop-k-test.true in
    let count = job_count deck in
    let next = ap (λ js. sum_by job_marks js) (drop_more jobs k no_job (omega arith))
    ∙ sum_by-cons job_marks (job_at jobs k) (drop (k + 1) jobs) in
    let own = ap job_marks (job_read deck k job lt (sym c.index-jobs-k.is)) in
    let steps = ap steps_marks c.deref.ensures.value in
    let same = ap (λ (j : Job). steps_marks j.steps.items) c.index-jobs-k.is in
    let since = c.loop-k.invariant in omega arith

pub returns : goal.returns
returns c =
    let jobs = map job_data c.args.jobs.now in
    let count = job_count c.args.jobs.now in
    let last = ap (λ js. sum_by job_marks js) (drop_all c.loop-k.k jobs (omega arith)) in
    let since = c.loop-k.invariant in omega arith
