use Rattle.std.proofs.Common.{◌≡◌, ℕ, ◌+◌, ◌<◌, ◌∷◌, List, Option, Result, Ok, Err, length, drop, ap, ◌∙◌, subst, refl, arith}
use Rattle.std.proofs.lemmas.List.{drop_more, drop_all}
use Rattle.std.proofs.lemmas.List.Sums.{sum_by-cons}
use Rattle.std.proofs.lemmas.Result.{err_from_is_err_and}
use Rattle.mv_board.specs.Faces.{CallerFace}
use Rattle.mv_calls.specs.Program.{followed}
use Rattle.mv_deck.specs.declared.deck.Step.{Step}
use Rattle.mv_deck.specs.declared.deck.Step.TheVariants.{Return}
use Rattle.mv_deck.specs.Weight.{step_events}
use Rattle.mv_latchset.specs.declared.token.LatchToken.{LatchToken}
use Rattle.mv_plan.specs.Jobs.{job_at}
use Rattle.mv_wait.proofs.Runs.{same_then}
use Rattle.mv_work.specs.declared.lost.Lost.{Lost}
use Rattle.mv_work.specs.declared.records.Noted.{Noted}
use Rattle.mv_work.specs.declared.running.Did.{Did}
use Rattle.mv_work.specs.declared.running.Did.TheVariants as did
use Rattle.mv_work.specs.Initiating.{step_marks, steps_events, steps_from, steps_marks, steps_then}
use Rattle.mv_work.specs.Noting.{steps_noted}
use Rattle.mv_work.specs.Ran.{Leads}
use Rattle.mv_work.specs.Spool.{SpoolFace}
use Rattle.mv_work.specs.Steps.{DoesStep, IsGoodDid, requests_of, step_at}
use Rattle.mv_work.proofs.Runs.{leads_all, leads_astray, leads_on, leads_same, leads_then, leads_under}
use Rattle.mv_work.proofs.Calls.{latch_asked}
use Rattle.mv_work.proofs.Steps.{still_at}
use Rattle.mv_work.proofs.Waits.{comes_astray, comes_on, rests_less}
use Rattle.mv_work.proofs.spool.Spool.run_on.Goals as goal

-- the steps that are left of a plan begin with this one, and so do their events and their marks
record IsNext (plan : List Step) (place : ℕ) (next : Step) : Type 0 where
  begins : drop place plan ≡ next ∷ drop (place + 1) plan
  events : steps_events (drop place plan) ≡ step_events next + steps_events (drop (place + 1) plan)
  marks : steps_marks (drop place plan) ≡ step_marks next + steps_marks (drop (place + 1) plan)

-- the steps of a job begin so with the one at this place
is_next : (s : SpoolFace) (job place : ℕ) → place < length (job_at s.jobs job).steps
    → IsNext (job_at s.jobs job).steps place (step_at s job place)
is_next s job place lt =
    let steps = (job_at s.jobs job).steps in
    let next = step_at s job place in
    let begins = drop_more steps place (Return 0) lt in record {
      begins = begins;
      events = ap steps_events begins ∙ sum_by-cons step_events next (drop (place + 1) steps);
      marks = ap steps_marks begins ∙ sum_by-cons step_marks next (drop (place + 1) steps);
    }

-- what a step came to, where its result is known
came_to : (s : SpoolFace) (job : ℕ) (tokens : List (Option LatchToken)) (place : ℕ) (notes : List Noted) (did known : Result Did Lost)
    (after : List Noted) (t u : CallerFace) → did ≡ known
    → DoesStep s.board.config job tokens place notes (step_at s job place) did after t u
    → DoesStep s.board.config job tokens place notes (step_at s job place) known after t u
came_to s job tokens place notes did known after t u is x =
    subst (λ r. DoesStep s.board.config job tokens place notes (step_at s job place) r after t u) is x

pub loop-place-init : goal.loop-place-init
loop-place-init g c = record { task = c.requires.task; at = c.requires.running.at; leads = leads_all _ c.args.task.now; same = refl }

pub do_step-requires-clause-task : goal.do_step-requires-clause-task
do_step-requires-clause-task g c =
    let size = c.step_count-place-end.ensures in
    let next = is_next c.args.self.now c.args.running.job c.loop-place.place (omega arith) in
    rests_less c.loop-place.invariant.task (omega arith)

pub do_step-requires-clause-room : goal.do_step-requires-clause-room
do_step-requires-clause-room g c =
    let size = c.step_count-place-end.ensures in
    let next = is_next c.args.self.now c.args.running.job c.loop-place.place (omega arith) in
    let room = c.loop-place.invariant.at.room in omega arith

pub loop-place-preserved : goal.loop-place-preserved
loop-place-preserved g c =
    let s = c.args.self.now in
    let r = c.args.running in
    let size = c.step_count-place-end.ensures in
    let next = is_next s r.job c.loop-place.place (omega arith) in
    let since = c.loop-place.invariant in
    let step = c.do_step.ensures in
    let does = came_to s r.job r.requests c.loop-place.place c.loop-place.me.noted.notes c.do_step.result (Ok did.Went)
    c.do_step.new.noted.notes c.loop-place.task c.do_step.new.task (c.in_ok-do_step.was ∙ ap (λ (d : Did). Ok d) c.in-Went.is) step.does in
    record {
      task = record { board = step.board; rest = step.rest; left = (let left = since.task.left in let few = step.few in omega arith) };
      at = still_at c.do_step.new.noted _ step.jobs (let few = step.room in omega arith) since.at;
      leads = rw step.jobs (leads_then (rw next.begins at since.leads) (leads_under _ (does _) step.rest));
      same = since.same;
    }

pub end_job-requires-clause-at : goal.end_job-requires-clause-at
end_job-requires-clause-at g c =
    let size = c.step_count-place-end.ensures in
    let next = is_next c.args.self.now c.args.running.job c.loop-place.place (omega arith) in
    let step = c.do_step.ensures in
    still_at c.do_step.new.noted 0 step.jobs (let marks = next.marks in let few = step.room in omega arith) c.loop-place.invariant.at

pub end_job-requires-clause-task : goal.end_job-requires-clause-task
end_job-requires-clause-task g c =
    let size = c.step_count-place-end.ensures in
    let next = is_next c.args.self.now c.args.running.job c.loop-place.place (omega arith) in
    let step = c.do_step.ensures in
    let left = c.loop-place.invariant.task.left in
    record { board = step.board; rest = step.rest; left = (let few = step.few in omega arith) }

pub end_job-requires-2-clause-at : goal.end_job-requires-2-clause-at
end_job-requires-2-clause-at g c = still_at c.loop-place.me.noted 0 refl (omega arith) c.loop-place.invariant.at

pub end_job-requires-2-clause-task : goal.end_job-requires-2-clause-task
end_job-requires-2-clause-task g c = rests_less c.loop-place.invariant.task (omega arith)

pub returns-in-Ended-clause-comes : goal.returns-in-Ended-clause-comes
returns-in-Ended-clause-comes g c =
    let s = c.args.self.now in
    let r = c.args.running in
    let size = c.step_count-place-end.ensures in
    let next = is_next s r.job c.loop-place.place (omega arith) in
    let step = c.do_step.ensures in
    let does = came_to s r.job r.requests c.loop-place.place c.loop-place.me.noted.notes c.do_step.result (Ok (did.Ended c.in-Ended.end))
    c.do_step.new.noted.notes c.loop-place.task c.do_step.new.task (c.in_ok-do_step.was ∙ ap (λ (d : Did). Ok d) c.in-Ended.is) step.does in
    comes_on (leads_on _ (rw next.begins at c.loop-place.invariant.leads) (does _)) (rw step.jobs at c.end_job.ensures.comes)

pub returns-in_err-do_step-clause-comes : goal.returns-in_err-do_step-clause-comes
returns-in_err-do_step-clause-comes g c =
    let s = c.args.self.now in
    let r = c.args.running in
    let size = c.step_count-place-end.ensures in
    let next = is_next s r.job c.loop-place.place (omega arith) in
    let does = came_to s r.job r.requests c.loop-place.place c.loop-place.me.noted.notes c.do_step.result (Err _)
    c.do_step.new.noted.notes c.loop-place.task c.do_step.new.task c.in_err-do_step.was c.do_step.ensures.does in
    let p = err_from_is_err_and c.from_residual.result c.from_residual.ensures.1 in
    rw p.1 (comes_astray (leads_astray _ (rw next.begins at c.loop-place.invariant.leads) (does _)))

pub returns-in-Asks-clause-comes : goal.returns-in-Asks-clause-comes
returns-in-Asks-clause-comes g c =
    let s = c.args.self.now in
    let r = c.args.running in
    let size = c.step_count-place-end.ensures in
    let next = is_next s r.job c.loop-place.place (omega arith) in
    let since = c.loop-place.invariant in
    let step = c.do_step.ensures in
    let was = c.requires.running in
    let does = came_to s r.job r.requests c.loop-place.place c.loop-place.me.noted.notes c.do_step.result
    (Ok (did.Asks c.in-Asks.latch c.in-Asks.mode)) c.do_step.new.noted.notes c.loop-place.task c.do_step.new.task
    (c.in_ok-do_step.was ∙ ap (λ (d : Did). Ok d) c.in-Asks.is) step.does in
    let costs = ap step_events does.0 in
    let same_left = ap (λ (u : CallerFace). u.left) does.2 in
    let left = since.task.left in
    let all = rw (next.begins, does.0) at since.leads in record {
      come = record {
        same = same_then c.args.task.now c.loop-place.task c.do_step.new.task (leads_same since.leads since.task.rest) step.same;
        task = record { board = step.board; rest = step.rest; left = omega arith };
        fits = (
          (
            record {
              at = still_at c.do_step.new.noted _ step.jobs (let few = step.room in omega arith) since.at;
              next = rw since.same was.next;
              kept = was.kept;
            },
            subst IsGoodDid c.in-Asks.is c.in_ok-do_step.ensures.end,
          ),
          refl,
        );
        leads = rw (does.2, does.1, step.jobs, c.requestor-requestor.ensures) (subst (λ call. Leads (steps_from s c.args.me.now r r.step
            (requests_of r.requests)) call c.args.task.now c.loop-place.task)
            (latch_asked s.board.config c.in-Asks.latch (r.job + 1) c.in-Asks.mode _ _) all);
      };
    }

pub returns-clause-comes : goal.returns-clause-comes
returns-clause-comes g c =
    let s = c.args.self.now in
    let r = c.args.running in
    let since = c.loop-place.invariant in
    let now = c.loop-place.me in
    let steps = (job_at s.jobs r.job).steps in
    let size = c.step_count-place-end.ensures in
    comes_on (subst (λ ss. Leads (steps_from s c.args.me.now r r.step (requests_of r.requests))
    (followed (steps_noted s.board.config r.job (requests_of r.requests) c.loop-place.place now.noted.notes ss) (steps_then s now r))
    c.args.task.now c.loop-place.task)
    (drop_all c.loop-place.place steps (omega arith)) since.leads) c.end_job-2.ensures.comes
