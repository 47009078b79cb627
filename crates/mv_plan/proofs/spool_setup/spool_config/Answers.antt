-- No rule refuses the configuration.
use Rattle.mv_plan.proofs.Words.{◌≡◌, ℕ, ◌≤◌, List, JobData, weight, length, refl, arith, length-map, job_data}
use Rattle.mv_deck.specs.Deck.{deck_data}
use Rattle.mv_deck.specs.Weight.{heaviest}
use Rattle.mv_plan.specs.SpoolSetup.{jobs_limit}
use Rattle.mv_plan.proofs.deck.Setup.{not_refused}
use Rattle.mv_plan.proofs.spool_setup.spool_config.Goals as goal

pub budgets_of-requires : goal.budgets_of-requires
budgets_of-requires c = record { light = c.requires.runnable.sound.light; initiators = (c.requires.runnable.some, c.requires.runnable.few) }

-- the weight allows so many jobs
few_jobs : (jobs initiators n : ℕ) (deck : List JobData) → weight deck initiators ≤ heaviest → length deck ≡ jobs → n ≡ jobs
    → n ≤ jobs_limit
few_jobs jobs initiators n deck light count same = omega arith

pub owners_of-requires : goal.owners_of-requires
owners_of-requires c =
    let jobs = length-map c.args.deck.now.jobs.items job_data in record {
      few = few_jobs _ c.args.initiators _ (deck_data c.args.deck.now) c.requires.runnable.sound.light jobs (omega arith);
      initiators = c.requires.runnable.few;
    }

pub exits_of-requires : goal.exits_of-requires
exits_of-requires c =
    let jobs = length-map c.args.deck.now.jobs.items job_data in record {
      few = few_jobs _ c.args.initiators _ (deck_data c.args.deck.now) c.requires.runnable.sound.light jobs (omega arith);
    }

pub of-requires : goal.of-requires
of-requires c =
    let jobs : length (deck_data c.args.deck.now) ≡ length c.args.deck.now.jobs.items = length-map c.args.deck.now.jobs.items job_data in
    not_refused (deck_data c.args.deck.now) c.args.initiators c.requires.runnable.some c.requires.runnable.few c.requires.runnable.sound.light _ c.len-jobs.result
    (omega (arith, jobs)) refl refl refl refl refl refl c.in_ok-budgets_of.ensures c.in_ok-owners_of.ensures c.in_ok-exits_of.ensures
