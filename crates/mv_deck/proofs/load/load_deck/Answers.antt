use Rattle.std.proofs.Common.{◌≡◌, arith, sym, ap, ◌∙◌, [], ◌∷◌, codes}
use Rattle.std.proofs.lemmas.Grind.{flat_map-append}
use Rattle.mv_deck.specs.Load.{ended, first_lines, load_text}
use Rattle.mv_deck.proofs.LoadText.{more_lines}
use Rattle.mv_deck.proofs.load.load_deck.Goals as goal

pub loop-job-preserved : goal.loop-job-preserved
loop-job-preserved c = rw (c.in_ok-push_job.ensures, c.loop-job.invariant) (more_lines c.loop-job.job)

pub returns : goal.returns
returns c = let all : c.loop-job.job ≡ c.args.jobs = omega arith in record {
  text = rw (c.in_ok-extend_from_slice.ensures.items, c.loop-job.invariant)
      (sym (flat_map-append ended (first_lines c.loop-job.job) (codes "//" ∷ [])) ∙ ap load_text all);
}
