use Rattle.std.proofs.Common.{◌≡◌, map, refl, ◌∙◌}
use Rattle.mv_deck.specs.Deck.{job_data, after_of}
use Rattle.mv_deck.specs.Form.{part_data}
use Rattle.mv_deck.proofs.Behind.{after_same}
use Rattle.mv_deck.proofs.reading.Reading.begin.Goals as goal

pub returns-clause-jobs : goal.returns-clause-jobs
returns-clause-jobs c = λ jobs same read.
    let before : map job_data c.finish.new.self.finished.items ≡ jobs = c.in_ok-finish.ensures.jobs ∙ read in
    let after : c.in_ok-after.after.items ≡ map (after_of jobs) (map part_data c.args.parts.now) = c.in_ok-after.ensures
    ∙ after_same c.args.self.now.names jobs same c.args.parts.now in
    rw (before, c.in_ok-from_slice.ensures.items, after, c.in_ok-finish.ensures.steps) refl
