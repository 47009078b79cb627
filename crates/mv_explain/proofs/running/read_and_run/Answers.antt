-- The input is the script that was run.
use Rattle.std.proofs.Common.{ℕ, List, subst}
use Rattle.mv_explain.specs.Run.{IsRunExplained}
use Rattle.mv_explain.proofs.Runs.{run_explained, run_whole}
use Rattle.mv_explain.proofs.running.read_and_run.Goals as goal

pub returns-in-Ok-clause-explained : goal.returns-in-Ok-clause-explained
returns-in-Ok-clause-explained g c =
    let texts = c.in-Ok.texts in
    run_explained (g.D.Source.left c.args.input.now) (g.D.Source.left c.read_limited.new.src) c.in_ok-bytes.bytes.items
    texts.report.items texts.journal.items
    (subst (λ (x : List ℕ). IsRunExplained x texts.report.items texts.journal.items) c.deref.ensures.value c.in-Ok.ensures)
    c.in_ok-bytes.ensures.whole

pub returns-in-Ok-clause-whole : goal.returns-in-Ok-clause-whole
returns-in-Ok-clause-whole g c =
    run_whole (g.D.Source.left c.args.input.now) (g.D.Source.left c.read_limited.new.src) c.in_ok-bytes.bytes.items
    c.in_ok-bytes.ensures.within c.in_ok-bytes.ensures.whole
