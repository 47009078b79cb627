-- The input is the text that was explained.
use Rattle.std.proofs.Common.{ℕ, List, subst}
use Rattle.mv_explain.specs.Explained.{IsExplained}
use Rattle.mv_explain.proofs.Endings.{told_explained, told_whole}
use Rattle.mv_explain.proofs.explaining.read_and_explain.Goals as goal

pub returns-in-Ok-clause-explained : goal.returns-in-Ok-clause-explained
returns-in-Ok-clause-explained g c =
    told_explained (g.D.Source.left c.args.input.now) (g.D.Source.left c.read_limited.new.src) c.in_ok-bytes.bytes.items
    c.in-Ok.text.items (subst (λ (x : List ℕ). IsExplained x c.in-Ok.text.items) c.deref.ensures.value c.in-Ok.ensures)
    c.in_ok-bytes.ensures.whole

pub returns-in-Ok-clause-whole : goal.returns-in-Ok-clause-whole
returns-in-Ok-clause-whole g c =
    told_whole (g.D.Source.left c.args.input.now) (g.D.Source.left c.read_limited.new.src) c.in_ok-bytes.bytes.items
    c.in_ok-bytes.ensures.within c.in_ok-bytes.ensures.whole
