-- The input is the text that was judged.
use Rattle.std.proofs.Common.{ℕ, List, subst}
use Rattle.mv_replay.specs.Course.{IsJudged}
use Rattle.mv_replay.specs.Judgement.{IsLegalJournal}
use Rattle.mv_replay.proofs.Reported.{told_text, told_legal}
use Rattle.mv_replay.proofs.reading.read_legal.Goals as goal

pub returns-clause-text : goal.returns-clause-text
returns-clause-text g c =
    told_text (g.D.Source.left c.args.input.now) (g.D.Source.left c.read_limited.new.src) c.in_ok-text.text.items c.in_ok-text.ensures.whole

pub returns-clause-whole : goal.returns-clause-whole
returns-clause-whole g c =
    told_legal (g.D.Source.left c.args.input.now) (g.D.Source.left c.read_limited.new.src) c.in_ok-text.text.items c.in_ok-judged.judged.count
    c.in_ok-text.ensures.within (subst (λ (x : List ℕ). IsLegalJournal x c.in_ok-judged.judged.count) c.deref.ensures.value
    c.in_ok-judged.ensures.legal) c.in_ok-text.ensures.whole

pub returns-clause-judged : goal.returns-clause-judged
returns-clause-judged g c =
    subst (λ (x : List ℕ). IsJudged c.args.command x c.in_ok-judged.judged) c.deref.ensures.value c.in_ok-judged.ensures
