-- What is kept of a legal text is its machine.
use Rattle.std.proofs.Common.{sym, subst}
use Rattle.mv_config.specs.Setup.{Setup}
use Rattle.mv_machine.specs.State.{IsOpenedWith}
use Rattle.mv_replay.proofs.text.judge_text.Goals as goal

pub returns-clause-replayed : goal.returns-clause-replayed
returns-clause-replayed c =
    let h = c.in_ok-judged.ensures in
    record {
      journal = h.legal;
      config = sym h.config;
      state = c.state.ensures.after h.legal.setup h.legal.entries h.judged;
      shown = c.state.ensures.wakes h.legal.setup h.legal.entries h.judged;
    }

pub returns-clause-opened : goal.returns-clause-opened
returns-clause-opened c =
    let h = c.in_ok-judged.ensures in
    subst (λ (s : Setup). IsOpenedWith s c.state.result) (sym h.config) (c.state.ensures.opened h.legal.setup h.legal.entries h.judged)
