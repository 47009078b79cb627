-- A history so short has low places only, so its entries have a text.
use Rattle.std.proofs.Common.{subst, arith}
use Rattle.mv_config.specs.Check.{IsValid}
use Rattle.mv_config.specs.Setup.{Setup}
use Rattle.mv_machine.proofs.Longer.{entries_fit}
use Rattle.mv_entrytext.proofs.LegalRanges.{legal_journal}
use Rattle.mv_entrytext.proofs.history_text.HistoryText.open.Goals as goal

pub returns-clause-readable : goal.returns-clause-readable
returns-clause-readable c = λ few.
    let config = c.args.history.config in
    let es = c.args.history.coming in
    let valid : IsValid config = subst (λ (x : Setup). IsValid x) c.config.ensures c.in_ok-piece.ensures.counted.valid in
    legal_journal config es valid c.requires.legal (entries_fit config es c.requires.legal few) c.tell_history.ensures (omega (arith, few))
