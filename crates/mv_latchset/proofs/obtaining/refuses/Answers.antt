use Rattle.std.proofs.Common.{nat_lt, true, false, refl, sym, ap, ◌∙◌}
use Rattle.std.proofs.lemmas.Bool.{not-false, not-true}
use Rattle.mv_latch.specs.declared.operation.LatchOp.TheVariants.{Obtain}
use Rattle.mv_machine.specs.Kept.{keeps_quotas}
use Rattle.mv_config.specs.Setup.{Setup}
use Rattle.mv_machine.specs.System.{posts_own_ecb}
use Rattle.mv_calls.specs.Keeping.{kept_of}
use Rattle.mv_latchset.proofs.Admits.{refusal_by}
use Rattle.mv_latchset.proofs.obtaining.refuses.Goals as goal

pub returns-then-posts_others_block-clause-refusal : goal.returns-then-posts_others_block-clause-refusal
returns-then-posts_others_block-clause-refusal c = λ requestor mode.
    let s = c.args.station.now.config in
    let t = c.args.task.now in
    let latches = ap (λ (x : Setup). x.latches) c.config.ensures in
    sym (refusal_by s c.args.latch requestor mode c.args.form t.number t.log true false
    (keeps_quotas s (kept_of t.number t.log).requests c.args.form)
    (sym (ap (nat_lt c.args.latch) latches) ∙ sym c.has_latch.ensures.there ∙ c.if-not-has_latch.false)
    (not-true (posts_own_ecb s t.number (Obtain c.args.latch requestor mode c.args.form))
    (sym (c.posts_others_block.ensures c.args.latch requestor mode) ∙ c.if-posts_others_block.true)) refl)

pub returns-then-is_over_quota-clause-refusal : goal.returns-then-is_over_quota-clause-refusal
returns-then-is_over_quota-clause-refusal c = λ requestor mode.
    let s = c.args.station.now.config in
    let t = c.args.task.now in
    let latches = ap (λ (x : Setup). x.latches) c.config.ensures in
    sym (refusal_by s c.args.latch requestor mode c.args.form t.number t.log true true false
    (sym (ap (nat_lt c.args.latch) latches) ∙ sym c.has_latch.ensures.there ∙ c.if-not-has_latch.false)
    (not-false (posts_own_ecb s t.number (Obtain c.args.latch requestor mode c.args.form))
    (sym (c.posts_others_block.ensures c.args.latch requestor mode) ∙ c.if-posts_others_block.false))
    (not-true (keeps_quotas s (kept_of t.number t.log).requests c.args.form)
    (sym c.is_over_quota.ensures.quotas ∙ c.if-is_over_quota.true)))

pub returns-clause-refusal : goal.returns-clause-refusal
returns-clause-refusal c = λ requestor mode.
    let s = c.args.station.now.config in
    let t = c.args.task.now in
    let latches = ap (λ (x : Setup). x.latches) c.config.ensures in
    sym (refusal_by s c.args.latch requestor mode c.args.form t.number t.log true true true
    (sym (ap (nat_lt c.args.latch) latches) ∙ sym c.has_latch.ensures.there ∙ c.if-not-has_latch.false)
    (not-false (posts_own_ecb s t.number (Obtain c.args.latch requestor mode c.args.form))
    (sym (c.posts_others_block.ensures c.args.latch requestor mode) ∙ c.if-posts_others_block.false))
    (not-false (keeps_quotas s (kept_of t.number t.log).requests c.args.form)
    (sym c.is_over_quota.ensures.quotas ∙ c.if-is_over_quota.false)))
