use Rattle.std.proofs.Common.{◌≡◌, Some, sym, ap, ◌∙◌}
use Rattle.mv_calls.specs.Keeping.{kept_of}
use Rattle.mv_calls.specs.Pauses.{transfer_refusal, is_others_token}
use Rattle.mv_calls.specs.Refusal as refusal
use Rattle.mv_pause.proofs.Served.{own_is}
use Rattle.mv_pause.proofs.Transfers.{not_owned, not_in_use, not_now, none_refused}
use Rattle.mv_pause.proofs.transferring.refuses_transfer.Goals as goal
use Rattle.mv_pause.proofs.transferring.refuses_transfer.Goals.{then-not-in_use-via-then-not-in_use}
use Rattle.mv_pause.proofs.transferring.refuses_transfer.Goals.{then-not-in_use-via-else-not-in_use+then-now-token}

pub returns-then-is_others-clause-refusal : goal.returns-then-is_others-clause-refusal
returns-then-is_others-clause-refusal c =
    let s = c.args.station.now.config in
    let kept = kept_of c.args.task.now.number c.args.task.now.log in
    let token = c.in-Some.token in
    sym (ap (λ z. transfer_refusal s z kept) c.in-Some.is
    ∙ not_owned (is_others_token s kept token) (kept.in_use token.element) (kept.generation token.element) token.generation
    (sym c.is_others.ensures ∙ c.if-is_others.true))

pub generation-now-requires : goal.generation-now-requires
generation-now-requires c =
    let s = c.args.station.now.config in
    let t = c.args.task.now in
    (s, c.requires.task.1, own_is s t.number t.log c.in-Some.token (sym c.is_others.ensures ∙ c.if-is_others.false))

pub in_use-requires : goal.in_use-requires
in_use-requires c =
    let s = c.args.station.now.config in
    let t = c.args.task.now in
    (s, c.requires.task.1, own_is s t.number t.log c.in-Some.token (sym c.is_others.ensures ∙ c.if-is_others.false))

pub returns-then-not-in_use-clause-refusal : goal.returns-then-not-in_use-clause-refusal
returns-then-not-in_use-clause-refusal c =
    let s = c.args.station.now.config in
    let kept = kept_of c.args.task.now.number c.args.task.now.log in
    let token = c.in-Some.token in
    let own = sym c.is_others.ensures ∙ c.if-is_others.false in
    let spent : transfer_refusal s c.args.current kept ≡ Some (refusal.Spent (kept.generation token.element)) =
    ap (λ z. transfer_refusal s z kept) c.in-Some.is
    ∙ elim c.then-not-in_use.branch [
      | then-not-in_use-via-then-not-in_use w ↦
          not_in_use (is_others_token s kept token) (kept.in_use token.element) (kept.generation token.element) token.generation own
          (sym c.in_use.ensures ∙ w.if-not-in_use.true)
      | then-not-in_use-via-else-not-in_use+then-now-token w ↦
          not_now (is_others_token s kept token) (kept.in_use token.element) (kept.generation token.element) token.generation own
          (λ e. w.if-now-token.true (c.generation-now.ensures.kept ∙ e))
    ] in
    ap (λ n. Some (refusal.Spent n)) c.generation-now.ensures.kept ∙ sym spent

pub returns-clause-refusal : goal.returns-clause-refusal
returns-clause-refusal c =
    let s = c.args.station.now.config in
    let kept = kept_of c.args.task.now.number c.args.task.now.log in
    let token = c.in-Some.token in
    sym (ap (λ z. transfer_refusal s z kept) c.in-Some.is
    ∙ none_refused (is_others_token s kept token) (kept.in_use token.element) (kept.generation token.element) token.generation
    (sym c.is_others.ensures ∙ c.if-is_others.false) (sym c.in_use.ensures ∙ c.if-not-in_use.false)
    (sym c.generation-now.ensures.kept ∙ c.if-now-token.false))
