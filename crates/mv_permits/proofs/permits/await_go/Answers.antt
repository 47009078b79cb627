use Rattle.std.proofs.Common.{◌∷◌, [], ◌<◌, ◌+◌, length, sym, ◌∙◌, subst, arith}
use Rattle.mv_wait.specs.Prelude.{Setup}
use Rattle.mv_guarded.proofs.Quiet.{wait_is_quiet, wait_held, clear_is_quiet, clear_held, no_exit_starts}
use Rattle.mv_permits.proofs.Calls.{still_pooled, same_permit, same_given, no_exits, own_block}
use Rattle.mv_permits.proofs.permits.await_go.Goals as goal

pub wait_one-requires-clause-block : goal.wait_one-requires-clause-block
wait_one-requires-clause-block g c =
    let number = c.number-block.ensures.number in
    let worker = c.requires.worker in
    let low : 3 + c.number-block.result < 6 = omega arith in
    subst (λ (s : Setup). 3 + c.number-block.result < length s.owners) (sym c.requires.ready.config.1) low

pub wait_one-requires-clause-own : goal.wait_one-requires-clause-own
wait_one-requires-clause-own g c =
    let number = c.number-block.ensures.number in
    let worker = c.requires.worker in
    own_block c.args.station.now.config c.number-block.result c.requires.ready.config (omega arith) ∙ number

pub wait_one-requires-clause-plain : goal.wait_one-requires-clause-plain
wait_one-requires-clause-plain g c = λ starts.
    let config = c.args.station.now.config in absurd (no_exit_starts config _ (no_exits config c.requires.ready.config) starts)

pub clear-requires-clause-block : goal.clear-requires-clause-block
clear-requires-clause-block g c =
    let number = c.number-block.ensures.number in
    let worker = c.requires.worker in
    let low : 3 + c.number-block.result < 6 = omega arith in
    subst (λ (s : Setup). 3 + c.number-block.result < length s.owners) (sym c.requires.ready.config.1) low

pub returns-clause-permit : goal.returns-clause-permit
returns-clause-permit g c =
    let b = c.args.station.now in
    let t = c.args.task.now in
    let u = c.wait_one.new.task in
    let v = c.clear.new.task in
    same_permit u v (clear_is_quiet b.config (3 + c.number-block.result) _ _ u v c.clear.ensures.served)
    ∙ same_permit t u (wait_is_quiet b.config 1 ((3 + c.number-block.result) ∷ []) _ _ t u c.wait_one.ensures.served c.requires.bare)

pub returns-clause-ready : goal.returns-clause-ready
returns-clause-ready g c =
    let b = c.args.station.now in
    let t = c.args.task.now in
    let u = c.wait_one.new.task in
    let v = c.clear.new.task in
    let waited = c.wait_one.ensures.served in
    let cleared = c.clear.ensures.served in
    still_pooled b _ _ _ u v cleared (clear_is_quiet b.config (3 + c.number-block.result) _ _ u v cleared)
    (still_pooled b _ _ _ t u waited (wait_is_quiet b.config 1 ((3 + c.number-block.result) ∷ []) _ _ t u waited c.requires.bare) c.requires.ready)

pub returns-clause-bare : goal.returns-clause-bare
returns-clause-bare g c =
    let b = c.args.station.now in
    let t = c.args.task.now in
    let u = c.wait_one.new.task in
    let v = c.clear.new.task in
    clear_held b.config (3 + c.number-block.result) _ _ u v c.clear.ensures.served
    ∙ wait_held b.config 1 ((3 + c.number-block.result) ∷ []) _ _ t u c.wait_one.ensures.served ∙ c.requires.bare

pub returns-clause-given : goal.returns-clause-given
returns-clause-given g c =
    let b = c.args.station.now in
    let t = c.args.task.now in
    let u = c.wait_one.new.task in
    let v = c.clear.new.task in
    same_given u v (clear_is_quiet b.config (3 + c.number-block.result) _ _ u v c.clear.ensures.served)
    ∙ same_given t u (wait_is_quiet b.config 1 ((3 + c.number-block.result) ∷ []) _ _ t u c.wait_one.ensures.served c.requires.bare)
