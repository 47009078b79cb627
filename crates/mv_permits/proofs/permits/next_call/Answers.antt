use Rattle.std.proofs.Common.{[], ◌∷◌, ◌∙◌}
use Rattle.mv_guarded.proofs.Quiet.{wait_is_quiet, wait_held, clear_is_quiet, clear_held}
use Rattle.mv_permits.proofs.Calls.{still_pooled}
use Rattle.mv_permits.proofs.permits.next_call.Goals as goal

pub returns-in_err-next-clause-ready : goal.returns-in_err-next-clause-ready
returns-in_err-next-clause-ready g c =
    let b = c.args.station.now in
    let t = c.args.task.now in
    let u = c.wait.new.task in
    let waited = c.wait.ensures.served in
    still_pooled b _ _ _ t u waited (wait_is_quiet b.config 1 (0 ∷ 1 ∷ 2 ∷ []) _ _ t u waited c.requires.bare) c.requires.ready

pub returns-clause-ready : goal.returns-clause-ready
returns-clause-ready g c =
    let b = c.args.station.now in
    let t = c.args.task.now in
    let u = c.wait.new.task in
    let v = c.clear.new.task in
    let waited = c.wait.ensures.served in
    let cleared = c.clear.ensures.served in
    still_pooled b _ _ _ u v cleared (clear_is_quiet b.config c.in_ok-next.next.0 _ _ u v cleared)
    (still_pooled b _ _ _ t u waited (wait_is_quiet b.config 1 (0 ∷ 1 ∷ 2 ∷ []) _ _ t u waited c.requires.bare) c.requires.ready)

pub returns-in_err-next-clause-bare : goal.returns-in_err-next-clause-bare
returns-in_err-next-clause-bare g c =
    wait_held c.args.station.now.config 1 (0 ∷ 1 ∷ 2 ∷ []) _ _ c.args.task.now c.wait.new.task c.wait.ensures.served ∙ c.requires.bare

pub returns-clause-bare : goal.returns-clause-bare
returns-clause-bare g c =
    let b = c.args.station.now in
    let t = c.args.task.now in
    let u = c.wait.new.task in
    let v = c.clear.new.task in
    clear_held b.config c.in_ok-next.next.0 _ _ u v c.clear.ensures.served
    ∙ wait_held b.config 1 (0 ∷ 1 ∷ 2 ∷ []) _ _ t u c.wait.ensures.served ∙ c.requires.bare
