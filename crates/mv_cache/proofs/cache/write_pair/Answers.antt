use Rattle.std.proofs.Common.{◌≡◌, [], ◌∷◌, Ok, sym, ap, ◌∙◌, subst}
use Rattle.std.proofs.lemmas.List.Elements.{Contains-get_or}
use Rattle.mv_wait.specs.Prelude.mode.{Exclusive}
use Rattle.mv_wait.specs.Prelude.latch_op.{Obtain}
use Rattle.mv_wait.specs.Prelude.latch_form.{Waiting}
use Rattle.mv_latchset.specs.Obtaining.{IsObtainedBy, IsOfLatch}
use Rattle.mv_ordered.specs.Held.{held}
use Rattle.mv_guarded.proofs.Holding.{HasTaken, takes_only, write_held, release_bares}
use Rattle.mv_cache.specs.Whole.{IsWriting}
use Rattle.mv_cache.proofs.Calls.{obtain_quiet, cheap, release_quiet, still_writing, enters, writes, both_written, leaves}
use Rattle.mv_cache.proofs.cache.write_pair.Goals as goal

pub returns-in_default-clause-ready : goal.returns-in_default-clause-ready
returns-in_default-clause-ready g c =
    let b = c.args.station.now in
    let t = c.args.task.now in
    let u = c.obtain.new.task in
    let served = c.obtain.ensures.served in
    still_writing b c.args.pairs.now _ _ _ t u served (obtain_quiet b _ _ Exclusive _ t u served c.requires.ready.careful) c.requires.ready

pub returns-clause-ready : goal.returns-clause-ready
returns-clause-ready g c =
    let b = c.args.station.now in
    let pairs = c.args.pairs.now in
    let t = c.args.task.now in
    let u = c.obtain.new.task in
    let v = c.write_volume.new.task in
    let w = c.write_volume-2.new.task in
    let x = c.release_latch.new.task in
    let token = c.in-Granted.token in
    let asked = c.obtain.ensures.served in
    let first = c.write_volume.ensures.served in
    let second = c.write_volume-2.ensures.served in
    let released = c.release_latch.ensures.served in
    let by = subst (λ o. IsObtainedBy (Obtain 0 _ Exclusive Waiting) 0 Waiting t o u) c.in-Granted.is c.in-Ok.ensures.causes.1 in
    let after : IsWriting b pairs u =
    still_writing b pairs _ _ _ t u asked (obtain_quiet b _ _ Exclusive _ t u asked c.requires.ready.careful) c.requires.ready in
    let inside = writes b pairs _ _ _ v w second (writes b pairs _ _ _ u v first (enters b pairs _ t u token c.requires.ready after by)) in
    leaves b pairs _ _ _ _ w x released (release_quiet b _ _ _ w x released inside.careful) inside
    (both_written _ _ _ _ u v w first second) (Contains-get_or pairs c.args.number _ c.requires.number)

pub returns-in_default-clause-bare : goal.returns-in_default-clause-bare
returns-in_default-clause-bare g c =
    subst (HasTaken 0 [] (held c.obtain.new.task.log)) c.in_default.is
    (takes_only c.args.station.now.config 0 _ _ Exclusive c.obtain.result c.args.task.now c.obtain.new.task c.obtain.ensures.served
    c.requires.bare)

pub returns-clause-bare : goal.returns-clause-bare
returns-clause-bare g c =
    let b = c.args.station.now in
    let u = c.obtain.new.task in
    let v = c.write_volume.new.task in
    let w = c.write_volume-2.new.task in
    let token = c.in-Granted.token in
    let asked = subst (HasTaken 0 [] (held u.log)) c.in-Ok.is
    (takes_only b.config 0 _ _ Exclusive c.obtain.result c.args.task.now u c.obtain.ensures.served c.requires.bare) in
    let taken : held u.log ≡ (0, token.id) ∷ [] = subst (λ got. HasTaken 0 [] (held u.log) (Ok got)) c.in-Granted.is asked in
    let here : token.latch ≡ 0 = subst (IsOfLatch 0) c.in-Granted.is c.in-Ok.ensures.latch in
    release_bares b.config token.latch token.id _ w c.release_latch.new.task c.release_latch.ensures.served
    (cheap b c.args.task.now c.requires.ready.careful)
    (write_held _ _ _ v w c.write_volume-2.ensures.served ∙ write_held _ _ _ u v c.write_volume.ensures.served ∙ taken
    ∙ ap (λ n. (n, token.id) ∷ []) (sym here))
