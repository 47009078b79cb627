use Rattle.std.proofs.Common.{[], ◌∷◌, ◌+◌, ◌%◌, ◌^◌, ◌≤◌, Ok, refl, sym, ap, ◌∙◌, subst, le_refl}
use Rattle.mv_wait.specs.Prelude.latch_op.{Obtain}
use Rattle.mv_wait.specs.Prelude.latch_form.{Waiting}
use Rattle.mv_wait.specs.Prelude.mode.{Exclusive}
use Rattle.mv_wait.specs.Prelude.{release_cost, Setup, kept_of, write_volume}
use Rattle.mv_latchset.specs.Obtaining.{IsObtainedBy, IsOfLatch}
use Rattle.mv_attach.proofs.Says.{always_write}
use Rattle.mv_ordered.specs.Held.{held}
use Rattle.mv_ordered.proofs.Calls.{IsPlain}
use Rattle.mv_guarded.specs.Guarded.{HoldsLatch}
use Rattle.mv_guarded.proofs.Careful.{careful_quiet, careful_event}
use Rattle.mv_guarded.proofs.Holding.{HasTaken, takes_only, holds_granted, read_inside, wrote_one, read_held, write_held, release_bares}
use Rattle.mv_guarded.proofs.Quiet.{obtain_is_quiet, read_is_quiet, release_is_quiet}
use Rattle.mv_counter.specs.Counter.{IsAllowed}
use Rattle.mv_counter.proofs.Counted.{calm_allowed}
use Rattle.mv_counter.proofs.counter.add_one.Goals as goal

pub returns-in_default-clause-ready : goal.returns-in_default-clause-ready
returns-in_default-clause-ready g c =
    let b = c.args.station.now in
    let ready = c.requires.ready in
    let t = c.args.task.now in
    let u = c.obtain.new.task in
    let served = c.obtain.ensures.served in
    let one = subst (λ (s : Setup). s.quota ≤ 1) (sym ready.config.1) (le_refl 1) in
    let has = takes_only b.config 0 _ _ Exclusive c.obtain.result t u served ready.bare in record {
      config = ready.config;
      careful = careful_quiet IsAllowed b calm_allowed _ _ _ t u served (obtain_is_quiet b.config 0 _ _ Exclusive _ t u served one) ready.careful;
      bare = subst (HasTaken 0 [] (held u.log)) c.in_default.is has;
    }

pub returns-clause-ready : goal.returns-clause-ready
returns-clause-ready g c =
    let b = c.args.station.now in
    let ready = c.requires.ready in
    let token = c.in-Granted.token in
    let number = c.read_volume-number.result in
    let t = c.args.task.now in
    let u = c.obtain.new.task in
    let v = c.read_volume-number.new.task in
    let w = c.write_volume.new.task in
    let x = c.release_latch.new.task in
    let asked = c.obtain.ensures.served in
    let read = c.read_volume-number.ensures.served in
    let written = c.write_volume.ensures.served in
    let released = c.release_latch.ensures.served in
    -- the obtain
    let one = subst (λ (s : Setup). s.quota ≤ 1) (sym ready.config.1) (le_refl 1) in
    let cheap = subst (λ (s : Setup). release_cost s ≤ 1) (sym ready.config.1) (le_refl 1) in
    let taken = takes_only b.config 0 _ _ Exclusive c.obtain.result t u asked ready.bare in
    let has = subst (λ got. HasTaken 0 [] (held u.log) (Ok got)) c.in-Granted.is (subst (HasTaken 0 [] (held u.log)) c.in-Ok.is taken) in
    let by = subst (λ o. IsObtainedBy (Obtain 0 c.from-requestor.result Exclusive Waiting) 0 Waiting t o u) c.in-Granted.is
    c.in-Ok.ensures.causes.1 in
    let holds = subst (λ k. HoldsLatch 0 Exclusive k u.log) (sym asked.same.number)
    (holds_granted 0 Exclusive c.from-requestor.result t u token by) in
    let inside = careful_quiet IsAllowed b calm_allowed _ _ _ t u asked (obtain_is_quiet b.config 0 _ _ Exclusive _ t u asked one) ready.careful in
    -- the read and the write
    let seen = read_inside 0 0 number Exclusive u v holds read in
    let looked = careful_quiet IsAllowed b calm_allowed _ _ _ u v read (read_is_quiet 0 number u v read) inside in
    let wrote = wrote_one 0 ((number + 1) % 2 ^ 32) _ v w written in
    let e = wrote.heard.entry in
    let may = subst (IsAllowed v.number v.log e.object) (sym wrote.makes)
    (wrote.object, record { holds = seen.0; old = number; read = seen.1; more = refl }) in
    let added = careful_event IsAllowed b (write_volume 0 ((number + 1) % 2 ^ 32)) _ e v w written
    (always_write (λ o op. IsPlain op) 0 ((number + 1) % 2 ^ 32) (kept_of v.number v.log) tt) wrote.logged may looked in
    -- the release
    let same = write_held 0 ((number + 1) % 2 ^ 32) _ v w written ∙ read_held 0 number u v read ∙ has in
    let latch = subst (IsOfLatch 0) c.in-Granted.is c.in-Ok.ensures.latch in record {
      config = ready.config;
      careful = careful_quiet IsAllowed b calm_allowed _ _ _ w x released (release_is_quiet b.config token.latch token.id _ w x released cheap) added;
      bare = release_bares b.config token.latch token.id _ w x released cheap (same ∙ ap (λ n. (n, token.id) ∷ []) (sym latch));
    }
