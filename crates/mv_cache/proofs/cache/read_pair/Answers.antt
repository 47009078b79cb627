use Rattle.std.proofs.Common.{◌≡◌, ◌∷◌, ◌++◌, [], Ok, sym, ap, ◌∙◌, subst, append_assoc}
use Rattle.mv_wait.specs.Prelude.mode.{Shared}
use Rattle.mv_wait.specs.Prelude.latch_op.{Obtain}
use Rattle.mv_wait.specs.Prelude.latch_form.{Waiting}
use Rattle.mv_latchset.specs.Obtaining.{IsObtainedBy, IsOfLatch}
use Rattle.mv_ordered.specs.Held.{held}
use Rattle.mv_guarded.specs.Guarded.{HoldsLatch}
use Rattle.mv_guarded.proofs.Holding.{read_one, holds_granted, HasTaken, takes_only, read_held, release_bares}
use Rattle.mv_cache.proofs.Calls.{obtain_quiet, cheap, release_quiet, still_reading, before_release}
use Rattle.mv_cache.proofs.cache.read_pair.Goals as goal

pub returns-in_default-clause-ready : goal.returns-in_default-clause-ready
returns-in_default-clause-ready g c =
    let b = c.args.station.now in
    let t = c.args.task.now in
    let u = c.obtain.new.task in
    let served = c.obtain.ensures.served in
    still_reading b _ _ _ t u served (obtain_quiet b _ _ Shared _ t u served c.requires.ready.careful) c.requires.ready

pub returns-clause-read : goal.returns-clause-read
returns-clause-read g c =
    let b = c.args.station.now in
    let t = c.args.task.now in
    let u = c.obtain.new.task in
    let v = c.read_volume-left.new.task in
    let w = c.read_volume-right.new.task in
    let x = c.release_latch.new.task in
    let token = c.in-Granted.token in
    let asked = c.obtain.ensures.served in
    let left = c.read_volume-left.ensures.served in
    let right = c.read_volume-right.ensures.served in
    let released = c.release_latch.ensures.served in
    let by = subst (λ o. IsObtainedBy (Obtain 0 c.from-reader.result Shared Waiting) 0 Waiting t o u)
    c.in-Granted.is c.in-Ok.ensures.causes.1 in
    let one = read_one 0 c.read_volume-left.result u v left in
    let two = read_one 1 c.read_volume-right.result v w right in
    let rest = (release_quiet b _ _ _ w x released (before_release b t u v w c.from-reader.result _ _ _ _ asked left right
    c.requires.ready).careful).grown in
    let number : x.number ≡ t.number = released.same.number ∙ right.same.number ∙ left.same.number ∙ asked.same.number in record {
      before = u.log;
      first = one.entry;
      second = two.entry;
      later = rest.more;
      split = rest.logged ∙ ap (λ log. log ++ rest.more) (two.logged ∙ ap (λ log. log ++ two.entry ∷ []) one.logged)
          ∙ append_assoc (u.log ++ one.entry ∷ []) (two.entry ∷ []) rest.more
          ∙ append_assoc u.log (one.entry ∷ []) (two.entry ∷ rest.more);
      holds = subst (λ k. HoldsLatch 0 Shared k u.log) (sym number) (holds_granted 0 Shared c.from-reader.result t u token by);
      left = one.reads;
      right = two.reads;
    }

pub returns-clause-ready : goal.returns-clause-ready
returns-clause-ready g c =
    let b = c.args.station.now in
    let w = c.read_volume-right.new.task in
    let x = c.release_latch.new.task in
    let released = c.release_latch.ensures.served in
    let ready = before_release b c.args.task.now c.obtain.new.task c.read_volume-left.new.task w c.from-reader.result _ _ _ _
    c.obtain.ensures.served c.read_volume-left.ensures.served c.read_volume-right.ensures.served c.requires.ready in
    still_reading b _ _ _ w x released (release_quiet b _ _ _ w x released ready.careful) ready

pub returns-in_default-clause-bare : goal.returns-in_default-clause-bare
returns-in_default-clause-bare g c =
    subst (HasTaken 0 [] (held c.obtain.new.task.log)) c.in_default.is
    (takes_only c.args.station.now.config 0 _ _ Shared c.obtain.result c.args.task.now c.obtain.new.task c.obtain.ensures.served
    c.requires.bare)

pub returns-clause-bare : goal.returns-clause-bare
returns-clause-bare g c =
    let b = c.args.station.now in
    let u = c.obtain.new.task in
    let v = c.read_volume-left.new.task in
    let w = c.read_volume-right.new.task in
    let token = c.in-Granted.token in
    let asked = subst (HasTaken 0 [] (held u.log)) c.in-Ok.is
    (takes_only b.config 0 _ _ Shared c.obtain.result c.args.task.now u c.obtain.ensures.served c.requires.bare) in
    let taken : held u.log ≡ (0, token.id) ∷ [] = subst (λ got. HasTaken 0 [] (held u.log) (Ok got)) c.in-Granted.is asked in
    let here : token.latch ≡ 0 = subst (IsOfLatch 0) c.in-Granted.is c.in-Ok.ensures.latch in
    release_bares b.config token.latch token.id _ w c.release_latch.new.task c.release_latch.ensures.served
    (cheap b c.args.task.now c.requires.ready.careful)
    (read_held 1 c.read_volume-right.result v w c.read_volume-right.ensures.served
    ∙ read_held 0 c.read_volume-left.result u v c.read_volume-left.ensures.served ∙ taken ∙ ap (λ n. (n, token.id) ∷ []) (sym here))
