-- The list at the latch is read, changed and written back.
use Rattle.std.proofs.Common.{◌∙◌, ap, arith}
use Rattle.mv_latch.specs.Latch.{release_step}
use Rattle.mv_latch.proofs.Quotas.{sound_release}
use Rattle.mv_latch.proofs.InMemory.{IsRead, items_read, sound_value, read_distinct, read_fits, view_with, ready_with}
use Rattle.mv_latch.proofs.latch_set.LatchSet.release.Goals as goal

pub release-requires-clause-distinct : goal.release-requires-clause-distinct
release-requires-clause-distinct c =
    let r : IsRead c.self.inside c.args.self.now c.args.latch c.index_mut-list.result.now =
    record { ready = c.self.invariant; seen = c.self.view_is; within = c.requires.latch; read = c.index_mut-list.ensures.value } in
    read_distinct _ _ _ _ r

pub release-requires-clause-fits : goal.release-requires-clause-fits
release-requires-clause-fits c =
    let r : IsRead c.self.inside c.args.self.now c.args.latch c.index_mut-list.result.now =
    record { ready = c.self.invariant; seen = c.self.view_is; within = c.requires.latch; read = c.index_mut-list.ensures.value } in
    omega (arith, read_fits _ _ _ _ r, (sound_value _ _ c.self.invariant c.self.view_is).fits)

pub release-requires-clause-room : goal.release-requires-clause-room
release-requires-clause-room c =
    let r : IsRead c.self.inside c.args.self.now c.args.latch c.index_mut-list.result.now =
    record { ready = c.self.invariant; seen = c.self.view_is; within = c.requires.latch; read = c.index_mut-list.ensures.value } in
    omega (arith, read_fits _ _ _ _ r, c.requires.room)

pub invariant_of-self : goal.invariant_of-self
invariant_of-self c =
    let r : IsRead c.self.inside c.args.self.now c.args.latch c.index_mut-list.result.now =
    record { ready = c.self.invariant; seen = c.self.view_is; within = c.requires.latch; read = c.index_mut-list.ensures.value } in
    let items =
    ap (λ z. z.0) c.release.ensures.step
    ∙ ap (λ z. (release_step c.args.caller c.args.id c.args.conditional z).0) (items_read _ _ _ _ r) in
    ready_with _ _ _ _ c.release.new.list _ r c.release.ensures.capacity items
    (sound_release c.args.self.now c.args.latch c.args.caller c.args.id c.args.conditional c.requires.latch
    (sound_value _ _ c.self.invariant c.self.view_is))

pub returns-clause-lists : goal.returns-clause-lists
returns-clause-lists c =
    let r : IsRead c.self.inside c.args.self.now c.args.latch c.index_mut-list.result.now =
    record { ready = c.self.invariant; seen = c.self.view_is; within = c.requires.latch; read = c.index_mut-list.ensures.value } in
    let items =
    ap (λ z. z.0) c.release.ensures.step
    ∙ ap (λ z. (release_step c.args.caller c.args.id c.args.conditional z).0) (items_read _ _ _ _ r) in
    view_with c.self.inside c.args.self.now c.args.latch c.release.new.list _ c.self.view_is items
