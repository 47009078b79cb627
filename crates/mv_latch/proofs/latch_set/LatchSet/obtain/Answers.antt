-- The list at the latch is read, changed and written back.
use Rattle.std.proofs.Common.{◌∙◌, ap}
use Rattle.mv_latch.specs.Latch.{obtain_step}
use Rattle.mv_latch.proofs.Quotas.{sound_obtain}
use Rattle.mv_latch.proofs.InMemory.{IsRead, items_read, sound_value, read_free, view_with, ready_with}
use Rattle.mv_latch.proofs.latch_set.LatchSet.obtain.Goals as goal

pub obtain-requires : goal.obtain-requires
obtain-requires c =
    let r : IsRead c.self.inside c.args.self.now c.args.latch c.index_mut-list.result.now =
    record { ready = c.self.invariant; seen = c.self.view_is; within = c.requires.latch; read = c.index_mut-list.ensures.value } in
    read_free _ _ _ _ c.args.request.caller r c.requires.caller c.requires.quota

pub invariant_of-self : goal.invariant_of-self
invariant_of-self c =
    let r : IsRead c.self.inside c.args.self.now c.args.latch c.index_mut-list.result.now =
    record { ready = c.self.invariant; seen = c.self.view_is; within = c.requires.latch; read = c.index_mut-list.ensures.value } in
    let items = ap (λ z. z.0) c.obtain.ensures.step ∙ ap (λ z. (obtain_step c.args.request z).0) (items_read _ _ _ _ r) in
    ready_with _ _ _ _ c.obtain.new.list _ r c.obtain.ensures.capacity items
    (sound_obtain c.args.self.now c.args.latch c.args.request c.requires.latch (sound_value _ _ c.self.invariant c.self.view_is)
    c.requires.caller c.requires.quota c.requires.new_id)

pub returns-clause-lists : goal.returns-clause-lists
returns-clause-lists c =
    let r : IsRead c.self.inside c.args.self.now c.args.latch c.index_mut-list.result.now =
    record { ready = c.self.invariant; seen = c.self.view_is; within = c.requires.latch; read = c.index_mut-list.ensures.value } in
    let items = ap (λ z. z.0) c.obtain.ensures.step ∙ ap (λ z. (obtain_step c.args.request z).0) (items_read _ _ _ _ r) in
    view_with c.self.inside c.args.self.now c.args.latch c.obtain.new.list _ c.self.view_is items
