-- One operation on the latch set.
use Rattle.std.proofs.Common.{◌≡◌, true, List, sym, ap, ◌∙◌, arith}
use Rattle.std.proofs.lemmas.Grind.{common_steps}
use Rattle.mv_latch.specs.declared.operation.LatchReply.{LatchReply}
use Rattle.mv_latch.specs.declared.request.Request.{Request}
use Rattle.mv_latch.specs.LatchSet.{LatchLists, latch_admitted, latch_step}
use Rattle.mv_machine.specs.System.{latches_of}
use Rattle.mv_machine.proofs.Writes.{latches_made, same_latches, refused}
use Rattle.mv_machine.proofs.state.State.advance_latches.Goals as goal

pub returns : goal.returns
returns c =
    let config = c.args.config.now in
    let s = c.args.self.now in
    let allowed : latch_admitted c.args.caller c.args.op (latches_of config s.latches.lists) ≡ true =
    sym (same_latches config s c.args.caller c.args.op c.requires.opened) ∙ grind (arith, common_steps) in
    let lists : c.apply.new.self.lists ≡ (latch_step c.args.caller s.latch_place c.args.op s.latches.lists).0 =
    ap (λ (p : List (List Request) × LatchReply). p.0) c.in_ok-reply.ensures.step in
    let reply : c.in_ok-reply.reply ≡ (latch_step c.args.caller s.latch_place c.args.op s.latches.lists).1 =
    ap (λ (p : List (List Request) × LatchReply). p.1) c.in_ok-reply.ensures.step in
    let set : c.apply.new.self ≡ record s.latches { lists = (latch_step c.args.caller s.latch_place c.args.op s.latches.lists).0 } =
    c.in_ok-reply.ensures.quotas ∙ ap (λ l. let r : LatchLists = record s.latches { lists = l } in r) lists in
    latches_made config s c.args.caller c.args.op c.requires.opened c.apply.new.self c.apply.new.wakes c.in_ok-reply.reply set reply
    c.in_ok-reply.ensures.wakes c.in_ok-reply.ensures.capacity (grind (arith, common_steps, allowed))

pub returns-then-not-posts_own_ecb : goal.returns-then-not-posts_own_ecb
returns-then-not-posts_own_ecb c =
    refused c.args.config.now c.args.self.now c.args.caller _ _ c.requires.opened (grind (arith, common_steps))
