use Rattle.std.proofs.Common.{◌≡◌, ◌<◌, length, Ok, sym, ◌∙◌, subst}
use Rattle.mv_wait.specs.Prelude.{Setup}
use Rattle.mv_handover.proofs.Calls.{took_made, took_ready, own_block}
use Rattle.mv_handover.proofs.handover.take.Goals as goal

pub wait_one-code-requires-clause-block : goal.wait_one-code-requires-clause-block
wait_one-code-requires-clause-block g c =
    subst (λ (s : Setup). c.args.ecb < length s.owners) (sym c.requires.ready.config.1) c.requires.block.0

pub wait_one-code-requires-clause-plain : goal.wait_one-code-requires-clause-plain
wait_one-code-requires-clause-plain g c = λ on. c.requires.ready.plain c.args.ecb

pub unreachable-requires : goal.unreachable-requires
unreachable-requires g c =
    let config = c.args.station.now.config in
    let u = c.wait_one-code.new.task in
    let own = own_block config c.args.ecb u (c.requires.block.1 ∙ sym c.wait_one-code.ensures.waited.number) in
    let other = c.in_default.ensures.causes.0 in cc (sym own ∙ other)

pub returns : goal.returns
returns g c =
    let b = c.args.station.now in
    let ecb = c.args.ecb in
    let code = c.wait_one-code.result in
    let t = c.args.task.now in
    let u = c.wait_one-code.new.task in
    let v = c.clear.new.task in
    let waited = c.wait_one-code.ensures.waited in
    let served = c.wait_one-code.ensures.served in
    let cleared = c.in-Ok.ensures.served in
    let own = own_block b.config ecb u (c.requires.block.1 ∙ sym waited.number) in
    let took = took_made b.config ecb code (λ a. a ≡ Ok c.in-Ok.field-0) t u v waited cleared own in record {
      took = took;
      ready = took_ready b t.number ecb code t v c.requires.ready (
        cleared.same.table ∙ served.same.table ∙ c.requires.ready.task.0,
        cleared.same.about ∙ served.same.about ∙ c.requires.ready.task.1,
      )
          cleared.made.rest took;
    }
