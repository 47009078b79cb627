use Rattle.std.proofs.Common.{subst}
use Rattle.mv_latch.specs.declared.operation.LatchOp.TheVariants.{Confirm}
use Rattle.mv_latchset.specs.Obtaining.{IsAnswered, settled_reply}
use Rattle.mv_latchset.proofs.Between.{obtaining_latch, obtaining_left, obtaining_stands, obtaining_granted, obtaining_purged}
use Rattle.mv_latchset.proofs.obtaining.end_obtain.Goals as goal

pub confirm-requires-clause-latch : goal.confirm-requires-clause-latch
confirm-requires-clause-latch g c =
    let w = c.requires.waiting in
    obtaining_latch c.args.station.now.config c.args.latch w.0 w.1 c.args.id w.2 c.args.task.now w.3

pub confirm-requires-clause-left : goal.confirm-requires-clause-left
confirm-requires-clause-left g c =
    let w = c.requires.waiting in
    obtaining_left c.args.station.now.config c.args.latch w.0 w.1 c.args.id w.2 c.args.task.now w.3

pub token_of-requires : goal.token_of-requires
token_of-requires g c =
    let w = c.requires.waiting in
    let t = c.args.task.now in
    let u = c.confirm.new.task in
    obtaining_stands c.args.station.now.config c.args.latch w.0 w.1 c.args.id w.2 t w.3 u
    (subst (λ b. IsAnswered (Confirm c.args.latch c.args.id) (settled_reply c.args.id b) t u) c.if-confirm.true c.confirm.ensures)

pub returns-then-confirm : goal.returns-then-confirm
returns-then-confirm g c = λ requestor mode t0 p.
    let t = c.args.task.now in
    let u = c.confirm.new.task in
    obtaining_granted c.args.station.now.config c.args.latch requestor mode c.args.id t0 t p u c.token_of.result
    (subst (λ b. IsAnswered (Confirm c.args.latch c.args.id) (settled_reply c.args.id b) t u) c.if-confirm.true c.confirm.ensures)
    c.token_of.ensures.latch c.token_of.ensures.id

pub returns-else-confirm : goal.returns-else-confirm
returns-else-confirm g c = λ requestor mode t0 p.
    let t = c.args.task.now in
    let u = c.confirm.new.task in
    obtaining_purged c.args.station.now.config c.args.latch requestor mode c.args.id t0 t p u
    (subst (λ b. IsAnswered (Confirm c.args.latch c.args.id) (settled_reply c.args.id b) t u) c.if-confirm.false c.confirm.ensures)
