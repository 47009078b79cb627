use Rattle.std.proofs.Common.{◌≡◌, ◌++◌, length, take, drop, sym, ap, ◌∙◌, subst, arith}
use Rattle.mv_wait.proofs.Parts.{given_back}
use Rattle.mv_polled.specs.Waiting.{WaitFace}
use Rattle.mv_polled.specs.Wakers.{HaveWakers}
use Rattle.mv_polled.proofs.waiting.WaitCall.register.Goals as goal

pub returns-clause-left : goal.returns-clause-left
returns-clause-left g c =
    let u = c.register_all.new.task in
    let cx = c.register_all.new.cx in
    let w = c.self.inside.wakers in
    let new = c.register_all.new.wakers in
    let size = c.register_all.ensures.size in
    let blocks = ap length c.deref.ensures.value in
    let places : w.len ≡ length c.self.inside.ecbs.items = c.self.invariant.wakers in
    let whole = w.ok.0 in
    let back : take w.len (new ++ drop (length new) w.items) ≡ new = given_back w.len new w.items (omega arith) (omega arith) in
    let same : c.deref.result.now ≡ c.args.self.now.ecbs = c.deref.ensures.value ∙ ap (λ (f : WaitFace). f.ecbs) c.self.view_is in
    subst (λ ws. HaveWakers (length c.args.self.now.ecbs) u.ready c.args.self.now.ecbs ws cx) (sym back)
    (subst (λ es. HaveWakers (length es) u.ready es new cx) same c.register_all.ensures.left)
