use Rattle.std.proofs.Common.{◌+◌, ◌-◌, ◌≤◌, ◌∷◌, [], List, length, ap, ◌∙◌, sym, arith}
use Rattle.std.proofs.lemmas.List.{length-append}
use Rattle.mv_work.specs.Writing.{ends_from, room_in}
use Rattle.mv_work.proofs.Waits.{asks_first, comes_as}
use Rattle.mv_work.proofs.spool.Spool.on_end.Goals as goal

pub returns : goal.returns
returns g c =
    let s = c.args.self.now in
    let old = c.args.ends.now in
    let new = c.push_reserved.new.self in
    let one = ap (λ (ends : List _). length ends) c.push_reserved.ensures.items ∙ length-append old.items (c.args.end ∷ []) in
    let room : length s.jobs - (c.args.job + 1) ≤ room_in new = omega arith in
    comes_as (ap (λ ends. ends_from s ends (c.args.job + 1)) (sym c.push_reserved.ensures.items))
    (asks_first (c.write.ensures new room) c.requires.task)
