use Rattle.std.proofs.Common.{◌≡◌, ℕ, ◌-◌, ◌++◌, ◌∷◌, [], List, length, map, vec_capacity, ap, ◌∙◌, subst, arith, length-append}
use Rattle.std.proofs.lemmas.List.{map-append}
use Rattle.mv_machine.specs.declared.entry.Entry.{Entry}
use Rattle.mv_machine.specs.Log.{OpenLogFace}
use Rattle.mv_machine.specs.Compact.{entry_of}
use Rattle.mv_machine.proofs.log.OpenLog.push.Goals as goal

abbrev face : ℕ → List Entry → ℕ → OpenLogFace
face caller entries room = record { caller = caller; entries = entries; room = room }

pub returns : goal.returns
returns c =
    let k = c.self.inside.caller in
    let old = c.self.inside.compact in
    let new = c.push_reserved.new.self in
    let e : Entry = record { caller = k; object = c.args.object; place = c.args.place; op = c.args.op; reply = c.args.reply } in
    let entries : map (entry_of k) new.items ≡ map (entry_of k) old.items ++ e ∷ [] =
    ap (map (entry_of k)) c.push_reserved.ensures.items
    ∙ (map-append (entry_of k) old.items (c.of.result ∷ []) ∙ ap (λ x. map (entry_of k) old.items ++ x ∷ []) (c.of.ensures k)) in
    let room : vec_capacity new - length new.items ≡ vec_capacity old - length old.items - 1 =
    omega (arith, c.push_reserved.ensures.capacity, ap length c.push_reserved.ensures.items, length-append old.items (c.of.result ∷ [])) in
    subst (λ (f : OpenLogFace). face k (map (entry_of k) new.items) (vec_capacity new - length new.items)
    ≡ face f.caller (f.entries ++ record
    { caller = f.caller; object = c.args.object; place = c.args.place; op = c.args.op; reply = c.args.reply } ∷ []) (f.room - 1))
    c.self.view_is (λ i. face k (entries i) (room i))
