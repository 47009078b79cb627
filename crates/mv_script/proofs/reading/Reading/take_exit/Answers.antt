use Rattle.std.proofs.Common.{◌≡◌, ℕ, List, [], ◌∷◌, ◌++◌, false, map, ap, sym, ◌∙◌, arith}
use Rattle.std.proofs.lemmas.List.{length-map, map-append}
use Rattle.mv_config.specs.Config.{exit_of}
use Rattle.mv_scriptline.specs.declared.statement.Statement.TheVariants as statement
use Rattle.mv_script.specs.Fault.{is_out_of_order, leads_down}
use Rattle.mv_script.specs.Reading.{notes_of}
use Rattle.mv_script.proofs.Behind.{late_exit, taken_exit}
use Rattle.mv_script.proofs.reading.Reading.take_exit.Goals as goal

pub returns : goal.returns
returns c = λ earlier b good.
    let n = notes_of c.args.self.now in
    let ts = c.args.targets in
    let view : c.targets.inside.numbers.items ≡ ts = cc c.targets.view_is in
    let order : is_out_of_order earlier (statement.Exit c.args.source ts) ≡ false =
    sym (late_exit earlier n b c.args.source ts) ∙ sym c.is_late_for_exits.ensures ∙ c.if-is_late_for_exits.false in
    let up : leads_down (statement.Exit c.args.source ts) ≡ false =
    ap (λ (l : List ℕ). leads_down (statement.Exit c.args.source l)) (sym (c.deref.ensures.value ∙ view)) ∙ sym c.is_downward.ensures
    ∙ c.if-is_downward.false in
    let e : map exit_of c.push.new.self.items ≡ n.exits ++ record { source = c.args.source; targets = ts } ∷ [] =
    ap (map exit_of) c.in_ok-push.ensures.items ∙ map-append exit_of c.args.self.now.exits.items _
    ∙ ap (λ (l : List ℕ). n.exits ++ record { source = c.args.source; targets = l } ∷ []) view in
    rw e (taken_exit earlier n b c.args.source ts order
    (omega (arith, c.len.ensures, c.if-len-ge-MOST_EXITS.false, length-map c.args.self.now.exits.items exit_of)) up good)
