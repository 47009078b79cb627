use Rattle.std.proofs.Common.{Option, sym, ap, ◌∙◌, ◌≡◌, ◌∷◌, List, ℕ, subst}
use Rattle.std.specs.Borrow.{Bor}
use Rattle.mv_line.specs.Part.{parts_at, parts_left}
use Rattle.mv_entrytext.specs.Lines.{numbers}
use Rattle.mv_entrytext.proofs.Fields.{with_front, one_more_number, bad_number, no_more_numbers}
use Rattle.mv_entrytext.proofs.line.read_numbers.Goals as goal

pub returns-in_default-whole_number : goal.returns-in_default-whole_number
returns-in_default-whole_number c =
    let shape : parts_left 32 c.loop-left.left ≡ c.split_part.result.0.now ∷ parts_left 32 c.split_part.result.1 =
    ap (parts_left 32) c.in-Some.is ∙ c.split_part.ensures.parts in
    bad_number c.args.strict c.loop-left.found.items c.split_part.result.0.now (parts_left 32 c.split_part.result.1)
    (parts_left 32 c.loop-left.left) (numbers c.args.strict (parts_at 32 c.args.text.now)) shape
    (sym c.whole_number.ensures ∙ c.in_default-whole_number.is) c.loop-left.invariant

pub loop-left-preserved : goal.loop-left-preserved
loop-left-preserved c =
    let shape : parts_left 32 c.loop-left.left ≡ c.split_part.result.0.now ∷ parts_left 32 c.split_part.result.1 =
    ap (parts_left 32) c.in-Some.is ∙ c.split_part.ensures.parts in
    let n = c.in-Some-whole_number.number in
    let more =
    one_more_number c.args.strict c.loop-left.found.items c.split_part.result.0.now n (parts_left 32 c.split_part.result.1)
    (parts_left 32 c.loop-left.left) (numbers c.args.strict (parts_at 32 c.args.text.now)) shape
    (sym c.whole_number.ensures ∙ c.in-Some-whole_number.is) c.loop-left.invariant in
    subst (λ (x : List ℕ). with_front x (numbers c.args.strict (parts_left 32 c.split_part.result.1))
    ≡ numbers c.args.strict (parts_at 32 c.args.text.now)) (sym c.in_ok-push.ensures.items) more

pub returns : goal.returns
returns c =
    no_more_numbers c.args.strict c.loop-left.found.items (numbers c.args.strict (parts_at 32 c.args.text.now))
    (sym (ap (λ (o : Option (Bor (List ℕ))). with_front c.loop-left.found.items (numbers c.args.strict (parts_left 32 o))) c.in_default.is)
    ∙ c.loop-left.invariant)
