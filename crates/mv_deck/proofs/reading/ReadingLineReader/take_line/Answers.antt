use Rattle.std.proofs.Common.{◌≡◌, Some, option_map, sym, ap, ◌∙◌}
use Rattle.mv_deck.specs.Form.{stated}
use Rattle.mv_deck.specs.Statement as statement
use Rattle.mv_deck.proofs.Behind.{few_jobs}
use Rattle.mv_deck.proofs.Checked.{is_shown, taken}
use Rattle.mv_deck.proofs.reading.ReadingLineReader.take_line.Goals as goal

pub take-requires : goal.take-requires
take-requires c = let b = c.requires in few_jobs b.0.0 b.0.1 b.1 _ b.2

pub returns-in-Some : goal.returns-in-Some
returns-in-Some c = λ setting earlier b.
    let n = setting.0 in
    let v = setting.1 in
    let form : statement.form_of v c.shown-text.result.now ≡ Some (stated v c.in-Some.form) =
    ap (λ x. statement.form_of x c.shown-text.result.now) (sym b.version)
    ∙ sym c.form_of.ensures
    ∙ ap (option_map (stated c.args.self.now.version)) c.in-Some.is
    ∙ ap (λ x. Some (stated x c.in-Some.form)) b.version in
    taken n v earlier c.args.line.now (stated v c.in-Some.form) _ _
    (is_shown n v earlier c.args.line.now c.shown-text.result.now (stated v c.in-Some.form) c.shown-text.ensures
    (sym c.is_foreign.ensures ∙ c.if-is_foreign.false) (sym c.is_too_long.ensures ∙ c.if-is_too_long.false)
    (sym c.is_empty.ensures ∙ c.if-is_empty.false) (sym c.is_comment.ensures ∙ c.if-is_comment.false) form)
    (c.take.ensures n v earlier b)
