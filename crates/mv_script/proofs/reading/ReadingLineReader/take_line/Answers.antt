-- A line that is neither ignored nor bad by its bytes.
use Rattle.std.proofs.Common.{◌≡◌, ◌<◌, false, List, length, Ok, Err, refl, sym, subst, ◌∙◌, arith}
use Rattle.std.proofs.lemmas.Result.{err_from_is_err_and}
use Rattle.mv_line.specs.Line.{is_foreign, is_too_long}
use Rattle.mv_scriptline.specs.Sizes.{SizesFace}
use Rattle.mv_scriptline.specs.declared.statement.Statement.{Statement}
use Rattle.mv_scriptline.specs.Misread.{IsReadAs}
use Rattle.mv_script.specs.Reading.{notes_of, IsBehind}
use Rattle.mv_script.specs.Script.{sizes_behind}
use Rattle.mv_scriptline.specs.Statement.{text_states}
use Rattle.mv_script.proofs.Good.{read_well}
use Rattle.mv_script.proofs.Lines.{line_taken, line_refused, some_text, sizes, sizes_are}
use Rattle.mv_script.proofs.reading.ReadingLineReader.take_line.Goals.{After-stated_table, In_ok-statement}
use Rattle.mv_script.proofs.reading.ReadingLineReader.take_line.Goals as goal

-- the line is neither foreign nor too long, and something of it counts
counts : (c : After-stated_table)
    → (is_foreign c.args.line.now ≡ false) × (is_too_long c.args.line.now ≡ false) × (0 < length c.shown-text.result.now)
counts c = (
  sym c.is_foreign.ensures ∙ c.if-is_foreign.false,
  sym c.is_too_long.ensures ∙ c.if-is_too_long.false,
  some_text (length c.shown-text.result.now) (sym c.is_empty.ensures ∙ c.if-is_empty.false),
)

-- it is read by the sizes that the lines before it state
sizes_so_far : (c : After-stated_table) (earlier : List Statement) → IsBehind earlier c.args.self.now
    → sizes c.args.self.now.stated c.len.result c.stated_table.result ≡ sizes_behind earlier
sizes_so_far c earlier b =
    sizes_are earlier (notes_of c.args.self.now) b c.len.result c.stated_table.result (omega (arith, c.len.ensures)) c.stated_table.ensures

-- by these it states this
states : (c : In_ok-statement) (z : SizesFace) → sizes c.args.self.now.stated c.len.result c.stated_table.result ≡ z
    → text_states z c.shown-text.result.now ≡ Ok c.in_ok-statement.statement
states c z same = subst (λ (s : SizesFace). text_states s c.shown-text.result.now ≡ Ok c.in_ok-statement.statement) same c.in_ok-statement.ensures

pub take-requires : goal.take-requires
take-requires c =
    let earlier = c.requires.1 in
    let b = c.requires.2 in
    let z = sizes_so_far (goal.at.take-requires c).After-stated_table earlier b in
    let e = states (goal.at.take-requires c).In_ok-statement (sizes_behind earlier) z in
    (earlier, (b, read_well (sizes_behind earlier) c.shown-text.result.now c.in_ok-statement.statement e))

pub returns : goal.returns
returns c = λ setting earlier b.
    let text = c.shown-text.result.now in
    let k = counts (goal.at.returns c).After-stated_table in
    let z = sizes_so_far (goal.at.returns c).After-stated_table earlier b in
    let e = states (goal.at.returns c).In_ok-statement (sizes_behind earlier) z in
    line_taken earlier c.args.line.now text c.shown-text.ensures k.0 k.1 c.in_ok-statement.statement k.2 e c.take.result _
    (c.take.ensures earlier b (read_well (sizes_behind earlier) text c.in_ok-statement.statement e))

pub returns-in_err-statement : goal.returns-in_err-statement
returns-in_err-statement c = λ setting earlier b.
    let text = c.shown-text.result.now in
    let k = counts (goal.at.returns-in_err-statement c).After-stated_table in
    let why = c.in_err-statement.field-0.0 in
    let p = err_from_is_err_and c.from_residual.result c.from_residual.ensures.1 in
    let is : c.from_residual.result ≡ Err why = rw (p.1, p.2) refl in
    rw is (line_refused earlier c.args.line.now text c.shown-text.ensures k.0 k.1 k.2 why
    (subst (λ (s : SizesFace). IsReadAs {A = Statement} (Err why) (text_states s text))
    (sizes_so_far (goal.at.returns-in_err-statement c).After-stated_table earlier b) c.in_err-statement.ensures))
