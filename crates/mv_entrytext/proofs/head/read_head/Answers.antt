-- Where the reader stands decides: what the next line says, or that the text is cut off.
use Rattle.std.proofs.Common.{true, [], ◌≡◌, Option, Some, refl, ap, sym, subst, ◌∙◌}
use Rattle.mv_config.specs.Setup.{Setup}
use Rattle.mv_entrytext.specs.Journal as journal
use Rattle.mv_entrytext.specs.Lines.{AtEntries, Draft, line_read}
use Rattle.mv_entrytext.specs.Said.{said}
use Rattle.mv_entrytext.specs.Draft.{IsAt, draft_at, head_seen}
use Rattle.mv_line.specs.Fault.{TellsLowest}
use Rattle.mv_entrytext.specs.declared.fault.Kind.{Kind}
use Rattle.mv_entrytext.specs.Fault.{kind_number, listed}
use Rattle.mv_entrytext.proofs.Heads.{not_ended, said_other, nothing_said, config_said, valid_said}
use Rattle.mv_entrytext.proofs.Passes.{next_at, at_form, at_said, at_cut}
use Rattle.mv_entrytext.proofs.head.read_head.Goals as goal

pub returns-in-Err : goal.returns-in-Err
returns-in-Err c = rw c.at.ensures (at_form c.lines.invariant c.in-Some.ensures c.in-Err.refusal c.in-Err.ensures)

pub returns-in-Ok-checked : goal.returns-in-Ok-checked
returns-in-Ok-checked c =
    let d = head_seen c.lines.draft in
    let read : line_read true d.stage c.in-Some.text.now ≡ Some journal.Events =
    c.in-Ok.ensures ∙ ap (λ l. Some (said l)) c.in-Events.is in
    let next = next_at c.lines.invariant c.in-Some.ensures journal.Events read (valid_said d c.in-Ok-checked.ensures.1) in (
      subst (λ (s : Setup). IsAt c.args.bytes.now c.next.new.self (draft_at (AtEntries d.version) d.version s [] []))
          (sym c.in-Ok-checked.ensures.0) next,
      c.split_cut_off.ensures.cut,
    )

pub returns-in-Err-checked : goal.returns-in-Err-checked
returns-in-Err-checked c =
    let d = head_seen c.lines.draft in
    let read : line_read true d.stage c.in-Some.text.now ≡ Some journal.Events =
    c.in-Ok.ensures ∙ ap (λ l. Some (said l)) c.in-Events.is in
    rw c.at-in-Err-checked.ensures
    (at_said c.lines.invariant c.in-Some.ensures journal.Events read c.in-Err-checked.refusal
    (subst (λ (k : Option Kind). TellsLowest kind_number c.in-Err-checked.refusal (listed k)) (config_said d.setup)
    c.in-Err-checked.ensures))

pub lines-preserved : goal.lines-preserved
lines-preserved c =
    let l = c.in-Ok.line in
    let next = next_at c.lines.invariant c.in-Some.ensures (said l) c.in-Ok.ensures
    (nothing_said (head_seen c.lines.draft) l c.in_default-line.not-Events) in
    subst (λ (x : Draft). IsAt c.args.bytes.now c.next.new.self x)
    (sym (c.in_ok-take.ensures (said_other l c.in_default-line.not-Events))) next

pub returns : goal.returns
returns c =
    rw (c.at-2.ensures, c.in_default.ensures.0)
    (at_cut c.lines.invariant c.in_default.ensures.1 (rw (not_ended c.lines.draft.stage) refl))
