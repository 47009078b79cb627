use Rattle.std.proofs.Common.{◌≡◌, ◌++◌, IfOk, subst, refl, length}
use Rattle.std.proofs.lemmas.Option.{slice_get_past, slice_get_read}
use Rattle.mv_work.proofs.brought.NoteLines.{no_print, no_scan, a_scan}
use Rattle.mv_work.proofs.reporting.push_line.Goals as goal

pub returns-in-None : goal.returns-in-None
returns-in-None c = no_print c.args.texts.now.items c.args.steps.now c.args.note c.in-Printed.place c.in-Printed.is
    (slice_get_past c.args.steps.now c.in-Printed.place c.in-None.ensures.lookup.3)

pub returns-in-Some-get : goal.returns-in-Some-get
returns-in-Some-get c = subst (λ ls. IfOk c.push_scanned.result (λ _. c.push_scanned.new.texts.items ≡ c.args.texts.now.items ++ ls))
    (a_scan c.args.steps.now c.args.note c.in-Scanned.place c.in-Scanned.first c.in-Scanned.second c.in-Some-get.step.now c.in-Scanned.is
    (slice_get_read c.args.steps.now (length c.args.steps.now) c.in-Scanned.place c.in-Some-get.step.now refl
    c.in-Some-get.ensures.lookup.3.0 c.in-Some-get.ensures.lookup.1))
    c.push_scanned.ensures

pub returns-in-None-get : goal.returns-in-None-get
returns-in-None-get c = no_scan c.args.texts.now.items c.args.steps.now c.args.note c.in-Scanned.place c.in-Scanned.first
    c.in-Scanned.second c.in-Scanned.is (slice_get_past c.args.steps.now c.in-Scanned.place c.in-None-get.ensures.lookup.3)
