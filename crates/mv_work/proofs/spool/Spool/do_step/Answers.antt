use Rattle.std.proofs.Common.{◌+◌, ◌^◌, Ok, Err, refl, ap, subst, arith}
use Rattle.std.proofs.lemmas.Bool.{le-ltb, lt-ltb}
use Rattle.std.proofs.lemmas.Result.{err_from_is_err_and}
use Rattle.mv_work.specs.declared.running.Did.TheVariants as did
use Rattle.mv_work.specs.Spool.{SpoolFace}
use Rattle.mv_work.specs.Steps.{DoesStep}
use Rattle.mv_work.proofs.Runs.{ran_followed, ran_last, ran_nothing, served_as}
use Rattle.mv_work.proofs.spool.Spool.do_step.Goals as goal

pub returns-in-Print-clause-does : goal.returns-in-Print-clause-does
returns-in-Print-clause-does g c =
    let r = c.args.running.now in
    subst (λ x. DoesStep c.args.self.now.board.config r.job r.requests c.args.place c.args.noted.now.notes x (Ok did.Went)
    c.note.new.self.notes c.args.task.now c.args.task.now) c.step-step.ensures.step
    (rw (c.note.ensures.noted, c.in-Print.is) (λ steps q v x. x))

pub returns-in-Use-clause-does : goal.returns-in-Use-clause-does
returns-in-Use-clause-does g c = (rw (← c.step-step.ensures.step) c.in-Use.is, refl, refl)

pub returns-in_default-clause-does : goal.returns-in_default-clause-does
returns-in_default-clause-does g c =
    let r = c.args.running.now in
    subst (λ x. DoesStep c.args.self.now.board.config r.job r.requests c.args.place c.args.noted.now.notes x (Err _)
    c.args.noted.now.notes c.args.task.now c.args.task.now) c.step-step.ensures.step
    (rw (c.in-Free.is, c.in_default.is) (λ steps. ran_nothing _ refl c.requires.task.rest))

pub returns-in_ok-release_latch-in-Free-clause-does : goal.returns-in_ok-release_latch-in-Free-clause-does
returns-in_ok-release_latch-in-Free-clause-does g c =
    let r = c.args.running.now in
    let on = ap (λ (s : SpoolFace). s.board) c.self.view_is in
    let own = c.requires.kept.own c.in-Free.latch c.in-Some.token c.in-Some.is in
    subst (λ x. DoesStep c.args.self.now.board.config r.job r.requests c.args.place c.args.noted.now.notes x (Ok did.Went)
    c.args.noted.now.notes c.args.task.now c.release_latch.new.task) c.step-step.ensures.step
    (rw (c.in-Free.is, c.in-Some.is)
    (λ steps q v x. ran_followed (served_as (rw (on, own) at c.in_ok-release_latch-in-Free.ensures.served)) _ x))

pub returns-in_err-release_latch-in-Free-clause-does : goal.returns-in_err-release_latch-in-Free-clause-does
returns-in_err-release_latch-in-Free-clause-does g c =
    let r = c.args.running.now in
    let on = ap (λ (s : SpoolFace). s.board) c.self.view_is in
    let own = c.requires.kept.own c.in-Free.latch c.in-Some.token c.in-Some.is in
    let p = err_from_is_err_and c.from_residual.result c.from_residual.ensures.1 in
    subst (λ x. DoesStep c.args.self.now.board.config r.job r.requests c.args.place c.args.noted.now.notes x c.from_residual.result
    c.args.noted.now.notes c.args.task.now c.release_latch.new.task) c.step-step.ensures.step
    (rw (p.1, c.in-Free.is, c.in-Some.is)
    (λ steps. ran_last (served_as (rw (on, own) at c.in_err-release_latch-in-Free.ensures.served)) _ refl))

pub returns-in-Some-checked_add-clause-does : goal.returns-in-Some-checked_add-clause-does
returns-in-Some-checked_add-clause-does g c =
    let r = c.args.running.now in
    let sum = c.in-Some-checked_add.ensures in
    subst (λ x. DoesStep c.args.self.now.board.config r.job r.requests c.args.place c.args.noted.now.notes x (Ok did.Went)
    c.args.noted.now.notes c.args.task.now c.write_volume.new.task) c.step-step.ensures.step
    (rw c.in-Count.is (λ steps q v x. ran_followed (served_as c.read_volume-number.ensures.served) _
    (rw (lt-ltb (c.read_volume-number.result + c.in-Count.amount) (2 ^ 32) sum.0)
    (ran_followed (served_as (rw sum.1 at c.write_volume.ensures.served)) _ x))))

pub returns-in_default-checked_add-clause-does : goal.returns-in_default-checked_add-clause-does
returns-in_default-checked_add-clause-does g c =
    let r = c.args.running.now in
    let over = c.in_default-checked_add.ensures in
    subst (λ x. DoesStep c.args.self.now.board.config r.job r.requests c.args.place c.args.noted.now.notes x (Err _)
    c.args.noted.now.notes c.args.task.now c.read_volume-number.new.task) c.step-step.ensures.step
    (rw c.in-Count.is (λ steps. ran_last (served_as c.read_volume-number.ensures.served) _
    (rw (le-ltb (c.read_volume-number.result + c.in-Count.amount) (2 ^ 32) (omega arith)) refl)))

pub returns-in-Scan-clause-does : goal.returns-in-Scan-clause-does
returns-in-Scan-clause-does g c =
    let r = c.args.running.now in
    subst (λ x. DoesStep c.args.self.now.board.config r.job r.requests c.args.place c.args.noted.now.notes x (Ok did.Went)
    c.note-in-Scan.new.self.notes c.args.task.now c.read_volume-second.new.task) c.step-step.ensures.step
    (rw (c.note-in-Scan.ensures.noted, c.in-Scan.is) (λ steps q v x. ran_followed (served_as c.read_volume-first.ensures.served) _
    (ran_followed (served_as c.read_volume-second.ensures.served) _ x)))

pub returns-in-Abend-clause-does : goal.returns-in-Abend-clause-does
returns-in-Abend-clause-does g c =
    let r = c.args.running.now in
    subst (λ x. DoesStep c.args.self.now.board.config r.job r.requests c.args.place c.args.noted.now.notes x
    (Ok (did.Ended c.in-Abend.code)) c.args.noted.now.notes c.args.task.now c.args.task.now) c.step-step.ensures.step
    (rw c.in-Abend.is (λ steps. ran_nothing _ refl c.requires.task.rest))

pub returns-in-Return-clause-does : goal.returns-in-Return-clause-does
returns-in-Return-clause-does g c =
    let r = c.args.running.now in
    subst (λ x. DoesStep c.args.self.now.board.config r.job r.requests c.args.place c.args.noted.now.notes x
    (Ok (did.Ended c.in-Return.code)) c.args.noted.now.notes c.args.task.now c.args.task.now) c.step-step.ensures.step
    (rw c.in-Return.is (λ steps. ran_nothing _ refl c.requires.task.rest))
