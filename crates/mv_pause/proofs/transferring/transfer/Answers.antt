use Rattle.std.proofs.Common.{◌≡◌, Some, None, Ok, Err, option_map, refl, sym, ap, ◌∙◌, subst}
use Rattle.mv_element.specs.declared.operation.ElementOp.TheVariants.{Release}
use Rattle.mv_machine.specs.declared.entry.Object.TheVariants.{Element}
use Rattle.mv_machine.specs.declared.entry.Op.TheVariants as op_on
use Rattle.mv_calls.specs.Keeping.{kept_of}
use Rattle.mv_calls.specs.Pauses.{transfer, transfer_refusal, transferred, pause_current}
use Rattle.mv_calls.specs.Program.{Do, Done, on_element}
use Rattle.mv_wait.specs.Run.{Runs}
use Rattle.mv_wait.proofs.Runs.{runs_then, runs_within}
use Rattle.mv_wait.proofs.Steps.{element_runs, served_by, done_served}
use Rattle.mv_pause.specs.Answers.{transfer_answer, transfer_refused}
use Rattle.mv_pause.specs.Replies.{reply_to_release}
use Rattle.mv_pause.specs.Transferring.{pause_cost, target_refused}
use Rattle.mv_pause.proofs.Served.{rests_released}
use Rattle.mv_pause.proofs.Transfers.{still_accepted, same_pause, refused_whole, accepted_whole, target_is_refused, target_is_released}
use Rattle.mv_pause.proofs.Transfers.{cost_parts, target_cause, current_cause, target_is_low, transfer_is_low}
use Rattle.mv_pause.proofs.transferring.transfer.Goals as goal
use Rattle.mv_calls.specs.Services.{transfer_events}

pub returns-in-Some : goal.returns-in-Some
returns-in-Some g c =
    let s = c.args.station.now.config in
    let t = c.args.task.now in
    let why = transfer_refused c.in-Some.refusal in
    let is = sym c.refuses_transfer.ensures.refusal ∙ ap (λ z. option_map transfer_refused z) c.in-Some.is in record {
      served = done_served (transfer_events c.args.current) (transfer s c.args.current c.args.target c.args.code)
          (λ a. a ≡ Err why) t (Err why)
          (refused_whole s c.args.current c.args.target c.args.code (kept_of t.number t.log) why is) c.requires.task.rest refl;
      causes = current_cause s c.args.current c.args.target c.args.code t c.in-Some.refusal is;
      low = (c.in-Some.ensures.low, tt);
    }

pub returns-in-Some-refuses_target : goal.returns-in-Some-refuses_target
returns-in-Some-refuses_target g c =
    let s = c.args.station.now.config in
    let t = c.args.task.now in
    let u = c.release-answer.new.task in
    let n = c.args.target.element in
    let r = c.release-answer.result in
    let kept = kept_of t.number t.log in
    let refusal = c.in-Some-refuses_target.refusal in
    let why = transfer_refused refusal in
    let op = Release c.args.target.generation c.args.code in
    let none : transfer_refusal s c.args.current kept ≡ None =
    sym c.refuses_transfer.ensures.refusal ∙ ap (λ z. option_map transfer_refused z) c.in_default.is in
    let is : target_refused r ≡ Some why =
    sym c.refuses_target.ensures ∙ ap (λ z. option_map transfer_refused z) c.in-Some-refuses_target.is in
    let h = c.release-answer.ensures.causes in
    let p = Do (Element n) (op_on.Element op) (λ x. on_element x.entry.reply (transferred s c.args.current kept)) in record {
      served = served_by (transfer_events c.args.current) (transfer s c.args.current c.args.target c.args.code)
          (λ a. a ≡ Err why) t u p (Err why)
          (accepted_whole s c.args.current c.args.target c.args.code kept none)
          (runs_within 1 (transfer_events c.args.current) p (Done (Err why)) t u (cost_parts c.args.current).1
          (element_runs (transferred s c.args.current kept) (Done (Err why)) t u n op (reply_to_release r) h
          (target_is_refused s c.args.current kept r why is)))
          c.requires.task.rest (rests_released t u n (op_on.Element op) r h c.requires.task.rest) refl;
      causes = target_cause s c.args.current c.args.target c.args.code t u r refusal (sym is) none h;
      low = (target_is_low r refusal (sym is) c.release-answer.ensures.low, tt);
    }

pub pause_current-requires-clause-rest : goal.pause_current-requires-clause-rest
pause_current-requires-clause-rest g c =
    rests_released c.args.task.now c.release-answer.new.task c.args.target.element
    (op_on.Element (Release c.args.target.generation c.args.code)) c.release-answer.result c.release-answer.ensures.causes c.requires.task.rest

pub pause_current-requires-clause-accepted : goal.pause_current-requires-clause-accepted
pause_current-requires-clause-accepted g c =
    let s = c.args.station.now.config in
    let t = c.args.task.now in
    let none : transfer_refusal s c.args.current (kept_of t.number t.log) ≡ None =
    sym c.refuses_transfer.ensures.refusal ∙ ap (λ z. option_map transfer_refused z) c.in_default.is in
    still_accepted s c.args.current t c.release-answer.new.task c.args.target.element c.args.target.generation c.args.code
    c.release-answer.result c.release-answer.ensures.causes none

pub returns : goal.returns
returns g c =
    let s = c.args.station.now.config in
    let t = c.args.task.now in
    let u = c.release-answer.new.task in
    let v = c.pause_current.new.task in
    let n = c.args.target.element in
    let r = c.release-answer.result in
    let kept = kept_of t.number t.log in
    let answer = transfer_answer (Ok c.pause_current.result) in
    let op = Release c.args.target.generation c.args.code in
    let none : transfer_refusal s c.args.current kept ≡ None =
    sym c.refuses_transfer.ensures.refusal ∙ ap (λ z. option_map transfer_refused z) c.in_default.is in
    let reached : target_refused r ≡ None =
    sym c.refuses_target.ensures ∙ ap (λ z. option_map transfer_refused z) c.in_default-refuses_target.is in
    let h = c.release-answer.ensures.causes in
    let p = Do (Element n) (op_on.Element op) (λ x. on_element x.entry.reply (transferred s c.args.current kept)) in
    let pause = pause_current s c.args.current kept in
    let paused = subst (λ q. Runs (pause_cost c.args.current) q (Done answer) u v)
    (same_pause s c.args.current t.number u.number t.log u.log h.1.same.number) c.pause_current.ensures.paused in record {
      served = served_by (transfer_events c.args.current) (transfer s c.args.current c.args.target c.args.code)
          (λ a. a ≡ answer) t v p answer
          (accepted_whole s c.args.current c.args.target c.args.code kept none)
          (subst (λ m. Runs m p (Done answer) t v) (sym (cost_parts c.args.current).0)
          (runs_then 1 (pause_cost c.args.current) p pause (Done answer) t u v
          (element_runs (transferred s c.args.current kept) pause t u n op (reply_to_release r) h
          (target_is_released s c.args.current kept r reached)) paused))
          c.requires.task.rest c.pause_current.ensures.rest refl;
      causes = (none, c.pause_current.ensures.given);
      low = (transfer_is_low c.pause_current.result, c.pause_current.ensures.low);
    }
