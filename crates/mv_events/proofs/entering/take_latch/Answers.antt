use Rattle.std.proofs.Common.{◌≡◌, ◌∙◌, Ok, Err, None, ap, subst}
use Rattle.mv_latch.specs.declared.request.LatchForm.TheVariants.{Waiting}
use Rattle.mv_latch.specs.declared.request.Mode.TheVariants.{Exclusive}
use Rattle.mv_calls.specs.Events.{event_requestor}
use Rattle.mv_calls.specs.Keeping.{kept_of}
use Rattle.mv_calls.specs.LatchCalls.{obtain_refusal}
use Rattle.mv_latchset.specs.Answers.{obtained_as, obtain_refused}
use Rattle.mv_latchset.specs.declared.obtaining.ObtainRefusal.TheVariants.{Quota, Purged}
use Rattle.mv_latchset.specs.Obtaining.{IsRefusedBy}
use Rattle.mv_events.proofs.Enterings.{own_served, own_cause}
use Rattle.mv_events.proofs.entering.take_latch.Goals as goal

pub returns-in-Ok-Granted-clause-served : goal.returns-in-Ok-Granted-clause-served
returns-in-Ok-Granted-clause-served g c =
    own_served c.args.station.now.config c.args.table.now c.table.result.now c.from-requestor.result _ _ c.args.task.now c.obtain.new.task
    c.table.ensures.table (c.from-requestor.ensures ∙ c.number.ensures.number) (ap (λ x. Ok (obtained_as x)) c.in-Ok-Granted.field-0-is)
    c.in-Ok-Granted.ensures.served

pub returns-in-Err-Quota-clause-served : goal.returns-in-Err-Quota-clause-served
returns-in-Err-Quota-clause-served g c =
    own_served c.args.station.now.config c.args.table.now c.table.result.now c.from-requestor.result _ _ c.args.task.now c.obtain.new.task
    c.table.ensures.table (c.from-requestor.ensures ∙ c.number.ensures.number) (ap (λ x. Err (obtain_refused x)) c.in-Err-Quota.field-0-is)
    c.in-Err-Quota.ensures.served

pub returns-in-Err-Purged-clause-served : goal.returns-in-Err-Purged-clause-served
returns-in-Err-Purged-clause-served g c =
    own_served c.args.station.now.config c.args.table.now c.table.result.now c.from-requestor.result _ _ c.args.task.now c.obtain.new.task
    c.table.ensures.table (c.from-requestor.ensures ∙ c.number.ensures.number) (ap (λ x. Err (obtain_refused x)) c.in-Err-Purged.field-0-is)
    c.in-Err-Purged.ensures.served

pub returns-in-Ok-Granted-clause-causes : goal.returns-in-Ok-Granted-clause-causes
returns-in-Ok-Granted-clause-causes g c =
    own_cause (λ l r. obtain_refusal c.args.station.now.config l r Exclusive Waiting (kept_of c.args.task.now.number c.args.task.now.log)
    ≡ None) c.args.table.now c.table.result.now c.from-requestor.result c.args.task.now.number c.table.ensures.table
    (c.from-requestor.ensures ∙ c.number.ensures.number) c.in-Ok-Granted.ensures.causes.0

pub returns-in-Err-Quota-clause-causes : goal.returns-in-Err-Quota-clause-causes
returns-in-Err-Quota-clause-causes g c =
    own_cause (λ l r. IsRefusedBy c.args.station.now.config l r Exclusive Waiting c.args.task.now Quota c.obtain.new.task)
    c.args.table.now c.table.result.now c.from-requestor.result c.args.task.now.number c.table.ensures.table
    (c.from-requestor.ensures ∙ c.number.ensures.number)
    (subst (λ why. IsRefusedBy c.args.station.now.config c.table.result.now.latch (event_requestor c.from-requestor.result) Exclusive
    Waiting c.args.task.now why c.obtain.new.task) c.in-Err-Quota.field-0-is c.in-Err-Quota.ensures.causes)

pub returns-in-Err-Purged-clause-causes : goal.returns-in-Err-Purged-clause-causes
returns-in-Err-Purged-clause-causes g c =
    let is = own_cause (λ l r. IsRefusedBy c.args.station.now.config l r Exclusive Waiting c.args.task.now Purged c.obtain.new.task)
    c.args.table.now c.table.result.now c.from-requestor.result c.args.task.now.number c.table.ensures.table
    (c.from-requestor.ensures ∙ c.number.ensures.number)
    (subst (λ why. IsRefusedBy c.args.station.now.config c.table.result.now.latch (event_requestor c.from-requestor.result) Exclusive
    Waiting c.args.task.now why c.obtain.new.task) c.in-Err-Purged.field-0-is c.in-Err-Purged.ensures.causes) in
    (is.0, is.2)
