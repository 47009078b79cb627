use Rattle.mv_work.proofs.spool.Spool.resume_scheduler.Goals as goal

pub on_entry-requires-clause-job : goal.on_entry-requires-clause-job
on_entry-requires-clause-job g c = rw c.in-Entry-Code.is-0 at c.requires.answer.numbers

pub on_entry-requires-clause-task : goal.on_entry-requires-clause-task
on_entry-requires-clause-task g c = rw c.in-Entry-Code.is-0 at c.requires.task

pub returns-in-Entry-Code : goal.returns-in-Entry-Code
returns-in-Entry-Code g c = rw (c.in-Entry-Code.is-0, c.in-Entry-Code.is-1) c.on_entry.ensures

pub on_ends-requires-clause-job : goal.on_ends-requires-clause-job
on_ends-requires-clause-job g c = rw c.in-Ends-Slots.is-0 at c.requires.answer.numbers

pub on_ends-requires-clause-task : goal.on_ends-requires-clause-task
on_ends-requires-clause-task g c = rw c.in-Ends-Slots.is-0 at c.requires.task

pub returns-in-Ends-Slots : goal.returns-in-Ends-Slots
returns-in-Ends-Slots g c = rw (c.in-Ends-Slots.is-0, c.in-Ends-Slots.is-1) (rw c.deref.ensures.0 at c.on_ends.ensures)

pub on_idle-requires-clause-job : goal.on_idle-requires-clause-job
on_idle-requires-clause-job g c = rw c.in-Idle-Slots.is-0 at c.requires.answer.numbers

pub on_idle-requires-clause-task : goal.on_idle-requires-clause-task
on_idle-requires-clause-task g c = rw c.in-Idle-Slots.is-0 at c.requires.task

pub returns-in-Idle-Slots : goal.returns-in-Idle-Slots
returns-in-Idle-Slots g c = rw (c.in-Idle-Slots.is-0, c.in-Idle-Slots.is-1) (rw c.deref-in-Idle-Slots.ensures.0 at c.on_idle.ensures)

pub on_dismissal-requires-clause-index : goal.on_dismissal-requires-clause-index
on_dismissal-requires-clause-index g c = rw c.in-Dismissal-Code.is-0 at c.requires.answer.numbers

pub on_dismissal-requires-clause-task : goal.on_dismissal-requires-clause-task
on_dismissal-requires-clause-task g c = rw c.in-Dismissal-Code.is-0 at c.requires.task

pub returns-in-Dismissal-Code : goal.returns-in-Dismissal-Code
returns-in-Dismissal-Code g c = rw (c.in-Dismissal-Code.is-0, c.in-Dismissal-Code.is-1) c.on_dismissal.ensures
