-- The words of clauses, from one place: what an initiator does, notes and is told.
pub use Rattle.mv_work.specs.Initiating.{InitiatorComes, IsAtJob, IsInitiatorAnswer, IsBetween, IsOwn, initiator_due, initiator_left}
pub use Rattle.mv_work.specs.Initiating.{job_marks, named_then, marks_left, rounds_after, rounds_due, steps_events, step_marks}
pub use Rattle.mv_work.specs.Initiating.{steps_marks, steps_then}
pub use Rattle.mv_work.specs.Needs.{Gave, answer_of}
pub use Rattle.mv_work.specs.Noting.{initiating_noted, record_of, rounds_noted}
pub use Rattle.mv_work.specs.Parts.{named_of}
pub use Rattle.mv_work.specs.Works.{HasComeAs, IsNewInitiator, ToldAs}
