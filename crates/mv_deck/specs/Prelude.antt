-- The words of clauses, from one place: what a deck says, when it is sound, and its faults.
pub use Rattle.mv_deck.specs.Deck.{JobData, deck_data, deck_of, fresh_job, job_data, jobs_of, place_of, step_of}
pub use Rattle.mv_deck.specs.EndCode.{not_run}
pub use Rattle.mv_deck.specs.Fault.{first_fault}
pub use Rattle.mv_deck.specs.Load.{load_jobs, load_text}
pub use Rattle.mv_deck.specs.Names.{place_in}
pub use Rattle.mv_deck.specs.Operand.{most_after}
pub use Rattle.mv_deck.specs.Sound.{CanBeRun, HasGoodNumbers, IsSound}
pub use Rattle.mv_deck.specs.Weight.{most_initiators}
