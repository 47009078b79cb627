-- The words of clauses and laws, from one place: what a script says, what its calls cost, and its run.
pub use Rattle.mv_script.specs.declared.answer.Answer.{Answer}
pub use Rattle.mv_scriptline.specs.declared.call.Call.{Call}
pub use Rattle.mv_script.specs.AnswerText.{AreInRange, answers_text}
pub use Rattle.mv_script.specs.Costs.{Asked, cost, service_of}
pub use Rattle.mv_script.specs.Events.{EventsAreHandedOut}
pub use Rattle.mv_script.specs.Fault.{HasFault, first_fault, obtain_meant}
pub use Rattle.mv_scriptline.specs.Operand.{event_count, position_count}
pub use Rattle.mv_script.specs.Run.{IsScriptRun, answer_at, script_answers, unless_moved}
pub use Rattle.mv_script.specs.Script.{ScriptData, is_obtain, script_data, script_of}
pub use Rattle.mv_script.specs.Sound.{IfThere, IsSound}
pub use Rattle.mv_script.specs.Tasks.{Moves, calls_at, named_table}
