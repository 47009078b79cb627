use Rattle.std.proofs.Common.{◌≡◌, ◌≤◌, [], length, take, drop, vec_capacity}
use Rattle.std.specs.Prelude.{count_by}
use Rattle.mv_board.specs.Faces.{IsOf}
use Rattle.mv_calls.specs.Rest.{IsAtRest}
use Rattle.mv_script.specs.Costs.{costs_of}
use Rattle.mv_script.specs.Script.{is_obtain}
use Rattle.mv_runscript.specs.Making.{MakesCalls, AreOfLatches, HaveSlots, is_wait}
use Rattle.mv_runscript.proofs.making.make_all.Given as goal

abbrev pub invariant-loop-call : goal.invariant-loop-call
invariant-loop-call g l = record {
  board : IsOf l.station l.task;
  quiet : IsAtRest l.task.log;
  left : costs_of l.station.config (drop l.call-index l.calls) ≤ l.task.left;
  requests : AreOfLatches l.room.requests.items;
  count : length l.room.requests.items ≡ count_by is_obtain (take l.call-index l.calls);
  request_room : length l.calls ≤ vec_capacity l.room.requests;
  answers : length l.room.answers.items ≡ l.call-index;
  answer_room : length l.calls ≤ vec_capacity l.room.answers;
  slots : HaveSlots l.room.slots.items;
  rooms : count_by is_wait (drop l.call-index l.calls) ≤ length l.room.slots.items;
  makes : MakesCalls l.station.config l.table (take l.call-index l.calls) l.room.answers.items [] l.room.requests.items l.fn.task
      l.task;
}
