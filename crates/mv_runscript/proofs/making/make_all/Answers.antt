use Rattle.std.proofs.Common.{◌≤◌, ◌+◌, ◌∷◌, [], length, take, refl, sym, ap, ◌∙◌, subst, arith, length-append, length-take}
use Rattle.std.specs.Prelude.{count_by}
use Rattle.std.proofs.lemmas.List.Sums.{count_by-le-length}
use Rattle.mv_scriptline.specs.declared.call.Call.{Call}
use Rattle.mv_script.specs.Fault.{obtain_meant}
use Rattle.mv_script.specs.Script.{is_obtain}
use Rattle.mv_script.specs.Sound.{IfThere}
use Rattle.mv_runscript.specs.Making.{AreGoodIn, AreOfLatches, MakesCalls, is_wait}
use Rattle.mv_runscript.proofs.Scripts.{sound_at}
use Rattle.mv_runscript.proofs.Steps.{cost_more, counted_more, left_more, path_more, call_spends, call_rests, call_keeps_board}
use Rattle.mv_runscript.proofs.making.make_all.Goals as goal

-- nothing was answered or asked yet
pub loop-call-init : goal.loop-call-init
loop-call-init g c =
    let room = c.requires.room in
    record {
      board = c.requires.task.board;
      quiet = c.requires.task.rest;
      left = c.requires.task.left;
      requests = subst AreOfLatches (sym room.none_asked) tt;
      count = ap length room.none_asked;
      request_room = room.requests;
      answers = ap length room.none_answered;
      answer_room = room.answers;
      slots = room.slots;
      rooms = room.waits;
      makes = subst (λ answers. MakesCalls c.args.station.now.config c.args.table.now [] answers [] c.args.room.now.requests.items
          c.args.task.now c.args.task.now) (sym room.none_answered) (room.none_asked, refl);
    }

pub make_call-answer-requires-clause-task : goal.make_call-answer-requires-clause-task
make_call-answer-requires-clause-task g c =
    let cost = cost_more c.args.calls.now c.loop-call.call-index c.call-item.result c.loop-call-test.true c.call-item.is
    c.args.station.now.config in
    let left = c.loop-call.invariant.left in record {
      board = c.loop-call.invariant.board;
      rest = c.loop-call.invariant.quiet;
      left = omega arith;
    }

pub make_call-answer-requires-clause-room : goal.make_call-answer-requires-clause-room
make_call-answer-requires-clause-room g c obtains =
    let asked = count_by-le-length is_obtain (take c.loop-call.call-index c.args.calls.now) in
    let made = length-take c.loop-call.call-index c.args.calls.now in
    let count = c.loop-call.invariant.count in
    let room = c.loop-call.invariant.request_room in
    omega arith

pub make_call-answer-requires-clause-rooms : goal.make_call-answer-requires-clause-rooms
make_call-answer-requires-clause-rooms g c =
    let waits = left_more c.args.calls.now c.loop-call.call-index c.call-item.result c.loop-call-test.true c.call-item.is is_wait in
    let rooms = c.loop-call.invariant.rooms in
    omega arith

pub make_call-answer-requires-clause-numbers : goal.make_call-answer-requires-clause-numbers
make_call-answer-requires-clause-numbers g c =
    let config = c.args.station.now.config in
    let d = c.call-item.result in
    subst (λ (x : Call). AreGoodIn config c.args.table.now x) (sym c.call-item.is)
    (sound_at config c.args.table.now [] c.args.calls.now c.loop-call.call-index d c.requires.sound c.loop-call-test.true).numbers

pub make_call-answer-requires-clause-obtain : goal.make_call-answer-requires-clause-obtain
make_call-answer-requires-clause-obtain g c =
    let config = c.args.station.now.config in
    let d = c.call-item.result in
    subst (λ n. IfThere (λ k. (1 ≤ k) × (k ≤ n)) (obtain_meant d)) (sym c.loop-call.invariant.count)
    (subst (λ (x : Call). IfThere (λ k. (1 ≤ k) × (k ≤ count_by is_obtain (take c.loop-call.call-index c.args.calls.now))) (obtain_meant x))
    (sym c.call-item.is)
    (sound_at config c.args.table.now [] c.args.calls.now c.loop-call.call-index d c.requires.sound c.loop-call-test.true).obtain)

pub loop-call-preserved : goal.loop-call-preserved
loop-call-preserved g c =
    let config = c.args.station.now.config in
    let calls = c.args.calls.now in
    let i = c.loop-call.call-index in
    let d = c.call-item.result in
    let a = c.make_call-answer.result in
    let since = c.loop-call.invariant in
    let old = c.loop-call.room.requests.items in
    let new = c.make_call-answer.new.requests.items in
    let t = c.loop-call.task in
    let u = c.make_call-answer.new.task in
    let made = c.make_call-answer.ensures.makes in
    let lt = c.loop-call-test.true in
    let is = c.call-item.is in
    let spends = call_spends config c.args.table.now d a old new t u made in
    let cost = cost_more calls i d lt is config in
    let counted = counted_more calls i d lt is is_obtain in
    let waits = left_more calls i d lt is is_wait in
    let left = since.left in
    let count = since.count in
    let asked = c.make_call-answer.ensures.count in
    let rooms = since.rooms in
    let taken = c.make_call-answer.ensures.rooms in
    let size = since.answers in
    let more = c.push_reserved.ensures.len in
    let answer_room = since.answer_room in
    let request_room = since.request_room in
    let pushed = c.push_reserved.ensures.capacity in
    let kept = c.make_call-answer.ensures.capacity in
    record {
      board = call_keeps_board config c.args.table.now d a old new t u made c.args.station.now since.board;
      quiet = call_rests config c.args.table.now d a old new t u made;
      left = omega arith;
      requests = c.make_call-answer.ensures.requests;
      count = asked ∙ ap (λ n. n + count_by is_obtain (d ∷ [])) count ∙ sym counted;
      request_room = omega arith;
      answers = ap length c.push_reserved.ensures.items ∙ length-append c.loop-call.room.answers.items (a ∷ []) ∙ ap (λ n. n + 1) size;
      answer_room = omega arith;
      slots = c.make_call-answer.ensures.slots;
      rooms = omega arith;
      makes = subst (λ answers. MakesCalls config c.args.table.now (take (i + 1) calls) answers [] new c.args.task.now u)
          (sym c.push_reserved.ensures.items)
          (path_more calls i d lt is config c.args.table.now c.loop-call.room.answers.items a [] old new c.args.task.now t u
          since.makes made);
    }
