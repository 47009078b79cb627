use Rattle.std.proofs.Common.{ℕ, ◌+◌, ◌<◌, ◌≤◌, List, ◌∷◌, [], length, get_or, sym, ap, ◌∙◌, subst, length-append}
use Rattle.std.proofs.lemmas.List.{get_or_default}
use Rattle.mv_scriptline.specs.declared.call.Call.{Call}
use Rattle.mv_runscript.specs.Rooms.{HasRoom}
use Rattle.mv_runscript.proofs.Lists.{each_more}
use Rattle.mv_runscript.proofs.room.rooms_for.Goals as goal

pub loop-list-preserved : goal.loop-list-preserved
loop-list-preserved c =
    let tasks = c.args.tasks.now in
    let since = c.loop-list.invariant in
    let i = c.loop-list.list-index in
    let rooms = c.loop-list.rooms.items in
    let item = c.list-item.result in
    let room = c.in_ok-room_for.field-0 in
    let pushed = c.push_reserved.ensures.items in
    let count = since.count in
    let lt = c.loop-list-test.true in
    let at = c.list-item.is ∙ get_or_default tasks i item [] lt ∙ ap (λ n. get_or tasks n []) (sym count) in
    let own = subst (λ (calls : List Call). HasRoom calls room) (c.deref.ensures.value ∙ c.list.view_is ∙ at) c.in_ok-room_for.ensures in
    record {
      count = ap length pushed ∙ length-append rooms (room ∷ []) ∙ ap (λ n. n + 1) count;
      room = subst (λ rs. (k : ℕ) (d : _) → k < length rs → HasRoom (get_or tasks k []) (get_or rs k d)) (sym pushed)
          (each_more HasRoom tasks [] rooms room since.room own);
      space = subst (λ n. length tasks ≤ n) (sym c.push_reserved.ensures.capacity) since.space;
    }
