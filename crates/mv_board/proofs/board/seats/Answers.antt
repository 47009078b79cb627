use Rattle.std.proofs.Common.{◌≡◌, List, sym, ap, ◌∙◌, subst, arith}
use Rattle.atomic_table.specs.Table.{Me}
use Rattle.mv_config.specs.Setup.{Setup}
use Rattle.mv_board.specs.declared.item.Item.{Item}
use Rattle.mv_board.specs.declared.view.View.{View}
use Rattle.mv_board.specs.Faces.{BoardFace, CallerFace, IsFresh, AreFresh}
use Rattle.mv_board.specs.View.{cut_left}
use Rattle.mv_board.proofs.Fresh.{fresh_snoc}
use Rattle.mv_board.proofs.Keeps.{splits}
use Rattle.mv_board.proofs.board.seats.Goals as goal

pub split_seat-seat-requires : goal.split_seat-seat-requires
split_seat-seat-requires c =
    let since = c.loop-number.invariant in
    let made : c.loop-number.first.me.0.made ≡ c.loop-number.number = ap (λ (m : Me Item View). m.0.made) since.first in
    let callers : c.config.result.now.callers ≡ c.args.config.now.callers = ap (λ (s : Setup). s.callers) c.config.ensures.given in
    let below = c.loop-number-test.true in
    let from = c.loop-number.auto.number in (
      since.table ∙ c.requires.table,
      (let wide = c.requires.words in omega arith),
      rw c.requires.key (splits c.args.config.now _ _ (omega arith) (omega arith) (ap (λ (m : Me Item View). m.0.about) since.first)),
    )

pub loop-number-preserved : goal.loop-number-preserved
loop-number-preserved c =
    let since = c.loop-number.invariant in
    let split = c.split_seat-seat.ensures in
    let counted = since.counted in
    let board : BoardFace = record { table = c.args.table.now.shared.table_id; config = c.args.config.now } in
    let fresh : IsFresh board c.loop-number.number c.in_ok-seated.field-0 =
    subst (λ t. IsFresh record { table = t; config = c.args.config.now } c.loop-number.number c.in_ok-seated.field-0)
    (split.3 ∙ (since.table ∙ c.requires.table)) c.in_ok-seated.ensures in record {
      table = split.0 ∙ since.table;
      first = split.2 ∙ ap (λ (m : Me Item View). (cut_left m.0, m.1)) since.first;
      others = subst (AreFresh board 1) (sym c.push_reserved.ensures.items)
          (fresh_snoc board 1 c.loop-number.number c.loop-number.callers.items c.in_ok-seated.field-0 since.others (omega arith) fresh);
      counted = (let more = c.push_reserved.ensures.len in let same = c.push_reserved.ensures.items in omega arith);
      room = c.push_reserved.ensures.capacity ∙ since.room;
    }

pub returns-clause-callers : goal.returns-clause-callers
returns-clause-callers c =
    let since = c.loop-number.invariant in
    let board : BoardFace = record { table = c.args.table.now.shared.table_id; config = c.args.config.now } in
    subst (AreFresh board 0) (sym {A = List CallerFace} c.in_ok-insert.ensures.items) (
      subst (λ t. IsFresh record { table = t; config = c.args.config.now } 0 c.in_ok-seated-2.field-0) (since.table ∙ c.requires.table)
          c.in_ok-seated-2.ensures,
      since.others,
    )
