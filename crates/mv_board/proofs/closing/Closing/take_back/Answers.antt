use Rattle.std.proofs.Common.{◌≡◌, ◌++◌, ◌∷◌, List, [], length, map, None, Some, sym, ap, ◌∙◌, subst, arith}
use Rattle.atomic_table.specs.Table.{Me}
use Rattle.mv_machine.specs.declared.entry.Entry.{Entry}
use Rattle.mv_board.specs.declared.item.Item.{Item}
use Rattle.mv_board.specs.declared.view.View.{View}
use Rattle.mv_board.specs.Closing.{IsSeatAt, held}
use Rattle.mv_board.specs.Faces.{CallerFace, ClosingFace, AreNumbered, part_of, log_of}
use Rattle.mv_board.proofs.Ends.{numbered_more, logs_more}
use Rattle.mv_board.proofs.Joining.{joins}
use Rattle.mv_board.proofs.closing.Closing.take_back.Goals as goal
use Rattle.mv_board.proofs.closing.Closing.take_back.Goals.{in-None, in-Some}

pub join_seat-requires : goal.join_seat-requires
join_seat-requires c =
    let some : c.self.inside.seat ≡ Some c.in-Some.seat = sym c.in-Some.ensures.value in (
      subst (IsSeatAt c.self.inside.table.shared.table_id) some c.self.invariant.seat,
      ap (λ (x : CallerFace). x.table) c.caller.view_is
          ∙ (c.requires.board.0 ∙ sym (ap (λ (b : ClosingFace). b.board.table) c.self.view_is)),
      c.caller.invariant.empty,
      (let wide = c.self.invariant.words in omega arith),
      rw c.self.invariant.key (joins c.self.inside.config _ _ _ _),
    )

pub invariant_of-self : goal.invariant_of-self
invariant_of-self c =
    let s = c.self.inside in
    let i = c.self.invariant in
    let x = c.args.caller in
    let mine : c.caller.inside.seat.me.0.parts ≡ part_of x ∷ [] = c.caller.invariant.parts
    ∙ ap (λ (y : CallerFace). part_of y ∷ []) c.caller.view_is in
    let here : c.caller.inside.seat.table_id ≡ s.table.shared.table_id =
    ap (λ (y : CallerFace). y.table) c.caller.view_is
    ∙ (c.requires.board.0 ∙ sym (ap (λ (b : ClosingFace). b.board.table) c.self.view_is)) in
    let both : (c.match-take.seat.table_id ≡ s.table.shared.table_id) × (c.match-take.seat.me.0.parts ≡ held s.seat ++ part_of x ∷ []) =
    elim c.match-take.branch [
      | in-None w ↦
          let none : s.seat ≡ None = sym w.in-None.ensures.value in (
            ap (λ z. z.table_id) w.seat-is ∙ here,
            ap (λ z. z.me.0.parts) w.seat-is ∙ (mine ∙ ap (λ o. held o ++ part_of x ∷ []) (sym none)),
          )
      | in-Some w ↦
          let some : s.seat ≡ Some w.in-Some.seat = sym w.in-Some.ensures.value in (
            ap (λ z. z.table_id) w.seat-is ∙ (w.join_seat.ensures.0 ∙ subst (IsSeatAt s.table.shared.table_id) some i.seat),
            ap (λ z. z.me.0.parts) w.seat-is
                ∙ (ap (λ (m : Me Item View). m.0.parts) w.join_seat.ensures.2
                ∙ (ap (λ ps. w.in-Some.seat.me.0.parts ++ ps) mine ∙ ap (λ o. held o ++ part_of x ∷ []) (sym some))),
          )
    ] in
    let count : length (held s.seat) ≡ x.number = ap (λ (b : ClosingFace). length b.back) c.self.view_is ∙ sym c.requires.next in record {
      key = i.key;
      valid = i.valid;
      words = i.words;
      slots = i.slots;
      room = i.room;
      seat = both.0;
      numbered = subst (AreNumbered 0) (sym both.1) (numbered_more 0 (held s.seat) (part_of x) i.numbered (omega arith));
      logs =
          c.push_reserved.ensures.items
          ∙ (ap (λ (log : List Entry). s.logs.items ++ log ∷ []) c.close.ensures
          ∙ ap (λ (y : CallerFace). s.logs.items ++ y.log ∷ []) c.caller.view_is
          ∙ (ap (λ (ls : List (List Entry)). ls ++ x.log ∷ []) i.logs
          ∙ (logs_more (held s.seat) (part_of x) ∙ ap (map log_of) (sym both.1))));
      space = (let cap = c.push_reserved.ensures.capacity in let r = i.space in omega arith);
    }

pub returns-clause-back : goal.returns-clause-back
returns-clause-back c =
    let s = c.self.inside in
    let x = c.args.caller in
    let mine : c.caller.inside.seat.me.0.parts ≡ part_of x ∷ [] = c.caller.invariant.parts
    ∙ ap (λ (y : CallerFace). part_of y ∷ []) c.caller.view_is in
    elim c.match-take.branch [
      | in-None w ↦
          let none : s.seat ≡ None = sym w.in-None.ensures.value in
          ap (λ z. z.me.0.parts) w.seat-is
          ∙ (mine ∙ (ap (λ o. held o ++ part_of x ∷ []) (sym none) ∙ ap (λ (b : ClosingFace). b.back ++ part_of x ∷ []) c.self.view_is))
      | in-Some w ↦
          let some : s.seat ≡ Some w.in-Some.seat = sym w.in-Some.ensures.value in
          ap (λ z. z.me.0.parts) w.seat-is
          ∙ (ap (λ (m : Me Item View). m.0.parts) w.join_seat.ensures.2
          ∙ (ap (λ ps. w.in-Some.seat.me.0.parts ++ ps) mine
          ∙ (ap (λ o. held o ++ part_of x ∷ []) (sym some) ∙ ap (λ (b : ClosingFace). b.back ++ part_of x ∷ []) c.self.view_is)))
    ]
