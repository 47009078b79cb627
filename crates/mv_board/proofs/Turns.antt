-- What stands after a seat's move on the turn of the latch set: the lists are taken, or given back with an event or without one.
use Rattle.std.proofs.Common.{◌≡◌, ◌≢◌, ℕ, ◌<◌, true, List, [], ◌∷◌, ◌++◌, length, set, get_or, Some, sym, refl, ap, ◌∙◌, subst, arith}
use Rattle.std.proofs.Common.{length-set, get_or-set_same, get_or-set_other}
use Rattle.std.proofs.lemmas.List.{nil_from_length}
use Rattle.std.specs.List.{AllByRecursion}
use mathlib.Core.Option.{Option as Maybe, none, some}
use lib.ListN.{get_elem?}
use Rattle.atomic_table.specs.Table.{takes, gives, stepped}
use Rattle.atomic_table.proofs.Lists.{set_here}
use Rattle.mv_latch.specs.declared.operation.LatchOp.{LatchOp}
use Rattle.mv_latch.specs.declared.operation.Wake.{Wake}
use Rattle.mv_latch.specs.declared.request.Request.{Request}
use Rattle.mv_latch.specs.LatchSet.{LatchLists, latch_step, wakes}
use Rattle.mv_machine.specs.declared.entry.Entry.{Entry}
use Rattle.mv_machine.specs.declared.entry.Object.TheVariants.{Latches}
use Rattle.mv_machine.specs.declared.entry.Op.TheVariants as op_on
use Rattle.mv_machine.specs.declared.entry.Reply.TheVariants as reply_of
use Rattle.mv_machine.specs.Legal.{IsNext, Legal, after, next}
use Rattle.mv_machine.specs.Packing.{word_at}
use Rattle.mv_config.specs.Setup.{Setup}
use Rattle.mv_machine.specs.System.{Cell, admitted}
use Rattle.mv_machine.specs.Told.{told}
use Rattle.mv_machine.proofs.Longer.{legal_longer, after_longer}
use Rattle.mv_board.specs.declared.item.Item.{Item}
use Rattle.mv_board.specs.declared.item.Item.TheVariants.{Held}
use Rattle.mv_board.specs.declared.item.Lists.{Lists}
use Rattle.mv_board.specs.declared.view.Named.{Named}
use Rattle.mv_board.specs.declared.view.Part.{Part}
use Rattle.mv_board.specs.declared.view.View.{View}
use Rattle.mv_board.specs.Rule.{holders_in, made, IsPart, IsLists, IsNamed, Turns, IsReady, ReadyFor, Stands}
use Rattle.mv_board.specs.Turn.{latch_entry, named_by}
use Rattle.mv_board.specs.View.{first_of, own, part_logged, with_own, logged, with_turn}
use Rattle.mv_board.specs.Words.{word_number, turn_word}
use Rattle.mv_board.proofs.Events.{other_word, told_latch}
use Rattle.mv_board.proofs.Machine.{not_turn, no_latches}
use Rattle.mv_board.proofs.Moves.{idle_view, about_view, logs_event, ready_event}
use Rattle.mv_board.proofs.Standing.{Table, logs_put, mine_ready}
use Rattle.mv_board.proofs.Views.{each_put, tally_set, tally_at, tally_two}

module _ (c : Setup) (s : Table) (h : List Entry) (r : Stands c s h) (id : ℕ) (v : View) (at : get_elem? s.views id ≡ some v) where
  turn_inside : turn_word < length s.words
  turn_inside = let wide = r.wide in omega arith

  -- ---- who holds the turn

  module _ (t : Named) (turn : v.turn ≡ t ∷ []) where
    -- one seat holds it
    pub turn_is : get_or s.words turn_word 0 ≡ 1
    turn_is =
        let count = r.turn.count in let single = r.turn.single in
        let a = tally_at (λ y. length y.turn) s.views id v at in let one = ap length turn in omega arith

    -- and names the lists
    pub named_here : IsNamed (after c h).latches t
    named_here = (subst (AllByRecursion (IsNamed (after c h).latches)) turn (r.turn.named id v at)).0

    -- no other seat holds it
    none_else : (j : ℕ) (u : View) → j ≢ id → get_elem? s.views j ≡ some u → u.turn ≡ []
    none_else j u n a =
        let count = r.turn.count in let single = r.turn.single in
        let two = tally_two (λ y. length y.turn) s.views id j v u at a n in let one = ap length turn in nil_from_length u.turn (omega arith)

    -- the seat gives up the turn, and the lists are in the slot
    turn_down : (x : Cell (List (List Request))) (l : Lists) (w : View) → w.turn ≡ [] → IsLists c x l → 0 < length s.homes
        → Turns c x 0 (set s.homes 0 (some (Held l))) (set s.views id w)
    turn_down x l w done lists slot = record {
      count =
          let a = tally_set (λ y. length y.turn) s.views id v w at in
          let count = r.turn.count in let is = turn_is in let mine = ap length turn in let gone = ap length done in omega arith;
      single = omega arith;
      home = λ _. (l, set_here s.homes 0 (some (Held l)) slot, lists);
      named = each_put s.views id w (λ u. AllByRecursion (IsNamed x) u.turn) (subst (AllByRecursion (IsNamed x)) (sym done) tt)
          (λ j u n a. subst (AllByRecursion (IsNamed x)) (sym (none_else j u n a)) tt);
    }

  -- ---- moves that leave the callers' parts

  module _ (p : Part) (more : List Part) (is : v.parts ≡ p ∷ more) where
    -- one that sets the turn's word
    moved : (word : ℕ) (homes : List (Maybe Item)) (w : View) → w.parts ≡ v.parts → w.made ≡ v.made → w.about ≡ v.about
        → AllByRecursion (IsReady c h p.caller) w.ready
        → Turns c (after c h).latches word homes (set s.views id w)
        → Stands c record { words = set s.words turn_word word; homes = homes; views = set s.views id w } h
    moved word homes w q same_made same_about lists turn = record {
      valid = r.valid;
      legal = r.legal;
      logs = logs_put c s.views h h id v w r.logs at (λ k. ap (holders_in k) q) same_made r.logs.unmade
          record {
            counted = subst (λ n. 0 < n → n ≡ made s.views) (sym same_made) (r.logs.known id v at).counted;
            parts = subst (AllByRecursion (IsPart c h)) (sym q) (r.logs.known id v at).parts;
          }
          (λ j u n a. r.logs.known j u a);
      wide = length-set s.words turn_word word ∙ r.wide;
      words = λ o has. get_or-set_other s.words turn_word (word_number o) word 0 (λ z. not_turn c o r.valid has (sym z)) ∙ r.words o has;
      turn = subst (λ (n : ℕ). Turns c (after c h).latches n homes (set s.views id w))
          (sym (get_or-set_same s.words turn_word word 0 turn_inside)) turn;
      ready = each_put s.views id w (λ u. ReadyFor c h u.parts u.ready)
          (subst (λ (z : List Part). ReadyFor c h z w.ready) (sym (q ∙ is)) lists) (λ j u n a. r.ready j u a);
      about = about_view c s h r id v p more at is w p (q ∙ is) same_about;
      idle = idle_view c s h r id v p more at is w p (q ∙ is);
    }

    pub take : (l : Lists) (cs : List (ℕ × Item)) → get_or s.words turn_word 0 ≡ 0 → IsLists c (after c h).latches l
        → Stands c (stepped s turn_word 1 id cs (with_turn (named_by l ∷ []) v) (takes 0 (Held l))) h
    take l cs free lists =
        let w : View = with_turn (named_by l ∷ []) v in
        moved 1 (set s.homes 0 none) w refl refl refl (mine_ready c s h r id v p more at is) record {
          count =
              let a = tally_set (λ y. length y.turn) s.views id v w at in
              let b = tally_at (λ y. length y.turn) s.views id v at in
              let count = r.turn.count in omega arith;
          single = omega arith;
          home = λ (z : 1 ≡ 0). absurd (omega arith);
          named = each_put s.views id w (λ u. AllByRecursion (IsNamed (after c h).latches) u.turn)
              ((lists.0, ap (λ (y : LatchLists). y.lists) lists.1), tt)
              (λ j u n a. r.turn.named j u a);
        }

    pub give_back : (t : Named) (l : Lists) (cs : List (ℕ × Item)) (w : View) → v.turn ≡ t ∷ [] → IsLists c (after c h).latches l
        → 0 < length s.homes
        → w.parts ≡ v.parts → w.made ≡ v.made → w.about ≡ v.about → w.turn ≡ [] → AllByRecursion (IsReady c h p.caller) w.ready
        → Stands c (stepped s turn_word 0 id ((0, Held l) ∷ cs) w gives) h
    give_back t l cs w turn lists slot q same_made same_about done listed =
        moved 0 (set s.homes 0 (some (Held l))) w q same_made same_about listed (turn_down t turn (after c h).latches l w done lists slot)

    -- ---- an event

    -- the one on the lists that the seat names is the machine's next
    pub latch_is_next : (op : LatchOp) (t : Named) → IsNamed (after c h).latches t
        → admitted c (after c h) p.caller Latches (op_on.Latch op) ≡ true
        → IsNext c (after c h) (latch_entry v op t)
    latch_is_next op t named admits = record {
      admits = subst (λ k. admitted c (after c h) k Latches (op_on.Latch op) ≡ true) (sym (ap (λ ps. (first_of ps).caller) is)) admits;
      place = named.0;
      reply = λ i. Some (reply_of.Latch (latch_step (own v).caller (named.0 i) op (named.1 i)).1);
    }

    pub give : (op : LatchOp) (t : Named) (l : Lists) (cs : List (ℕ × Item)) → v.turn ≡ t ∷ [] → 0 < p.left
        → admitted c (after c h) p.caller Latches (op_on.Latch op) ≡ true
        → IsLists c (next (after c h) (latch_entry v op t)).latches l → 0 < length s.homes
        → Stands c
        (stepped s turn_word 0 id ((0, Held l) ∷ cs) (with_turn [] (logged (latch_entry v op t) (wakes (own v).caller op t.lists ∷ []) v))
        gives)
        (h ++ latch_entry v op t ∷ [])
    give op t l cs turn left admits lists slot =
        let e : Entry = latch_entry v op t in
        let g : List Entry = h ++ e ∷ [] in
        let shown : List (List Wake) = wakes (own v).caller op t.lists ∷ [] in
        let w : View = with_turn [] (logged e shown v) in
        let q : w.parts ≡ part_logged e shown p ∷ more = ap (with_own (part_logged e shown)) is in
        let who : e.caller ≡ p.caller = ap (λ ps. (first_of ps).caller) is in
        let named : IsNamed (after c h).latches t = named_here t turn in
        let legal : Legal c g = legal_longer c h e r.legal (latch_is_next op t named admits) in
        let leads : after c g ≡ next (after c h) e = after_longer c h e in
        let tells : told c p.caller g ≡ told c p.caller h ++ shown =
        told_latch c p.caller h e op who refl refl ∙ (λ i. told c p.caller h ++ wakes (sym who i) op (sym named.1 i) ∷ []) in record {
          valid = r.valid;
          legal = legal;
          logs = logs_event c s h r id v p more at is e shown w who legal tells q left refl;
          wide = length-set s.words turn_word 0 ∙ r.wide;
          words = λ o has.
              get_or-set_other s.words turn_word (word_number o) 0 0 (λ z. not_turn c o r.valid has (sym z))
              ∙ (r.words o has ∙ (sym (other_word (after c h) e o (no_latches c o has)) ∙ ap (λ m. word_at m o) (sym leads)));
          turn = subst (λ (z : Cell (List (List Request)) × ℕ). Turns c z.0 z.1 (set s.homes 0 (some (Held l))) (set s.views id w))
              (λ i. ((sym leads i).latches, sym (get_or-set_same s.words turn_word 0 0 turn_inside) i))
              (turn_down t turn (next (after c h) e).latches l w refl lists slot);
          ready = ready_event c s h r id v p more at is e shown w who legal tells q refl;
          about = about_view c s h r id v p more at is w (part_logged e shown p) q refl;
          idle = idle_view c s h r id v p more at is w (part_logged e shown p) q;
        }
