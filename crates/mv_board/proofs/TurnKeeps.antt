-- Each step on the turn keeps the rule, and so do looks for what is ready.
use Rattle.std.proofs.Common.{◌≡◌, ℕ, ◌+◌, ◌<◌, ◌==◌, Bool, true, List, [], ◌∷◌, ◌++◌, length, get_or, Option, Some, sym, refl, ap, ◌∙◌}
use Rattle.std.proofs.Common.{subst, arith, eq-eqb, ne_eqb}
use Rattle.std.proofs.lemmas.Bool.{and_parts}
use Rattle.std.specs.List.{AllByRecursion}
use mathlib.Core.Logic.{dite}
use mathlib.Core.Option.{none, some}
use native.Mathlib.Decide.{ℕ_discrete}
use lib.ListN.{get_elem?}
use lib.Seq.{set-get_or}
use prog.Atomic.{either}
use Rattle.atomic_table.specs.Table.{Me, step, keeps, stepped, Allows}
use Rattle.atomic_table.specs.Table as act
use Rattle.atomic_table.proofs.Lists.{set_again}
use Rattle.mv_latch.specs.declared.operation.LatchOp.{LatchOp}
use Rattle.mv_latch.specs.declared.operation.Wake.{Wake}
use Rattle.mv_latch.specs.declared.request.Request.{Request}
use Rattle.mv_latch.specs.Latch.{confirm_reply, is_settled}
use Rattle.mv_latch.specs.LatchSet.{LatchLists, IsNewId, list_of, latch_admitted, latch_step, wakes}
use Rattle.mv_machine.specs.declared.entry.Entry.{Entry}
use Rattle.mv_machine.specs.declared.entry.Object.{Object}
use Rattle.mv_machine.specs.declared.entry.Object.TheVariants.{Latches}
use Rattle.mv_machine.specs.declared.entry.Op.TheVariants as op_on
use Rattle.mv_machine.specs.declared.packing.WordState.{WordState}
use Rattle.mv_machine.specs.Kept.{allowed, HasMade}
use Rattle.mv_machine.specs.Legal.{after, next, of}
use Rattle.mv_machine.specs.Owned.{owner_at}
use Rattle.mv_machine.specs.Packing.{unpack}
use Rattle.mv_machine.specs.Parts.{IsBelow}
use Rattle.mv_config.specs.Setup.{Setup}
use Rattle.mv_machine.specs.System.{admitted, latches_of, place_of}
use Rattle.mv_machine.proofs.Allowed.{allowed_is_admitted, lists_stay}
use Rattle.mv_machine.proofs.LatchNumbers.{numbers_ahead_are_new}
use Rattle.mv_board.specs.declared.item.Item.{Item}
use Rattle.mv_board.specs.declared.item.Item.TheVariants.{Held, Said, Sought}
use Rattle.mv_board.specs.declared.item.Lists.{Lists}
use Rattle.mv_board.specs.declared.view.Named.{Named}
use Rattle.mv_board.specs.declared.view.Part.{Part}
use Rattle.mv_board.specs.declared.view.View.{View}
use Rattle.mv_board.specs.declared.watch.Watch.{Watch}
use Rattle.mv_board.specs.declared.watch.Watch.TheVariants as watch
use Rattle.mv_board.specs.Rule.{history_of, IsLists, IsNamed, IsReady, Stands, Ruled}
use Rattle.mv_board.specs.Steps.{Meets, Peeked, watch_of, is_ready}
use Rattle.mv_board.specs.Turn.{MeetsLists, Took, Gave, Returned, latch_entry, named_by}
use Rattle.mv_board.specs.View.{first_of, own, part_logged, part_met, with_own, logged, met, listed, with_turn, with_returned}
use Rattle.mv_board.specs.Words.{HasWord, word_number, turn_word, object_of}
use Rattle.mv_board.proofs.Events.{state_ready}
use Rattle.mv_machine.proofs.Lists.{all_append}
use Rattle.mv_machine.proofs.MergeSteps.{place_low}
use Rattle.mv_board.proofs.Machine.{object_again, state_there}
use Rattle.mv_board.proofs.Moves.{find}
use Rattle.mv_board.proofs.Requests.{latch_exists, says_settled, settled_as_said}
use Rattle.mv_board.proofs.Standing.{Table, remerge, mine, mine_ready, mine_about, has_room, stands_for, above, is_ready_here, meets}
use Rattle.mv_board.proofs.Standing.{possible}
use Rattle.mv_board.proofs.Turns.{turn_is, named_here, take, give, give_back}
use Rattle.mv_board.proofs.Views.{put_there}

-- a view with a watch listed where it was seen ready
listed_keeps : (b : Bool) (x : Option Watch) (v : View)
    → ((listed b x v).parts ≡ v.parts) × ((listed b x v).made ≡ v.made) × ((listed b x v).turn ≡ v.turn)
    × ((listed b x v).about ≡ v.about)
listed_keeps true (Some w) v = (refl, refl, refl, refl)
listed_keeps b x v = (refl, refl, refl, refl)

listed_ready : (P : Watch → Type 0) (b : Bool) (x : Option Watch) (v : View) → ((w : Watch) → x ≡ Some w → b ≡ true → P w)
    → AllByRecursion P v.ready
    → AllByRecursion P (listed b x v).ready
listed_ready P true (Some w) v new old = all_append P v.ready (w ∷ []) old (new w refl refl, tt)
listed_ready P b x v new old = old

-- one word stands for one state
pub one_state : (o : Object) (w p q : ℕ) (x y : WordState) → unpack o w ≡ Some (p, x) → unpack o w ≡ Some (q, y) → x ≡ y
one_state o w p q x y a b = let t : ◌≡◌ {A = ℕ × WordState} (p, x) (q, y) = cc (sym a ∙ b) in ap (λ z. z.1) t

module _ (c : Setup) (slots id : ℕ) (me : Me Item View) (p : Part) (more : List Part) (is : me.0.parts ≡ p ∷ more) where
  module _ (s : Table) (h : List Entry) (r : Stands c s h) (at : get_elem? s.views id ≡ some me.0) where
    -- a step that changes nothing
    stays : Stands c (stepped s turn_word (get_or s.words turn_word 0) id me.1 me.0 keeps) h
    stays = subst (λ (z : List ℕ × List View). Stands c record { words = z.0; homes = s.homes; views = z.1 } h)
        (λ i. (sym (set-get_or s.words turn_word 0) i, sym (set_again s.views id me.0 at) i)) r

    admits : (op : LatchOp) → allowed c p.caller p.log Latches (op_on.Latch op) ≡ true
        → admitted c (after c h) p.caller Latches (op_on.Latch op) ≡ true
    admits op may = allowed_is_admitted c h p.caller Latches (op_on.Latch op) r.legal
        (subst (λ log. allowed c p.caller log Latches (op_on.Latch op) ≡ true) (mine c s h r id me.0 p more at is).0.logged may)

    -- what the seat learns of the lists
    meets_lists : (l : Lists) → IsLists c (after c h).latches l → MeetsLists me.0 l
    meets_lists l lists =
        let about : me.0.about ≡ c ∷ [] = mine_about c s h r id me.0 p more at is in
        let first : own me.0 ≡ p = ap first_of is in
        let here : l.latches.lists ≡ (after c h).latches.state = ap (λ (y : LatchLists). y.lists) lists.1 in record {
          above = subst (λ (z : ℕ × Part). IsBelow Latches z.0 z.1.log) (λ i. (sym lists.0 i, sym first i))
              (above c s h r id me.0 p more at is Latches);
          room = λ left.
              let a = has_room c s h r id me.0 p more at is (subst (λ (q : Part). 0 < q.left) first left) in
              let b = place_low c h Latches r.legal in let e = lists.0 in omega arith;
          new = λ n le. subst (IsNewId n) (sym here) (numbers_ahead_are_new c h n r.legal (let e = lists.0 in omega arith));
          set = subst (AllByRecursion (λ d. l.latches ≡ latches_of d l.latches.lists)) (sym about)
              (lists.1 ∙ ap (latches_of c) (sym here), tt);
          count = subst (AllByRecursion (λ d. length l.latches.lists ≡ d.latches)) (sym about)
              (ap length here ∙ lists_stay c h r.legal, tt);
          admits = subst (λ (z : List Setup × Part). AllByRecursion
              (λ d. (op : LatchOp) → allowed d z.1.caller z.1.log Latches (op_on.Latch op) ≡ true
              → latch_admitted z.1.caller op l.latches ≡ true) z.0)
              (λ i. (sym about i, sym first i))
              ((λ op may. subst (λ z. latch_admitted p.caller op z ≡ true) (sym lists.1) (and_parts _ _ (admits op may)).1), tt);
          made = λ latch n made.
              let whole : HasMade latch n (of p.caller h) =
              subst (HasMade latch n) (ap (λ (q : Part). q.log) first ∙ (mine c s h r id me.0 p more at is).0.logged) made in
              subst (λ z. latch < z) (sym (ap length here ∙ lists_stay c h r.legal)) (latch_exists c h p.caller latch n r.legal whole);
          ready = λ latch n there.
              let known : IsReady c h p.caller (watch.Latch latch n) = is_ready_here c s h r id me.0 p more at is
              (watch.Latch latch n) there in
              subst (λ (z : Part × List (List Request)). is_settled (confirm_reply z.0.caller n (list_of z.1 latch)) ≡ true)
              (λ i. (sym first i, sym here i))
              (says_settled p.caller n (list_of (after c h).latches.state latch) known.1);
        }

  pub takes : Allows (Ruled c) slots id me turn_word (λ n. either (n == 0) 1 n) (Took (step slots turn_word 0 1 none) me)
  takes s r _ at _ =
      let h : List Entry = history_of c s.views in
      let x : ℕ = get_or s.words turn_word 0 in
      dite (ℕ_discrete x 0)
      (λ free.
      let home = r.turn.home free in
      let l : Lists = home.0 in
      let w : View = with_turn (named_by l ∷ []) me.0 in (
        w,
        act.takes 0 (Held l),
        home.1,
        subst (λ b. Ruled c (stepped s turn_word (either b 1 x) id me.1 w (act.takes 0 (Held l)))) (sym (eq-eqb x 0 free))
            (remerge c (stepped s turn_word 1 id me.1 w (act.takes 0 (Held l))) h (take c s h r id me.0 at p more is l me.1 free home.2)),
        record { free = λ _. (l, refl, refl, meets_lists s h r at l home.2); busy = λ n. absurd (n free) },
      ))
      (λ busy. (
        me.0,
        keeps,
        tt,
        subst (λ b. Ruled c (stepped s turn_word (either b 1 x) id me.1 me.0 keeps)) (sym (ne_eqb x 0 busy))
            (remerge c (stepped s turn_word x id me.1 me.0 keeps) h (stays s h r at)),
        record { free = λ free. absurd (busy free); busy = λ _. refl },
      ))

  pub gives : (op : LatchOp) (t : Named) (l : Lists) (cs : List (ℕ × Item)) → me.0.turn ≡ t ∷ [] → me.1 ≡ (0, Held l) ∷ cs → 0 < slots
      → 0 < p.left
      → allowed c p.caller p.log Latches (op_on.Latch op) ≡ true → l.place ≡ t.place + 1
      → l.latches ≡ latches_of c (latch_step p.caller t.place op t.lists).0
      → Allows (Ruled c) slots id me turn_word (λ n. either (n == 1) 0 n)
      (Gave (step slots turn_word 1 0 (some (Said (op_on.Latch op)))) me)
  gives op t l cs turn held slot left may place lists s r homes at _ =
      let h : List Entry = history_of c s.views in
      let x : ℕ = get_or s.words turn_word 0 in
      let hit : x ≡ 1 = turn_is c s h r id me.0 at t turn in
      let named : IsNamed (after c h).latches t = named_here c s h r id me.0 at t turn in
      let who : (own me.0).caller ≡ p.caller = ap (λ ps. (first_of ps).caller) is in
      let e : Entry = latch_entry me.0 op t in
      let shown : List (List Wake) = wakes (own me.0).caller op t.lists ∷ [] in
      let w : View = with_turn [] (logged e shown me.0) in
      let new : IsLists c (next (after c h) e).latches l =
      (place ∙ ap (λ z. z + 1) named.0, lists ∙ (λ i. latches_of c (latch_step (sym who i) (named.0 i) op (named.1 i)).0)) in
      let after_it : Table = stepped s turn_word 0 id ((0, Held l) ∷ cs) w act.gives in
      let st : Stands c after_it (h ++ e ∷ []) =
      give c s h r id me.0 at p more is op t l cs turn left (admits s h r at op may) new (omega arith) in (
        w,
        act.gives,
        tt,
        subst (λ (z : Bool × List (ℕ × Item)). Ruled c (stepped s turn_word (either z.0 0 x) id z.1 w act.gives))
            (λ i. (sym (eq-eqb x 1 hit) i, sym held i))
            (remerge c after_it (h ++ e ∷ []) st),
        record {
          slots = refl;
          view = λ op2 t2 said turn2.
              let a : op ≡ op2 = cc in
              let b : t ≡ t2 = cc in
              λ i. with_turn [] (logged (latch_entry me.0 (a i) (b i)) (wakes (own me.0).caller (a i) (b i).lists ∷ []) me.0);
          possible = possible c after_it (h ++ e ∷ []) st id w (part_logged e shown p) more (put_there s.views id me.0 w at)
              (ap (with_own (part_logged e shown)) is);
        },
      )

  pub returns : (latch request : ℕ) (t : Named) (l : Lists) (cs : List (ℕ × Item)) → me.0.turn ≡ t ∷ [] → me.1 ≡ (0, Held l) ∷ cs
      → 0 < slots
      → HasMade latch request p.log → l.place ≡ t.place → l.latches ≡ latches_of c t.lists
      → Allows (Ruled c) slots id me turn_word (λ n. either (n == 1) 0 n)
      (Returned (step slots turn_word 1 0 (some (Sought latch request))) me)
  returns latch request t l cs turn held slot made place lists s r homes at _ =
      let h : List Entry = history_of c s.views in
      let x : ℕ = get_or s.words turn_word 0 in
      let hit : x ≡ 1 = turn_is c s h r id me.0 at t turn in
      let named : IsNamed (after c h).latches t = named_here c s h r id me.0 at t turn in
      let first : own me.0 ≡ p = ap first_of is in
      let seen : Bool = is_settled (confirm_reply (own me.0).caller request (list_of t.lists latch)) in
      let sought : Option Watch = Some (watch.Latch latch request) in
      let w : View = with_turn [] (with_returned t.lists (listed seen sought me.0)) in
      let same = listed_keeps seen sought me.0 in
      let made_it : HasMade latch request (of p.caller h) = subst (HasMade latch request)
      (mine c s h r id me.0 p more at is).0.logged made in
      let ready : AllByRecursion (IsReady c h p.caller) w.ready =
      listed_ready (IsReady c h p.caller) seen sought me.0
      (λ y here settled. let it : watch.Latch latch request ≡ y = cc here in subst (IsReady c h p.caller) it (
        made_it,
        settled_as_said p.caller request (list_of (after c h).latches.state latch)
            (subst (λ (z : Part × List (List Request)). is_settled (confirm_reply z.0.caller request (list_of z.1 latch)) ≡ true)
            (λ i. (first i, named.1 i)) settled),
      ))
      (mine_ready c s h r id me.0 p more at is) in
      let after_it : Table = stepped s turn_word 0 id ((0, Held l) ∷ cs) w act.gives in (
        w,
        act.gives,
        tt,
        subst (λ (z : Bool × List (ℕ × Item)). Ruled c (stepped s turn_word (either z.0 0 x) id z.1 w act.gives))
            (λ i. (sym (eq-eqb x 1 hit) i, sym held i))
            (remerge c after_it h
            (give_back c s h r id me.0 at p more is t l cs w turn (place ∙ named.0, lists ∙ ap (latches_of c) named.1) (omega arith)
            same.0 same.1 same.3 refl ready)),
        record {
          slots = refl;
          view = λ latch2 request2 t2 said turn2.
              let a : latch ≡ latch2 = cc in
              let b : request ≡ request2 = cc in
              let d : t ≡ t2 = cc in
              λ i. with_turn [] (with_returned (d i).lists
              (listed (is_settled (confirm_reply (own me.0).caller (b i) (list_of (d i).lists (a i))))
              (Some (watch.Latch (a i) (b i))) me.0));
        },
      )

  pub peeks : (o : Object) (w : Watch) → HasWord c o → watch_of o ≡ Some w → owner_at c o ≡ Some p.caller
      → Allows (Ruled c) slots id me (word_number o) (λ n. n) (Peeked (step slots (word_number o) 0 0 none) me)
  peeks o w has watches owner s r _ at _ =
      let h : List Entry = history_of c s.views in
      let i : ℕ = word_number o in
      let x : ℕ = get_or s.words i 0 in
      let sees : Meets me.0 o x = meets c s h r id me.0 p more at is o has in
      let there = state_there c (after c h) o has in
      let state_is : sees.state ≡ there.0 = one_state o x sees.place (place_of (after c h) o) sees.state there.0 sees.unpacks
      (stands_for c s h r id me.0 p more at is o there.0 has there.1) in
      let found : View = met o x me.0 in
      let new : View = listed (is_ready sees.state) (watch_of o) found in
      let same = listed_keeps (is_ready sees.state) (watch_of o) found in
      let ready : AllByRecursion (IsReady c h p.caller) new.ready =
      listed_ready (IsReady c h p.caller) (is_ready sees.state) (watch_of o) found
      (λ y here shows. state_ready c h p.caller o y there.0 has owner there.1 here (ap is_ready (sym state_is) ∙ shows))
      (mine_ready c s h r id me.0 p more at is) in
      let again : object_of i ≡ o = object_again c o r.valid has in
      let Sees : Object → Type 0 = λ q. (m : Meets me.0 q x) × (new ≡ listed (is_ready m.state) (watch_of q) (met q x me.0)) in
      let told : Sees (object_of i) = subst Sees (sym again) (sees, refl) in (
        new,
        keeps,
        tt,
        remerge c (stepped s i x id me.1 new keeps) h
            (find c s h r id me.0 p more at is o me.1 new has (same.0 ∙ ap (with_own (part_met o x)) is) same.1 same.2 same.3 ready),
        record { slots = refl; meets = told.0; view = told.1 },
      )
