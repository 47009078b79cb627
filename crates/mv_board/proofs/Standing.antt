-- A history that stands: the merge of the logs is another, and one view may be put for another.
use Rattle.std.proofs.Common.{◌≡◌, ℕ, suc, ◌+◌, ◌<◌, ◌≤◌, ◌≢◌, ◌==◌, List, [], ◌∷◌, length, set, get_or, Some, option_map, sym, refl, ap}
use Rattle.std.proofs.Common.{◌∙◌, subst, arith}
use Rattle.std.proofs.lemmas.List.Elements.{All-contains, All-from_recursion}
use Rattle.std.specs.List.{AllByRecursion, Contains}
use mathlib.Core.Logic.{dite}
use mathlib.Core.Option.{Option as Maybe, some}
use native.Mathlib.Decide.{dec_lt}
use lib.ListN.{get_elem?}
use Rattle.atomic_table.specs.Table.{State}
use Rattle.mv_element.specs.declared.element.ElementState.{ElementState}
use Rattle.mv_latch.specs.declared.request.Request.{Request}
use Rattle.mv_machine.specs.declared.entry.Entry.{Entry}
use Rattle.mv_machine.specs.declared.entry.Object.{Object}
use Rattle.mv_machine.specs.declared.entry.Object.TheVariants.{Element}
use Rattle.mv_machine.specs.declared.packing.WordState.{WordState}
use Rattle.mv_config.specs.Limits.{events_limit}
use Rattle.mv_machine.specs.Legal.{Legal, after, of}
use Rattle.mv_machine.specs.Merge.{merged}
use Rattle.mv_machine.specs.Packing.{unpack, state_at, word_at}
use Rattle.mv_machine.specs.Parts.{IsBelow, IsPossible, parts}
use Rattle.mv_config.specs.Setup.{Setup}
use Rattle.mv_machine.specs.System.{System, Cell, place_of}
use Rattle.mv_machine.proofs.Lists.{all_map, all_filter}
use Rattle.mv_machine.proofs.Longer.{below_after}
use Rattle.mv_machine.proofs.Merged.{merged_legal, merged_callers, merged_told, merged_had, merged_after}
use Rattle.mv_machine.proofs.OneHistory.{budgets_fit}
use Rattle.mv_machine.proofs.Words.{reached_unpack}
use Rattle.mv_board.specs.declared.item.Item.{Item}
use Rattle.mv_board.specs.declared.view.Part.{Part}
use Rattle.mv_board.specs.declared.view.View.{View}
use Rattle.mv_board.specs.declared.watch.Watch.{Watch}
use Rattle.mv_board.specs.declared.watch.Watch.TheVariants as watch
use Rattle.mv_machine.specs.Parked.{parked}
use Rattle.mv_board.specs.Rule.{holders_in, holders, tally, made, IsPart, Knows, Logs, IsNamed, Turns, IsReady, ReadyFor, AboutFor}
use Rattle.mv_board.specs.Rule.{Stands, Ruled}
use Rattle.mv_board.specs.Steps.{Meets, PossibleFor}
use Rattle.mv_board.specs.View.{first_of}
use Rattle.mv_board.specs.Words.{HasWord, word_number, turn_word}
use Rattle.mv_board.proofs.Events.{room, ready_same, ready_state}
use Rattle.mv_machine.proofs.MergeSteps.{place_low}
use Rattle.mv_board.proofs.Machine.{state_there, fitting}
use Rattle.mv_board.proofs.Parking.{released_pause}
use Rattle.mv_board.proofs.Views.{each_put, tally_set, tally_at, tally_two, holders_mine, keeps_budgets, logs_parts}

abbrev pub Table : Type 0
Table = State Item View

module _ (c : Setup) where
  -- ---- the merge of the logs

  ready_map : (h g : List Entry) (ps : List Part) (ws : List Watch) → ((k : ℕ) (w : Watch) → IsReady c h k w → IsReady c g k w)
      → ReadyFor c h ps ws → ReadyFor c g ps ws
  ready_map h g [] ws f a = a
  ready_map h g (p ∷ ps) ws f a = all_map (f p.caller) ws a

  part_merged : (h : List Entry) → Legal c h → (p : Part) → IsPart c h p → IsPart c (merged (parts c.callers h)) p
  part_merged h l p q = record {
    logged = q.logged ∙ sym (merged_callers c h p.caller l);
    shown = q.shown ∙ sym (merged_told c h p.caller l);
    budget = q.budget;
    had = all_map (λ m y. merged_had c h p.caller m.after m.word m.object l y) p.sights q.had;
  }

  logs_merged : (vs : List View) (h : List Entry) → Legal c h → Logs c vs h → Logs c vs (merged (parts c.callers h))
  logs_merged vs h l r = record {
    one = r.one;
    none_yet = r.none_yet;
    few = r.few;
    unmade = λ k le. merged_callers c h k l ∙ r.unmade k le;
    known = λ j v e. let y = r.known j v e in record {
      counted = y.counted;
      parts = all_map (part_merged h l) v.parts y.parts;
    };
  }

  -- whatever history stands, the merge of the logs stands
  pub remerge : (s : Table) (h : List Entry) → Stands c s h → Ruled c s
  remerge s h r =
      let g : List Entry = merged (parts c.callers h) in
      let leads : after c g ≡ after c h = merged_after c h r.legal in
      subst (λ (logs : List (List Entry)). Stands c s (merged logs)) (sym (logs_parts c s.views h r.logs)) record {
        valid = r.valid;
        legal = merged_legal c h r.legal;
        logs = logs_merged s.views h r.legal r.logs;
        wide = r.wide;
        words = λ o has. r.words o has ∙ ap (λ m. word_at m o) (sym leads);
        turn = subst (λ (m : System). Turns c m.latches (get_or s.words turn_word 0) s.homes s.views) (sym leads) r.turn;
        ready = λ j v e. ready_map h g v.parts v.ready (λ k w y. ready_same c h g k w leads (merged_callers c h k r.legal) y)
            (r.ready j v e);
        about = r.about;
        idle = r.idle;
      }

  -- ---- one view is put for another of the same callers

  -- over a history g
  pub logs_put : (vs : List View) (h g : List Entry) (id : ℕ) (v w : View) → Logs c vs h → get_elem? vs id ≡ some v
      → ((k : ℕ) → holders k w ≡ holders k v)
      → w.made ≡ v.made → ((k : ℕ) → made vs ≤ k → of k g ≡ []) → Knows c g (made vs) w
      → ((j : ℕ) (u : View) → j ≢ id → get_elem? vs j ≡ some u → Knows c g (made vs) u) → Logs c (set vs id w) g
  logs_put vs h g id v w r at same_holders same_made unmade mine others =
      let count : made (set vs id w) ≡ made vs = (let t = tally_set (λ x. x.made) vs id v w at in omega arith) in
      let held : (k : ℕ) → tally (holders k) (set vs id w) ≡ tally (holders k) vs = (λ k. let t = tally_set (holders k) vs id v w at in
      let y = same_holders k in omega arith) in record {
        one = λ k l. held k ∙ r.one k (omega arith);
        none_yet = λ k l. held k ∙ r.none_yet k (omega arith);
        few = (let f = r.few in omega arith);
        unmade = λ k l. unmade k (omega arith);
        known = subst (λ (n : ℕ). (j : ℕ) (u : View) → get_elem? (set vs id w) j ≡ some u → Knows c g n u) (sym count)
            (each_put vs id w (Knows c g (made vs)) mine others);
      }

  -- which holds the turn as that did
  pub turn_put : (x : Cell (List (List Request))) (word : ℕ) (homes : List (Maybe Item)) (vs : List View) (id : ℕ) (v w : View)
      → Turns c x word homes vs
      → get_elem? vs id ≡ some v → w.turn ≡ v.turn → Turns c x word homes (set vs id w)
  turn_put x word homes vs id v w r at same = record {
    count = r.count ∙ (let t = tally_set (λ y. length y.turn) vs id v w at in let e = ap length same in omega arith);
    single = r.single;
    home = r.home;
    named = each_put vs id w (λ (u : View). AllByRecursion (IsNamed x) u.turn)
        (subst (AllByRecursion (IsNamed x)) (sym same) (r.named id v at)) (λ j u n a. r.named j u a);
  }

  -- ---- what the rule says of a seat and its own caller

  module _ (s : Table) (h : List Entry) (r : Stands c s h) (id : ℕ) (v : View) (p : Part) (more : List Part)
      (at : get_elem? s.views id ≡ some v) (is : v.parts ≡ p ∷ more) where
    pub mine : AllByRecursion (IsPart c h) (p ∷ more)
    mine = subst (AllByRecursion (IsPart c h)) is (r.logs.known id v at).parts

    pub mine_ready : AllByRecursion (IsReady c h p.caller) v.ready
    mine_ready = subst (λ (ps : List Part). ReadyFor c h ps v.ready) is (r.ready id v at)

    pub mine_about : v.about ≡ c ∷ []
    mine_about = subst (λ (ps : List Part). AboutFor c ps v.about) is (r.about id v at)

    held : holders p.caller v ≡ suc (holders_in p.caller more)
    held = ap (holders_in p.caller) is ∙ holders_mine p.caller p more refl

    pub caller_made : p.caller < made s.views
    caller_made = dite (dec_lt p.caller (made s.views)) (λ l. l) (λ n.
        let z = r.logs.none_yet p.caller (omega arith) in
        let a = tally_at (holders p.caller) s.views id v at in
        let b = held in absurd (omega arith))

    -- no other part is the caller's, here or elsewhere
    pub alone : holders_in p.caller more ≡ 0
    alone = let z = r.logs.one p.caller caller_made in let a = tally_at (holders p.caller) s.views id v at in let b = held in omega arith

    pub apart : (j : ℕ) (u : View) → get_elem? s.views j ≡ some u → j ≢ id → holders p.caller u ≡ 0
    apart j u e n = let z = r.logs.one p.caller caller_made in let a = tally_two (holders p.caller) s.views id j v u at e n in
        let b = held in omega arith

    pub short : length h ≤ events_limit
    short = budgets_fit c h r.valid r.legal (keeps_budgets c s.views h r.logs)

    -- with an event left there is room for one more
    pub has_room : 0 < p.left → length h + 1 ≤ events_limit
    has_room left =
        let m = caller_made in let f = r.logs.few in
        let same = ap length mine.0.logged in
        let b = mine.0.budget in
        room c h p.caller r.valid r.legal (keeps_budgets c s.views h r.logs) (omega arith) (omega arith)

    -- the word of an object stands for its place and state
    pub stands_for : (o : Object) (x : WordState) → HasWord c o → state_at (after c h) o ≡ Some x
        → unpack o (get_or s.words (word_number o) 0) ≡ Some (place_of (after c h) o, x)
    stands_for o x has e =
        ap (unpack o) (r.words o has)
        ∙ (reached_unpack c h o r.legal short ∙ ap (λ z. option_map {U = ℕ × WordState} (λ y. (place_of (after c h) o, y)) z) e)

    -- the caller's entries on an object are below its next place
    pub above : (o : Object) → IsBelow o (place_of (after c h) o) p.log
    above o = subst (IsBelow o (place_of (after c h) o)) (sym mine.0.logged)
        (all_filter (λ e. e.object ≡ o → e.place < place_of (after c h) o) (λ e. e.caller == p.caller) h (below_after c h o r.legal))

    -- what is listed is ready
    pub is_ready_here : (w : Watch) → Contains v.ready w → IsReady c h p.caller w
    is_ready_here w there = All-contains (IsReady c h p.caller) v.ready w (All-from_recursion (IsReady c h p.caller) v.ready mine_ready)
        there

    pub meets : (o : Object) → HasWord c o → Meets v o (get_or s.words (word_number o) 0)
    meets o has = let x = state_there c (after c h) o has in record {
      place = place_of (after c h) o;
      state = x.0;
      unpacks = stands_for o x.0 has x.1;
      fitting = fitting c h o x.0 r.legal x.1;
      above = subst (λ (q : Part). IsBelow o (place_of (after c h) o) q.log) (sym (ap first_of is)) (above o);
      room = λ left.
          let a = has_room (subst (λ (q : Part). 0 < q.left) (ap first_of is) left) in
          let b = place_low c h o r.legal in omega arith;
      ready = λ w watched there. ready_state c h p.caller o w x.0 x.1 watched (is_ready_here w there);
      pause = λ n g z on now there parks.
          let known : IsReady c h p.caller (watch.Element n) = is_ready_here (watch.Element n) there in
          let log : parked n (of p.caller h) ≡ Some g =
          ap (parked n) (sym mine.0.logged) ∙ (ap (λ (q : Part). parked n q.log) (sym (ap first_of is)) ∙ parks) in
          let at_it : state_at (after c h) (Element n) ≡ Some x.0 = subst (λ q. state_at (after c h) q ≡ Some x.0) on x.1 in
          let here : ((after c h).element n).state ≡ z = cc (at_it, now) in
          ap (λ (y : ElementState). y.generation) (sym here) ∙ released_pause c h p.caller n g r.legal known.1 log known.2;
    }

  -- after a step that leads to history g, the seat's log and told list are possible
  pub possible : (s : Table) (g : List Entry) → Stands c s g → (id : ℕ) (w : View) (q : Part) (more : List Part)
      → get_elem? s.views id ≡ some w → w.parts ≡ q ∷ more
      → PossibleFor w
  possible s g r id w q more at is =
      let a : w.about ≡ c ∷ [] = mine_about s g r id w q more at is in
      let b : IsPart c g q = (mine s g r id w q more at is).0 in
      subst (λ (z : List Setup × Part). AllByRecursion (λ d. IsPossible d z.1.caller z.1.log z.1.told) z.0)
      (λ i. (sym a i, ap first_of (sym is) i))
      (record { history = g; legal = r.legal; budgets = keeps_budgets c s.views g r.logs; logged = sym b.logged; told = sym b.shown }, tt)
