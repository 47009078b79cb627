-- What stands after a seat's move on a word: its caller's event, or a look.
use Rattle.std.proofs.Common.{◌≡◌, ◌≢◌, ℕ, ◌<◌, true, List, [], ◌∷◌, ◌++◌, length, set, get_or, Some, sym, refl, ap, ◌∙◌, subst, arith}
use Rattle.std.proofs.Common.{length-append, length-set, append-nil, IsSome, get_or-set_same, get_or-set_other}
use Rattle.std.specs.List.{AllByRecursion}
use mathlib.Core.Logic.{dite}
use mathlib.Core.Option.{some}
use lib.ListN.{get_elem?}
use lib.Seq.{set-get_or}
use Rattle.atomic_table.specs.Table.{keeps, stepped}
use Rattle.mv_latch.specs.declared.operation.Wake.{Wake}
use Rattle.mv_latch.specs.declared.request.Request.{Request}
use Rattle.mv_machine.specs.declared.entry.Entry.{Entry}
use Rattle.mv_machine.specs.declared.entry.Object.{Object}
use Rattle.mv_machine.specs.declared.entry.Object.TheVariants.{Latches}
use Rattle.mv_machine.specs.declared.entry.Op.{Op}
use Rattle.mv_machine.specs.declared.entry.Reply.{Reply}
use Rattle.mv_machine.specs.Legal.{IsNext, Legal, after, next}
use Rattle.mv_machine.specs.Packing.{word_at}
use Rattle.mv_machine.specs.Parts.{Had}
use Rattle.mv_config.specs.Setup.{Setup}
use Rattle.mv_machine.specs.System.{System, Cell, admitted, place_of}
use Rattle.mv_machine.specs.Told.{told}
use Rattle.mv_machine.proofs.Longer.{legal_longer, after_longer, had_longer, had_now}
use Rattle.mv_machine.proofs.Lists.{all_map, all_append}
use Rattle.mv_machine.proofs.Places.{object_discrete, of_longer_mine, of_longer_other}
use Rattle.mv_board.specs.declared.item.Item.{Item}
use Rattle.mv_board.specs.declared.view.Part.{Part}
use Rattle.mv_board.specs.declared.view.Sight.{Sight}
use Rattle.mv_board.specs.declared.view.View.{View}
use Rattle.mv_board.specs.declared.watch.Watch.{Watch}
use Rattle.mv_board.specs.Rule.{holders_in, made, IsPart, Turns, IsReady, ReadyFor, AboutFor, Logs, Stands}
use Rattle.mv_board.specs.Steps.{entry_of}
use Rattle.mv_board.specs.View.{first_of, part_logged, part_met, with_own, takes_off, off, logged, met}
use Rattle.mv_board.specs.Words.{HasWord, word_number, turn_word, changed}
use Rattle.mv_board.proofs.Events.{changed_parts, event_is_next, event_word, other_word, latches_stay}
use Rattle.mv_board.proofs.Events.{told_away, told_else, ready_next}
use Rattle.mv_board.proofs.Machine.{one_number, not_turn, in_table, no_latches, state_there}
use Rattle.mv_board.proofs.Standing.{Table, logs_put, turn_put, mine, mine_ready, mine_about, caller_made, alone, apart, short, stands_for}
use Rattle.mv_board.proofs.Views.{all_without, each_put, holders_mine, parts_apart}

module _ (c : Setup) where
  module _ (s : Table) (h : List Entry) (r : Stands c s h) (id : ℕ) (v : View) (p : Part) (more : List Part)
      (at : get_elem? s.views id ≡ some v) (is : v.parts ≡ p ∷ more) where
    pub idle_view : (w : View) (q : Part) → w.parts ≡ q ∷ more → (j : ℕ) (u : View) → get_elem? (set s.views id w) j ≡ some u
        → u.parts ≡ [] → u.turn ≡ []
    idle_view w q ps = each_put s.views id w (λ u. u.parts ≡ [] → u.turn ≡ []) (λ none. absurd (cc (sym none ∙ ps)))
        (λ j u n a. r.idle j u a)

    pub about_view : (w : View) (q : Part) → w.parts ≡ q ∷ more → w.about ≡ v.about → (j : ℕ) (u : View)
        → get_elem? (set s.views id w) j ≡ some u → AboutFor c u.parts u.about
    about_view w q ps same = each_put s.views id w (λ u. AboutFor c u.parts u.about)
        (subst (λ (z : List Part). AboutFor c z w.about) (sym ps) (same ∙ mine_about c s h r id v p more at is))
        (λ j u n a. r.about j u a)

    -- ---- an event of the seat's caller, behind which the seat has the view w

    module _ (e : Entry) (shown : List (List Wake)) (w : View) (who : e.caller ≡ p.caller) (legal : Legal c (h ++ e ∷ []))
        (tells : told c p.caller (h ++ e ∷ []) ≡ told c p.caller h ++ shown) (q : w.parts ≡ part_logged e shown p ∷ more) where
      sights_last : (k : ℕ) (ms : List Sight) → AllByRecursion (λ m. Had c h k m.after m.object m.word) ms
          → AllByRecursion (λ m. Had c (h ++ e ∷ []) k m.after m.object m.word) ms
      sights_last k ms a = all_map (λ m y. had_longer c h e k m.after m.word m.object legal y) ms a

      -- the parts of others stay
      part_over : (x : Part) → x.caller ≢ p.caller → IsPart c h x → IsPart c (h ++ e ∷ []) x
      part_over x n y = record {
        logged = y.logged ∙ sym (of_longer_other x.caller h e (λ z. n (sym z ∙ who)));
        shown = y.shown ∙ sym (told_else c x.caller h e (λ z. n (sym z ∙ who)));
        budget = y.budget;
        had = sights_last x.caller x.sights y.had;
      }

      part_mine : 0 < p.left → IsPart c (h ++ e ∷ []) (part_logged e shown p)
      part_mine left = let y : IsPart c h p = (mine c s h r id v p more at is).0 in record {
        logged = ap (λ l. l ++ e ∷ []) y.logged ∙ sym (of_longer_mine p.caller h e who);
        shown = ap (λ l. l ++ shown) y.shown ∙ sym tells;
        budget = (let b = y.budget in let l = length-append p.log (e ∷ []) in omega arith);
        had = sights_last p.caller p.sights y.had;
      }

      pub logs_event : 0 < p.left → w.made ≡ v.made → Logs c (set s.views id w) (h ++ e ∷ [])
      logs_event left same_made =
          let m = caller_made c s h r id v p more at is in
          logs_put c s.views h (h ++ e ∷ []) id v w r.logs at (λ k. ap (holders_in k) q ∙ ap (holders_in k) (sym is)) same_made
          (λ k le. of_longer_other k h e (λ z. absurd (omega arith)) ∙ r.logs.unmade k le)
          record {
            counted = subst (λ n. 0 < n → n ≡ made s.views) (sym same_made) (r.logs.known id v at).counted;
            parts = subst (AllByRecursion (IsPart c (h ++ e ∷ []))) (sym q) (
              part_mine left,
              parts_apart (IsPart c h) (IsPart c (h ++ e ∷ [])) p.caller more (alone c s h r id v p more at is) part_over
                  (mine c s h r id v p more at is).1,
            );
          }
          (λ j u n a. let y = r.logs.known j u a in record {
            counted = y.counted;
            parts = parts_apart (IsPart c h) (IsPart c (h ++ e ∷ [])) p.caller u.parts (apart c s h r id v p more at is j u a n) part_over
                y.parts;
          })

      ready_over : (ps : List Part) (ws : List Watch) → holders_in p.caller ps ≡ 0 → ReadyFor c h ps ws → ReadyFor c (h ++ e ∷ []) ps ws
      ready_over [] ws z a = a
      ready_over (x ∷ xs) ws z a =
          let other : x.caller ≢ p.caller = (λ m. let q = holders_mine p.caller x xs m in absurd (omega arith)) in
          all_map (λ w y. ready_next c h e x.caller w legal (λ z. absurd (other (sym z ∙ who))) y) ws a

      pub ready_event : w.ready ≡ off e.object e.op v.ready → (j : ℕ) (u : View) → get_elem? (set s.views id w) j ≡ some u
          → ReadyFor c (h ++ e ∷ []) u.parts u.ready
      ready_event taken =
          each_put s.views id w (λ u. ReadyFor c (h ++ e ∷ []) u.parts u.ready)
          (subst (λ (z : List Part × List Watch). ReadyFor c (h ++ e ∷ []) z.0 z.1) (λ i. (sym q i, sym taken i))
          (all_without (IsReady c h p.caller) (IsReady c (h ++ e ∷ []) p.caller) (takes_off e.object e.op) v.ready
          (λ x stays y. ready_next c h e p.caller x legal (λ _. stays) y) (mine_ready c s h r id v p more at is)))
          (λ j u n a. ready_over u.parts u.ready (apart c s h r id v p more at is j u a n) (r.ready j u a))

    -- on a word
    happen : (e : Entry) (new : ℕ) (cs : List (ℕ × Item)) → 0 < p.left → e.caller ≡ p.caller → HasWord c e.object → IsNext c (after c h) e
        → new ≡ word_at (next (after c h) e) e.object → Stands c (stepped s (word_number e.object) new id cs (logged e [] v) keeps)
        (h ++ e ∷ [])
    happen e new cs left who has is_next is_new =
        let w : View = logged e [] v in
        let q : w.parts ≡ part_logged e [] p ∷ more = ap (with_own (part_logged e [])) is in
        let g : List Entry = h ++ e ∷ [] in
        let i : ℕ = word_number e.object in
        let inside : i < length s.words = (let t = in_table c e.object r.valid has in let l = r.wide in omega arith) in
        let away : e.object ≢ Latches = no_latches c e.object has in
        let legal : Legal c g = legal_longer c h e r.legal is_next in
        let leads : after c g ≡ next (after c h) e = after_longer c h e in
        let tells : told c p.caller g ≡ told c p.caller h ++ [] = told_away c p.caller h e away ∙ sym (append-nil (told c p.caller h)) in
        let turn : turn_word ≢ i = not_turn c e.object r.valid has in record {
          valid = r.valid;
          legal = legal;
          logs = logs_event e [] w who legal tells q left refl;
          wide = length-set s.words i new ∙ r.wide;
          words = λ o there. dite (object_discrete o e.object)
              (λ same. subst (λ q. get_or (set s.words i new) (word_number q) 0 ≡ word_at (after c g) q) (sym same)
              (get_or-set_same s.words i new 0 inside ∙ (is_new ∙ ap (λ m. word_at m e.object) (sym leads))))
              (λ other. get_or-set_other s.words i (word_number o) new 0 (λ z. other (one_number c o e.object r.valid there has z))
              ∙ (r.words o there ∙ (sym (other_word (after c h) e o other) ∙ ap (λ m. word_at m o) (sym leads))));
          turn =
              let set_stays : Cell (List (List Request)) = (after c h).latches in
              let same : (after c g).latches ≡ (after c h).latches = ap (λ (m : System). m.latches) leads
              ∙ latches_stay (after c h) e away in
              subst (λ (z : Cell (List (List Request)) × ℕ). Turns c z.0 z.1 s.homes (set s.views id w))
              (λ k. (sym same k, sym (get_or-set_other s.words i turn_word new 0 turn) k))
              (turn_put c (after c h).latches (get_or s.words turn_word 0) s.homes s.views id v w r.turn at refl);
          ready = ready_event e [] w who legal tells q refl;
          about = about_view w (part_logged e [] p) q refl;
          idle = idle_view w (part_logged e [] p) q;
        }

    -- an operation that the machine admits is one
    pub event : (o : Object) (op : Op) (place new : ℕ) (reply : Reply) (cs : List (ℕ × Item)) → HasWord c o
        → admitted c (after c h) p.caller o op ≡ true → 0 < p.left
        → changed o op (get_or s.words (word_number o) 0) ≡ Some (place, new, reply)
        → Stands c (stepped s (word_number o) new id cs (logged (entry_of v o op place reply) [] v) keeps)
        (h ++ entry_of v o op place reply ∷ [])
    event o op place new reply cs has admits left change =
        let e : Entry = entry_of v o op place reply in
        let who : e.caller ≡ p.caller = ap (λ ps. (first_of ps).caller) is in
        let x = state_there c (after c h) o has in
        let parts = changed_parts o op (get_or s.words (word_number o) 0) (place_of (after c h) o) x.0 place new reply
        (stands_for c s h r id v p more at is o x.0 has x.1) change in
        let may : admitted c (after c h) e.caller o op ≡ true = subst (λ k. admitted c (after c h) k o op ≡ true) (sym who) admits in
        happen e new cs left who has
        (event_is_next c (after c h) e x.0 parts.1.state may x.1 parts.1.steps parts.0)
        (parts.1.word ∙ sym (event_word c (after c h) e x.0 parts.1.state may x.1 parts.1.steps))

    -- ---- a step that changes no word, and of the view what the seat met and what is listed alone

    pub find : (o : Object) (cs : List (ℕ × Item)) (w : View) → HasWord c o → w.parts ≡ part_met o
        (get_or s.words (word_number o) 0) p ∷ more → w.made ≡ v.made
        → w.turn ≡ v.turn → w.about ≡ v.about → AllByRecursion (IsReady c h p.caller) w.ready
        → Stands c (stepped s (word_number o) (get_or s.words (word_number o) 0) id cs w keeps) h
    find o cs w has q same_made same_turn same_about lists =
        let i : ℕ = word_number o in
        let x : ℕ = get_or s.words i 0 in
        let y : IsPart c h p = (mine c s h r id v p more at is).0 in
        let there = state_there c (after c h) o has in
        let now : Had c h p.caller (length p.log) o x =
        subst (λ (z : ℕ × ℕ). Had c h p.caller z.0 o z.1) (λ k. (ap length (sym y.logged) k, sym (r.words o has) k))
        (had_now c h p.caller o r.legal (short c s h r id v p more at is) (subst (λ z. IsSome z) (sym there.1) refl)) in
        subst (λ (z : List ℕ). Stands c record { words = z; homes = s.homes; views = set s.views id w } h)
        (sym (set-get_or s.words i 0)) record {
          valid = r.valid;
          legal = r.legal;
          logs = logs_put c s.views h h id v w r.logs at (λ k. ap (holders_in k) q ∙ ap (holders_in k) (sym is)) same_made r.logs.unmade
              record {
                counted = subst (λ n. 0 < n → n ≡ made s.views) (sym same_made) (r.logs.known id v at).counted;
                parts = subst (AllByRecursion (IsPart c h)) (sym q) (
                  record {
                    logged = y.logged;
                    shown = y.shown;
                    budget = y.budget;
                    had = all_append (λ m. Had c h p.caller m.after m.object m.word) p.sights _ y.had (now, tt);
                  },
                  (mine c s h r id v p more at is).1,
                );
              }
              (λ j u n a. r.logs.known j u a);
          wide = r.wide;
          words = r.words;
          turn = turn_put c (after c h).latches (get_or s.words turn_word 0) s.homes s.views id v w r.turn at same_turn;
          ready = each_put s.views id w (λ u. ReadyFor c h u.parts u.ready)
              (subst (λ (z : List Part). ReadyFor c h z w.ready) (sym q) lists)
              (λ j u n a. r.ready j u a);
          about = about_view w (part_met o x p) q same_about;
          idle = idle_view w (part_met o x p) q;
        }

    pub look : (o : Object) (cs : List (ℕ × Item)) → HasWord c o
        → Stands c (stepped s (word_number o) (get_or s.words (word_number o) 0) id cs (met o (get_or s.words (word_number o) 0) v) keeps) h
    look o cs has =
        let x : ℕ = get_or s.words (word_number o) 0 in
        find o cs (met o x v) has (ap (with_own (part_met o x)) is) refl refl refl (mine_ready c s h r id v p more at is)
