-- Each step keeps the rule.
use Rattle.std.proofs.Common.{◌≡◌, ℕ, zero, suc, ◌+◌, ◌/◌, ◌%◌, ◌^◌, ◌<◌, ◌≤◌, ◌==◌, Bool, true, false, List, [], ◌∷◌, ◌++◌, length, set, get_or, Some}
use Rattle.std.proofs.Common.{sym, refl, ap, ◌∙◌, subst, arith, eq-eqb, ne_eqb}
use Rattle.std.proofs.lemmas.Bool.{eqb-true}
use Rattle.std.specs.List.{AllByRecursion}
use mathlib.Core.Logic.{dite}
use mathlib.Core.Option.{none, some, some-injective, some-ne-none}
use native.Mathlib.Decide.{ℕ_discrete}
use lib.ListN.{get_elem?}
use prog.Atomic.{either}
use Rattle.atomic_table.specs.Table.{Me, step, keeps, stepped, Allows, Splits, opening as opening_state}
use Rattle.mv_machine.specs.declared.entry.Entry.{Entry}
use Rattle.mv_machine.specs.declared.entry.Object.{Object}
use Rattle.mv_machine.specs.declared.entry.Op.{Op}
use Rattle.mv_machine.specs.declared.entry.Reply.{Reply}
use Rattle.mv_config.specs.Check.{IsValid}
use Rattle.mv_machine.specs.Kept.{allowed}
use Rattle.mv_config.specs.Limits.{events_limit}
use Rattle.mv_machine.specs.Legal.{after, of}
use Rattle.mv_machine.specs.Packing.{pack, unpack, state_at}
use Rattle.mv_config.specs.Setup.{Setup}
use Rattle.mv_machine.specs.System.{System, admitted, opening, place_of}
use Rattle.mv_machine.proofs.Allowed.{allowed_is_admitted}
use Rattle.mv_config.proofs.Validity.{callers_kept}
use Rattle.mv_board.specs.declared.item.Item.{Item}
use Rattle.mv_board.specs.declared.item.Item.TheVariants.{Held, Said}
use Rattle.mv_board.specs.declared.item.Lists.{Lists}
use Rattle.mv_board.specs.declared.view.Part.{Part}
use Rattle.mv_board.specs.declared.view.View.{View}
use Rattle.mv_board.specs.Rule.{holders_in, holders, tally, made, history_of, IsPart, Knows, IsNamed, ReadyFor, AboutFor, Stands, Ruled}
use Rattle.mv_board.specs.Rule.{IsLists}
use Rattle.mv_board.specs.Steps.{Looked, Tried, Tested, Made, Meets, entry_of}
use Rattle.mv_board.specs.View.{fresh, part_logged, with_own, logged, met, cut_left, cut_right, fresh_in, first_view}
use Rattle.mv_board.specs.Words.{HasWord, word_number, word_count, turn_word, object_of, changed, test_of}
use Rattle.mv_board.proofs.Events.{changed_is, test_steps, test_admitted, told_nothing}
use Rattle.mv_machine.proofs.MergeSteps.{place_low}
use Rattle.mv_board.proofs.Machine.{object_again, state_there, word_by_state, zero_words, unpacked_place, fitting}
use Rattle.mv_board.proofs.Moves.{event, look}
use Rattle.mv_board.proofs.Standing.{Table, remerge, turn_put, mine, caller_made, has_room, stands_for, meets, possible}
use Rattle.mv_board.proofs.Views.{each_put, each_push, put_there, tally_set, tally_push, tally_two, holders_mine, holders_other}

-- an exchange of 0 for 0 changes no word
unchanged : (n : ℕ) → n ≡ either (n == 0) 0 n
unchanged n = go (n == 0) refl where
  go : (b : Bool) → (n == 0) ≡ b → n ≡ either b 0 n
  go true is = eqb-true n 0 is
  go false is = refl

module _ (c : Setup) (slots id : ℕ) (me : Me Item View) (p : Part) (more : List Part) (is : me.0.parts ≡ p ∷ more) where
  -- what the seat learns of its event
  made_here : (s : Table) → Ruled c s → get_elem? s.views id ≡ some me.0 → (o : Object) (op : Op) (place new : ℕ) (reply : Reply)
      → changed o op (get_or s.words (word_number o) 0) ≡ Some (place, new, reply)
      → Stands c (stepped s (word_number o) new id me.1 (logged (entry_of me.0 o op place reply) [] me.0) keeps)
      (history_of c s.views ++ entry_of me.0 o op place reply ∷ [])
      → Made me.0 o op (get_or s.words (word_number o) 0) (logged (entry_of me.0 o op place reply) [] me.0)
  made_here s r at o op place new reply here st =
      let e : Entry = entry_of me.0 o op place reply in
      let w : View = logged e [] me.0 in record {
        place = place;
        word = new;
        reply = reply;
        change = here;
        view = refl;
        possible = possible c (stepped s (word_number o) new id me.1 w keeps) (history_of c s.views ++ e ∷ []) st id w
            (part_logged e [] p) more
            (put_there s.views id me.0 w at) (ap (with_own (part_logged e [])) is);
      }

  pub looks : (o : Object) → HasWord c o → Allows (Ruled c) slots id me (word_number o) (λ n. n)
      (Looked (step slots (word_number o) 0 0 none) me)
  looks o has s r _ at _ =
      let h : List Entry = history_of c s.views in
      let i : ℕ = word_number o in
      let x : ℕ = get_or s.words i 0 in
      let w : View = met o x me.0 in
      let again : object_of i ≡ o = object_again c o r.valid has in (
        w,
        keeps,
        tt,
        remerge c (stepped s i x id me.1 w keeps) h (look c s h r id me.0 p more at is o me.1 has),
        record {
          slots = refl;
          view = ap (λ q. met q x me.0) (sym again);
          meets = subst (λ q. Meets me.0 q x) (sym again) (meets c s h r id me.0 p more at is o has);
        },
      )

  pub looks_by_exchange : (o : Object) → HasWord c o → Allows (Ruled c) slots id me (word_number o) (λ n. either (n == 0) 0 n)
      (Looked (step slots (word_number o) 0 0 none) me)
  looks_by_exchange o has =
      subst (λ (f : ℕ → ℕ). Allows (Ruled c) slots id me (word_number o) f (Looked (step slots (word_number o) 0 0 none) me))
      (λ i n. unchanged n i) (looks o has)

  pub happens : (o : Object) (op : Op) (old place new : ℕ) (reply : Reply) → HasWord c o → allowed c p.caller p.log o op ≡ true → 0 < p.left
      → changed o op old ≡ Some (place, new, reply)
      → Allows (Ruled c) slots id me (word_number o) (λ n. either (n == old) new n)
      (Tried (step slots (word_number o) old new (some (Said op))) me)
  happens o op old place new reply has may left change s r _ at _ =
      let h : List Entry = history_of c s.views in
      let i : ℕ = word_number o in
      let x : ℕ = get_or s.words i 0 in
      let again : object_of i ≡ o = object_again c o r.valid has in
      let sees : Meets me.0 (object_of i) x = subst (λ q. Meets me.0 q x) (sym again) (meets c s h r id me.0 p more at is o has) in
      dite (ℕ_discrete x old)
      (λ hit.
      let e : Entry = entry_of me.0 o op place reply in
      let w : View = logged e [] me.0 in
      let after_it : Table = stepped s i new id me.1 w keeps in
      let here : changed o op x ≡ Some (place, new, reply) = subst (λ z. changed o op z ≡ Some (place, new, reply)) (sym hit) change in
      let admits : admitted c (after c h) p.caller o op ≡ true =
      allowed_is_admitted c h p.caller o op r.legal
      (subst (λ log. allowed c p.caller log o op ≡ true) (mine c s h r id me.0 p more at is).0.logged may) in
      let st : Stands c after_it (h ++ e ∷ []) = event c s h r id me.0 p more at is o op place new reply me.1 has admits left here in (
        w,
        keeps,
        tt,
        subst (λ b. Ruled c (stepped s i (either b new x) id me.1 w keeps)) (sym (eq-eqb x old hit)) (remerge c after_it (h ++ e ∷ []) st),
        record {
          slots = refl;
          meets = sees;
          hit = λ _. subst (λ q. Made me.0 q op x w) (sym again) (made_here s r at o op place new reply here st);
          miss = λ n. absurd (n hit);
        },
      ))
      (λ miss.
      let w : View = met o x me.0 in (
        w,
        keeps,
        tt,
        subst (λ b. Ruled c (stepped s i (either b new x) id me.1 w keeps)) (sym (ne_eqb x old miss))
            (remerge c (stepped s i x id me.1 w keeps) h (look c s h r id me.0 p more at is o me.1 has)),
        record {
          slots = refl;
          meets = sees;
          hit = λ is_hit. absurd (miss is_hit);
          miss = λ _. ap (λ q. met q x me.0) (sym again);
        },
      ))

  pub tests : (o : Object) → HasWord c o → 0 < p.left
      → Allows (Ruled c) slots id me (word_number o) (λ n. (n + 2 ^ 45) % 2 ^ 64) (Tested (step slots (word_number o) (2 ^ 45) 0 none) me)
  tests o has left s r _ at _ =
      let h : List Entry = history_of c s.views in
      let i : ℕ = word_number o in
      let x : ℕ = get_or s.words i 0 in
      let m : System = after c h in
      let q : ℕ = place_of m o in
      let there = state_there c m o has in
      let is_state : state_at m o ≡ Some there.0 = there.1 in
      let steps = test_steps c m o there.0 has is_state in
      let new : ℕ = pack (q + 1) there.0 in
      let unpacks : unpack o x ≡ Some (q, there.0) = stands_for c s h r id me.0 p more at is o there.0 has is_state in
      let free : q < events_limit =
      (let a = has_room c s h r id me.0 p more at is left in let b : q ≤ length h = place_low c h o r.legal in omega arith) in
      let sum : (x + 2 ^ 45) % 2 ^ 64 ≡ new =
      (let a : x ≡ pack q there.0 = r.words o has ∙ word_by_state m o there.0 is_state in
      let b : x / 2 ^ 45 ≡ q = unpacked_place o x q there.0 unpacks in omega arith) in
      let here : changed o (test_of o) x ≡ Some (q, new, steps.0) =
      changed_is o (test_of o) x q there.0 there.0 steps.0 unpacks free (fitting c h o there.0 r.legal is_state) steps.1 in
      let small : p.caller < c.callers = (let a = caller_made c s h r id me.0 p more at is in let b = r.logs.few in omega arith) in
      let e : Entry = entry_of me.0 o (test_of o) q steps.0 in
      let w : View = logged e [] me.0 in
      let after_it : Table = stepped s i new id me.1 w keeps in
      let st : Stands c after_it (h ++ e ∷ []) =
      event c s h r id me.0 p more at is o (test_of o) q new steps.0 me.1 has (test_admitted c m p.caller o has small) left here in
      let again : object_of i ≡ o = object_again c o r.valid has in (
        w,
        keeps,
        tt,
        subst (λ z. Ruled c (stepped s i z id me.1 w keeps)) (sym sum) (remerge c after_it (h ++ e ∷ []) st),
        record {
          slots = refl;
          meets = subst (λ z. Meets me.0 z x) (sym again) (meets c s h r id me.0 p more at is o has);
          event = subst (λ z. Made me.0 z (test_of z) x w) (sym again) (made_here s r at o (test_of o) q new steps.0 here st);
        },
      )

pub splits : (c : Setup) (id : ℕ) (v : View) → 0 < v.made → v.made < c.callers → v.about ≡ c ∷ [] → Splits (Ruled c) id v (cut_left v)
    (cut_right v)
splits c id v counts few about s r at =
    let h : List Entry = history_of c s.views in
    let left : View = cut_left v in
    let right : View = cut_right v in
    let vs : List View = set s.views id left in
    let new : Part = fresh c v.made in
    let cut : right.parts ≡ new ∷ [] = ap (λ cs. fresh_in cs v.made) about in
    let known = r.logs.known id v at in
    let here : v.made ≡ made s.views = known.counted counts in
    let count : made (vs ++ right ∷ []) ≡ suc (made s.views) =
    (let t = tally_set (λ x. x.made) s.views id v left at in let u = tally_push (λ x. x.made) vs right in omega arith) in
    let held : (k : ℕ) → tally (holders k) (vs ++ right ∷ []) ≡ tally (holders k) s.views + holders_in k (new ∷ []) = (λ k.
    let t = tally_set (holders k) s.views id v left at in
    let u = tally_push (holders k) vs right in
    let w : holders k right ≡ holders_in k (new ∷ []) = ap (holders_in k) cut in omega arith) in
    let none : of v.made h ≡ [] = r.logs.unmade v.made (omega arith) in
    let same = turn_put c (after c h).latches (get_or s.words turn_word 0) s.homes s.views id v left r.turn at refl in
    remerge c record { words = s.words; homes = s.homes; views = vs ++ right ∷ [] } h record {
      valid = r.valid;
      legal = r.legal;
      logs = record {
        one = λ k l. dite (ℕ_discrete v.made k)
            (λ z. let a = held k in let b = r.logs.none_yet k (omega arith) in let d = holders_mine k new [] z in omega arith)
            (λ z. let a = held k in let b = r.logs.one k (omega arith) in let d = holders_other k new [] z in omega arith);
        none_yet = λ k l.
            let a = held k in let b = r.logs.none_yet k (omega arith) in
            let d = holders_other k new [] (λ z. absurd (omega arith)) in omega arith;
        few = omega arith;
        unmade = λ k l. r.logs.unmade k (omega arith);
        known = subst (λ (n : ℕ). (j : ℕ) (u : View) → get_elem? (vs ++ right ∷ []) j ≡ some u → Knows c h n u) (sym count)
            (each_push vs right (Knows c h (suc (made s.views)))
            record {
              counted = λ (l : 0 < 0). absurd (omega arith);
              parts = subst (AllByRecursion (IsPart c h)) (sym cut) (
                record { logged = sym none; shown = sym (told_nothing c v.made h none); budget = omega arith; had = tt },
                tt,
              );
            }
            (each_put s.views id left (Knows c h (suc (made s.views)))
            record { counted = λ _. omega arith; parts = known.parts }
            (λ j u n a. record {
              counted = λ (l : 0 < u.made). let two = tally_two (λ x. x.made) s.views id j v u at a n in absurd (omega arith);
              parts = (r.logs.known j u a).parts;
            })));
      };
      wide = r.wide;
      words = r.words;
      turn = record {
        count = same.count ∙ (let u = tally_push (λ y. length y.turn) vs right in omega arith);
        single = same.single;
        home = same.home;
        named = each_push vs right (λ u. AllByRecursion (IsNamed (after c h).latches) u.turn) tt same.named;
      };
      ready = each_push vs right (λ u. ReadyFor c h u.parts u.ready) (subst (λ ps. ReadyFor c h ps []) (sym cut) tt)
          (each_put s.views id left (λ u. ReadyFor c h u.parts u.ready) (r.ready id v at) (λ j u n a. r.ready j u a));
      about = each_push vs right (λ u. AboutFor c u.parts u.about) (subst (λ ps. AboutFor c ps v.about) (sym cut) about)
          (each_put s.views id left (λ u. AboutFor c u.parts u.about) (r.about id v at) (λ j u n a. r.about j u a));
      idle = each_push vs right (λ u. u.parts ≡ [] → u.turn ≡ []) (λ _. refl)
          (each_put s.views id left (λ u. u.parts ≡ [] → u.turn ≡ []) (r.idle id v at) (λ j u n a. r.idle j u a));
    }

-- what holds of the only view
only : (w : View) (P : View → Type 0) → P w → (j : ℕ) (u : View) → get_elem? (w ∷ []) j ≡ some u → P u
only w P here zero u a = subst P (some-injective w u a) here
only w P here (suc j) u a = absurd (some-ne-none u (sym a))

pub opens : (c : Setup) (words : List ℕ) (l : Lists) → IsValid c → length words ≡ word_count c → ((i : ℕ) → get_or words i 0 ≡ 0)
    → IsLists c (opening c).latches l
    → Ruled c (opening_state words (Held l ∷ []) (first_view c))
opens c words l valid wide zeros lists =
    let first : View = first_view c in
    remerge c (opening_state words (Held l ∷ []) first) [] record {
      valid = valid;
      legal = tt;
      logs = record {
        one = λ k le. let z : k ≡ 0 = omega arith in let a = holders_mine k (fresh c 0) [] (sym z) in omega arith;
        none_yet = λ k le. let a = holders_other k (fresh c 0) [] (λ z. absurd (omega arith)) in omega arith;
        few = (let some_callers = callers_kept c valid in omega arith);
        unmade = λ k le. refl;
        known = only first (Knows c [] 1) record {
          counted = λ _. refl;
          parts = (record { logged = refl; shown = refl; budget = omega arith; had = tt }, tt);
        };
      };
      wide = wide;
      words = λ o has. zeros (word_number o) ∙ sym (zero_words c o);
      turn = record {
        count = zeros turn_word;
        single = (let z = zeros turn_word in omega arith);
        home = λ _. (l, refl, lists);
        named = only first (λ u. AllByRecursion (IsNamed (opening c).latches) u.turn) tt;
      };
      ready = only first (λ u. ReadyFor c [] u.parts u.ready) tt;
      about = only first (λ u. AboutFor c u.parts u.about) refl;
      idle = only first (λ u. u.parts ≡ [] → u.turn ≡ []) (λ _. refl);
    }
