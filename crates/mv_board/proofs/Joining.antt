-- A seat takes over another.
use Rattle.std.proofs.Common.{◌≡◌, ℕ, ◌<◌, List, [], ◌∷◌, ◌++◌, length, set, sym, refl, ap, ◌∙◌, subst, arith, length-append}
use Rattle.std.specs.List.{AllByRecursion}
use mathlib.Core.Logic.{dite}
use mathlib.Core.Option.{some}
use native.Mathlib.Decide.{dec_lt}
use lib.ListN.{get_elem?}
use Rattle.atomic_table.specs.Table.{Joins}
use Rattle.atomic_table.proofs.Lists.{set_else}
use Rattle.mv_latch.specs.declared.request.Request.{Request}
use Rattle.mv_latch.proofs.Joined.{both_empty}
use Rattle.mv_machine.specs.declared.entry.Entry.{Entry}
use Rattle.mv_machine.specs.Legal.{after}
use Rattle.mv_config.specs.Setup.{Setup}
use Rattle.mv_machine.specs.System.{Cell}
use Rattle.mv_machine.proofs.Lists.{all_append}
use Rattle.mv_board.specs.declared.view.Part.{Part}
use Rattle.mv_board.specs.declared.view.View.{View}
use Rattle.mv_board.specs.Rule.{holders, tally, made, history_of, IsPart, Knows, IsNamed, ReadyFor, AboutFor, Ruled}
use Rattle.mv_board.specs.View.{either_about, joined, spent_view}
use Rattle.mv_board.proofs.Standing.{remerge}
use Rattle.mv_board.proofs.Views.{each_put, tally_set, tally_two, holders_append}

ready_none : (c : Setup) (h : List Entry) (ps : List Part) → ReadyFor c h ps []
ready_none c h [] = refl
ready_none c h (p ∷ ps) = tt

both_about : (c : Setup) (ps qs : List Part) (cs ds : List Setup) → AboutFor c ps cs → AboutFor c qs ds
    → AboutFor c (ps ++ qs) (either_about cs ds)
both_about c [] [] cs ds x y = ap (λ z. either_about z ds) x ∙ y
both_about c [] (q ∷ qs) cs ds x y = ap (λ z. either_about z ds) x ∙ y
both_about c (p ∷ ps) qs cs ds x y = ap (λ z. either_about z ds) x

-- what holds of each view then
each_join : (vs : List View) (id other : ℕ) (both : View) (P : View → Type 0) → P spent_view → P both
    → ((j : ℕ) (u : View) → get_elem? vs j ≡ some u → P u)
    → (j : ℕ) (u : View) → get_elem? (set (set vs id both) other spent_view) j ≡ some u → P u
each_join vs id other both P spent here all =
    each_put (set vs id both) other spent_view P spent (λ j u _ a. each_put vs id both P here (λ j u _ a. all j u a) j u a)

pub joins : (c : Setup) (id : ℕ) (v : View) (other : ℕ) (w : View) → Joins (Ruled c) id v other w (joined v w) spent_view
joins c id v other w s r at apart there =
    let h : List Entry = history_of c s.views in
    let both : View = joined v w in
    let vs : List View = set s.views id both in
    let us : List View = set vs other spent_view in
    let was : get_elem? s.views other ≡ some w = sym (set_else s.views id other both apart) ∙ there in
    let known = r.logs.known id v at in
    let other_known = r.logs.known other w was in
    let two = tally_two (λ x. x.made) s.views id other v w at was apart in
    let count : made us ≡ made s.views =
    (let t = tally_set (λ x. x.made) s.views id v both at in let u = tally_set (λ x. x.made) vs other w spent_view there in omega arith) in
    let held : (k : ℕ) → tally (holders k) us ≡ tally (holders k) s.views = (λ k.
    let t = tally_set (holders k) s.views id v both at in
    let u = tally_set (holders k) vs other w spent_view there in
    let y = holders_append k v.parts w.parts in omega arith) in
    let x : Cell (List (List Request)) = (after c h).latches in
    remerge c record { words = s.words; homes = s.homes; views = us } h record {
      valid = r.valid;
      legal = r.legal;
      logs = record {
        one = λ k l. held k ∙ r.logs.one k (omega arith);
        none_yet = λ k l. held k ∙ r.logs.none_yet k (omega arith);
        few = (let f = r.logs.few in omega arith);
        unmade = λ k l. r.logs.unmade k (omega arith);
        known = subst (λ (n : ℕ). (j : ℕ) (u : View) → get_elem? us j ≡ some u → Knows c h n u) (sym count)
            (each_join s.views id other both (Knows c h (made s.views))
            record { counted = λ (l : 0 < 0). absurd (omega arith); parts = tt }
            record {
              counted = λ l. dite (dec_lt 0 v.made)
                  (λ z. let q = known.counted z in omega arith)
                  (λ z. let q = other_known.counted (omega arith) in omega arith);
              parts = all_append (IsPart c h) v.parts w.parts known.parts other_known.parts;
            }
            r.logs.known);
      };
      wide = r.wide;
      words = r.words;
      turn = record {
        count = r.turn.count
            ∙ (let t = tally_set (λ y. length y.turn) s.views id v both at in
            let u = tally_set (λ y. length y.turn) vs other w spent_view there in
            let y = length-append v.turn w.turn in omega arith);
        single = r.turn.single;
        home = r.turn.home;
        named = each_join s.views id other both (λ u. AllByRecursion (IsNamed x) u.turn) tt
            (all_append (IsNamed x) v.turn w.turn (r.turn.named id v at) (r.turn.named other w was)) r.turn.named;
      };
      ready = each_join s.views id other both (λ u. ReadyFor c h u.parts u.ready) refl (ready_none c h (v.parts ++ w.parts)) r.ready;
      about = each_join s.views id other both (λ u. AboutFor c u.parts u.about) refl
          (both_about c v.parts w.parts v.about w.about (r.about id v at) (r.about other w was)) r.about;
      idle = each_join s.views id other both (λ u. u.parts ≡ [] → u.turn ≡ []) (λ _. refl)
          (λ z. let e = both_empty v.parts w.parts z in λ i. r.idle id v at e.0 i ++ r.idle other w was e.1 i) r.idle;
    }
