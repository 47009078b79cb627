-- Looks at the blocks that a wait is for, one after the other.
use Rattle.std.proofs.Common.{◌≡◌, ℕ, zero, suc, ◌+◌, ◌<◌, ◌≤◌, ◌==◌, Bool, true, false, not, ◌||◌, cond, List, [], ◌∷◌, ◌++◌, map, length}
use Rattle.std.proofs.Common.{take, get_or, refl, sym, ap, ◌∙◌, arith, append_assoc, length-append}
use Rattle.std.proofs.lemmas.Bool.{false≢true, ne_eqb}
use Rattle.std.proofs.Math.ListN.{length-map}
use Rattle.std.proofs.lemmas.List.{map-append, append-nil}
use Rattle.std.proofs.lemmas.List.Elements.{filter-append}
use Rattle.std.proofs.lemmas.List.Filters.{length-filter_both}
use Rattle.std.specs.List.{AllByRecursion, Contains}
use Rattle.mv_machine.proofs.Lists.{all_append}
use Rattle.mv_machine.specs.declared.entry.Object.{Object}
use Rattle.mv_machine.specs.declared.entry.Object.TheVariants.{Ecb}
use Rattle.mv_board.specs.declared.view.Sight.{Sight}
use Rattle.mv_board.specs.declared.watch.Watch.{Watch}
use Rattle.mv_board.specs.declared.watch.Watch.TheVariants as watch
use Rattle.mv_board.specs.Faces.{CallerFace, PeekedAt, with_watch}
use Rattle.mv_calls.specs.Waits.{AreDistinct}
use Rattle.mv_wait.specs.Ready.{has_ready, ready_count}
use Rattle.mv_wait.specs.Run.{Went}
use Rattle.mv_wait.proofs.Waits.{ready_contains, ready_new}
use Rattle.mv_polled.specs.Found.{IsFoundNotReady}
use Rattle.mv_polled.specs.Waiting.{unready, AreFoundOpen}

-- ---- what is ready after a look

ready_end : (ws : List Watch) (e x : ℕ) → (e ≡ x → ⊥) → has_ready (ws ++ watch.Ecb e ∷ []) x ≡ has_ready ws x
ready_end [] e x differ = rw (ne_eqb e x differ) refl
ready_end (watch.Ecb m ∷ ws) e x differ = ap (λ b. (m == x) || b) (ready_end ws e x differ)
ready_end (watch.Element m ∷ ws) e x differ = ready_end ws e x differ
ready_end (watch.Latch latch id ∷ ws) e x differ = ready_end ws e x differ

-- another block is ready as before
pub other_look : (ws : List Watch) (e x : ℕ) (is : Bool) → (x ≡ e → ⊥) → has_ready (with_watch is (watch.Ecb e) ws) x ≡ has_ready ws x
other_look ws e x true differ = ready_end ws e x (λ q. differ (sym q))
other_look ws e x false differ = refl

not_ready : (ws : List Watch) (e : ℕ) (b : Bool) → has_ready ws e ≡ b → (Contains ws (watch.Ecb e) → ◌≡◌ {A = Bool} false true)
    → has_ready ws e ≡ false
not_ready ws e true is stays = absurd (false≢true (stays (ready_contains ws e is)))
not_ready ws e false is stays = is

-- the block itself is ready exactly if the look says so
pub own_look : (ws : List Watch) (e : ℕ) (is : Bool) → (Contains ws (watch.Ecb e) → is ≡ true)
    → has_ready (with_watch is (watch.Ecb e) ws) e ≡ is
own_look ws e true stays = ready_new ws e
own_look ws e false stays = not_ready ws e (has_ready ws e) refl stays

-- a look takes nothing off the list
pub ready_stays : (ws : List Watch) (e x : ℕ) (is : Bool) → has_ready ws x ≡ true → has_ready (with_watch is (watch.Ecb e) ws) x ≡ true
ready_stays ws e x true l = go ws l where
  go : (ws : List Watch) → has_ready ws x ≡ true → has_ready (ws ++ watch.Ecb e ∷ []) x ≡ true
  go [] l = absurd (false≢true l)
  go (watch.Ecb m ∷ ws) l = step (m == x) (has_ready ws x) (has_ready (ws ++ watch.Ecb e ∷ []) x) l (go ws) where
    step : (a b c : Bool) → (a || b) ≡ true → (b ≡ true → c ≡ true) → (a || c) ≡ true
    step true b c h f = refl
    step false b c h f = f h
  go (watch.Element m ∷ ws) l = go ws l
  go (watch.Latch latch id ∷ ws) l = go ws l
ready_stays ws e x false l = l

-- ---- the blocks that are not ready

-- a look at another block leaves those of a list
unready_same : (ws : List Watch) (e : ℕ) (is : Bool) (es : List ℕ) → AllByRecursion (λ m. m ≡ e → ⊥) es
    → unready (with_watch is (watch.Ecb e) ws) es ≡ unready ws es
unready_same ws e is [] differ = refl
unready_same ws e is (x ∷ es) differ =
    ap (λ b. cond (not b) (x ∷ unready (with_watch is (watch.Ecb e) ws) es) (unready (with_watch is (watch.Ecb e) ws) es))
    (other_look ws e x is differ.0)
    ∙ ap (λ xs. cond (not (has_ready ws x)) (x ∷ xs) xs) (unready_same ws e is es differ.1)

-- and one at a block behind them adds it, where it is not ready
pub unready_more : (ws : List Watch) (e : ℕ) (is : Bool) (es : List ℕ) → AllByRecursion (λ m. m ≡ e → ⊥) es
    → (Contains ws (watch.Ecb e) → is ≡ true)
    → unready (with_watch is (watch.Ecb e) ws) (es ++ e ∷ []) ≡ unready ws es ++ cond (not is) (e ∷ []) []
unready_more ws e is es differ stays =
    let ready = with_watch is (watch.Ecb e) ws in
    filter-append (λ x. not (has_ready ready x)) es (e ∷ [])
    ∙ (ap (λ xs. xs ++ cond (not (has_ready ready e)) (e ∷ []) []) (unready_same ws e is es differ)
    ∙ ap (λ b. unready ws es ++ cond (not b) (e ∷ []) []) (own_look ws e is stays))

-- the others of a list are ready
pub ready_others : (ws : List Watch) (es : List ℕ) → ready_count ws es + length (unready ws es) ≡ length es
ready_others ws es = length-filter_both (has_ready ws) (λ e. not (has_ready ws e)) (λ x. refl) es

-- ---- blocks that stand before one in a list without repeats

apart : (e : ℕ) (es : List ℕ) (i : ℕ) → AllByRecursion (λ m. m ≡ e → ⊥) es → i < length es → e ≡ get_or es i 0 → ⊥
apart e [] i all lt q = absurd (omega arith)
apart e (x ∷ es) zero all lt q = all.0 (sym q)
apart e (x ∷ es) (suc i) all lt q = apart e es i all.1 (omega arith) q

pub differ_before : (es : List ℕ) (i : ℕ) → AreDistinct es → i < length es → AllByRecursion (λ m. m ≡ get_or es i 0 → ⊥) (take i es)
differ_before es zero d lt = tt
differ_before [] (suc i) d lt = absurd (omega arith)
differ_before (e ∷ es) (suc i) d lt = (λ q. apart e es i d.0 (omega arith) q, differ_before es i d.1 (omega arith))

-- ---- what was found

-- a later look at another object leaves what was found
pub found_still : (o : Object) (s : Sight) (t u v : CallerFace) → IsFoundNotReady o t u → v.met ≡ u.met ++ s ∷ [] → (s.object ≡ o → ⊥)
    → IsFoundNotReady o t v
found_still o s t u v f m other = record {
  before = f.before;
  sight = f.sight;
  after = f.after ++ s ∷ [];
  met = m ∙ (ap (λ ms. ms ++ s ∷ []) f.met
      ∙ (append_assoc t.met (f.before ++ f.sight ∷ f.after) (s ∷ [])
      ∙ ap (λ ms. t.met ++ ms) (append_assoc f.before (f.sight ∷ f.after) (s ∷ []))));
  object = f.object;
  last = all_append (λ z. z.object ≡ o → ⊥) f.after (s ∷ []) f.last (other, tt);
  place = f.place;
  state = f.state;
  unpacks = f.unpacks;
  waits = f.waits;
}

-- what was found since later was found since earlier
pub found_since : (o : Object) (more : List Sight) (t u v : CallerFace) → u.met ≡ t.met ++ more → IsFoundNotReady o u v
    → IsFoundNotReady o t v
found_since o more t u v m f = record {
  before = more ++ f.before;
  sight = f.sight;
  after = f.after;
  met = f.met ∙ (ap (λ ms. ms ++ (f.before ++ f.sight ∷ f.after)) m
      ∙ (append_assoc t.met more (f.before ++ f.sight ∷ f.after)
      ∙ ap (λ ms. t.met ++ ms) (sym (append_assoc more f.before (f.sight ∷ f.after)))));
  object = f.object;
  last = f.last;
  place = f.place;
  state = f.state;
  unpacks = f.unpacks;
  waits = f.waits;
}

-- a look that finds an object not ready
pub found_now : (o : Object) (w : Watch) (u v : CallerFace) → PeekedAt u o w false v → IsFoundNotReady o u v
found_now o w u v p = record {
  before = [];
  sight = record { object = o; word = p.word; after = length u.log };
  after = [];
  met = p.found.met;
  object = refl;
  last = tt;
  place = p.found.place;
  state = p.found.state;
  unpacks = p.found.unpacks;
  waits = sym p.answer;
}

other_block : (e x : ℕ) → (x ≡ e → ⊥) → Ecb e ≡ Ecb x → ⊥
other_block e x differ q = let r : e ≡ x = cc q in differ (sym r)

-- those of a list that are not ready were found so, and a look at another block leaves that
open_still : (es : List ℕ) (e : ℕ) (is : Bool) (t u v : CallerFace) → AllByRecursion (λ m. m ≡ e → ⊥) es
    → PeekedAt u (Ecb e) (watch.Ecb e) is v → AreFoundOpen es t u → AreFoundOpen es t v
open_still [] e is t u v differ p all = tt
open_still (x ∷ es) e is t u v differ p all = (
  λ none. found_still (Ecb x) (record { object = Ecb e; word = p.word; after = length u.log }) t u v
      (all.0 (sym (other_look u.ready e x is differ.0) ∙ (sym (ap (λ ws. has_ready ws x) p.ready) ∙ none)))
      p.found.met (other_block e x differ.0),
  open_still es e is t u v differ.1 p all.1,
)

found_or_not : (e : ℕ) (is : Bool) (more : List Sight) (t u v : CallerFace) → u.met ≡ t.met ++ more
    → (Contains u.ready (watch.Ecb e) → is ≡ true) → PeekedAt u (Ecb e) (watch.Ecb e) is v
    → has_ready v.ready e ≡ false → IsFoundNotReady (Ecb e) t v
found_or_not e true more t u v m stays p none =
    absurd (false≢true (sym none ∙ (ap (λ ws. has_ready ws e) p.ready ∙ own_look u.ready e true stays)))
found_or_not e false more t u v m stays p none = found_since (Ecb e) more t u v m (found_now (Ecb e) (watch.Ecb e) u v p)

-- one block more
pub open_more : (es : List ℕ) (e : ℕ) (is : Bool) (t u v : CallerFace) → AllByRecursion (λ m. m ≡ e → ⊥) es
    → Went [] t u → (Contains u.ready (watch.Ecb e) → is ≡ true) → PeekedAt u (Ecb e) (watch.Ecb e) is v → AreFoundOpen es t u
    → AreFoundOpen (es ++ e ∷ []) t v
open_more es e is t u v differ went stays p all =
    all_append (λ x. has_ready v.ready x ≡ false → IsFoundNotReady (Ecb x) t v) es (e ∷ [])
    (open_still es e is t u v differ p all)
    (found_or_not e is went.met.0 t u v went.met.1 stays p, tt)

-- those that were found since later were found since earlier
pub open_since : (es : List ℕ) (more : List Sight) (t u v : CallerFace) → u.met ≡ t.met ++ more → AreFoundOpen es u v
    → AreFoundOpen es t v
open_since [] more t u v m all = tt
open_since (e ∷ es) more t u v m all =
    (λ none. found_since (Ecb e) more t u v m (all.0 none), open_since es more t u v m all.1)

-- ---- the keys that are put down

pub keys_more : (k : ℕ → ℕ) (xs : List ℕ) (e : ℕ) (is : Bool) → map k xs ++ cond is [] (k e ∷ []) ≡ map k (xs ++ cond (not is) (e ∷ []) [])
keys_more k xs e true = append-nil (map k xs) ∙ ap (map k) (sym (append-nil xs))
keys_more k xs e false = sym (map-append k xs (e ∷ []))

pub few_more : (xs : List ℕ) (x n : ℕ) (is : Bool) → length xs ≤ n → length (xs ++ cond is [] (x ∷ [])) ≤ n + 1
few_more xs x n true le = let e : length (xs ++ []) ≡ length xs = ap length (append-nil xs) in omega arith
few_more xs x n false le = let e : length (xs ++ x ∷ []) ≡ length xs + 1 = length-append xs (x ∷ []) in omega arith

pub length_keys : (k : ℕ → ℕ) (ws : List Watch) (es : List ℕ) → ready_count ws es + length (map k (unready ws es)) ≡ length es
length_keys k ws es =
    let e : length (map k (unready ws es)) ≡ length (unready ws es) = simp length-map in
    let f = ready_others ws es in omega arith

-- what was met since later lengthens what was met since earlier
pub met_since : (more : List Sight) (t u v : CallerFace) → u.met ≡ t.met ++ more → (rest : List Sight) × (v.met ≡ u.met ++ rest)
    → (rest : List Sight) × (v.met ≡ t.met ++ rest)
met_since more t u v m l = (more ++ l.0, l.1 ∙ (ap (λ ms. ms ++ l.0) m ∙ append_assoc t.met more l.0))
