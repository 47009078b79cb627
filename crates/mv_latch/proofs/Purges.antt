-- A purge goes over the lists one by one.
use Rattle.std.proofs.Common.{◌≡◌, ℕ, ◌+◌, ◌<◌, ◌≤◌, zero, suc, not, List, [], ◌∷◌, ◌++◌, length, map, take, drop, set}
use Rattle.std.proofs.Common.{get_or, Vec, Global, vec_capacity, sym, ap, ◌∙◌, arith, length-append, append_assoc}
use Rattle.std.specs.List.{flat_map, AllByRecursion}
use Rattle.std.proofs.lemmas.List.{take_more_set, drop-set-lt, length-set, length-map, map-append}
use Rattle.std.proofs.lemmas.List.{map_more, map-set, set-get_or, get_or-map, drop_more}
use Rattle.std.proofs.lemmas.Grind.{drop_more_same}
use Rattle.mv_latch.specs.declared.request.Request.{Request}
use Rattle.mv_latch.specs.declared.operation.Wake.{Wake}
use Rattle.mv_latch.specs.Request.{of_requestor, wake_of}
use Rattle.mv_latch.specs.Latch.{purged, granted_by_purge, HasDistinctIds}
use Rattle.mv_latch.specs.LatchSet.{request_count}
use Rattle.mv_latch.specs.Queues.{items_of, capacities}
use Rattle.mv_latch.proofs.Splits.{length_filter}
use Rattle.mv_latch.proofs.Grants.{newly_fit}

-- the first lists are purged, and the others are as they were
pub record ArePurgedTo (requestor : ℕ) (old new : List (List Request)) (i : ℕ) : Type 0 where
  pub front : take i new ≡ map (purged requestor) (take i old)
  pub rest : drop i new ≡ drop i old
  pub long : length new ≡ length old

-- the next list is still as it was
pub next_list : (requestor : ℕ) (old new : List (List Request)) (i : ℕ) → ArePurgedTo requestor old new i → i < length old
    → get_or new i [] ≡ get_or old i []
next_list requestor old new i w lt =
    let a = drop_more new i [] (omega (arith, w.long)) in
    let b = drop_more old i [] lt in
    cc (a, b, w.rest)

pub purged_more : (requestor : ℕ) (old new : List (List Request)) (i : ℕ) → ArePurgedTo requestor old new i → i < length old
    → ArePurgedTo requestor old (set new i (purged requestor (get_or old i []))) (i + 1)
purged_more requestor old new i w lt = record {
  front =
      take_more_set new i _ (omega (arith, w.long)) ∙ ap (λ z. z ++ purged requestor (get_or old i []) ∷ []) w.front
      ∙ sym (map_more (purged requestor) old i [] lt);
  rest = drop-set-lt (i + 1) new i _ (omega arith) ∙ drop_more_same new old i w.rest;
  long = length-set new i _ ∙ w.long;
}

-- ---- one turn of the loop
pub distinct_at : (lists : List (List Request)) (i : ℕ) → AllByRecursion HasDistinctIds lists → HasDistinctIds (get_or lists i [])
distinct_at [] i a id = omega arith
distinct_at (qs ∷ rest) zero a id = a.0 id
distinct_at (qs ∷ rest) (suc i) a id = distinct_at rest i a.1 id

pub total_at : (lists : List (List Request)) (i : ℕ) → length (get_or lists i []) ≤ request_count lists
total_at [] i = omega arith
total_at (qs ∷ rest) zero = omega arith
total_at (qs ∷ rest) (suc i) = omega (arith, total_at rest i)

pub flat_step : (f : List Request → List Request) (lists : List (List Request)) (i : ℕ) → i < length lists
    → flat_map f (drop i lists) ≡ f (get_or lists i []) ++ flat_map f (drop (i + 1) lists)
flat_step f lists i lt = ap (flat_map f) (drop_more lists i [] lt)

-- what is still to be told has room for what this list has to tell
pub turn_fits : (code : ℕ) (f : List Request → List Request) (lists : List (List Request)) (now start : List Wake) (i : ℕ)
    → i < length lists
    → now ++ map (wake_of code) (flat_map f (drop i lists)) ≡ start ++ map (wake_of code) (flat_map f lists)
    → length now + length (f (get_or lists i [])) ≤ length start + length (flat_map f lists)
turn_fits code f lists now start i lt told =
    let step = ap length (flat_step f lists i lt) in
    let all = simp (length-append, length-map) at (ap length told) in
    omega (arith, length-append (f (get_or lists i [])) (flat_map f (drop (i + 1) lists)))

pub turn_told : (code : ℕ) (f : List Request → List Request) (lists : List (List Request)) (now next start : List Wake) (i : ℕ)
    → i < length lists
    → now ++ map (wake_of code) (flat_map f (drop i lists)) ≡ start ++ map (wake_of code) (flat_map f lists)
    → next ≡ now ++ map (wake_of code) (f (get_or lists i []))
    → next ++ map (wake_of code) (flat_map f (drop (i + 1) lists)) ≡ start ++ map (wake_of code) (flat_map f lists)
turn_told code f lists now next start i lt told e =
    ap (λ z. z ++ map (wake_of code) (flat_map f (drop (i + 1) lists))) e
    ∙ append_assoc now (map (wake_of code) (f (get_or lists i []))) (map (wake_of code) (flat_map f (drop (i + 1) lists)))
    ∙ ap (λ z. now ++ z) (sym (map-append (wake_of code) (f (get_or lists i [])) (flat_map f (drop (i + 1) lists)))
    ∙ ap (map (wake_of code)) (sym (flat_step f lists i lt)))
    ∙ told

pub turn_counted : (f : List Request → List Request) (lists : List (List Request)) (now more all i : ℕ) → i < length lists
    → now + length (flat_map f (drop i lists)) ≡ all → more ≡ length (f (get_or lists i []))
    → now + more + length (flat_map f (drop (i + 1) lists)) ≡ all
turn_counted f lists now more all i lt counted e =
    omega (arith, ap length (flat_step f lists i lt), length-append (f (get_or lists i [])) (flat_map f (drop (i + 1) lists)))

pub turn_purged : (requestor : ℕ) (old now next : List (List Request)) (qs : List Request) (i : ℕ) → i < length old
    → ArePurgedTo requestor old now i
    → next ≡ set now i qs → qs ≡ purged requestor (get_or old i []) → ArePurgedTo requestor old next (i + 1)
turn_purged requestor old now next qs i lt w e f = rw (e, f) (purged_more requestor old now i w lt)

-- no more are granted by a purge than there are
pub granted_by_purge_fit : (requestor : ℕ) (lists : List (List Request))
    → length (flat_map (granted_by_purge requestor) lists) ≤ request_count lists
granted_by_purge_fit requestor [] = omega arith
granted_by_purge_fit requestor (qs ∷ rest) =
    omega (
      arith,
      granted_by_purge_fit requestor rest,
      length-append (granted_by_purge requestor qs) (flat_map (granted_by_purge requestor) rest),
      newly_fit qs (purged requestor qs),
      length_filter (λ q. not (of_requestor requestor q)) qs,
    )

-- ---- the lists in memory
pub items_at : (queues : List (Vec Request Global)) (i : ℕ) (d : Vec Request Global) → i < length queues
    → (get_or queues i d).items ≡ get_or (items_of queues) i []
items_at queues i d lt = sym (get_or-map (λ (v : Vec Request Global). v.items) queues i d [] lt)

pub capacities_kept : (queues : List (Vec Request Global)) (i : ℕ) (d v : Vec Request Global) → i < length queues
    → vec_capacity v ≡ vec_capacity (get_or queues i d) → capacities (set queues i v) ≡ capacities queues
capacities_kept queues i d v lt e =
    map-set (λ (w : Vec Request Global). vec_capacity w) queues i v
    ∙ ap (set (capacities queues) i) (e ∙ sym (get_or-map (λ (w : Vec Request Global). vec_capacity w) queues i d 0 lt))
    ∙ set-get_or (capacities queues) i 0

-- the list at hand is still as it was
pub here : (requestor : ℕ) (start now : List (Vec Request Global)) (i : ℕ) (d : Vec Request Global)
    → ArePurgedTo requestor (items_of start) (items_of now) i → i < length start → (get_or now i d).items ≡ get_or (items_of start) i []
here requestor start now i d w lt =
    let same = simp length-map at w.long in
    items_at now i d (omega arith) ∙ next_list requestor (items_of start) (items_of now) i w (simp length-map lt)
