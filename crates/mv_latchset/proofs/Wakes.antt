-- The posts of wakes, one after the other, and what follows them.
use Rattle.std.proofs.Common.{◌≡◌, ℕ, ◌+◌, ◌<◌, ◌≤◌, List, [], ◌∷◌, ◌++◌, length, take, drop, Option, Some, None, refl, sym, ap}
use Rattle.std.proofs.Common.{◌∙◌, subst, arith, add-zero, slice_get}
use Rattle.std.specs.List.{All}
use Rattle.std.proofs.lemmas.List.{take_more, drop_more, take_all, drop_all}
use Rattle.std.proofs.lemmas.List.Elements.{All-get_or}
use Rattle.std.proofs.lemmas.Option.{get_or_from_slice_get}
use Rattle.mv_latch.specs.declared.operation.Wake.{Wake}
use Rattle.mv_config.specs.Reach.{reach, total}
use Rattle.mv_config.specs.Setup.{Setup}
use Rattle.mv_machine.specs.Waking.{IsFairWake, blocks_of}
use Rattle.mv_board.specs.Faces.{CallerFace}
use Rattle.mv_calls.specs.Keeping.{Kept, nothing_kept}
use Rattle.mv_calls.specs.declared.outcomes.PostAnswer.{PostAnswer}
use Rattle.mv_calls.specs.Posts.{post, wake_posted, wakes_posted}
use Rattle.mv_calls.specs.Program.{Program, Do, Done, Early, Wrong, and_then}
use Rattle.mv_wait.specs.Run.{Runs, IsServed}
use Rattle.mv_wait.proofs.Compose.{runs_and_then, post_within_call}
use Rattle.mv_wait.proofs.Exits.{total-append}
use Rattle.mv_wait.proofs.Runs.{runs_none, runs_then}
use Rattle.mv_latchset.specs.Waking.{PostsWakes, all_posted}

-- ---- what follows the posts of some wakes

-- three programs one after the other
and_then_twice : {A B C : Type 0} (p : Program A) (f : A → Program B) (g : B → Program C)
    → and_then (and_then p f) g ≡ and_then p (λ a. and_then (f a) g)
and_then_twice (Do o op next) f g = λ i. Do o op (λ h. and_then_twice (next h) f g i)
and_then_twice (Done a) f g = refl
and_then_twice Early f g = refl
and_then_twice Wrong f g = refl

-- the posts of some wakes and then a program are the posts alone, and then the program
posts_apart : {A : Type 0} (c : Setup) (ws : List Wake) (kept : Kept) (last : Program A)
    → wakes_posted c ws kept last ≡ and_then (wakes_posted c ws kept all_posted) (λ a. last)
posts_apart c [] kept last = refl
posts_apart c (w ∷ ws) kept last = go w.ecb (posts_apart c ws kept last) where
  go : (e : Option ℕ) → wakes_posted c ws kept last ≡ and_then (wakes_posted c ws kept all_posted) (λ a. last)
      → wake_posted c e w.code kept (wakes_posted c ws kept last)
      ≡ and_then (wake_posted c e w.code kept (wakes_posted c ws kept all_posted)) (λ a. last)
  go None same = same
  go (Some e) same = ap (λ q. and_then (post c e w.code kept) (λ p. q)) same
      ∙ sym (and_then_twice (post c e w.code kept) (λ p. wakes_posted c ws kept all_posted) (λ a. last))

-- posts that were made, and the program that follows them
pub posts_then : {A : Type 0} (c : Setup) (ws : List Wake) (kept : Kept) (last : Program A) (t u : CallerFace) → PostsWakes c ws t u
    → Runs (total (reach c) (blocks_of ws)) (wakes_posted c ws kept last) last t u
posts_then c ws kept last t u made =
    let most = total (reach c) (blocks_of ws) in
    subst (λ n. Runs n (wakes_posted c ws kept last) last t u) (add-zero most)
    (subst (λ p. Runs (most + 0) p last t u) (sym (posts_apart c ws kept last))
    (runs_and_then most 0 (wakes_posted c ws kept all_posted) (λ a. last) tt last t u u (made kept) (runs_none last u)))

-- ---- one wake

-- a wake with one posts it
pub posts_one : (c : Setup) (w : Wake) (e : ℕ) (Is : PostAnswer → Type 0) (t u : CallerFace) → w.ecb ≡ Some e
    → IsServed (reach c e) (post c e w.code) Is t u → PostsWakes c (w ∷ []) t u
posts_one c w e Is t u is served = λ kept. subst
    (λ o. Runs (total (reach c) (blocks_of (record w { ecb = o } ∷ []))) (wake_posted c o w.code kept all_posted) all_posted t u)
    (sym is) (post_within_call c e w.code 0 kept Is all_posted all_posted t u u served (runs_none all_posted u))

-- ---- the first of some wakes, and those behind it

blocks-append : (xs ys : List Wake) → blocks_of (xs ++ ys) ≡ blocks_of xs ++ blocks_of ys
blocks-append [] ys = refl
blocks-append (w ∷ xs) ys = go w.ecb (blocks-append xs ys) where
  go : (e : Option ℕ) → blocks_of (xs ++ ys) ≡ blocks_of xs ++ blocks_of ys
      → blocks_of (record w { ecb = e } ∷ (xs ++ ys)) ≡ blocks_of (record w { ecb = e } ∷ xs) ++ blocks_of ys
  go None same = same
  go (Some e) same = ap (λ es. e ∷ es) same

-- what the posts of two lists of wakes cost
cost-append : (c : Setup) (xs ys : List Wake)
    → total (reach c) (blocks_of (xs ++ ys)) ≡ total (reach c) (blocks_of xs) + total (reach c) (blocks_of ys)
cost-append c xs ys = ap (total (reach c)) (blocks-append xs ys) ∙ total-append (reach c) (blocks_of xs) (blocks_of ys)

-- how far the wakes were gone through: so many were, their posts were made, and there are events left for the others
pub record Posted (c : Setup) (ws : List Wake) (i : ℕ) (t u : CallerFace) : Type 0 where
  pub runs : (kept : Kept) → Runs (total (reach c) (blocks_of (take i ws))) (wakes_posted c ws kept all_posted)
      (wakes_posted c (drop i ws) kept all_posted) t u
  pub left : total (reach c) (blocks_of (drop i ws)) ≤ u.left

-- none were
pub none_posted : (c : Setup) (ws : List Wake) (t : CallerFace) → total (reach c) (blocks_of ws) ≤ t.left → Posted c ws 0 t t
none_posted c ws t left = record { runs = λ kept. runs_none (wakes_posted c ws kept all_posted) t; left = left }

-- the next wake, in what was gone through and in what is left
pub record IsNextWake (ws : List Wake) (i : ℕ) (w : Wake) : Type 0 where
  pub front : take (i + 1) ws ≡ take i ws ++ w ∷ []
  pub back : drop i ws ≡ w ∷ drop (i + 1) ws

pub next_wake : (ws : List Wake) (i : ℕ) (w : Wake) → i < length ws → slice_get ws i ≡ Some w → IsNextWake ws i w
next_wake ws i w lt at =
    let is = get_or_from_slice_get ws i w w at in record {
      front = take_more ws i w lt ∙ ap (λ x. take i ws ++ x ∷ []) is;
      back = drop_more ws i w lt ∙ ap (λ x. x ∷ drop (i + 1) ws) is;
    }

-- it is fair, as all are
pub next_is_fair : (c : Setup) (ws : List Wake) (i : ℕ) (w : Wake) → i < length ws → slice_get ws i ≡ Some w → All (IsFairWake c) ws
    → IsFairWake c w
next_is_fair c ws i w lt at all = subst (IsFairWake c) (get_or_from_slice_get ws i w w at) (All-get_or (IsFairWake c) ws i w lt all)

-- and its posts fit what is left
pub next_fits : (c : Setup) (ws : List Wake) (i : ℕ) (w : Wake) (t u : CallerFace) → IsNextWake ws i w → Posted c ws i t u
    → total (reach c) (blocks_of (w ∷ [])) ≤ u.left
next_fits c ws i w t u next p =
    let sum = cost-append c (w ∷ []) (drop (i + 1) ws) in
    let all : total (reach c) (blocks_of (w ∷ drop (i + 1) ws)) ≤ u.left =
    subst (λ xs. total (reach c) (blocks_of xs) ≤ u.left) next.back p.left in
    omega arith

-- one more was
pub one_posted : (c : Setup) (ws : List Wake) (i : ℕ) (w : Wake) (t u v : CallerFace) → IsNextWake ws i w → Posted c ws i t u
    → PostsWakes c (w ∷ []) u v → Posted c ws (i + 1) t v
one_posted c ws i w t u v next so_far one =
    let cost = cost-append c (take i ws) (w ∷ []) in
    let sum = cost-append c (w ∷ []) (drop (i + 1) ws) in
    let all : total (reach c) (blocks_of (w ∷ drop (i + 1) ws)) ≤ u.left =
    subst (λ xs. total (reach c) (blocks_of xs) ≤ u.left) next.back so_far.left in
    let any = one (nothing_kept 0) in
    let less = any.went.left in
    let few = any.few in record {
      runs = λ kept.
          let later = wakes_posted c (drop (i + 1) ws) kept all_posted in
          subst (λ n. Runs n (wakes_posted c ws kept all_posted) later t v)
          (sym (ap (λ xs. total (reach c) (blocks_of xs)) next.front ∙ cost))
          (runs_then (total (reach c) (blocks_of (take i ws))) (total (reach c) (blocks_of (w ∷ [])))
          (wakes_posted c ws kept all_posted) (wakes_posted c (drop i ws) kept all_posted) later t u v (so_far.runs kept)
          (subst (λ xs. Runs (total (reach c) (blocks_of (w ∷ []))) (wakes_posted c xs kept all_posted) later u v) (sym next.back)
          (posts_then c (w ∷ []) kept later u v one)));
      left = omega arith;
    }

-- all were
pub all_were_posted : (c : Setup) (ws : List Wake) (i : ℕ) (t u : CallerFace) → length ws ≤ i → Posted c ws i t u → PostsWakes c ws t u
all_were_posted c ws i t u over p = λ kept.
    subst (λ xs. Runs (total (reach c) (blocks_of xs)) (wakes_posted c ws kept all_posted) all_posted t u) (take_all i ws over)
    (subst (λ xs. Runs (total (reach c) (blocks_of (take i ws))) (wakes_posted c ws kept all_posted)
    (wakes_posted c xs kept all_posted) t u) (drop_all i ws over) (p.runs kept))
