-- What a take and a put do to what goes through a slot. Used by produce and consume.
use Rattle.std.proofs.Common.{◌≡◌, ℕ, zero, suc, ◌+◌, ◌%◌, ◌<◌, ◌==◌, List, [], ◌∷◌, ◌++◌, length, None, ◌⊎◌, inl, inr, refl, ap}
use Rattle.std.proofs.Common.{◌∙◌, arith, append-nil, if◌then◌else◌}
use Rattle.std.proofs.lemmas.Bool.{cases_eq, eq-eqb, ne_eqb}
use Rattle.mv_wait.specs.Prelude.{Setup, owner_of, CallerFace}
use Rattle.mv_handover.specs.Ready.{Put, Took}
use Rattle.mv_handover.specs.Setup.{slots, slots_setup, HasSlots}
use Rattle.mv_handover.specs.Slots.{posts, seen_after, takes_from, takes, part_from, part}
use Rattle.mv_handover.proofs.Lists.{part_from-append}
use Rattle.mv_handover.proofs.Logs.{posts-append, seen_after-append, takes_from-append}

-- ---- whose the blocks are

pub full_owner : (c : Setup) → HasSlots c → (s : ℕ) → s < 4 → owner_of c s ≡ 1
full_owner c has s lt = ap (λ (k : Setup). owner_of k s) has.1 ∙ at has.0 s lt where
  at : (n s : ℕ) → s < 4 → owner_of (slots_setup n) s ≡ 1
  at n zero lt = refl
  at n (suc zero) lt = refl
  at n (suc (suc zero)) lt = refl
  at n (suc (suc (suc zero))) lt = refl
  at n (suc (suc (suc (suc s)))) lt = absurd (omega arith)

pub free_owner : (c : Setup) → HasSlots c → (s : ℕ) → s < 4 → owner_of c (4 + s) ≡ 0
free_owner c has s lt = ap (λ (k : Setup). owner_of k (4 + s)) has.1 ∙ at has.0 s lt where
  at : (n s : ℕ) → s < 4 → owner_of (slots_setup n) (4 + s) ≡ 0
  at n zero lt = refl
  at n (suc zero) lt = refl
  at n (suc (suc zero)) lt = refl
  at n (suc (suc (suc zero))) lt = refl
  at n (suc (suc (suc (suc s)))) lt = absurd (omega arith)

-- ---- posts

pub posts_put : (a code s : ℕ) (t u : CallerFace) → Put a code t u
    → posts s u.log ≡ posts s t.log ++ (if a == s then code ∷ [] else [])
posts_put a code s t u p =
    ap (posts s) p.added.logged ∙ posts-append s t.log (p.entry ∷ []) ∙ ap (λ xs. posts s t.log ++ xs) (one (cases_eq a s)) where
      one : (a ≡ s) ⊎ (a ≡ s → ⊥) → posts s (p.entry ∷ []) ≡ (if a == s then code ∷ [] else [])
      one (inl same) = rw (p.post.object, p.post.makes, eq-eqb a s same) refl
      one (inr other) = rw (p.post.object, p.post.makes, ne_eqb a s other) refl

-- to another block
pub posts_put_other : (a code s : ℕ) (t u : CallerFace) → Put a code t u → (a ≡ s → ⊥) → posts s u.log ≡ posts s t.log
posts_put_other a code s t u p other =
    posts_put a code s t u p ∙ ap (λ b. posts s t.log ++ (if b then code ∷ [] else [])) (ne_eqb a s other) ∙ append-nil (posts s t.log)

pub posts_took : (a code s : ℕ) (t u : CallerFace) → Took a code t u → posts s u.log ≡ posts s t.log
posts_took a code s t u w =
    ap (posts s) w.added.logged ∙ posts-append s t.log (w.first ∷ w.second ∷ w.third ∷ [])
    ∙ ap (λ xs. posts s t.log ++ xs) none ∙ append-nil (posts s t.log) where
      none : posts s (w.first ∷ w.second ∷ w.third ∷ []) ≡ []
      none = rw (w.arm.object, w.arm.makes, w.settle.object, w.settle.makes, w.clear.object, w.clear.makes) refl

-- ---- takes

-- between two calls nothing that was seen waits to be taken
abbrev pub SeesNone : CallerFace → Type 0
SeesNone t = (s : ℕ) → s < slots → seen_after s None t.log ≡ None

pub takes_put : (a code s : ℕ) (t u : CallerFace) → Put a code t u → seen_after s None t.log ≡ None
    → (takes s u.log ≡ takes s t.log) × (seen_after s None u.log ≡ None)
takes_put a code s t u p none = (
  ap (takes s) p.added.logged ∙ takes_from-append s None t.log (p.entry ∷ [])
      ∙ ap (λ xs. takes s t.log ++ xs) (ap (λ seen. takes_from s seen (p.entry ∷ [])) none ∙ (one (cases_eq a s)).0)
      ∙ append-nil (takes s t.log),
  ap (seen_after s None) p.added.logged ∙ seen_after-append s None t.log (p.entry ∷ [])
      ∙ ap (λ seen. seen_after s seen (p.entry ∷ [])) none ∙ (one (cases_eq a s)).1,
) where
  one : (a ≡ s) ⊎ (a ≡ s → ⊥) → (takes_from s None (p.entry ∷ []) ≡ []) × (seen_after s None (p.entry ∷ []) ≡ None)
  one (inl same) = rw (p.post.object, p.post.makes, eq-eqb a s same) (refl, refl)
  one (inr other) = rw (p.post.object, p.post.makes, ne_eqb a s other) (refl, refl)

pub takes_took : (a code s : ℕ) (t u : CallerFace) → Took a code t u → seen_after s None t.log ≡ None
    → (takes s u.log ≡ takes s t.log ++ (if a == s then code ∷ [] else [])) × (seen_after s None u.log ≡ None)
takes_took a code s t u w none = (
  ap (takes s) w.added.logged ∙ takes_from-append s None t.log (w.first ∷ w.second ∷ w.third ∷ [])
      ∙ ap (λ xs. takes s t.log ++ xs)
      (ap (λ seen. takes_from s seen (w.first ∷ w.second ∷ w.third ∷ [])) none ∙ (all (cases_eq a s)).0),
  ap (seen_after s None) w.added.logged ∙ seen_after-append s None t.log (w.first ∷ w.second ∷ w.third ∷ [])
      ∙ ap (λ seen. seen_after s seen (w.first ∷ w.second ∷ w.third ∷ [])) none ∙ (all (cases_eq a s)).1,
) where
  all : (a ≡ s) ⊎ (a ≡ s → ⊥) → (takes_from s None (w.first ∷ w.second ∷ w.third ∷ []) ≡ (if a == s then code ∷ [] else []))
      × (seen_after s None (w.first ∷ w.second ∷ w.third ∷ []) ≡ None)
  all (inl same) = rw
      (w.arm.object, w.arm.makes, w.settle.object, w.settle.makes, w.found, w.clear.object, w.clear.makes, eq-eqb a s same) (refl, refl)
  all (inr other) = rw
      (w.arm.object, w.arm.makes, w.settle.object, w.settle.makes, w.found, w.clear.object, w.clear.makes, ne_eqb a s other) (refl, refl)

-- ---- one more item

pub part_next : (s i x : ℕ) (xs : List ℕ) → length xs ≡ i
    → part s (xs ++ x ∷ []) ≡ part s xs ++ (if i % slots == s then x ∷ [] else [])
part_next s i x xs same =
    part_from-append s 0 xs (x ∷ [])
    ∙ ap (λ k. part s xs ++ part_from s k (x ∷ [])) (let e : 0 + length xs ≡ i = omega arith in e)
    ∙ ap (λ ys. part s xs ++ ys) (append-nil (if i % slots == s then x ∷ [] else []))
