-- What the lists of the latch set keep to along a legal list: their numbers rise, and are earlier than the place.
use Rattle.std.proofs.Common.{◌≡◌, ◌⊎◌, ℕ, ◌+◌, ◌<◌, ◌≤◌, zero, suc, Bool, true, false, List, [], ◌∷◌, ◌++◌, filter, replicate, cond}
use Rattle.std.proofs.Common.{inl, inr, refl, sym, ap, ◌∙◌, arith}
use Rattle.std.specs.List.{AllByRecursion, Contains}
use Rattle.std.proofs.lemmas.Bool.{false≢true}
use Rattle.std.proofs.lemmas.List.Elements.{All-contains, All-from_recursion}
use Rattle.mv_latch.specs.declared.request.Request.{Request}
use Rattle.mv_latch.specs.LatchSet.{list_of}
use Rattle.mv_latch.proofs.Changes.{Changed, same, grew, shrank, latch_changes}
use Rattle.mv_latch.proofs.Members.{not_in_empty, first_or_rest}
use Rattle.mv_machine.specs.declared.entry.Entry.{Entry}
use Rattle.mv_machine.specs.declared.entry.Object.{Object}
use Rattle.mv_machine.specs.declared.entry.Object.TheVariants.{Ecb, Element, Volume, Latches}
use Rattle.mv_machine.specs.declared.entry.Op.{Op}
use Rattle.mv_machine.specs.declared.entry.Op.TheVariants as op_on
use Rattle.mv_machine.specs.declared.entry.Reply.{Reply}
use Rattle.mv_machine.specs.Kept.{RisesFrom}
use Rattle.mv_machine.specs.Legal.{IsNext, next, Legal, after}
use Rattle.mv_config.specs.Setup.{Setup}
use Rattle.mv_machine.specs.System.{System, opening, moved}
use Rattle.mv_machine.proofs.EntryRuns.{entry_of, along_all}

-- a latch's list in a machine
abbrev pub list_at : System → ℕ → List Request
list_at s latch = list_of s.latches.state latch

-- a latch's list one entry on: nothing was done to the latch set, or one event
abbrev pub Steps : System → System → ℕ → Type 0
Steps s t latch = (t.latches ≡ s.latches)
    ⊎ ((t.latches.place ≡ s.latches.place + 1) × Changed s.latches.place (list_at s latch) (list_at t latch))

steps : (c : Setup) (s : System) (k : ℕ) (o : Object) (p : ℕ) (op : Op) (r : Reply) (latch : ℕ) → IsNext c s (entry_of k o p op r)
    → Steps s (moved s k o op) latch
steps c s k Latches p (op_on.Latch op) r latch h = inr (refl, latch_changes k s.latches.place op s.latches.state latch)
steps c s k (Ecb m) p (op_on.Ecb op) r latch h = inl refl
steps c s k (Element m) p (op_on.Element op) r latch h = inl refl
steps c s k (Volume m) p (op_on.Volume op) r latch h = inl refl
steps c s k o p op r latch h = absurd (false≢true h.admits)

pub steps_on : (c : Setup) (s : System) (e : Entry) (latch : ℕ) → IsNext c s e → Steps s (next s e) latch
steps_on c s e latch h = steps c s e.caller e.object e.place e.op e.reply latch h

-- ---- the numbers of one list
-- each is below the place
abbrev pub EndsBelow : ℕ → List Request → Type 0
EndsBelow place qs = AllByRecursion (λ q. q.id < place) qs

-- they rise, and are below the place
pub record InOrder (place : ℕ) (qs : List Request) : Type 0 where
  pub rises : RisesFrom 0 qs
  pub below : EndsBelow place qs

rises_lower : (low high : ℕ) (qs : List Request) → low ≤ high → RisesFrom high qs → RisesFrom low qs
rises_lower low high [] le r = tt
rises_lower low high (q ∷ qs) le r = (omega (arith, r.0), r.1)

rises_left : (p : Request → Bool) (low : ℕ) (qs : List Request) → RisesFrom low qs → RisesFrom low (filter p qs)
rises_left p low [] r = tt
rises_left p low (q ∷ qs) r =
    elim (p q) as (λ b. RisesFrom low (cond b (q ∷ filter p qs) (filter p qs))) [
      | true ↦ (r.0, rises_left p (q.id + 1) qs r.1)
      | false ↦ rises_lower low (q.id + 1) (filter p qs) (omega (arith, r.0)) (rises_left p (q.id + 1) qs r.1)
    ]

rises_pushed : (low place : ℕ) (qs : List Request) (r : Request) → low ≤ place → r.id ≡ place → RisesFrom low qs → EndsBelow place qs
    → RisesFrom low (qs ++ r ∷ [])
rises_pushed low place [] r le is rises b = (omega arith, tt)
rises_pushed low place (q ∷ qs) r le is rises b = (rises.0, rises_pushed (q.id + 1) place qs r (omega (arith, b.0)) is rises.1 b.1)

below_left : (p : Request → Bool) (place : ℕ) (qs : List Request) → EndsBelow place qs → EndsBelow place (filter p qs)
below_left p place [] b = tt
below_left p place (q ∷ qs) b =
    elim (p q) as (λ t. EndsBelow place (cond t (q ∷ filter p qs) (filter p qs))) [
      | true ↦ (b.0, below_left p place qs b.1)
      | false ↦ below_left p place qs b.1
    ]

below_later : (place : ℕ) (qs : List Request) → EndsBelow place qs → EndsBelow (place + 1) qs
below_later place [] b = tt
below_later place (q ∷ qs) b = (omega (arith, b.0), below_later place qs b.1)

below_pushed : (place : ℕ) (qs : List Request) (r : Request) → r.id ≡ place → EndsBelow place qs → EndsBelow (place + 1) (qs ++ r ∷ [])
below_pushed place [] r is b = (omega arith, tt)
below_pushed place (q ∷ qs) r is b = (omega (arith, b.0), below_pushed place qs r is b.1)

-- who is in a list has a number from where it rises
rises_in : (low : ℕ) (q : Request) (qs : List Request) → RisesFrom low qs → Contains qs q → low ≤ q.id
rises_in low q [] r i = absurd (not_in_empty q i)
rises_in low q (x ∷ xs) r i = elim (first_or_rest x xs q i) [
  | inl e ↦ rw (sym e) (r.0)
  | inr j ↦ omega (arith, r.0, rises_in (x.id + 1) q xs r.1 j)
]

-- two requests of one number are one
pub same_number : (low : ℕ) (q r : Request) (qs : List Request) → RisesFrom low qs → Contains qs q → Contains qs r → q.id ≡ r.id → q ≡ r
same_number low q r [] rises i j is = absurd (not_in_empty q i)
same_number low q r (x ∷ xs) rises i j is =
    go (first_or_rest x xs q i) (first_or_rest x xs r j) (λ k l. same_number (x.id + 1) q r xs rises.1 k l is) where
      go : (x ≡ q) ⊎ Contains xs q → (x ≡ r) ⊎ Contains xs r → (Contains xs q → Contains xs r → q ≡ r) → q ≡ r
      go (inl e) (inl f) rest = sym e ∙ f
      go (inl e) (inr l) rest = absurd (omega (arith, rises_in (x.id + 1) r xs rises.1 l, ap (λ (y : Request). y.id) e))
      go (inr k) (inl f) rest = absurd (omega (arith, rises_in (x.id + 1) q xs rises.1 k, ap (λ (y : Request). y.id) f))
      go (inr k) (inr l) rest = rest k l

in_order_next : (place : ℕ) (old new : List Request) → Changed place old new → InOrder place old → InOrder (place + 1) new
in_order_next place old new (same e) o = rw e (record { rises = o.rises; below = below_later place old o.below })
in_order_next place old new (grew r is e) o =
    rw e (record { rises = rises_pushed 0 place old r (omega arith) is o.rises o.below; below = below_pushed place old r is o.below })
in_order_next place old new (shrank p e) o =
    rw e (record { rises = rises_left p 0 old o.rises; below = below_later place _ (below_left p place old o.below) })

-- ---- along a legal list
abbrev pub Ordered : ℕ → System → Type 0
Ordered latch s = InOrder s.latches.place (list_at s latch)

pub ordered_next : (s t : System) (latch : ℕ) → Steps s t latch → Ordered latch s → Ordered latch t
ordered_next s t latch (inl w) o = rw w o
ordered_next s t latch (inr w) o = rw (w.0) (in_order_next s.latches.place (list_at s latch) (list_at t latch) w.1 o)

pub empty_list : (n latch : ℕ) → list_of (replicate n []) latch ≡ []
empty_list zero latch = refl
empty_list (suc n) zero = refl
empty_list (suc n) (suc latch) = empty_list n latch

pub ordered : (c : Setup) (es : List Entry) (latch : ℕ) → Legal c es → Ordered latch (after c es)
ordered c es latch l =
    along_all c (Ordered latch) (λ s e h o. ordered_next s (next s e) latch (steps_on c s e latch h) o) (opening c) es l
    (rw (empty_list c.latches latch) (record { rises = tt; below = tt }))

pub numbers_rise : (c : Setup) (es : List Entry) (latch : ℕ) → Legal c es → RisesFrom 0 (list_at (after c es) latch)
numbers_rise c es latch l = (ordered c es latch l).rises

-- who is in a list whose numbers are below the place has one below it
pub below_in : (place : ℕ) (q : Request) (qs : List Request) → EndsBelow place qs → Contains qs q → q.id < place
below_in place q qs b i = All-contains (λ r. r.id < place) qs q (All-from_recursion (λ r. r.id < place) qs b) i

pub numbers_are_earlier : (c : Setup) (es : List Entry) (latch : ℕ) (q : Request) → Legal c es → Contains (list_at (after c es) latch) q
    → q.id < (after c es).latches.place
numbers_are_earlier c es latch q l i = below_in (after c es).latches.place q (list_at (after c es) latch) (ordered c es latch l).below i
