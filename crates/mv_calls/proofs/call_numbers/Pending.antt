-- How many posts of a caller may still follow: no more than a counter has room for.
use Rattle.std.proofs.Common.{◌≡◌, ℕ, zero, suc, ◌+◌, ◌*◌, ◌-◌, ◌<◌, ◌≤◌, ◌==◌, nat_le, nat_lt, Bool, true, false, if◌then◌else◌}
use Rattle.std.proofs.Common.{List, [], ◌∷◌, ◌++◌, length, take, drop, get_or, Option, None, Some, slice_get, refl, sym, ap, ◌∙◌, subst}
use Rattle.std.proofs.Common.{arith}
use Rattle.std.proofs.lemmas.Bool.{eqb-true, and_parts}
use Rattle.std.proofs.lemmas.Bool.Decides.{nat_tests}
use Rattle.std.proofs.lemmas.List.{length-append, drop_more, take_more}
use Rattle.std.proofs.lemmas.List.Elements.{filter_map-append}
use Rattle.std.specs.List.{AllByRecursion}
use Rattle.mv_ecb.specs.declared.operation.EcbOp.TheVariants as ecb_op
use Rattle.mv_ecb.specs.declared.operation.EcbReply.TheVariants as ecb_reply
use Rattle.mv_latch.specs.declared.operation.LatchOp.TheVariants as latch_op
use Rattle.mv_latch.specs.declared.operation.LatchReply.TheVariants as latch_reply
use Rattle.mv_latch.specs.declared.operation.Wake.{Wake}
use Rattle.mv_machine.specs.declared.entry.Entry.{Entry}
use Rattle.mv_machine.specs.declared.entry.Object.{Object}
use Rattle.mv_machine.specs.declared.entry.Object.TheVariants.{Ecb, Latches}
use Rattle.mv_machine.specs.declared.entry.Op.{Op}
use Rattle.mv_machine.specs.declared.entry.Op.TheVariants as op_on
use Rattle.mv_machine.specs.declared.entry.Reply.{Reply}
use Rattle.mv_machine.specs.declared.entry.Reply.TheVariants as reply_of
use Rattle.mv_config.specs.Chains.{HasFewGoodTargets}
use Rattle.mv_config.specs.Check.{IsValid}
use Rattle.mv_machine.specs.Legal.{Legal, LegalFrom, next, after}
use Rattle.mv_config.specs.Setup.{Setup, SetupExit, is_exit_of, starts_from, targets_at, targets_of}
use Rattle.mv_machine.specs.System.{System, opening, with_at}
use Rattle.mv_machine.specs.Waking.{blocks_of}
use Rattle.mv_machine.proofs.Histories.{after_from-append}
use Rattle.mv_machine.proofs.Lists.{all_got, all_map}
use Rattle.mv_config.proofs.Reaches.{LeadsUp, all_good, all_lead_up}
use Rattle.mv_machine.proofs.Replays.{legal_push}
use Rattle.mv_calls.specs.Counters.{pending_room}
use Rattle.mv_calls.specs.Exits.{NamesOwnExit}
use Rattle.mv_calls.specs.Numbers.{Numbering, unnumbered, asked, kept_pending, numbered_at, wakes_at, numbering_from, numbering_after}
use Rattle.mv_calls.proofs.Posting.{exits_are_own, starts}
use Rattle.mv_calls.proofs.Wakes.{few_wakes_post}

-- ---- the exits from a block on

-- how many exits start at a block or above it
abbrev starting : ℕ → List SetupExit → ℕ
starting e [] = 0
starting e (x ∷ xs) = (if nat_le e x.source then 1 else 0) + starting e xs

-- no more than there are
starting_all : (e : ℕ) (xs : List SetupExit) → starting e xs ≤ length xs
starting_all e [] = omega arith
starting_all e (x ∷ xs) = go (nat_le e x.source) (starting_all e xs) where
  go : (b : Bool) → starting e xs ≤ length xs → (if b then 1 else 0) + starting e xs ≤ length (x ∷ xs)
  go true le = omega arith
  go false le = omega arith

-- an exit that starts above a block starts above each that is lower
one_less : (e t s : ℕ) → e ≤ t → (if nat_le t s then 1 else 0) ≤ (if nat_le e s then 1 else 0)
one_less e t s le = grind (arith, nat_tests)

-- so there are no more of them
starting_less : (e t : ℕ) (xs : List SetupExit) → e ≤ t → starting t xs ≤ starting e xs
starting_less e t [] le = omega arith
starting_less e t (x ∷ xs) le = omega (arith, one_less e t x.source le, starting_less e t xs le)

-- an exit that starts from the block itself is one
one_fewer : (e t s : ℕ) → e < t → s ≡ e → (if nat_le t s then 1 else 0) + 1 ≤ (if nat_le e s then 1 else 0)
one_fewer e t s lt is = grind (arith, nat_tests)

-- and fewer start above it
starting_fewer : (e t : ℕ) (xs : List SetupExit) (i : ℕ) (x : SetupExit) → e < t → slice_get xs i ≡ Some x → x.source ≡ e
    → starting t xs + 1 ≤ starting e xs
starting_fewer e t [] i x lt at is = absurd (cc at)
starting_fewer e t (y ∷ xs) zero x lt at is =
    let same : y ≡ x = cc at in
    omega (
      arith,
      one_fewer e t y.source lt (subst (λ (z : SetupExit). z.source ≡ e) (sym same) is),
      starting_less e t xs (omega arith),
    )
starting_fewer e t (y ∷ xs) (suc i) x lt at is =
    omega (arith, one_less e t y.source (omega arith), starting_fewer e t xs i x lt at is)

-- ---- pending blocks

-- as many as lie up to a block, and seven for each exit from it on, have room
abbrev IsLow : Setup → ℕ → ℕ → Type 0
IsLow c n e = n + 7 * starting e c.exits ≤ pending_room c

-- so it is of each block, over those below it
abbrev AreLow : Setup → List ℕ → Type 0
AreLow c [] = Unit {0}
AreLow c (e ∷ ps) = IsLow c (length ps + 1) e × AreLow c ps

low_fit : (c : Setup) (ps : List ℕ) → AreLow c ps → length ps ≤ pending_room c
low_fit c [] low = omega arith
low_fit c (e ∷ ps) low = omega (arith, low.0)

-- blocks are put on top of others
low_more : (c : Setup) (n : ℕ) (es ps : List ℕ) → AllByRecursion (IsLow c n) es → length es + length ps ≤ n
    → AreLow c ps → AreLow c (es ++ ps)
low_more c n [] ps each le low = low
low_more c n (e ∷ es) ps each le low = (omega (arith, each.0, length-append es ps), low_more c n es ps each.1 (omega arith) low)

-- the targets of the exit that a post ran
targets_low : (c : Setup) (e x : ℕ) (ps : List ℕ) → IsValid c → is_exit_of c (suc x) e ≡ true → IsLow c (length ps + 1) e → AreLow c ps
    → AreLow c (targets_of c (suc x) ++ ps)
targets_low c e x ps v own here low =
    let minus : suc x - 1 ≡ x = omega arith in
    let from : starts_from e (slice_get c.exits x) ≡ true = subst (λ i. starts_from e (slice_get c.exits i) ≡ true) minus
    (and_parts (nat_lt 0 (suc x)) (starts_from e (slice_get c.exits (suc x - 1))) own).1 in
    let s = starts e (slice_get c.exits x) from in
    let source : s.0.source ≡ e = eqb-true s.0.source e s.2 in
    let up : LeadsUp (length c.owners) s.0 = all_got (LeadsUp (length c.owners)) c.exits x s.0 s.1 (all_lead_up c v) in
    let good : HasFewGoodTargets (length c.owners) s.0 = all_got (HasFewGoodTargets (length c.owners)) c.exits x s.0 s.1 (all_good c v) in
    subst (λ o. AreLow c (targets_at o ++ ps)) (sym s.1)
    (low_more c (8 + length ps) s.0.targets ps
    (all_map (λ t w. omega (arith, here, starting_fewer e t c.exits x s.0 (omega (arith, w.0, source)) s.1 source)) s.0.targets up)
    (omega (arith, good.few)) low)

-- blocks alone, as many as wakes of one event post
wakes_low : (c : Setup) (es : List ℕ) → length es ≤ c.callers * c.posted_quota → AreLow c (es ++ [])
wakes_low c es few = low_more c (c.callers * c.posted_quota) es [] (each es) (omega (arith, few)) tt where
  each : (xs : List ℕ) → AllByRecursion (IsLow c (c.callers * c.posted_quota)) xs
  each [] = tt
  each (x ∷ xs) = (omega (arith, starting_all x c.exits), each xs)

-- what a post leaves, over which its block has room
post_keeps : (c : Setup) (ps : List ℕ) (e code : ℕ) → AreLow c ps
    → let kept = kept_pending ps (Ecb e) (op_on.Ecb (ecb_op.Post code)) in IsLow c (length kept + 1) e × AreLow c kept
post_keeps c [] e code low = (omega (arith, starting_all e c.exits), tt)
post_keeps c (p ∷ ps) e code low = go (e == p) refl where
  go : (b : Bool) → (e == p) ≡ b
      → IsLow c (length (if b then ps else []) + 1) e × AreLow c (if b then ps else [])
  go true is = (subst (λ k. IsLow c (length ps + 1) k) (sym (eqb-true e p is)) low.0, low.1)
  go false is = (omega (arith, starting_all e c.exits), tt)

-- what any entry leaves
entry_keeps : (c : Setup) (ps : List ℕ) (o : Object) (op : Op) → AreLow c ps → AreLow c (kept_pending ps o op)
entry_keeps c [] o op low = tt
entry_keeps c (p ∷ ps) (Ecb e) (op_on.Ecb (ecb_op.Post code)) low = (post_keeps c (p ∷ ps) e code low).1
entry_keeps c (p ∷ ps) o op low = tt

-- one on the latch set leaves none
latches_keep : (ps : List ℕ) (op : Op) → kept_pending ps Latches op ≡ []
latches_keep [] op = refl
latches_keep (p ∷ ps) op = refl

-- and what it asks for lies on top
entry_asks : (c : Setup) (ps : List ℕ) (o : Object) (op : Op) (r : Reply) (ws : List Wake) → IsValid c → NamesOwnExit c o r
    → length (blocks_of ws) ≤ c.callers * c.posted_quota → AreLow c ps → AreLow c (asked c o op r ws ++ kept_pending ps o op)
entry_asks c ps (Ecb e) (op_on.Ecb (ecb_op.Post code)) (reply_of.Ecb (ecb_reply.Woke (suc x))) ws v own few low =
    let kept = post_keeps c ps e code low in
    targets_low c e x (kept_pending ps (Ecb e) (op_on.Ecb (ecb_op.Post code))) v own kept.0 kept.1
entry_asks c ps (Ecb e) (op_on.Ecb (ecb_op.Post code)) (reply_of.Ecb (ecb_reply.Woke zero)) ws v own few low =
    entry_keeps c ps (Ecb e) (op_on.Ecb (ecb_op.Post code)) low
entry_asks c ps Latches (op_on.Latch (latch_op.Release latch id conditional)) (reply_of.Latch (latch_reply.Released n)) ws v own few low =
    subst (λ (kept : List ℕ). AreLow c (blocks_of ws ++ kept))
    (sym (latches_keep ps (op_on.Latch (latch_op.Release latch id conditional)))) (wakes_low c (blocks_of ws) few)
entry_asks c ps Latches (op_on.Latch (latch_op.Purge requestor)) r ws v own few low =
    subst (λ (kept : List ℕ). AreLow c (blocks_of ws ++ kept))
    (sym (latches_keep ps (op_on.Latch (latch_op.Purge requestor)))) (wakes_low c (blocks_of ws) few)
entry_asks c ps o op r ws v own few low = entry_keeps c ps o op low

-- ---- a history

-- the wakes of an event post no more than the quotas allow
few_wakes : (c : Setup) (es : List Entry) (k : ℕ) (o : Object) (op : Op) → Legal c es
    → length (blocks_of (wakes_at (after c es) k o op)) ≤ c.callers * c.posted_quota
few_wakes c es k Latches (op_on.Latch op) l = few_wakes_post c es k op l
few_wakes c es k o op l = omega arith

-- one of two numberings
low_at : (c : Setup) (b : Bool) (t u : Numbering) → AreLow c t.pending → AreLow c u.pending → AreLow c (if b then t else u).pending
low_at c true t u lt lu = lt
low_at c false t u lt lu = lu

-- behind some entries, and as many more
from_there : (c : Setup) (before es : List Entry) (table : ℕ → Numbering) → IsValid c → Legal c before → LegalFrom c (after c before) es
    → ((k : ℕ) → AreLow c (table k).pending) → (k : ℕ) → AreLow c (numbering_from c (after c before) table es k).pending
from_there c before [] table v l f low k = low k
from_there c before (e ∷ es) table v l f low k =
    let now : Numbering = numbered_at c (after c before) table e in
    let one : after c (before ++ e ∷ []) ≡ next (after c before) e = after_from-append (opening c) before (e ∷ []) in
    let asks : AreLow c now.pending =
    entry_asks c (table e.caller).pending e.object e.op e.reply (wakes_at (after c before) e.caller e.object e.op) v
    (exits_are_own c before e l f.0) (few_wakes c before e.caller e.object e.op l) (low e.caller) in
    subst (λ (s : System). AreLow c (numbering_from c s (with_at table e.caller now) es k).pending) one
    (from_there c (before ++ e ∷ []) es (with_at table e.caller now) v (legal_push c (opening c) before e l f.0)
    (subst (λ (s : System). LegalFrom c s es) (sym one) f.1) (λ j. low_at c (j == e.caller) now (table j) asks (low j)) k)

-- so those of each caller have room
pub pending_fit : (c : Setup) (es : List Entry) (k : ℕ) → IsValid c → Legal c es → length (numbering_after c es k).pending ≤ pending_room c
pending_fit c es k v l =
    low_fit c (numbering_after c es k).pending (from_there c [] es (λ j. unnumbered) v tt l (λ j. tt) k)

-- ---- the blocks of wakes, from the last wake on

-- a first wake that posts a block, and one that posts none
head_posts : (w : Wake) (ws : List Wake) (e : ℕ) → w.ecb ≡ Some e → blocks_of (w ∷ ws) ≡ e ∷ blocks_of ws
head_posts w ws e is = rw is refl

head_is_silent : (w : Wake) (ws : List Wake) → ((e : ℕ) → w.ecb ≡ Some e → ⊥) → blocks_of (w ∷ ws) ≡ blocks_of ws
head_is_silent w ws silent = go w.ecb silent where
  go : (o : Option ℕ) → ((e : ℕ) → o ≡ Some e → ⊥) → blocks_of (record w { ecb = o } ∷ ws) ≡ blocks_of ws
  go None none = refl
  go (Some e) none = absurd (none e refl)

module _ (ws : List Wake) (n : ℕ) (d : Wake) (some : 0 < n) (within : n ≤ length ws) where
  one : n - 1 + 1 ≡ n
  one = omega arith

  -- one wake more from the back
  dropped : blocks_of (drop (n - 1) ws) ≡ blocks_of (get_or ws (n - 1) d ∷ drop n ws)
  dropped = ap blocks_of (drop_more ws (n - 1) d (omega arith)) ∙ ap (λ i. blocks_of (get_or ws (n - 1) d ∷ drop i ws)) one

  -- is one fewer in front
  taken : length (blocks_of (take n ws)) ≡ length (blocks_of (take (n - 1) ws)) + length (blocks_of (get_or ws (n - 1) d ∷ []))
  taken =
      ap (λ i. length (blocks_of (take i ws))) (sym one)
      ∙ ap (λ (xs : List Wake). length (blocks_of xs)) (take_more ws (n - 1) d (omega arith))
      ∙ ap (λ (bs : List ℕ). length bs) (filter_map-append (λ (w : Wake). w.ecb) (take (n - 1) ws) (get_or ws (n - 1) d ∷ []))
      ∙ length-append (blocks_of (take (n - 1) ws)) (blocks_of (get_or ws (n - 1) d ∷ []))

  pub dropped_posts : (e : ℕ) → (get_or ws (n - 1) d).ecb ≡ Some e → blocks_of (drop (n - 1) ws) ≡ e ∷ blocks_of (drop n ws)
  dropped_posts e is = dropped ∙ head_posts (get_or ws (n - 1) d) (drop n ws) e is

  pub taken_posts : (e : ℕ) → (get_or ws (n - 1) d).ecb ≡ Some e
      → length (blocks_of (take n ws)) ≡ length (blocks_of (take (n - 1) ws)) + 1
  taken_posts e is = omega (arith, taken, ap (λ (bs : List ℕ). length bs) (head_posts (get_or ws (n - 1) d) [] e is))

  pub dropped_is_silent : ((e : ℕ) → (get_or ws (n - 1) d).ecb ≡ Some e → ⊥) → blocks_of (drop (n - 1) ws) ≡ blocks_of (drop n ws)
  dropped_is_silent silent = dropped ∙ head_is_silent (get_or ws (n - 1) d) (drop n ws) silent

  pub taken_is_less : length (blocks_of (take (n - 1) ws)) ≤ length (blocks_of (take n ws))
  taken_is_less = omega (arith, taken)
