-- A post asks for no more events than its block's reach, and the posts of some wakes for no more than the reaches of their blocks.
use Rattle.std.proofs.Common.{◌≡◌, ℕ, zero, suc, ◌+◌, ◌-◌, ◌<◌, ◌≤◌, ◌==◌, Bool, true, false, List, [], ◌∷◌, ◌++◌, length, map, cond}
use Rattle.std.proofs.Common.{Option, Some, None, slice_get, ◌⊎◌, inl, inr, refl, sym, ap, ◌∙◌, subst, arith, length-append}
use Rattle.std.specs.List.{AllByRecursion}
use Rattle.std.proofs.lemmas.Bool.{false≢true, and_parts}
use Rattle.std.proofs.lemmas.Option.{some_pair_parts}
use Rattle.mv_ecb.specs.declared.operation.EcbOp.{EcbOp}
use Rattle.mv_ecb.specs.declared.operation.EcbOp.TheVariants.{Arm, Extend, Settle, Clear, Post, Test}
use Rattle.mv_ecb.specs.declared.operation.EcbReply.TheVariants as ecb_reply
use Rattle.mv_ecb.specs.Table.{ecb_step}
use Rattle.mv_ecb.specs.Word.{EcbState, Zero, Waiting, Extended, Complete}
use Rattle.mv_latch.specs.declared.operation.Wake.{Wake}
use Rattle.mv_machine.specs.declared.entry.Entry.{Entry}
use Rattle.mv_machine.specs.declared.entry.Object.{Object}
use Rattle.mv_machine.specs.declared.entry.Object.TheVariants.{Ecb, Element, Volume, Latches}
use Rattle.mv_machine.specs.declared.entry.Op.{Op}
use Rattle.mv_machine.specs.declared.entry.Op.TheVariants as op_on
use Rattle.mv_machine.specs.declared.entry.Reply.{Reply}
use Rattle.mv_machine.specs.declared.entry.Reply.TheVariants as reply_of
use Rattle.mv_machine.specs.Legal.{IsNext, Legal, after}
use Rattle.mv_config.specs.Check.{IsValid}
use Rattle.mv_config.specs.Reach.{exits_of, greatest, total, reach, reach_within}
use Rattle.mv_config.specs.Setup.{Setup, SetupExit, owner_of, is_exit_of, starts_from, targets_at, targets_of}
use Rattle.mv_machine.proofs.Lists.{all_front, all_back}
use Rattle.mv_machine.proofs.EntryRuns.{entry_of}
use Rattle.mv_config.proofs.Reaches.{all_lead_up, reach_is}
use Rattle.mv_calls.specs.declared.outcomes.PostAnswer.{PostAnswer}
use Rattle.mv_calls.specs.declared.outcomes.PostAnswer.TheVariants as answer
use Rattle.mv_calls.specs.Exits.{NamesOwnExit}
use Rattle.mv_calls.specs.Keeping.{Kept, kept_after, nothing_kept}
use Rattle.mv_calls.specs.Known.{BlockAgrees}
use Rattle.mv_calls.specs.Posts.{posting, posted_next, each_posted, post_within, post}
use Rattle.mv_calls.specs.Posts.{wake_posted, wakes_posted}
use Rattle.mv_calls.specs.Program.{Program, Do, Done, Early, Wrong, Heard, Call, asks, Says, and_then, on_ecb, going_on, followed}
use Rattle.mv_machine.specs.Waking.{blocks_of}
use Rattle.mv_calls.proofs.Blocks.{block_agrees}
use Rattle.mv_calls.proofs.Replies.{HasNoEvent}

-- ---- a reply of the machine names an exit of its block
shown : (c : Setup) (n : ℕ) (op : EcbOp) (x : EcbState) (a e : Bool) → BlockAgrees c n x a e
    → NamesOwnExit c (Ecb n) (reply_of.Ecb (ecb_step op x).1)
shown c n Arm Zero a e h = tt
shown c n Arm Waiting a e h = tt
shown c n Arm (Extended y) a e h = tt
shown c n Arm (Complete d) a e h = tt
shown c n (Extend y) Zero a e h = tt
shown c n (Extend y) Waiting a e h = tt
shown c n (Extend y) (Extended z) a e h = tt
shown c n (Extend y) (Complete d) a e h = tt
shown c n Settle Zero a e h = tt
shown c n Settle Waiting a e h = tt
shown c n Settle (Extended y) a e h = tt
shown c n Settle (Complete d) a e h = tt
shown c n Clear x a e h = tt
shown c n (Post d) Zero a e h = tt
shown c n (Post d) Waiting a e h = tt
shown c n (Post d) (Extended zero) a e h = tt
shown c n (Post d) (Extended (suc y)) a e h = h.1
shown c n (Post d) (Complete g) a e h = tt
shown c n Test x a e h = tt

-- an extended block starts an exit of its own
own_exit : (c : Setup) (es : List Entry) (k : ℕ) (o : Object) (p : ℕ) (op : Op) (r : Reply) → Legal c es
    → IsNext c (after c es) (entry_of k o p op r) → NamesOwnExit c o r
own_exit c es k (Ecb n) p (op_on.Ecb op) r l h =
    let is : r ≡ reply_of.Ecb (ecb_step op ((after c es).ecb n).state).1 = (let q = h.reply in cc) in
    subst (NamesOwnExit c (Ecb n)) (sym is) (shown c n op ((after c es).ecb n).state _ _ (block_agrees c n (owner_of c n) refl es l))
own_exit c es k (Element n) p (op_on.Element op) r l h = tt
own_exit c es k (Volume n) p (op_on.Volume op) r l h = tt
own_exit c es k Latches p (op_on.Latch op) r l h = tt
own_exit c es k o p op r l h = absurd (false≢true h.admits)

-- so its reply names one
pub exits_are_own : (c : Setup) (es : List Entry) (e : Entry) → Legal c es → IsNext c (after c es) e → NamesOwnExit c e.object e.reply
exits_are_own c es e l h = own_exit c es e.caller e.object e.place e.op e.reply l h

-- ---- what is asked for

-- a program asks for at most so many events, where each that it hears of is so
abbrev pub Asks : {A : Type 0} → (Heard → Type 0) → ℕ → Program A → Type 0
Asks P most p = (hs : List Heard) → AllByRecursion P hs → Says p hs → length hs ≤ most

-- what was heard names an exit of its own, if it names one
abbrev pub HasOwnExit : Setup → Heard → Type 0
HasOwnExit c h = NamesOwnExit c h.entry.object h.entry.reply

-- it asks for at most so many, where the replies name own exits
abbrev pub AsksAtMost : {A : Type 0} → Setup → ℕ → Program A → Type 0
AsksAtMost c most p = Asks (HasOwnExit c) most p

-- ---- a program and the call that follows it
record PartsOn {A B : Type 0} (p : Program A) (f : A → Call B) (hs : List Heard) : Type 0 where
  front : List Heard
  rest : List Heard
  answer : A
  kept : Kept
  whole : hs ≡ front ++ rest
  says : Says p front
  says_rest : Says (f answer kept) rest

parts_on : {A B : Type 0} (kept : Kept) (p : Program A) (f : A → Call B) (hs : List Heard) → Says (going_on kept p f) hs
    → Says p hs ⊎ PartsOn p f hs
parts_on kept (Done a) f hs s =
    inr (record { front = []; rest = hs; answer = a; kept = kept; whole = refl; says = tt; says_rest = s })
parts_on kept (Do o op next) f [] s = inl tt
parts_on kept (Do o op next) f (h ∷ hs) s = elim (parts_on (kept_after kept o op h.entry.reply) (next h) f hs s.1) [
  | inl all ↦ inl (s.0, all)
  | inr r ↦ inr (record {
    front = h ∷ r.front;
    rest = r.rest;
    answer = r.answer;
    kept = r.kept;
    whole = ap (λ zs. h ∷ zs) r.whole;
    says = (s.0, r.says);
    says_rest = r.says_rest;
  })
]
parts_on kept Early f [] s = inl tt
parts_on kept Early f (h ∷ hs) s = absurd (cc s.0)
parts_on kept Wrong f [] s = inl tt
parts_on kept Wrong f (h ∷ hs) s = absurd (cc s.0)

-- a call and the one that follows it ask together
pub follow_asks : {A B : Type 0} (P : Heard → Type 0) (m n : ℕ) (call : Call A) (f : A → Call B) (kept : Kept) → Asks P m (call kept)
    → ((a : A) (then : Kept) → Asks P n (f a then)) → Asks P (m + n) (followed call f kept)
follow_asks P m n call f kept first later hs each s = elim (parts_on kept (call kept) f hs s) [
  | inl all ↦ omega (arith, first hs each all)
  | inr r ↦
      let both : AllByRecursion P (r.front ++ r.rest) = subst (AllByRecursion P) r.whole each in
      let sum : length hs ≡ length r.front + length r.rest = ap (λ (zs : List Heard). length zs) r.whole ∙ length-append r.front r.rest in
      omega (
        arith,
        sum,
        first r.front (all_front P r.front r.rest both) r.says,
        later r.answer r.kept r.rest
            (all_back P r.front r.rest both) r.says_rest,
      )
]

-- what goes on without what is kept goes on as a call does
as_going_on : {A B : Type 0} (kept : Kept) (p : Program A) (f : A → Program B) (hs : List Heard) → Says (and_then p f) hs
    → Says (going_on kept p (λ a then. f a)) hs
as_going_on kept (Done a) f hs s = s
as_going_on kept (Do o op next) f [] s = tt
as_going_on kept (Do o op next) f (h ∷ hs) s = (s.0, as_going_on (kept_after kept o op h.entry.reply) (next h) f hs s.1)
as_going_on kept Early f hs s = s
as_going_on kept Wrong f hs s = s

-- a program and what follows it ask together
pub both_ask : {A B : Type 0} (P : Heard → Type 0) (m n : ℕ) (p : Program A) (f : A → Program B) → Asks P m p
    → ((a : A) → Asks P n (f a)) → Asks P (m + n) (and_then p f)
both_ask P m n p f first later hs each s =
    follow_asks P m n (λ kept. p) (λ a then. f a) (nothing_kept 0) first (λ a then. later a) hs each
    (as_going_on (nothing_kept 0) p f hs s)

-- a program without event asks for nothing
pub none_asks : {A : Type 0} (P : Heard → Type 0) (most : ℕ) (p : Program A) → HasNoEvent p → Asks P most p
none_asks P most p none [] each s = omega arith
none_asks P most (Do o op next) none (h ∷ hs) each s = absurd none
none_asks P most (Done a) none (h ∷ hs) each s = absurd (cc s.0)
none_asks P most Early none (h ∷ hs) each s = absurd (cc s.0)
none_asks P most Wrong none (h ∷ hs) each s = absurd (cc s.0)

-- ---- posts one after the other
each_asks : (c : Setup) (cost : ℕ → ℕ) (one : ℕ → Program PostAnswer) → ((e : ℕ) → cost e ≤ 524287 → AsksAtMost c (cost e) (one e))
    → (es : List ℕ) (a : PostAnswer) → total cost es ≤ 524287
    → AsksAtMost c (total cost es) (each_posted one es a)
each_asks c cost one each [] a le = none_asks (HasOwnExit c) 0 (Done a) tt
each_asks c cost one each (e ∷ es) a le =
    both_ask (HasOwnExit c) (cost e) (total cost es) (one e) (λ b. each_posted one es a) (each e (omega arith))
    (λ b. each_asks c cost one each es a (omega arith))

-- ---- a block's exits

-- one more exit makes the greatest no less
greatest_more : (F : SetupExit → ℕ) (e n : ℕ) (y : SetupExit) (xs : List SetupExit) (b : Bool) → n ≤ greatest (map F (exits_of e xs))
    → n ≤ greatest (map F (cond b (y ∷ exits_of e xs) (exits_of e xs)))
greatest_more F e n y xs true le = omega arith
greatest_more F e n y xs false le = le

-- the first of some exits costs no more than the greatest
greatest_here : (F : SetupExit → ℕ) (e : ℕ) (y : SetupExit) (xs : List SetupExit) (b : Bool) → b ≡ true
    → F y ≤ greatest (map F (cond b (y ∷ exits_of e xs) (exits_of e xs)))
greatest_here F e y xs true is = omega arith
greatest_here F e y xs false is = absurd (false≢true is)

-- nor does any of them
pub greatest_member : (F : SetupExit → ℕ) (e : ℕ) (xs : List SetupExit) (i : ℕ) (x : SetupExit) → slice_get xs i ≡ Some x
    → (x.source == e) ≡ true
    → F x ≤ greatest (map F (exits_of e xs))
greatest_member F e [] i x at is = absurd (cc at)
greatest_member F e (y ∷ xs) zero x at is =
    let same : y ≡ x = cc at in
    subst (λ z. F z ≤ greatest (map F (exits_of e (y ∷ xs)))) same
    (greatest_here F e y xs (y.source == e) (ap (λ (z : SetupExit). z.source == e) same ∙ is))
greatest_member F e (y ∷ xs) (suc i) x at is = greatest_more F e (F x) y xs (y.source == e) (greatest_member F e xs i x at is)

-- an exit that starts from a block is one of the block's
pub starts : (e : ℕ) (o : Option SetupExit) → starts_from e o ≡ true → (x : SetupExit) × (o ≡ Some x) × ((x.source == e) ≡ true)
starts e None s = absurd (false≢true s)
starts e (Some x) s = (x, refl, s)

-- so its targets cost no more than the greatest of the block's exits
exit_costs : (c : Setup) (cost : ℕ → ℕ) (e x : ℕ) → is_exit_of c (suc x) e ≡ true
    → total cost (targets_of c (suc x)) ≤ greatest (map (λ (y : SetupExit). total cost y.targets) (exits_of e c.exits))
exit_costs c cost e x is =
    let minus : suc x - 1 ≡ x = omega arith in
    let from : starts_from e (slice_get c.exits x) ≡ true = subst (λ i. starts_from e (slice_get c.exits i) ≡ true) minus
    (and_parts _ _ is).1 in
    let s = starts e (slice_get c.exits x) from in
    subst (λ o. total cost (targets_at o) ≤ greatest (map (λ (y : SetupExit). total cost y.targets) (exits_of e c.exits))) (sym s.1)
    (greatest_member (λ (y : SetupExit). total cost y.targets) e c.exits x s.0 s.1 s.2)

-- ---- a post
module _ (c : Setup) (code : ℕ) where
  -- after its own event
  abbrev Follows : ℕ → ℕ → Reply → Type 0
  Follows depth e r = AsksAtMost c (greatest (map (λ (y : SetupExit). total (reach_within depth c) y.targets) (exits_of e c.exits)))
      (on_ecb r (λ x. posting (λ a. each_posted (post_within depth c code) (posted_next c x) a) x))

  follows : (depth e : ℕ) (r : Reply) → ((t : ℕ) → reach_within depth c t ≤ 524287
      → AsksAtMost c (reach_within depth c t) (post_within depth c code t)) → NamesOwnExit c (Ecb e) r
      → greatest (map (λ (y : SetupExit). total (reach_within depth c) y.targets) (exits_of e c.exits)) ≤ 524287 → Follows depth e r
  follows depth e (reply_of.Ecb (ecb_reply.Woke (suc x))) each own le hs names s =
      let costs : total (reach_within depth c) (targets_of c (suc x)) ≤ greatest
      (map (λ (y : SetupExit). total (reach_within depth c) y.targets) (exits_of e c.exits)) =
      exit_costs c (reach_within depth c) e x own in
      omega (
        arith,
        costs,
        each_asks c (reach_within depth c) (post_within depth c code) each (targets_of c (suc x)) answer.Woke
            (omega arith) hs names s,
      )
  follows depth e (reply_of.Ecb (ecb_reply.Woke zero)) each own le hs names s = none_asks (HasOwnExit c) _ _ tt hs names s
  follows depth e (reply_of.Ecb ecb_reply.Posted) each own le hs names s = none_asks (HasOwnExit c) _ _ tt hs names s
  follows depth e (reply_of.Ecb (ecb_reply.Already d)) each own le hs names s = none_asks (HasOwnExit c) _ _ tt hs names s
  follows depth e r each own le hs names s = none_asks (HasOwnExit c) _ _ tt hs names s

  -- a post and what it is followed by
  abbrev asking : ℕ → Op → Program PostAnswer
  asking e x = Do (Ecb e) x (λ h. Wrong)

  object_is : (e : ℕ) (o : Object) (op x : Op) → asks (asking e x) ≡ Some (o, op) → Ecb e ≡ o
  object_is e o op x q = (some_pair_parts (Ecb e) o x op q).0

  within_asks : (depth e : ℕ) → reach_within depth c e ≤ 524287 → AsksAtMost c (reach_within depth c e) (post_within depth c code e)
  within_asks zero e le hs names s = none_asks (HasOwnExit c) _ Wrong tt hs names s
  within_asks (suc depth) e le [] names s = omega arith
  within_asks (suc depth) e le (h ∷ hs) names s =
      let there : Ecb e ≡ h.entry.object = object_is e h.entry.object h.entry.op (op_on.Ecb (Post code)) s.0 in
      let rest : length hs ≤ greatest (map (λ (y : SetupExit). total (reach_within depth c) y.targets) (exits_of e c.exits)) =
      follows depth e h.entry.reply (within_asks depth) (subst (λ o. NamesOwnExit c o h.entry.reply) (sym there) names.0)
      (omega arith) hs names.1 s.1 in
      omega (arith, rest, le)

  pub post_asks : (e : ℕ) (kept : Kept) → reach c e ≤ 524287 → AsksAtMost c (reach c e) (post c e code kept)
  post_asks e kept le = within_asks (length c.owners) e le

-- ---- the posts of some wakes
pub wakes_ask : {A : Type 0} (c : Setup) (ws : List Wake) (kept : Kept) (last : Program A) (most : ℕ) → AsksAtMost c most last
    → total (reach c) (blocks_of ws) ≤ 524287
    → AsksAtMost c (total (reach c) (blocks_of ws) + most) (wakes_posted c ws kept last)
wakes_ask c [] kept last most asks le = λ hs names s. omega (arith, asks hs names s)
wakes_ask c (w ∷ ws) kept last most asks le = go w.ecb le (wakes_ask c ws kept last most asks) where
  go : (e : Option ℕ) → total (reach c) (blocks_of (record w { ecb = e } ∷ ws)) ≤ 524287
      → (total (reach c) (blocks_of ws) ≤ 524287 → AsksAtMost c (total (reach c) (blocks_of ws) + most) (wakes_posted c ws kept last))
      → AsksAtMost c (total (reach c) (blocks_of (record w { ecb = e } ∷ ws)) + most)
      (wake_posted c e w.code kept (wakes_posted c ws kept last))
  go None low rest = rest low
  go (Some e) low rest =
      λ hs names s. let all = both_ask (HasOwnExit c) (reach c e) (total (reach c) (blocks_of ws) + most) (post c e w.code kept)
      (λ p. wakes_posted c ws kept last) (post_asks c w.code e kept (omega arith)) (λ p. rest (omega arith)) hs names s in
      omega (arith, all)

-- the reaches of an exit's targets add up to less than that of its block
pub targets_add_up : (c : Setup) (e x : ℕ) → IsValid c → e < length c.owners → is_exit_of c (suc x) e ≡ true → reach c e ≤ 524287
    → total (reach c) (targets_of c (suc x)) + 1 ≤ reach c e
targets_add_up c e x valid there own exact =
    omega (arith, exit_costs c (reach c) e x own, reach_is c (all_lead_up c valid) e there, exact)
