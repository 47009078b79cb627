-- Exits: which a block can have, where they lead, and what they cost.
use Rattle.std.proofs.Common.{◌≡◌, ℕ, zero, suc, ◌+◌, ◌-◌, ◌<◌, ◌≤◌, nat_lt, true, List, [], ◌∷◌}
use Rattle.std.proofs.Common.{◌++◌, length, slice_get, Some, refl, sym, subst, arith}
use Rattle.std.proofs.lemmas.Bool.{eqb-true, and_parts}
use Rattle.std.specs.List.{AllByRecursion}
use Rattle.mv_ecb.specs.declared.operation.EcbOp.TheVariants.{Post}
use Rattle.mv_ecb.specs.declared.operation.EcbReply.{EcbReply}
use Rattle.mv_ecb.specs.declared.operation.EcbReply.TheVariants as ecb_reply
use Rattle.mv_machine.specs.declared.entry.Object.TheVariants.{Ecb}
use Rattle.mv_machine.specs.declared.entry.Op.TheVariants as op_on
use Rattle.mv_machine.specs.declared.entry.Reply.{Reply}
use Rattle.mv_machine.specs.declared.entry.Reply.TheVariants as reply_of
use Rattle.mv_config.specs.Check.{IsValid}
use Rattle.mv_config.specs.Limits.{events_limit}
use Rattle.mv_machine.specs.Parts.{IsPossible}
use Rattle.mv_config.specs.Reach.{total, reach, reach_within}
use Rattle.mv_config.specs.Setup.{Setup, SetupExit, is_exit_of, starts_from, targets_of, targets_at}
use Rattle.mv_machine.proofs.Lists.{all_got, all_map}
use Rattle.mv_calls.proofs.Posting.{exits_are_own, greatest_member, starts}
use Rattle.mv_config.proofs.Reaches.{all_lead_up, next_reach, LeadsUp}
use Rattle.mv_board.specs.Faces.{CallerFace, Happened}
use Rattle.mv_calls.specs.declared.outcomes.PostAnswer.{PostAnswer}
use Rattle.mv_calls.specs.Posts.{posted_next}
use Rattle.mv_wait.specs.Posted.{Leads, answer_in, exit_in}
use Rattle.mv_wait.proofs.Answering.{made_behind}
use Rattle.mv_wait.proofs.Runs.{entry_of}

-- a post that is answered with an exit is answered with one that starts from the block
pub exit_known : (c : Setup) (t u : CallerFace) (e d x : ℕ)
    → Happened t (Ecb e) (op_on.Ecb (Post d)) (reply_of.Ecb (ecb_reply.Woke (suc x))) u → IsPossible c u.number u.log u.told
    → is_exit_of c (suc x) e ≡ true
exit_known c t u e d x h p =
    let b = made_behind c t u (Ecb e) h.0 (op_on.Ecb (Post d)) (reply_of.Ecb (ecb_reply.Woke (suc x))) h.1 p in
    exits_are_own c b.before (entry_of t (Ecb e) h.0 (op_on.Ecb (Post d)) (reply_of.Ecb (ecb_reply.Woke (suc x)))) b.legal b.follows

-- ---- where it leads, and what that costs

pub one_at_least : (c : Setup) (e : ℕ) → IsValid c → e < length c.owners → 1 ≤ reach c e
one_at_least c e v lt =
    let n = next_reach c v (reach c) e lt (λ t up there. refl) in omega arith

pub exit_leads : (c : Setup) (x e : ℕ) → IsValid c → e < length c.owners → is_exit_of c (suc x) e ≡ true → Leads c e (targets_of c (suc x))
exit_leads c x e v there is =
    let minus : suc x - 1 ≡ x = omega arith in
    let from : starts_from e (slice_get c.exits x) ≡ true = subst (λ i. starts_from e (slice_get c.exits i) ≡ true) minus
    ((and_parts (nat_lt 0 (suc x)) (starts_from e (slice_get c.exits (suc x - 1))) is).1) in
    let s = starts e (slice_get c.exits x) from in
    let source : s.0.source ≡ e = eqb-true s.0.source e s.2 in
    let up : LeadsUp (length c.owners) s.0 = all_got (LeadsUp (length c.owners)) c.exits x s.0 s.1 (all_lead_up c v) in
    let most = greatest_member (λ (y : SetupExit). total (reach c) y.targets) e c.exits x s.0 s.1 s.2 in
    let n = next_reach c v (reach c) e there (λ t higher below. refl) in
    subst (λ o. Leads c e (targets_at o)) (sym s.1) (record {
      up = subst (λ k. AllByRecursion (λ t. (k < t) × (t < length c.owners)) s.0.targets) source up;
      cost = λ exact. omega arith;
    })

pub no_exit_leads : (c : Setup) (e : ℕ) → IsValid c → e < length c.owners → Leads c e []
no_exit_leads c e v there = record { up = tt; cost = λ exact. one_at_least c e v there }

pub next_is : (c : Setup) (r : EcbReply) → posted_next c r ≡ targets_of c (exit_in (reply_of.Ecb r))
next_is c (ecb_reply.Woke exit) = refl
next_is c r = refl

-- a reply that gives an answer to a post is one of a block
pub posted_reply : (reply : Reply) (a : PostAnswer) → answer_in reply ≡ Some a → (r : EcbReply) × (reply ≡ reply_of.Ecb r)
posted_reply (reply_of.Ecb r) a is = (r, refl)
posted_reply r a is = absurd (cc is)

-- what a post leads to
pub came_leads : (c : Setup) (t u : CallerFace) (e d : ℕ) (r : EcbReply) → IsValid c → e < length c.owners
    → Happened t (Ecb e) (op_on.Ecb (Post d)) (reply_of.Ecb r) u → IsPossible c u.number u.log u.told
    → Leads c e (posted_next c r)
came_leads c t u e d (ecb_reply.Woke zero) v there h q = no_exit_leads c e v there
came_leads c t u e d (ecb_reply.Woke (suc x)) v there h q = exit_leads c x e v there (exit_known c t u e d x h q)
came_leads c t u e d r v there h q = no_exit_leads c e v there

pub total-append : (f : ℕ → ℕ) (xs ys : List ℕ) → total f (xs ++ ys) ≡ total f xs + total f ys
total-append f [] ys = omega arith
total-append f (x ∷ xs) ys = let r = total-append f xs ys in omega arith

-- there are no more blocks than posts that they lead to
pub few_blocks : (c : Setup) (es : List ℕ) → IsValid c → AllByRecursion (λ e. e < length c.owners) es → length es ≤ total (reach c) es
few_blocks c [] v all = omega arith
few_blocks c (e ∷ es) v all = let r = few_blocks c es v all.1 in let one = one_at_least c e v all.0 in omega arith

within_some : (k : ℕ) (c : Setup) (e : ℕ) → 0 < k → 1 ≤ reach_within k c e
within_some zero c e lt = absurd (omega arith)
within_some (suc k) c e lt = omega arith

pub reach_some : (c : Setup) (e : ℕ) → e < length c.owners → 1 ≤ reach c e
reach_some c e lt = within_some (length c.owners) c e (omega arith)

-- what is pending and what an exit posts has room, where there is room for all events that are left
pub room_for : (c : Setup) (e left room : ℕ) (ts pending : List ℕ) → IsValid c → Leads c e ts
    → AllByRecursion (λ t. t < length c.owners) pending
    → reach c e + total (reach c) pending ≤ left → left ≤ events_limit → left ≤ room → length pending + length ts ≤ room
room_for c e left room ts pending v leads there cost few fits =
    let a = leads.cost (omega arith) in
    let b = few_blocks c ts v (all_map (λ t up. up.1) ts leads.up) in
    let d = few_blocks c pending v there in omega arith
