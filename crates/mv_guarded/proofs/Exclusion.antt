-- If every obtain is exclusive, each request that stands is, so no latch has two holders.
use Rattle.std.proofs.Common.{◌≡◌, ℕ, ◌<◌, inl, inr, if◌then◌else◌, List, [], ◌∷◌, ◌++◌, refl, sym, ap, ◌∙◌, subst}
use Rattle.std.specs.List.{Contains}
use Rattle.std.proofs.lemmas.List.Elements.{Contains-push_cases}
use Rattle.mv_latch.specs.declared.operation.LatchOp.TheVariants.{Obtain}
use Rattle.mv_latch.specs.declared.operation.LatchReply.TheVariants.{Granted, Queued}
use Rattle.mv_latch.specs.declared.request.Mode.TheVariants.{Exclusive}
use Rattle.mv_latch.specs.declared.request.Request.{Request}
use Rattle.mv_latch.specs.Latch.{shared_front, granted}
use Rattle.mv_latch.specs.Request.{is_shared}
use Rattle.mv_latch.proofs.Members.{not_in_empty, first_is_in, first_or_rest}
use Rattle.mv_machine.specs.declared.entry.Entry.{Entry}
use Rattle.mv_machine.specs.declared.entry.Object.{Object}
use Rattle.mv_machine.specs.declared.entry.Object.TheVariants.{Latches}
use Rattle.mv_machine.specs.declared.entry.Op.{Op}
use Rattle.mv_machine.specs.declared.entry.Op.TheVariants as op_on
use Rattle.mv_machine.specs.declared.entry.Reply.{Reply}
use Rattle.mv_machine.specs.declared.entry.Reply.TheVariants as reply_of
use Rattle.mv_machine.specs.Kept.{StandingRequest, stands_with, standing}
use Rattle.mv_machine.specs.Legal.{Legal, of}
use Rattle.mv_machine.specs.Orderly.{queue}
use Rattle.mv_config.specs.Setup.{Setup}
use Rattle.mv_machine.specs.System.{opening}
use Rattle.mv_machine.proofs.Histories.{by_last, LegalFrom-front}
use Rattle.mv_machine.proofs.Lists.{all_front, all_back}
use Rattle.mv_machine.proofs.Objects.{of-append}
use Rattle.mv_machine.proofs.Standing.{stood}
use Rattle.mv_machine.proofs.StandingRuns.{stands}
use Rattle.mv_calls.proofs.Removals.{standing_from-append}
use Rattle.mv_calls.proofs.Uses.{listed_is_fair}
use Rattle.mv_ordered.proofs.Logs.{still_stood}
use Rattle.mv_ordered.specs.WaitChain.{HoldsAt}
use Rattle.mv_guarded.specs.Guarded.{TakesAlone, AreAlone}

-- ---- the requests that stand

abbrev AreExclusive : List StandingRequest → Type 0
AreExclusive ts = (t : StandingRequest) → Contains ts t → t.request.mode ≡ Exclusive

one_more : (ts : List StandingRequest) (u : StandingRequest) → u.request.mode ≡ Exclusive → AreExclusive ts → AreExclusive (ts ++ u ∷ [])
one_more ts u alone all t i = elim (Contains-push_cases ts u t i) [
  | inl old ↦ all t old
  | inr is ↦ ap (λ (x : StandingRequest). x.request.mode) (sym is) ∙ alone
]

stands_alone : (k : ℕ) (ts : List StandingRequest) (o : Object) (op : Op) (r : Reply) → TakesAlone o op → AreExclusive ts
    → AreExclusive (stands_with k ts o op r)
stands_alone k ts Latches (op_on.Latch (Obtain latch requestor mode form)) (reply_of.Latch (Granted id)) alone all = one_more ts _ alone all
stands_alone k ts Latches (op_on.Latch (Obtain latch requestor mode form)) (reply_of.Latch (Queued id)) alone all = one_more ts _ alone all
stands_alone k ts Latches (op_on.Latch (Obtain latch requestor mode form)) (reply_of.Latch y) alone all = all
stands_alone k ts Latches (op_on.Latch op) (reply_of.Latch y) alone all =
    λ t i. all t (still_stood k ts Latches (op_on.Latch op) (reply_of.Latch y) t tt i)
stands_alone k ts o op r alone all = all

standing_alone : (log : List Entry) → AreAlone log → AreExclusive (standing log)
standing_alone = by_last (λ log. AreAlone log → AreExclusive (standing log)) (λ all t i. absurd (not_in_empty t i))
    (λ xs e ih all. subst AreExclusive (sym (standing_from-append [] xs (e ∷ [])))
    (stands_alone e.caller (standing xs) e.object e.op e.reply (all_back (λ x. TakesAlone x.object x.op) xs (e ∷ []) all).0
    (ih (all_front (λ x. TakesAlone x.object x.op) xs (e ∷ []) all))))

-- ---- a list of exclusive requests

first_alone : (q : Request) (qs : List Request) → q.mode ≡ Exclusive → granted (q ∷ qs) ≡ q ∷ []
first_alone q qs alone = ap (λ m. if is_shared m then shared_front (q ∷ qs) else q ∷ []) alone

is_one : (q r : Request) → Contains (q ∷ []) r → q ≡ r
is_one q r i = elim (first_or_rest q [] r i) [ inl same ↦ same | inr none ↦ absurd (not_in_empty r none) ]

one_granted : (qs : List Request) → ((q : Request) → Contains qs q → q.mode ≡ Exclusive) → (q r : Request) → Contains (granted qs) q
    → Contains (granted qs) r → q ≡ r
one_granted [] all q r i j = absurd (not_in_empty q i)
one_granted (first ∷ qs) all q r i j =
    let one = first_alone first qs (all first (first_is_in first qs first refl)) in
    sym (is_one first q (subst (λ z. Contains z q) one i)) ∙ is_one first r (subst (λ z. Contains z r) one j)

-- ---- each moment of a history

pub one_holder_each : (c : Setup) (es before later : List Entry) (latch j k : ℕ) → Legal c es
    → ((m : ℕ) → m < c.callers → AreAlone (of m es)) → es ≡ before ++ later → HoldsAt c before j latch → HoldsAt c before k latch → j ≡ k
one_holder_each c es before later latch j k legal alone split h g =
    let now : Legal c before = LegalFrom-front c (opening c) before later (subst (Legal c) split legal) in
    let prefix : (m : ℕ) → m < c.callers → AreAlone (of m before) =
    λ m lt. all_front (λ e. TakesAlone e.object e.op) (of m before) (of m later)
    (subst AreAlone (ap (of m) split ∙ of-append m before later) (alone m lt)) in
    let all : (q : Request) → Contains (queue c before latch) q → q.mode ≡ Exclusive =
    λ q i. standing_alone (of q.caller before) (prefix q.caller (listed_is_fair c before latch q now i).0) (stood latch q)
    (stands c before latch q now i) in
    sym h.mine ∙ ap (λ (q : Request). q.caller) (one_granted (queue c before latch) all h.request g.request h.holds g.holds) ∙ g.mine
