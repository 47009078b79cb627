-- What a caller's own entries allow it, the machine admits.
use Rattle.std.proofs.Common.{◌≡◌, ◌≤◌, ℕ, nat_lt, true, List, [], length, filter, refl, ap, ◌∙◌, arith}
use Rattle.std.proofs.lemmas.Bool.{false≢true, and_parts}
use Rattle.std.proofs.lemmas.Bool.Decides.{nat_tests}
use Rattle.std.proofs.lemmas.List.{length-replicate}
use Rattle.mv_latch.specs.declared.operation.LatchOp.{LatchOp}
use Rattle.mv_latch.specs.declared.operation.LatchOp.TheVariants.{Obtain, Confirm, Release, Purge}
use Rattle.mv_latch.specs.declared.request.LatchForm.{LatchForm}
use Rattle.mv_latch.specs.declared.request.Request.{Request}
use Rattle.mv_latch.specs.LatchSet.{count_in, latch_admitted, is_within_quotas}
use Rattle.mv_latch.specs.Request.{of_caller, posted_of}
use Rattle.mv_machine.specs.declared.entry.Entry.{Entry}
use Rattle.mv_machine.specs.declared.entry.Object.{Object}
use Rattle.mv_machine.specs.declared.entry.Object.TheVariants.{Ecb, Element, Volume, Latches}
use Rattle.mv_machine.specs.declared.entry.Op.{Op}
use Rattle.mv_machine.specs.declared.entry.Op.TheVariants as op_on
use Rattle.mv_machine.specs.declared.entry.Reply.{Reply}
use Rattle.mv_machine.specs.Kept.{StandingRequest, standing, is_posting, keeps_quotas, latch_allowed, allowed}
use Rattle.mv_machine.specs.Legal.{IsNext, Legal, after, of}
use Rattle.mv_config.specs.Setup.{Setup}
use Rattle.mv_machine.specs.System.{System, opening, admitted, latches_of, moved, posts_own_ecb}
use Rattle.mv_machine.proofs.EntryRuns.{entry_of, along_all}
use Rattle.mv_machine.proofs.LatchIds.{same_count}
use Rattle.mv_machine.proofs.StandingCounts.{count_stands, posted_count_stands}

-- ---- there are as many lists as latches
abbrev HasLists : Setup → System → Type 0
HasLists c s = length s.latches.state ≡ c.latches

pub lists_next : (c : Setup) (s : System) (k : ℕ) (o : Object) (p : ℕ) (op : Op) (r : Reply) → IsNext c s (entry_of k o p op r)
    → HasLists c s → HasLists c (moved s k o op)
lists_next c s k Latches p (op_on.Latch op) r h w = same_count k s.latches.place op s.latches.state ∙ w
lists_next c s k (Ecb m) p (op_on.Ecb op) r h w = w
lists_next c s k (Element m) p (op_on.Element op) r h w = w
lists_next c s k (Volume m) p (op_on.Volume op) r h w = w
lists_next c s k o p op r h w = absurd (false≢true h.admits)

pub lists_stay : (c : Setup) (es : List Entry) → Legal c es → length (after c es).latches.state ≡ c.latches
lists_stay c es l =
    along_all c (HasLists c) (λ s e h w. lists_next c s e.caller e.object e.place e.op e.reply h w) (opening c) es l
    (length-replicate c.latches [])

-- ---- the quotas
within : (c : Setup) (k : ℕ) (form : LatchForm) (ts : List StandingRequest) (lists : List (List Request))
    → count_in (of_caller k) lists ≤ length ts → count_in (posted_of k) lists ≤ length (filter is_posting ts)
    → keeps_quotas c ts form ≡ true → is_within_quotas k form (latches_of c lists) ≡ true
within c k form ts lists all posted q = grind (arith, nat_tests)

admits : (c : Setup) (k : ℕ) (op : LatchOp) (ts : List StandingRequest) (lists : List (List Request)) → length lists ≡ c.latches
    → count_in (of_caller k) lists ≤ length ts → count_in (posted_of k) lists ≤ length (filter is_posting ts)
    → latch_allowed c ts op ≡ true → latch_admitted k op (latches_of c lists) ≡ true
admits c k (Obtain latch requestor mode form) ts lists n all posted a =
    let q : is_within_quotas k form (latches_of c lists) ≡ true = within c k form ts lists all posted (and_parts _ _ a).1 in
    let lt : nat_lt latch (length lists) ≡ true = ap (nat_lt latch) n ∙ (and_parts _ _ a).0 in
    rw (lt, q) refl
admits c k (Confirm latch id) ts lists n all posted a = ap (nat_lt latch) n ∙ a
admits c k (Release latch id conditional) ts lists n all posted a = ap (nat_lt latch) n ∙ a
admits c k (Purge requestor) ts lists n all posted a = refl

pub allowed_is_admitted : (c : Setup) (es : List Entry) (k : ℕ) (o : Object) (op : Op) → Legal c es → allowed c k (of k es) o op ≡ true
    → admitted c (after c es) k o op ≡ true
allowed_is_admitted c es k Latches (op_on.Latch op) l a =
    let front : nat_lt k c.callers ≡ true = (and_parts _ _ (and_parts _ _ a).0).0 in
    let rest : posts_own_ecb c k op ≡ true = (and_parts _ _ (and_parts _ _ a).0).1 in
    let last : latch_admitted k op (latches_of c (after c es).latches.state) ≡ true =
    admits c k op (standing (of k es)) (after c es).latches.state (lists_stay c es l) (count_stands c es k l) (posted_count_stands c es k l)
    (and_parts _ _ a).1 in
    rw (front, rest, last) refl
allowed_is_admitted c es k (Ecb n) (op_on.Ecb op) l a = a
allowed_is_admitted c es k (Element n) (op_on.Element op) l a = a
allowed_is_admitted c es k (Volume n) (op_on.Volume op) l a = a
allowed_is_admitted c es k o op l a = absurd (false≢true a)
