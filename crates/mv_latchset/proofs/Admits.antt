-- Operations on the latch set that a caller may make, and what an obtain that is not refused was asked.
use Rattle.std.proofs.Common.{◌≡◌, ℕ, ◌<◌, nat_lt, Bool, true, false, not, List, Option, Some, None, refl, sym, ap, ◌∙◌}
use Rattle.std.proofs.lemmas.Bool.{lt-ltb}
use Rattle.std.specs.Option.{option_or}
use Rattle.mv_latch.specs.declared.operation.LatchOp.TheVariants.{Obtain, Purge}
use Rattle.mv_latch.specs.declared.request.LatchForm.{LatchForm}
use Rattle.mv_latch.specs.declared.request.Mode.{Mode}
use Rattle.mv_machine.specs.declared.entry.Entry.{Entry}
use Rattle.mv_machine.specs.declared.entry.Object.TheVariants.{Latches}
use Rattle.mv_machine.specs.declared.entry.Op.TheVariants as op_on
use Rattle.mv_machine.specs.Kept.{allowed, keeps_quotas, standing}
use Rattle.mv_config.specs.Setup.{Setup}
use Rattle.mv_machine.specs.System.{posts_own_ecb}
use Rattle.mv_calls.specs.Keeping.{Kept, kept_of, nothing_kept}
use Rattle.mv_calls.proofs.Making.{kept_caller}
use Rattle.mv_calls.specs.LatchCalls.{obtain_refusal}
use Rattle.mv_calls.specs.Refusal.{Refusal, BadLatch, NotOwner, Quota, NotNow, Purged}
use Rattle.mv_calls.specs.Waits.{refused_if}

pub may_purge : (c : Setup) (k requestor : ℕ) (log : List Entry) → k < c.callers
    → allowed c k log Latches (op_on.Latch (Purge requestor)) ≡ true
may_purge c k requestor log lt = rw (lt-ltb k c.callers lt) refl

-- ---- obtain

-- an obtain's refusal, by what is asked in turn
abbrev pub refusal_is : Bool → Bool → Bool → Option Refusal
refusal_is there own within =
    option_or (refused_if (not there) BadLatch) (option_or (refused_if (not own) NotOwner) (refused_if (not within) Quota))

pub refusal_by : (c : Setup) (latch requestor : ℕ) (mode : Mode) (form : LatchForm) (k : ℕ) (log : List Entry) (there own within : Bool)
    → nat_lt latch c.latches ≡ there → posts_own_ecb c k (Obtain latch requestor mode form) ≡ own
    → keeps_quotas c (kept_of k log).requests form ≡ within
    → obtain_refusal c latch requestor mode form (kept_of k log) ≡ refusal_is there own within
refusal_by c latch requestor mode form k log there own within p q r =
    (λ i. refusal_is (p i) (posts_own_ecb c (kept_caller (nothing_kept k) log i) (Obtain latch requestor mode form)) (r i))
    ∙ ap (λ b. refusal_is there b within) q

-- a request that stands in the way, or a purge, is no refusal before its event
pub not_before : (there own within : Bool) (id : ℕ) → refusal_is there own within ≡ Some (NotNow id) → ⊥
not_before false own within id is = absurd (cc is)
not_before true false within id is = absurd (cc is)
not_before true true false id is = absurd (cc is)
not_before true true true id is = absurd (cc is)

pub no_purge_before : (there own within : Bool) → refusal_is there own within ≡ Some Purged → ⊥
no_purge_before false own within is = absurd (cc is)
no_purge_before true false within is = absurd (cc is)
no_purge_before true true false is = absurd (cc is)
no_purge_before true true true is = absurd (cc is)

-- what an obtain that is not refused was asked
pub record MayObtain (c : Setup) (latch requestor : ℕ) (mode : Mode) (form : LatchForm) (kept : Kept) : Type 0 where
  pub there : nat_lt latch c.latches ≡ true
  pub own : posts_own_ecb c kept.caller (Obtain latch requestor mode form) ≡ true
  pub within : keeps_quotas c kept.requests form ≡ true

pub may_be_asked : (c : Setup) (latch requestor : ℕ) (mode : Mode) (form : LatchForm) (kept : Kept)
    → obtain_refusal c latch requestor mode form kept ≡ None → MayObtain c latch requestor mode form kept
may_be_asked c latch requestor mode form kept none =
    go (nat_lt latch c.latches) (posts_own_ecb c kept.caller (Obtain latch requestor mode form)) (keeps_quotas c kept.requests form)
    refl refl refl where
      go : (a b d : Bool) → nat_lt latch c.latches ≡ a → posts_own_ecb c kept.caller (Obtain latch requestor mode form) ≡ b
          → keeps_quotas c kept.requests form ≡ d → MayObtain c latch requestor mode form kept
      go true true true p q r = record { there = p; own = q; within = r }
      go true true false p q r = absurd (cc (sym (λ i. refusal_is (p i) (q i) (r i)) ∙ none))
      go true false d p q r = absurd (cc (sym (λ i. refusal_is (p i) (q i) (r i)) ∙ none))
      go false b d p q r = absurd (cc (sym (λ i. refusal_is (p i) (q i) (r i)) ∙ none))

pub may_obtain : (c : Setup) (k latch requestor : ℕ) (mode : Mode) (form : LatchForm) (log : List Entry) → k < c.callers
    → obtain_refusal c latch requestor mode form (kept_of k log) ≡ None → (kept_of k log).requests ≡ standing log
    → allowed c k log Latches (op_on.Latch (Obtain latch requestor mode form)) ≡ true
may_obtain c k latch requestor mode form log lt none same =
    let may = may_be_asked c latch requestor mode form (kept_of k log) none in
    let own : posts_own_ecb c k (Obtain latch requestor mode form) ≡ true =
    sym (ap (λ j. posts_own_ecb c j (Obtain latch requestor mode form)) (kept_caller (nothing_kept k) log)) ∙ may.own in
    let within : keeps_quotas c (standing log) form ≡ true = sym (ap (λ ts. keeps_quotas c ts form) same) ∙ may.within in
    rw (lt-ltb k c.callers lt, own, may.there, within) refl
