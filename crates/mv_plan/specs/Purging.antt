-- The requestors of jobs in a run: each job's requests are purged once, none is made after that, and in the end there is no
-- request.
use Rattle.std.specs.Prelude.{◌≡◌, ℕ, ◌+◌, ◌<◌, ◌==◌, Bool, true, false, List, [], ◌∷◌, ◌++◌, length, filter}
use Rattle.std.specs.List.{AllByRecursion}
use Rattle.mv_latch.specs.declared.operation.LatchOp.TheVariants.{Obtain}
use Rattle.mv_machine.specs.declared.entry.Entry.{Entry}
use Rattle.mv_machine.specs.declared.entry.Op.{Op}
use Rattle.mv_machine.specs.declared.entry.Op.TheVariants as op_on
use Rattle.mv_machine.specs.Legal.{after}
use Rattle.mv_deck.specs.Deck.{JobData}
use Rattle.mv_plan.specs.SpoolSetup.{spool_setup}
use Rattle.mv_machine.specs.Orderly.{purged_by}

-- whether an operation is an obtain for this requestor
abbrev pub is_obtain : ℕ → Op → Bool
is_obtain requestor (op_on.Latch (Obtain latch r mode form)) = r == requestor
is_obtain requestor op = false

-- the purges of a requestor
abbrev pub purges : ℕ → List Entry → List Entry
purges requestor es = filter (λ e. purged_by requestor e.op) es

-- the obtains for a requestor
abbrev pub obtains : ℕ → List Entry → List Entry
obtains requestor es = filter (λ e. is_obtain requestor e.op) es

-- the requestor of each job is purged once and makes no request after that, and in the end no latch has a request
pub record ArePurged (deck : List JobData) (initiators : ℕ) (es : List Entry) : Type 0 where
  pub once : (j : ℕ) → j < length deck → length (purges (j + 1) es) ≡ 1
  pub last : (j : ℕ) (front rest : List Entry) (e : Entry) → j < length deck → es ≡ front ++ e ∷ rest
      → purged_by (j + 1) e.op ≡ true → obtains (j + 1) rest ≡ []
  pub empty : AllByRecursion (λ qs. qs ≡ []) (after (spool_setup deck initiators) es).latches.state
