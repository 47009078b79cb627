-- Histories in which callers follow programs, gone through entry by entry with the programs that are left: from the definition,
-- caller by caller, to a walk through the history, and back. Whoever proves laws of such histories begins here.
use Rattle.std.proofs.Common.{◌≡◌, ℕ, ◌<◌, true, List, [], ◌∷◌, Some, ◌⊎◌, inl, inr, refl, sym, ap, ◌∙◌, subst, arith}
use Rattle.std.specs.List.{AllByRecursion}
use Rattle.std.proofs.lemmas.Bool.{cases_eq, false≢true}
use Rattle.mv_machine.specs.declared.entry.Entry.{Entry}
use Rattle.mv_machine.specs.declared.entry.Object.{Object}
use Rattle.mv_machine.specs.declared.entry.Object.TheVariants.{Ecb, Element, Volume, Latches}
use Rattle.mv_machine.specs.declared.entry.Op.{Op}
use Rattle.mv_machine.specs.declared.entry.Op.TheVariants as op_on
use Rattle.mv_machine.specs.Legal.{Legal, IsNext, next, LegalFrom}
use Rattle.mv_config.specs.Setup.{Setup}
use Rattle.mv_machine.specs.System.{System, opening, admitted, with_at}
use Rattle.mv_machine.proofs.Histories.{with_at-same, with_at-other}
use Rattle.mv_calls.specs.Program.{Program, Heard, asks, heard, left, Says, IsDoneOn}
use Rattle.mv_calls.specs.Runs.{heard_in, left_in, FollowPrograms, FinishPrograms}
use Rattle.mv_calls.proofs.Hearing.{hearing, heard_from, noted_is, heard_own, heard_other}

-- the programs that are left after a list of entries
abbrev pub programs_after : {A : Type 0} → System → (ℕ → Program A) → List Entry → ℕ → Program A
programs_after s t [] = t
programs_after s t (e ∷ es) = programs_after (next s e) (with_at t e.caller (heard (t e.caller) (hearing s e))) es

-- each entry in turn is the machine's next, and what its caller's program says
abbrev pub FollowFrom : {A : Type 0} → Setup → System → (ℕ → Program A) → List Entry → Type 0
FollowFrom c s t [] = Unit {0}
FollowFrom c s t (e ∷ es) =
    IsNext c s e
    × (asks (t e.caller) ≡ Some (e.object, e.op))
    × FollowFrom c (next s e) (with_at t e.caller (heard (t e.caller) (hearing s e))) es

-- what is left of a caller's program goes by what that caller hears
pub programs_after_is : {A : Type 0} (s : System) (t : ℕ → Program A) (es : List Entry) (k : ℕ)
    → programs_after s t es k ≡ left (t k) (heard_from s k es)
programs_after_is s t [] k = refl
programs_after_is s t (e ∷ es) k =
    elim (cases_eq e.caller k) [
      | inl own ↦ programs_after_is (next s e) (with_at t e.caller (heard (t e.caller) (hearing s e))) es k
          ∙ ap (λ p. left p (heard_from (next s e) k es))
          (ap (λ j. with_at t e.caller (heard (t e.caller) (hearing s e)) j) (sym own)
          ∙ with_at-same t e.caller (heard (t e.caller) (hearing s e)) e.caller refl ∙ ap (λ j. heard (t j) (hearing s e)) own)
          ∙ ap (λ hs. left (t k) hs) (sym (heard_own s k e es own))
      | inr other ↦ programs_after_is (next s e) (with_at t e.caller (heard (t e.caller) (hearing s e))) es k
          ∙ ap (λ p. left p (heard_from (next s e) k es))
          (with_at-other t e.caller (heard (t e.caller) (hearing s e)) k (λ e. other (sym e)))
          ∙ ap (λ hs. left (t k) hs) (sym (heard_other s k e es other))
    ]

-- the callers that say their own entries, one by one, follow their programs side by side
interleave : {A : Type 0} (c : Setup) (s : System) (t : ℕ → Program A) (n : ℕ) (es : List Entry) → LegalFrom c s es
    → AllByRecursion (λ e. e.caller < n) es
    → ((k : ℕ) → k < n → Says (t k) (heard_from s k es)) → FollowFrom c s t es
interleave c s t n [] legal callers says = tt
interleave {A} c s t n (e ∷ es) legal callers says =
    let first : Says (t e.caller) (hearing s e ∷ heard_from (next s e) e.caller es) =
    says_of (t e.caller) (heard_from s e.caller (e ∷ es)) (hearing s e ∷ heard_from (next s e) e.caller es)
    (heard_own s e.caller e es refl) (says e.caller callers.0) in (
      legal.0,
      first.0,
      interleave c (next s e) (with_at t e.caller (heard (t e.caller) (hearing s e))) n es legal.1 callers.1
          (λ k lt. rest k lt first (cases_eq e.caller k)),
    ) where
      says_of : (p : Program A) (hs gs : List Heard) → hs ≡ gs → Says p hs → Says p gs
      says_of p hs gs q w = rw q at w

      rest : (k : ℕ) → k < n → Says (t e.caller) (hearing s e ∷ heard_from (next s e) e.caller es) → (e.caller ≡ k) ⊎ (e.caller ≡ k → ⊥)
          → Says (with_at t e.caller (heard (t e.caller) (hearing s e)) k) (heard_from (next s e) k es)
      rest k lt first (inl own) = subst
          (λ j. Says (with_at t e.caller (heard (t e.caller) (hearing s e)) j) (heard_from (next s e) j es)) own
          (subst (λ p. Says p (heard_from (next s e) e.caller es))
          (sym (with_at-same t e.caller (heard (t e.caller) (hearing s e)) e.caller refl)) first.1)
      rest k lt first (inr other) = subst (λ p. Says p (heard_from (next s e) k es))
          (sym (with_at-other t e.caller (heard (t e.caller) (hearing s e)) k (λ e. other (sym e))))
          (says_of (t k) (heard_from s k (e ∷ es)) (heard_from (next s e) k es) (heard_other s k e es other) (says k lt))

-- what a caller says in a history, by what it hears
says_heard : {A : Type 0} (c : Setup) (programs : ℕ → Program A) (es : List Entry) (k : ℕ) → Says (programs k) (heard_in c k es)
    → Says (programs k) (heard_from (opening c) k es)
says_heard c programs es k says = subst (λ hs. Says (programs k) hs) (noted_is (opening c) k es) says

-- a history whose callers follow their programs, entry by entry
pub follow_from : {A : Type 0} (c : Setup) (programs : ℕ → Program A) (es : List Entry) → FollowPrograms c programs es
    → FollowFrom c (opening c) programs es
follow_from c programs es f = interleave c (opening c) programs c.callers es f.legal f.callers
    (λ k lt. says_heard c programs es k (f.says k lt))

-- what is left of each program in the end
pub left_in_is : {A : Type 0} (c : Setup) (programs : ℕ → Program A) (es : List Entry) (k : ℕ)
    → left_in c programs k es ≡ programs_after (opening c) programs es k
left_in_is c programs es k = ap (λ hs. left (programs k) hs) (noted_is (opening c) k es)
    ∙ sym (programs_after_is (opening c) programs es k)

-- ---- the caller of each entry of a legal list is one of the configuration's

-- who makes an operation that is admitted is a caller
admitted_caller : (c : Setup) (s : System) (k : ℕ) (o : Object) (op : Op) → admitted c s k o op ≡ true → k < c.callers
admitted_caller c s k (Ecb n) (op_on.Ecb op) a = grind arith
admitted_caller c s k (Element n) (op_on.Element op) a = grind arith
admitted_caller c s k (Volume n) (op_on.Volume op) a = grind arith
admitted_caller c s k Latches (op_on.Latch op) a = grind arith
admitted_caller c s k o op a = absurd (false≢true a)

-- so is each entry's
pub callers_exist : (c : Setup) (s : System) (es : List Entry) → LegalFrom c s es → AllByRecursion (λ e. e.caller < c.callers) es
callers_exist c s [] legal = tt
callers_exist c s (e ∷ es) legal = (admitted_caller c s e.caller e.object e.op legal.0.admits, callers_exist c (next s e) es legal.1)

-- ---- a legal list is a run where each caller's program is done on what the caller hears

-- where each caller's program is done on what it hears, all have finished
pub finish : {A : Type 0} (c : Setup) (programs : ℕ → Program A) (es : List Entry) → Legal c es
    → ((k : ℕ) → k < c.callers → (a : A) × IsDoneOn (programs k) (heard_in c k es) a) → FinishPrograms c programs es
finish c programs es legal each = record {
  follow = record {
    legal = legal;
    callers = callers_exist c (opening c) es legal;
    says = λ k lt. (each k lt).1.says;
    waits = λ k lt early. absurd (cc (sym (each k lt).1.done ∙ early));
  };
  done = λ k lt. ((each k lt).0, (each k lt).1.done);
}
