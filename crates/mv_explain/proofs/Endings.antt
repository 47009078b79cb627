-- What was written explains the input, and a run ends as its input asks.
use Rattle.std.proofs.Common.{◌≡◌, ℕ, ◌≤◌, List, [], length, Option, Some, None, refl, subst, arith, inl, inr}
use Rattle.std.specs.Prelude.{IfSome}
use Rattle.mv_ending.specs.Ending.{EndsAs}
use Rattle.mv_ending.specs.Written.{Nothing, PartOfReport}
use Rattle.mv_explain.specs.declared.status.ExplainStatus.{ExplainStatus}
use Rattle.mv_explain.specs.declared.status.ExplainStatus.TheVariants.{Done, TooLong, ReadFailed, ReportFailed, JournalFailed}
use Rattle.mv_explain.specs.declared.status.ExplainStatus.TheVariants.{NoMemory}
use Rattle.mv_explain.specs.Explained.{IsExplained}
use Rattle.mv_explain.specs.Outcome.{Asks, InputOf, Owes, ReportAfter, Writes, extent_of, input_limit}

-- ---- the input

-- it was read to its end
pub told_whole : (input left : Option (List ℕ)) (text : List ℕ) → length text ≤ input_limit
    → IfSome input (λ xs. (text ≡ xs) × (left ≡ Some [])) → InputOf Done input left
told_whole None left text short h = tt
told_whole (Some bytes) left text short h =
    record { whole = h.1; short = subst (λ (x : List ℕ). length x ≤ input_limit) h.0 short }

-- what explains the text that was read explains the input
pub told_explained : (input left : Option (List ℕ)) (text said : List ℕ) → IsExplained text said
    → IfSome input (λ xs. (text ≡ xs) × (left ≡ Some [])) → IfSome input (λ bytes. IsExplained bytes said)
told_explained None left text said explained h = tt
told_explained (Some bytes) left text said explained h = subst (λ (x : List ℕ). IsExplained x said) h.0 explained

-- ---- the report

-- what was written of a text that explains the input
pub reported : (s : ExplainStatus) (input old new : Option (List ℕ)) (said : List ℕ) → IfSome input (λ bytes. IsExplained bytes said)
    → Writes s old new said → ReportAfter s input old new
reported Done None old new said explained wrote = tt
reported Done (Some bytes) old new said explained wrote = (said, explained, wrote)
reported ReportFailed None old new said explained wrote = tt
reported ReportFailed (Some bytes) old new said explained wrote = (said, explained, wrote)
reported s input old new said explained wrote = absurd wrote

-- a run that wrote has read its input
pub read_before : (s : ExplainStatus) (input left old new : Option (List ℕ)) (said : List ℕ) → InputOf Done input left
    → Writes s old new said → InputOf s input left
read_before Done input left old new said read wrote = read
read_before ReportFailed input left old new said read wrote = read
read_before s input left old new said read wrote = absurd wrote

-- so it did not fail to read it
pub not_unread : (D : Type 0) (s : ExplainStatus) (old new : Option (List ℕ)) (said : List ℕ) → Writes s old new said → s ≡ ReadFailed → D
not_unread D s old new said wrote failed =
    absurd (subst (λ (x : ExplainStatus). Writes x old new said) failed wrote)

-- one that ended before it wrote did not fail to write
pub not_unwritten : (R : Type 0) (s : ExplainStatus) → extent_of s ≡ Nothing → s ≡ ReportFailed → R
not_unwritten R s none failed =
    let both : PartOfReport ≡ Nothing = subst (λ (x : ExplainStatus). extent_of x ≡ Nothing) failed none in
    absurd cc

-- ---- the ending that is owed

-- nothing is both above the limit and within it
ends_as : (bytes : List ℕ) (new : Option (List ℕ)) (s t : ExplainStatus) → InputOf s (Some bytes) new
    → (s ≡ ReadFailed → ⊥) → (s ≡ ReportFailed → t ≡ Done → ⊥) → Asks bytes t → EndsAs NoMemory s t
ends_as bytes new NoMemory t i read wrote a = inr refl
ends_as bytes new ReadFailed t i read wrote a = absurd (read refl)
ends_as bytes new Done Done i read wrote a = inl refl
ends_as bytes new Done TooLong i read wrote a = absurd (omega (arith, i.short))
ends_as bytes new TooLong Done i read wrote a = absurd (omega (arith, i.long))
ends_as bytes new TooLong TooLong i read wrote a = inl refl
ends_as bytes new ReportFailed Done i read wrote a = absurd (wrote refl refl)
ends_as bytes new ReportFailed TooLong i read wrote a = absurd (omega (arith, i.short))
ends_as bytes new JournalFailed t i read wrote a = absurd i
ends_as bytes new s t i read wrote a = absurd a

-- whether or not the source tells its bytes
pub owed : (s : ExplainStatus) (old new : Option (List ℕ)) (D R : Type 0) → InputOf s old new
    → (s ≡ ReadFailed → D) → (s ≡ ReportFailed → R) → Owes D R old s
owed s None new D R input read report sound = tt
owed s (Some bytes) new D R input read report sound =
    λ t a wrote. ends_as bytes new s t input (λ e. sound (read e)) (λ failed done. wrote done (report failed)) a

-- where it ended before it wrote
pub owed_unread : (s : ExplainStatus) (old new : Option (List ℕ)) (D R : Type 0) → InputOf s old new
    → (s ≡ ReadFailed → D) → extent_of s ≡ Nothing → Owes D R old s
owed_unread s old new D R input read none = owed s old new D R input read (not_unwritten R s none)

-- and where it has read its input, and has written so much of what is said of it
pub owed_written : (s : ExplainStatus) (old new report0 report1 : Option (List ℕ)) (said : List ℕ) (D R : Type 0)
    → InputOf Done old new → Writes s report0 report1 said → (s ≡ ReportFailed → R) → Owes D R old s
owed_written s old new report0 report1 said D R input wrote failed =
    owed s old new D R (read_before s old new report0 report1 said input wrote) (not_unread D s report0 report1 said wrote) failed
