-- What a journal that was read has, and which fault one has that was refused.
use Rattle.std.proofs.Common.{◌≡◌, ℕ, ◌≤◌, List, ◌∷◌, length, take, Option, Some, sym, ap, subst, ◌∙◌, arith}
use Rattle.std.specs.Prelude.{All}
use Rattle.std.proofs.Math.Seq.{take-append_seam}
use Rattle.std.proofs.lemmas.List.Elements.{All-weaker}
use Rattle.mv_line.specs.Fault.{TellsFirst}
use Rattle.mv_line.specs.declared.fault.TextFault.{TextFault}
use Rattle.mv_line.specs.declared.fault.TextRefusal.{TextRefusal}
use Rattle.mv_line.specs.declared.fault.TextRefusal.TheVariants.{Fault}
use Rattle.mv_machine.specs.declared.entry.Entry.{Entry}
use Rattle.mv_machine.specs.declared.replaying.Illegal.{Illegal}
use Rattle.mv_machine.specs.Legal.{Legal}
use Rattle.mv_config.specs.Limits.{highest_place}
use Rattle.mv_machine.specs.Replay.{IsFirstIllegal}
use Rattle.mv_config.specs.Setup.{Setup}
use Rattle.mv_machine.specs.System.{opening}
use Rattle.mv_operationtext.specs.declared.version.Version.{Version}
use Rattle.mv_operationtext.specs.declared.version.Version.TheVariants.{One, Two}
use Rattle.mv_operationtext.specs.EntryText.{HasText}
use Rattle.mv_entrytext.specs.Fault.{AreCallsIn, IsTextIn}
use Rattle.mv_operationtext.specs.Version.{number_of}

-- the places of its events fit
pub places_fit : (es : List Entry) → All HasText es → All (λ (e : Entry). e.place ≤ highest_place) es
places_fit es each = All-weaker HasText (λ (e : Entry). e.place ≤ highest_place) (λ e has. has.0.place) es each

-- in version 2 each has a number
numbers_in : (v : Version) (es : List Entry) (ns : List ℕ) → AreCallsIn v es ns → number_of v ≡ 2 → length ns ≡ length es
numbers_in One es ns calls two = absurd (omega arith)
numbers_in Two es ns calls two = calls.one_each

pub numbered : (told : ℕ) (bytes : List ℕ) (c : Setup) (es : List Entry) (ns : List ℕ) → IsTextIn told bytes c es ns → told ≡ 2
    → length ns ≡ length es
numbered told bytes c es ns read two = numbers_in read.version es ns read.calls (sym read.number ∙ two)

-- the fault of one that was refused is its first
pub told_first : (refusal : TextRefusal) (first : Option TextFault) (fault : TextFault) → refusal ≡ Fault fault
    → TellsFirst refusal first → first ≡ Some fault
told_first refusal first fault is tells = subst (λ (r : TextRefusal). TellsFirst r first) is tells

-- what is before the first illegal event is legal
pub legal_before : (c : Setup) (es : List Entry) (i : Illegal) → IsFirstIllegal c (opening c) es i → Legal c (take i.index es)
legal_before c es i first =
    let front : take i.index es ≡ first.before =
    ap (λ (n : ℕ). take n es) first.index ∙ ap (take (length first.before)) first.split
    ∙ take-append_seam first.before (first.entry ∷ first.later) in
    subst (λ (b : List Entry). Legal c b) (sym front) first.legal
