-- A mark that is appended goes on from what is noted by those before it.
use Rattle.std.proofs.Common.{◌≡◌, ℕ, ◌+◌, ◌-◌, List, [], ◌∷◌, ◌++◌, length, length-append, refl, ap, ◌∙◌, arith}
use Rattle.mv_work.specs.declared.records.Mark.{Mark}
use Rattle.mv_work.specs.declared.records.Mark.TheVariants.{Step, Ended}
use Rattle.mv_work.specs.declared.records.Noted.{Noted}
use Rattle.mv_work.specs.Records.{JobRecord, Recorded}
use Rattle.mv_work.specs.Inside.{jobs_in, notes_in}

jobs_then : (notes : List Noted) (marks : List Mark) (m : Mark)
    → jobs_in notes (marks ++ m ∷ []) ≡ jobs_in notes marks ++ jobs_in (notes_in notes marks) (m ∷ [])
jobs_then notes [] m = refl
jobs_then notes (Step noted ∷ marks) m = jobs_then (notes ++ noted ∷ []) marks m
jobs_then notes (Ended job end ∷ marks) m = ap (λ js. record { job = job; end = end; notes = notes } ∷ js) (jobs_then [] marks m)

notes_then : (notes : List Noted) (marks : List Mark) (m : Mark)
    → notes_in notes (marks ++ m ∷ []) ≡ notes_in (notes_in notes marks) (m ∷ [])
notes_then notes [] m = refl
notes_then notes (Step noted ∷ marks) m = notes_then (notes ++ noted ∷ []) marks m
notes_then notes (Ended job end ∷ marks) m = notes_then [] marks m

-- the record that they are, where these jobs have ended by the mark
pub marked : (old new : List Mark) (before behind : ℕ) (m : Mark) {jobs : List JobRecord} → new ≡ old ++ m ∷ [] → behind ≡ before
    → jobs_in [] old ++ jobs_in (notes_in [] old) (m ∷ []) ≡ jobs
    → ◌≡◌ {A = Recorded} (record { jobs = jobs_in [] new; notes = notes_in [] new; room = behind - length new })
    (record { jobs = jobs; notes = notes_in (notes_in [] old) (m ∷ []); room = before - length old - 1 })
marked old new before behind m e f ended =
    let size : length new ≡ length old + 1 = ap length e ∙ length-append old (m ∷ []) in
    let left : behind - length new ≡ before - length old - 1 = omega arith in
    λ i. record {
      jobs = (ap (jobs_in []) e ∙ jobs_then [] old m ∙ ended) i;
      notes = (ap (notes_in []) e ∙ notes_then [] old m) i;
      room = left i;
    }
