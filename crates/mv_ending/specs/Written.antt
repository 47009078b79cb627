-- How much of a run's outputs was written: of its report, and after that of its journal.
use Rattle.std.specs.Prelude.{◌≡◌, ℕ, List, Option, IfSome}
use Rattle.mv_io.specs.Sink.{Appends, AppendsFront}

-- how far the writing went
pub data Extent : Type 0 where
  Nothing : Extent
  PartOfReport : Extent
  PartOfJournal : Extent
  Everything : Extent

-- a fact that holds if the writing did not begin
abbrev pub IfUnwritten : Extent → Type 0 → Type 0
IfUnwritten Nothing P = P
IfUnwritten _ P = Unit {0}

-- what the sinks of the report and of the journal have taken before (0) and after (1), if they report it
abbrev pub Wrote : Extent → (report0 report1 journal0 journal1 : Option (List ℕ)) → (report journal : List ℕ) → Type 0
Wrote Nothing report0 report1 journal0 journal1 report journal = (report1 ≡ report0) × (journal1 ≡ journal0)
Wrote PartOfReport report0 report1 journal0 journal1 report journal = AppendsFront report0 report1 report × (journal1 ≡ journal0)
Wrote PartOfJournal report0 report1 journal0 journal1 report journal =
    Appends report0 report1 report × AppendsFront journal0 journal1 journal
Wrote Everything report0 report1 journal0 journal1 report journal = Appends report0 report1 report × Appends journal0 journal1 journal

-- an extent was written of a report and a journal to which Tells relates the input's bytes; if the source does not report its
-- bytes, this says something only of the extent Nothing
abbrev pub WroteOf : (List ℕ → List ℕ → List ℕ → Type 0) → Extent → (input report0 report1 journal0 journal1 : Option (List ℕ)) → Type 0
WroteOf Tells Nothing input report0 report1 journal0 journal1 = (report1 ≡ report0) × (journal1 ≡ journal0)
WroteOf Tells extent input report0 report1 journal0 journal1 =
    IfSome input (λ bytes. (report : List ℕ) × (journal : List ℕ) × Tells bytes report journal
    × Wrote extent report0 report1 journal0 journal1 report journal)
