-- The summary of a load, byte for byte: how many jobs and initiators, and then the last two lines of the report on the load's
-- deck.
use Rattle.std.specs.Prelude.{ℕ, List, ◌++◌, codes, decimal}
use Rattle.mv_deck.specs.Load.{load_jobs}
use Rattle.mv_report.specs.Report.{line, closing_text}
use Rattle.mv_report.specs.Outcome.{ends, totals}

-- the summary of a load of `jobs` jobs that have these ends and left these volumes
abbrev pub summary_text : ℕ → ℕ → List ℕ → List ℕ → List ℕ
summary_text jobs initiators ends volumes =
    line (codes "LOAD " ++ decimal jobs ++ codes " " ++ decimal initiators) ++ closing_text jobs ends volumes

-- the summary of a load of `jobs` jobs, with the ends and the volumes that its jobs mean
abbrev pub load_summary : ℕ → ℕ → List ℕ
load_summary jobs initiators = summary_text jobs initiators (ends (load_jobs jobs)) (totals (load_jobs jobs))
