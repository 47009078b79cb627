-- The jobs of a deck by their numbers, and the end of each.
use Rattle.std.specs.Prelude.{ℕ, List, [], slice_index, slice_index_or}
use Rattle.mv_deck.specs.Deck.{JobData}
use Rattle.mv_report.specs.Outcome.{ends}

-- what is read at a number past the last job
abbrev pub no_job : JobData
no_job = record { name = []; after = []; steps = [] }

-- job j of a deck, counted from 0
abbrev pub job_at : List JobData → ℕ → JobData
job_at deck j = slice_index_or deck j no_job

-- the end of job j
abbrev pub end_of : List JobData → ℕ → ℕ
end_of deck j = slice_index (ends deck) j
