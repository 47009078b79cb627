-- Its clauses are lemmas of Allowed, LatchNumbers, LatchRuns, StandingCounts and StandingRuns.
use Rattle.mv_machine.proofs.Allowed.{allowed_is_admitted}
use Rattle.mv_machine.proofs.LatchNumbers.{numbers_differ, numbers_ahead_are_new}
use Rattle.mv_machine.proofs.LatchRuns.{numbers_rise, numbers_are_earlier}
use Rattle.mv_machine.proofs.StandingCounts.{count_stands, posted_count_stands}
use Rattle.mv_machine.proofs.StandingRuns.{stands}
use Rattle.mv_machine.proofs.laws.requests_stand_by_their_callers_entries.Goals as goal

pub returns-clause-stands : goal.returns-clause-stands
returns-clause-stands c = stands

pub returns-clause-count : goal.returns-clause-count
returns-clause-count c = count_stands

pub returns-clause-posted_count : goal.returns-clause-posted_count
returns-clause-posted_count c = posted_count_stands

pub returns-clause-rise : goal.returns-clause-rise
returns-clause-rise c = numbers_rise

pub returns-clause-differ : goal.returns-clause-differ
returns-clause-differ c = numbers_differ

pub returns-clause-earlier : goal.returns-clause-earlier
returns-clause-earlier c = numbers_are_earlier

pub returns-clause-new : goal.returns-clause-new
returns-clause-new c = numbers_ahead_are_new

pub returns-clause-admits : goal.returns-clause-admits
returns-clause-admits c = allowed_is_admitted
