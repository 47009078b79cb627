use Rattle.mv_report.proofs.Ends.{ends_by_accepted_codes}
use Rattle.mv_report.proofs.laws.ends_go_by_accepted_codes.Goals as goal

pub returns : goal.returns
returns c = ends_by_accepted_codes
