use Rattle.mv_report.proofs.SoundDecks.{sound_ends, sound_totals}
use Rattle.mv_report.proofs.laws.sound_decks_have_reports.Goals as goal

pub returns-clause-ends : goal.returns-clause-ends
returns-clause-ends c = sound_ends

pub returns-clause-volumes : goal.returns-clause-volumes
returns-clause-volumes c = sound_totals
