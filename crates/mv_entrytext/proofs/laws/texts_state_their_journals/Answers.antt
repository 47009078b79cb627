-- Both directions are lemmas of Stated.
use Rattle.mv_entrytext.proofs.Stated.{states, stated}
use Rattle.mv_entrytext.proofs.laws.texts_state_their_journals.Goals as goal

pub returns : goal.returns
returns c = λ bytes v d es ns. (stated bytes v d es ns, λ h. states bytes v d es ns h.0 h.1 h.2)
