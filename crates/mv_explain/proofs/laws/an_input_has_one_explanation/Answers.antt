-- What an input is taken for has one explanation.
use Rattle.mv_explain.specs.Subject.{subject_of}
use Rattle.mv_explain.proofs.OneExplanation.{one_explanation}
use Rattle.mv_explain.proofs.laws.an_input_has_one_explanation.Goals as goal

pub returns : goal.returns
returns c = λ bytes s t a b. one_explanation (subject_of bytes) bytes s t a b
