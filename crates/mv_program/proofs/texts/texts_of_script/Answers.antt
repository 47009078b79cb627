-- The script that was read is the one that the input states.
use Rattle.std.proofs.Common.{subst}
use Rattle.mv_script.specs.Script.{ScriptData}
use Rattle.mv_program.specs.Texts.{IsRunOfScript}
use Rattle.mv_program.proofs.texts.texts_of_script.Goals as goal

pub returns-clause-run : goal.returns-clause-run
returns-clause-run g c =
    subst (λ (d : ScriptData). IsRunOfScript d c.in_ok-texts.texts.report.items c.in_ok-texts.texts.journal) c.in-Ok.ensures.script.1
    c.in_ok-texts.ensures
