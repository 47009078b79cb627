use Rattle.mv_script.proofs.TextsBack.{each_list_back, lists_back}
use Rattle.mv_script.proofs.laws.text_determines_answers.Goals as goal

pub returns-clause-each : goal.returns-clause-each
returns-clause-each c = each_list_back

pub returns-clause-one : goal.returns-clause-one
returns-clause-one c = lists_back
