-- Its clauses are lemmas of Packings and Words.
use Rattle.mv_machine.proofs.Packings.{packs_back}
use Rattle.mv_machine.proofs.Words.{packed_unpacks}
use Rattle.mv_machine.proofs.laws.words_are_packings.Goals as goal

pub returns-clause-unpacks : goal.returns-clause-unpacks
returns-clause-unpacks c = packed_unpacks

pub returns-clause-packs : goal.returns-clause-packs
returns-clause-packs c = packs_back
