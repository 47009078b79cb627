use Rattle.mv_script.specs.Reading.{notes_of}
use Rattle.mv_script.proofs.Behind.{taken_script}
use Rattle.std.proofs.Common.{arith}
use Rattle.mv_script.proofs.reading.Reading.take_script.Goals as goal

pub returns : goal.returns
returns c = λ earlier b good.
    taken_script earlier (notes_of c.args.self.now) c.args.tasks b (omega arith) good
