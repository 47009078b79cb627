-- Where there is a copy, the line stands behind the others.
use Rattle.mv_operationtext.specs.declared.version.Version.TheVariants.{Two}
use Rattle.mv_replay.proofs.Courses.{copied_now}
use Rattle.mv_replay.proofs.judging.copy_line.Goals as goal

pub returns-in-Some : goal.returns-in-Some
returns-in-Some c = λ copied setup es h number.
    copied_now copied setup es c.args.entry.now c.args.number c.args.copy.now c.in-Some.writer c.push.new.self c.push.result c.in-Some.is h
    number (λ lines w. c.push.ensures.text Two setup lines w)
