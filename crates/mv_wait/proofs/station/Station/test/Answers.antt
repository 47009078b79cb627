use Rattle.std.proofs.Common.{refl, sym, subst, arith}
use Rattle.mv_board.specs.Faces.{BoardFace}
use Rattle.mv_board.specs.Words.{HasWord, test_of}
use Rattle.mv_wait.proofs.Recording.{recorded_on, test_keeps, still_task, about_inside}
use Rattle.mv_wait.proofs.Low.{fits_of, names_low}
use Rattle.mv_wait.proofs.station.Station.test.Goals as goal

pub invariant_of-task : goal.invariant_of-task
invariant_of-task c =
    let d = c.self.inside.board.config in
    let t = c.task.inside.caller in
    let k = c.task.inside.keep in
    let about = about_inside c.args.self.now c.self.inside.board c.args.task.now t c.task.view_is c.self.view_is c.requires.task in
    let u = c.test.new.caller in
    let h = c.test.ensures.event in
    let less = h.1.left in
    let word = subst (λ (b : BoardFace). HasWord b.config c.args.object) (sym c.self.view_is) c.requires.word in
    still_task c.task.inside u k c.task.invariant h.1.same (omega arith)
    (recorded_on d t u c.args.object (test_of c.args.object) c.test.result k k h c.test.ensures.possible about
    (λ kept is. test_keeps d t u c.args.object c.test.result k word h c.test.ensures.possible kept)
    (refl, refl) (refl, refl) (omega arith) refl c.task.invariant.recorded)

pub returns-clause-low : goal.returns-clause-low
returns-clause-low c =
    let d = c.self.inside.board.config in
    let t = c.task.inside.caller in
    let about = about_inside c.args.self.now c.self.inside.board c.args.task.now t c.task.view_is c.self.view_is c.requires.task in
    names_low d t c.test.new.caller c.args.object (test_of c.args.object) c.test.result c.test.ensures.event c.test.ensures.possible
    (fits_of d t c.task.inside.keep about c.task.invariant.recorded).valid
