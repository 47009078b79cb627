use Rattle.std.proofs.Common.{[], refl}
use Rattle.mv_board.specs.Faces.{IsSame}
use Rattle.mv_wait.proofs.Parts.{still_of}
use Rattle.mv_runscript.proofs.Paths.{path_went}
use Rattle.mv_runscript.proofs.Scripts.{table_sound}
use Rattle.mv_runscript.proofs.making.MakingWork.work.Goals.{After-make_all}
use Rattle.mv_runscript.proofs.making.MakingWork.work.Goals as goal

pub make_all-requires-clause-table : goal.make_all-requires-clause-table
make_all-requires-clause-table g c =
    table_sound c.args.station.now.config c.args.self.now.table.now c.args.self.now.tasks.now c.requires.start.0

-- the calls leave it the same task
same : (g : _) (c : After-make_all g) → IsSame c.args.task.now c.make_all.new.task
same g c =
    let room = c.make_all.new.room in
    (path_went c.args.station.now.config c.args.self.now.table.now c.deref.result.now room.answers.items [] room.requests.items
    c.args.task.now c.make_all.new.task c.make_all.ensures).1.same

pub returns-clause-task : goal.returns-clause-task
returns-clause-task g c =
    let b = c.args.station.now in
    still_of b b c.args.task.now c.make_all.new.task (same g (goal.at.returns-clause-task g c).After-make_all) c.requires.fresh.board refl

pub returns-clause-number : goal.returns-clause-number
returns-clause-number g c = (same g (goal.at.returns-clause-number g c).After-make_all).number
