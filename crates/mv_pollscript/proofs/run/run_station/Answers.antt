use Rattle.std.proofs.Common.{List, ◌++◌, sym, ap, ◌∙◌, subst}
use Rattle.std.specs.List.{AllByRecursion}
use Rattle.mv_board.specs.Faces.{AreInOrder, CallerFace, IsIn}
use Rattle.mv_machine.specs.Legal.{after}
use Rattle.mv_config.specs.Setup.{Setup}
use Rattle.mv_machine.specs.State.{IsOpenedWith}
use Rattle.mv_runscript.specs.Rooms.{script_with}
use Rattle.mv_runscript.proofs.Scripts.{task_count}
use Rattle.mv_script.specs.Sound.{IsSound}
use Rattle.mv_pollscript.proofs.Tasks.{new_tasks, run_is, same_count, tasks_in_order}
use Rattle.mv_pollscript.proofs.run.run_station.Goals as goal

pub poll_all-requires-clause-tasks : goal.poll_all-requires-clause-tasks
poll_all-requires-clause-tasks g c =
    let new = c.in_ok-station.new.items in
    let ps = c.in_ok-tasks.tasks.items in
    let lists = c.args.lists.now in
    new_tasks c.in_ok-station.station c.args.table.now lists
    (subst (λ (s : Setup). IsSound (script_with s c.args.table.now lists)) (sym c.in_ok-station.ensures.config) c.requires.sound)
    new ps c.in_ok-station.ensures.tasks c.in_ok-tasks.ensures.new c.in_ok-tasks.ensures.tasks
    (same_count new ps c.in_ok-tasks.ensures.tasks ∙ c.in_ok-station.ensures.count
    ∙ task_count c.args.config c.args.table.now lists c.requires.sound)

pub close-closed-requires-clause-order : goal.close-closed-requires-clause-order
close-closed-requires-clause-order g c =
    let b = c.in_ok-station.station in
    subst (AreInOrder b 0) (sym c.in_ok-back.ensures.tasks)
    (tasks_in_order b c.args.table.now c.args.lists.now c.in_ok-polled.polled.items c.in_ok-polled.ensures.tasks)

pub returns : goal.returns
returns g c =
    let b = c.in_ok-station.station in
    let ps = c.in_ok-polled.polled.items in
    let history = c.close-closed.result.history in
    let es = history.coming in
    let closed = c.close-closed.ensures in
    let config = c.in_ok-station.ensures.config in
    let listed = c.in_ok-config.ensures in
    let own = closed.config ∙ config in
    run_is b c.args.config c.args.table.now c.args.lists.now ps es _ c.requires.sound c.requires.valid config
    c.in_ok-polled.ensures.count c.in_ok-polled.ensures.tasks
    (subst (λ (ts : List CallerFace). AllByRecursion (IsIn b.config es) ts) c.in_ok-back.ensures.tasks closed.callers) closed.legal closed.few
    (listed.config ∙ own) listed.journal
    (listed.state ∙ ap (λ (s : Setup). after s (history.past ++ es)) own ∙ ap (λ (xs : _). after c.args.config (xs ++ es)) closed.whole)
    (subst (λ (s : Setup). IsOpenedWith s c.in_ok-config.field-0.state) own listed.opened) c.in_ok-back.ensures.answers
