use Rattle.std.proofs.Common.{map, sym, ◌∙◌, subst, arith}
use Rattle.mv_machine.specs.Legal.{Legal}
use Rattle.mv_config.specs.Setup.{Setup}
use Rattle.mv_machine.proofs.Longer.{entries_fit}
use Rattle.mv_machine.proofs.Orderly.{history_is_orderly}
use Rattle.mv_script.specs.Events.{EventsAreHandedOut}
use Rattle.mv_script.specs.Run.{moves_in}
use Rattle.mv_script.specs.Sound.{IsSound}
use Rattle.mv_script.proofs.HandedOut.{handed_out}
use Rattle.mv_runscript.specs.Rooms.{script_with}
use Rattle.mv_runscript.proofs.Scripts.{task_count}
use Rattle.mv_runscript.proofs.Tasks.{IsRunBy, answers_of, run_made}
use Rattle.mv_runscript.proofs.run.run_station.Goals.{After-lists_of}
use Rattle.mv_runscript.proofs.run.run_station.Goals as goal

pub run_tasks-requires-clause-rooms : goal.run_tasks-requires-clause-rooms
run_tasks-requires-clause-rooms g c κ lives =
    c.in_ok-rooms.ensures.count ∙ sym (task_count c.args.config c.args.table.now c.args.tasks.now c.requires.sound)
    ∙ sym c.in_ok-station.ensures.count

pub run_tasks-requires-clause-start : goal.run_tasks-requires-clause-start
run_tasks-requires-clause-start g c κ lives k s lt =
    let tasks = c.args.tasks.now in (
      subst (λ (s : Setup). IsSound (script_with s c.args.table.now tasks)) (sym c.in_ok-station.ensures.config) c.requires.sound,
      c.in_ok-rooms.ensures.room k s lt,
    )

-- the history that they made is a run, whose answers are theirs
made : (g : _) (c : After-lists_of g) → IsRunBy (script_with c.args.config c.args.table.now c.args.tasks.now) c.lists_of.result.items
    c.close-closed.result.history.coming
made g c =
    let b = c.in_ok-station.station in
    let calls = c.args.tasks.now in
    let back = c.in_ok-ended.ensures in
    let rooms = c.in_ok-ended.rooms.items in
    let es = c.close-closed.result.history.coming in
    let new = c.in_ok-rooms.ensures.count in
    let config = c.in_ok-station.ensures.config in
    let sound = subst (λ s. IsSound (script_with s c.args.table.now calls)) (sym config) c.requires.sound in
    subst (λ lists. IsRunBy (script_with c.args.config c.args.table.now calls) lists es) (sym c.lists_of.ensures)
    (subst (λ s. IsRunBy (script_with s c.args.table.now calls) (map answers_of rooms) es) config
    (run_made b c.args.table.now calls es c.in_ok-ended.ended.items rooms sound c.close-closed.ensures.legal
    c.close-closed.ensures.callers (back.all ∙ task_count b.config c.args.table.now calls sound) (back.rooms ∙ new)
    (λ k r t lt. back.done k r t (omega arith))))

pub returns : goal.returns
returns g c =
    let m = made g (goal.at.returns g c).After-lists_of in
    let closed = c.close-closed.ensures in
    let station = c.in_ok-station.station.config in
    let config = c.in_ok-station.ensures.config in
    let script = script_with c.args.config c.args.table.now c.args.tasks.now in
    let es = c.close-closed.result.history.coming in record {
      config = closed.config ∙ config;
      whole = closed.whole;
      valid = c.requires.valid;
      run = m.run;
      orderly = history_is_orderly c.args.config es (subst (λ (s : Setup). Legal s es) config closed.legal);
      answers = m.answers;
      events =
          subst (λ lists. EventsAreHandedOut script lists es) (sym m.answers)
          (handed_out script (moves_in c.lists_of.result.items) es c.requires.sound m.run);
      few = closed.few;
      places = entries_fit station es closed.legal closed.few;
    }
