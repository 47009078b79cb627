use Rattle.std.proofs.Common.{◌≡◌, refl, sym, subst}
use Rattle.std.specs.Prelude.{IfSome}
use Rattle.mv_element.specs.declared.operation.ElementOp.TheVariants.{Release}
use Rattle.mv_machine.specs.declared.entry.Object.TheVariants.{Element}
use Rattle.mv_machine.specs.declared.entry.Op.TheVariants as op_on
use Rattle.mv_machine.specs.Replies.{NamesUpTo}
use Rattle.mv_board.specs.Faces.{Exchanged}
use Rattle.mv_calls.specs.Pauses.{try_release}
use Rattle.mv_wait.proofs.Runs.{serves}
use Rattle.mv_wait.specs.Run.{IsServed}
use Rattle.mv_pause.specs.Answers.{IsLow, release_answer}
use Rattle.mv_pause.proofs.Answering.{says_released}
use Rattle.mv_pause.proofs.Served.{rests_released, release_is_low}
use Rattle.mv_pause.proofs.Tried.{tried_runs, tried_is, tried_early}
use Rattle.mv_pause.proofs.releasing.try_release.Goals as goal

pub released-requires : goal.released-requires
released-requires c =
    let x = c.in-Ok.ensures.answer in
    says_released c.args.station.now.config c.args.task.now c.try_event-tried.new.task c.args.token.element c.args.token.generation
    c.args.code c.in-Ok.reply (x.place, x.happened) c.in-Ok.ensures.possible

pub returns-in-Ok : goal.returns-in-Ok
returns-in-Ok c =
    let n = c.args.token.element in
    let t = c.args.task.now in
    let u = c.try_event-tried.new.task in
    let r = c.released.result in
    let op = op_on.Element (Release c.args.token.generation c.args.code) in
    let call = try_release c.args.token c.args.expected c.args.code in
    let x = subst (λ z. Exchanged t (Element n) op c.args.expected z u) c.released.ensures c.in-Ok.ensures.answer in
    let rest = rests_released t u n op r (x.place, x.happened) c.requires.task.rest in record {
      served = subst (λ z. IfSome z (λ is. IsServed 1 call (λ a. a ≡ is) t u)) (sym c.tried_as.ensures)
          (serves 1 call (λ a. a ≡ release_answer r) t u (release_answer r) c.requires.task.rest refl
          (tried_runs t u c.args.token c.args.expected c.args.code r x) rest);
      causes = tried_is t u c.args.token c.args.expected c.args.code r c.tried_as.result c.tried_as.ensures x;
      early = tried_early t u c.args.token c.args.expected c.args.code r c.tried_as.result x c.requires.unpaused c.tried_as.ensures;
      rest = rest;
      low = subst (λ z. IfSome z IsLow) (sym c.tried_as.ensures)
          (release_is_low r (subst (NamesUpTo 262143) c.released.ensures c.in-Ok.ensures.low));
    }
