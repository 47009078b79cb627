use Rattle.std.proofs.Common.{◌≤◌, Ok, Err, refl, sym, ap, subst, arith}
use Rattle.mv_element.specs.declared.operation.ElementOp.TheVariants.{Pause}
use Rattle.mv_element.specs.declared.operation.ElementReply.TheVariants.{Given as GivenWith, Spent}
use Rattle.mv_machine.specs.declared.entry.Object.TheVariants.{Element}
use Rattle.mv_machine.specs.declared.entry.Op.TheVariants as op_on
use Rattle.mv_machine.specs.declared.entry.Reply.TheVariants as reply_of
use Rattle.mv_machine.specs.Replies.{NamesUpTo}
use Rattle.mv_board.specs.Faces.{Happened}
use Rattle.mv_calls.specs.declared.outcomes.Given.{Given}
use Rattle.mv_calls.specs.Pauses.{paused}
use Rattle.mv_calls.specs.Program.{Done}
use Rattle.mv_calls.specs.Refusal as refusal
use Rattle.mv_calls.specs.Rest.{no_waits, waits_from, waits_after}
use Rattle.mv_wait.proofs.Runs.{runs_within}
use Rattle.mv_wait.proofs.Steps.{element_runs, waits_one, still_at_rest}
use Rattle.mv_pause.specs.Pausing.{pause_own}
use Rattle.mv_pause.specs.Replies.{SaysBegun}
use Rattle.mv_pause.proofs.Answering.{pause_says, says_idle, pause_is_current, current_is_not_spent, pause_gives, gives_next}
use Rattle.mv_pause.proofs.Gifts.{was_given, given_is_so}
use Rattle.mv_pause.proofs.Served.{rests_by, none_given}
use Rattle.mv_pause.proofs.pausing.begin_own.Goals as goal

pub beginning-requires : goal.beginning-requires
beginning-requires g c =
    says_idle c.args.station.now.config c.args.task.now c.event-reply.new.task c.args.token.element (Pause c.args.token.generation)
    c.event-reply.result SaysBegun (pause_says c.args.token.generation) c.event-reply.ensures.event c.event-reply.ensures.possible
    c.requires.own c.requires.task.rest

pub returns-in-Given : goal.returns-in-Given
returns-in-Given g c =
    let token = c.args.token in
    let n = token.element in
    let t = c.args.task.now in
    let u = c.event-reply.new.task in
    let gift = c.in-Given.gift in
    let op = op_on.Element (Pause token.generation) in
    let reply = reply_of.Element (GivenWith gift.code gift.next) in
    let whole = Done (Ok c.with_token.result) in
    let h = subst (λ r. Happened t (Element n) op r u) c.in-Given.ensures c.event-reply.ensures.event in
    let next = gives_next c.args.station.now.config t u n token.generation (Pause token.generation) gift.code gift.next
    (pause_gives token.generation gift.code gift.next) h c.event-reply.ensures.possible in
    record {
      runs = runs_within 1 2 (pause_own token) whole t u (omega arith)
          (element_runs (paused n token.generation) whole t u n (Pause token.generation) (GivenWith gift.code gift.next) h
          (ap (λ z. Done (Ok z)) (sym c.with_token.ensures)));
      rest = rests_by u.log (waits_after (waits_from no_waits t.log) (Element n) op reply) (waits_one t u (Element n) op reply h)
          (none_given (waits_from no_waits t.log) n gift.code gift.next op c.requires.task.rest);
      current = λ is. (c.with_token.result, refl);
      answer = given_is_so u token c.with_token.result gift.code gift.next c.with_token.ensures
          (was_given t u token op gift.code gift.next h next) next;
      low = (
        tt,
        subst (λ (z : Given). z.next.generation ≤ 262143) (sym c.with_token.ensures)
            (subst (NamesUpTo 262143) c.in-Given.ensures c.event-reply.ensures.low),
      );
    }

pub returns-in-Spent : goal.returns-in-Spent
returns-in-Spent g c =
    let token = c.args.token in
    let n = token.element in
    let t = c.args.task.now in
    let u = c.event-reply.new.task in
    let now = c.in-Spent.now in
    let op = op_on.Element (Pause token.generation) in
    let whole = Done (Err (refusal.Spent now)) in
    let h = subst (λ r. Happened t (Element n) op r u) c.in-Spent.ensures c.event-reply.ensures.event in record {
      runs = runs_within 1 2 (pause_own token) whole t u (omega arith)
          (element_runs (paused n token.generation) whole t u n (Pause token.generation) (Spent now) h refl);
      rest = still_at_rest t u (Element n) op (reply_of.Element (Spent now)) h (λ w. refl) c.requires.task.rest;
      current = λ is. absurd (current_is_not_spent c.args.station.now.config t u token (Pause token.generation) c.event-reply.result now
          (pause_is_current token.generation now) c.event-reply.ensures.event c.event-reply.ensures.possible
          c.requires.own c.requires.task.rest is c.in-Spent.ensures);
      answer = h;
      low = (subst (NamesUpTo 262143) c.in-Spent.ensures c.event-reply.ensures.low, tt);
    }

pub returns-in-Parked : goal.returns-in-Parked
returns-in-Parked g c =
    subst (λ r. Happened c.args.task.now (Element c.args.token.element) (op_on.Element (Pause c.args.token.generation)) r
    c.event-reply.new.task) c.in-Parked.ensures c.event-reply.ensures.event
