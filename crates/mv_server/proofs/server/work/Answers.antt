use Rattle.std.proofs.Common.{◌≡◌, ◌<◌, ◌+◌, ◌*◌, length, sym, ◌∙◌, subst, arith}
use Rattle.mv_wait.specs.Prelude.{element_count, kept_of, allocate}
use Rattle.mv_pause.specs.Answers.{allocate_answer}
use Rattle.mv_attach.proofs.Says.{always_allocate}
use Rattle.mv_server.specs.Pool.{workers, worker_events}
use Rattle.mv_server.specs.Right.{IsRight}
use Rattle.mv_server.proofs.Always.{stays_after, stays_then, stays_more, told, begun_round}
use Rattle.mv_server.proofs.Pool.{right_answer}
use Rattle.mv_server.proofs.Tokens.{own_token, first_free, may_pause_first, may_pause_still, may_pause_next}
use Rattle.mv_server.proofs.server.work.Goals as goal

pub unreachable-requires : goal.unreachable-requires
unreachable-requires g c =
    let t = c.args.task.now in
    let some = first_free c.args.station.now.config (length c.args.requests.now) t.number t.log c.requires.ready.asked.config
    c.requires.new in
    let none = c.in_default.ensures.causes.0 in cc (sym some ∙ none)

pub loop-round-init : goal.loop-round-init
loop-round-init g c =
    let b = c.args.station.now in
    let requests = c.args.requests.now in
    let t = c.args.task.now in record {
      kept = stays_after b requests 1 (allocate b.config) (λ a. a ≡ allocate_answer c.allocate.result) t c.allocate.new.task
          c.allocate.ensures.served c.requires.ready
          (always_allocate (IsRight requests t.number) b.config (kept_of t.number t.log) (λ n. tt));
      element = c.in-Ok.ensures.own.0;
      may = may_pause_first b.config c.in-Ok.token t c.allocate.new.task c.in-Ok.ensures.served c.in-Ok.ensures.causes
          c.in-Ok.ensures.own.1;
      low = c.in-Ok.ensures.low;
    }

pub unreachable-requires-in_default-pause : goal.unreachable-requires-in_default-pause
unreachable-requires-in_default-pause g c =
    let config = c.args.station.now.config in
    let since = c.loop-round.invariant in
    let told = c.post.new.task in
    let may = may_pause_still config (length c.args.requests.now) _ _ _ c.loop-round.token c.loop-round.task told
    since.kept.ready.asked.config c.post.ensures.served since.may in
    let ok = c.pause.ensures.current (own_token config told c.loop-round.token may) may.current in c.in_default-pause.not-Ok ok.0 ok.1

pub returns-then-given-eq-STOP : goal.returns-then-given-eq-STOP
returns-then-given-eq-STOP g c =
    let requests = c.args.requests.now in
    let since = c.loop-round.invariant in
    let begun = begun_round c.args.station.now requests _ _ _ c.loop-round.token _ _ _ _ _ c.pause.new.task
    (let n = c.number-idle.ensures.number in let lt = c.requires.number in omega arith) c.post.ensures.served c.pause.ensures.served
    since.kept in record {
      kept = stays_more c.args.station.now requests _ (worker_events (length requests)) c.args.task.now c.pause.new.task begun
          (let lt = c.loop-round-test.true in omega arith);
    }

pub loop-round-preserved : goal.loop-round-preserved
loop-round-preserved g c =
    let b = c.args.station.now in
    let requests = c.args.requests.now in
    let since = c.loop-round.invariant in
    let given = c.pause.new.task in
    let new = c.post-in-loop-round.new.task in
    let begun = begun_round b requests _ _ _ c.loop-round.token _ _ _ _ _ given
    (let n = c.number-idle.ensures.number in let lt = c.requires.number in omega arith) c.post.ensures.served c.pause.ensures.served
    since.kept in
    let low : given.number < workers = (let n = begun.number in let lt = c.requires.number in omega arith) in
    let answered = told b requests _ _ _ given new c.post-in-loop-round.ensures.served begun.ready
    (λ high. (low, right_answer requests _ _ c.answer_to-answer.ensures)) in record {
      kept = stays_then b requests _ 1 (4 * (c.loop-round.round + 1) + 1) c.args.task.now given new begun answered (omega arith);
      may = may_pause_still b.config (length requests) _ _ _ _ given new since.kept.ready.asked.config c.post-in-loop-round.ensures.served
          (may_pause_next b.config c.loop-round.token _ c.post.new.task given c.in-Ok-pause.ensures.served c.in-Ok-pause.ensures.next
          (may_pause_still b.config (length requests) _ _ _ c.loop-round.token c.loop-round.task c.post.new.task
          since.kept.ready.asked.config c.post.ensures.served since.may));
      element = subst (λ e. e < element_count b.config) (sym c.in-Ok-pause.ensures.next) since.element;
      low = c.in-Ok-pause.ensures.low.1;
    }
