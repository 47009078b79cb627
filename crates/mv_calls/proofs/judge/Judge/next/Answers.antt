-- One entry more is stepped, and counted.
use Rattle.std.proofs.Common.{◌≡◌, sym, ◌∙◌, arith}
use Rattle.std.proofs.lemmas.Bool.{false≢true}
use Rattle.mv_machine.specs.Legal.{IsNext}
use Rattle.mv_machine.specs.State.{system_of}
use Rattle.mv_machine.specs.System.{place_of}
use Rattle.mv_machine.proofs.Replays.{answer_is, is_next}
use Rattle.mv_calls.proofs.call_numbers.Judged.{judged_countable, judged_more, unfit_more}
use Rattle.mv_calls.proofs.judge.Judge.next.Goals as goal

pub returns-then-is_full : goal.returns-then-is_full
returns-then-is_full c = λ es h. unfit_more c.args.config.now es c.args.self.now c.args.entry.now h (λ n.
    let place : c.args.entry.now.place ≡ place_of (system_of c.args.self.now.state) c.args.entry.now.object = n.place in
    omega (arith, place, c.requires.place))

pub returns-then-not-is_answer : goal.returns-then-not-is_answer
returns-then-not-is_answer c = λ es h. unfit_more c.args.config.now es c.args.self.now c.args.entry.now h (λ n.
    false≢true (sym c.if-not-is_answer.true ∙ c.is_answer.ensures.1
    (c.step-machine.ensures.answer ∙ answer_is c.args.config.now (system_of c.args.self.now.state) c.args.entry.now n)))

pub count-number-requires : goal.count-number-requires
count-number-requires c =
    let j = c.requires.judged in
    let e = c.args.entry.now in
    let next : IsNext c.args.config.now (system_of c.args.self.now.state) e = is_next c.args.config.now
    (system_of c.args.self.now.state) e (sym c.step-machine.ensures.answer ∙ c.is_answer.ensures.0 c.if-not-is_answer.false) in
    record {
      countable = (
        j.0,
        judged_countable c.args.config.now j.0 c.args.self.now e j.1 c.wakes.result.now next
            (c.wakes.ensures ∙ c.step-machine.ensures.wakes),
        j.2,
      );
    }

pub returns : goal.returns
returns c = λ es h.
    let config = c.args.config.now in
    let old = c.args.self.now in
    let e = c.args.entry.now in
    let next : IsNext config (system_of old.state) e =
    is_next config (system_of old.state) e (sym c.step-machine.ensures.answer ∙ c.is_answer.ensures.0 c.if-not-is_answer.false) in
    judged_more config es old e h _ c.count-number.result next c.step-machine.ensures.after c.step-machine.ensures.wakes
    c.step-machine.ensures.opened
    (c.count-number.ensures es (judged_countable config es old e h c.wakes.result.now next
    (c.wakes.ensures ∙ c.step-machine.ensures.wakes)))
