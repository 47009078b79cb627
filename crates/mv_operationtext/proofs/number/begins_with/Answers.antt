-- Another byte; or all of the word.
use Rattle.std.proofs.Common.{◌≡◌, length, sym, arith}
use Rattle.mv_operationtext.proofs.Front.{all_same, one_other, whole_word}
use Rattle.mv_operationtext.proofs.number.begins_with.Goals as goal

pub returns-then-text-count-clause-word : goal.returns-then-text-count-clause-word
returns-then-text-count-clause-word c =
    sym (one_other c.args.text.now c.args.word.now c.loop-count.count c.loop-count-test.true c.if-text-count.true)

pub returns-clause-word : goal.returns-clause-word
returns-clause-word c =
    let text = c.args.text.now in
    let word = c.args.word.now in
    let all : c.loop-count.count ≡ length word = omega arith in
    sym (all_same text word (whole_word text word c.loop-count.count all c.loop-count.invariant.same))
