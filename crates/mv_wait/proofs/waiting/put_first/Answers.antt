use Rattle.std.proofs.Common.{sym, ap, ◌++◌, ◌∷◌, [], ◌∙◌, arith, length-set, get_or}
use Rattle.std.proofs.lemmas.List.{take_more, take_more_set}
use Rattle.mv_wait.proofs.waiting.put_first.Goals as goal

pub loop-p-preserved : goal.loop-p-preserved
loop-p-preserved c =
    let e = get_or c.args.ecbs.now c.loop-p.p 0 in
    let size = c.loop-p.invariant.size in
    let much = c.requires in
    let test = c.loop-p-test.true in record {
      size = length-set c.loop-p.places c.loop-p.p e ∙ size;
      first = take_more_set c.loop-p.places c.loop-p.p e (omega arith)
          ∙ (ap (λ xs. xs ++ e ∷ []) c.loop-p.invariant.first ∙ sym (take_more c.args.ecbs.now c.loop-p.p 0 test));
    }
