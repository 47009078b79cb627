use Rattle.std.proofs.Common.{◌+◌, ◌∷◌, [], length, ap, ◌∙◌, arith}
use Rattle.std.proofs.lemmas.List.{length-append}
use Rattle.mv_server.specs.Pool.{workers}
use Rattle.mv_server.proofs.Closing.{found_more}
use Rattle.mv_server.proofs.server.serve.Goals as goal

pub loop-r-preserved : goal.loop-r-preserved
loop-r-preserved g c =
    let since = c.loop-r.invariant in
    let call = c.await_answer-answer in
    let answers = c.loop-r.answers.items in
    let lt = c.loop-r-test.true in
    let few = call.ensures.kept.left in
    let left = since.left in
    let size = since.size in
    let more = c.push_reserved.ensures.items in
    let longer = ap length more ∙ length-append answers (call.result ∷ []) in record {
      back = record { ready = call.ensures.kept.ready; number = call.ensures.kept.number ∙ since.back.number };
      left = omega arith;
      within = omega arith;
      size = omega arith;
      room = (let r = since.room in let k = c.push_reserved.ensures.capacity in omega arith);
      finds = found_more call.new.task.log answers c.push_reserved.new.self.items call.result c.loop-r.r since.size more
          (λ r low. call.ensures.found (workers + r) _ (since.finds r low)) call.ensures.finds;
    }
