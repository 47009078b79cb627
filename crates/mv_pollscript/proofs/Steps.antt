-- One more call of a task, and the beginning of one that waits.
use Rattle.std.proofs.Common.{◌≡◌, ℕ, ◌+◌, ◌≤◌, List, [], ◌∷◌, ◌++◌, length, take, drop, Option, Some, refl, sym, ap, ◌∙◌}
use Rattle.std.proofs.Common.{subst, arith, length-append}
use Rattle.std.specs.Prelude.{count_by, slice_get}
use Rattle.mv_board.specs.Faces.{BoardFace}
use Rattle.mv_calls.specs.declared.table.Table.{Table}
use Rattle.mv_latchset.specs.declared.token.LatchToken.{LatchToken}
use Rattle.mv_script.specs.Costs.{costs_of}
use Rattle.mv_script.specs.Script.{is_obtain}
use Rattle.mv_script.specs.declared.answer.Answer.{Answer}
use Rattle.mv_scriptline.specs.declared.call.Call.{Call}
use Rattle.mv_runscript.specs.Making.{AreOfLatches, MakesCall, MakesCalls}
use Rattle.mv_runscript.proofs.Steps.{call_keeps_board, call_rests, call_spends, cost_more, counted_more, path_more}
use Rattle.mv_pollscript.specs.Task.{IsTaskAt, Stands}
use Rattle.mv_pollscript.specs.declared.task.ScriptTask.{ScriptTask}
use Rattle.mv_pollscript.specs.declared.task.Stage.TheVariants as stage
use Rattle.mv_pollscript.proofs.Places.{at_place}

module _ (b : BoardFace) (table : Option Table) (calls : List Call) (k : ℕ) (p q : ScriptTask) (at : IsTaskAt b table calls k p) where
  -- it has made its next call
  pub task_on : (d : Call) (a : Answer) → slice_get calls (length p.answers.items) ≡ Some d
      → MakesCall b.config table d a p.requests.items q.requests.items at.between q.task → AreOfLatches q.requests.items
      → length q.requests.items ≡ length p.requests.items + count_by is_obtain (d ∷ [])
      → q.answers.items ≡ p.answers.items ++ a ∷ [] → q.stage ≡ stage.Between → IsTaskAt b table calls k q
  task_on d a next makes latches count answers between =
      let c = b.config in
      let i = length p.answers.items in
      let old = p.requests.items in
      let new = q.requests.items in
      let place = at_place calls i d d next in
      let lt = place.0 in
      let size : length q.answers.items ≡ i + 1 = ap length answers ∙ length-append p.answers.items (a ∷ []) in
      let spends = call_spends c table d a old new at.between q.task makes in
      let cost = cost_more calls i d lt place.1 c in
      let left = at.left in
      let spared : costs_of c (drop (i + 1) calls) ≤ q.task.left = omega arith in record {
        first = at.first;
        fresh = at.fresh;
        between = q.task;
        makes = subst (λ n. MakesCalls c table (take n calls) q.answers.items [] new at.first q.task) (sym size)
            (subst (λ (given : List Answer). MakesCalls c table (take (i + 1) calls) given [] new at.first q.task) (sym answers)
            (path_more calls i d lt place.1 c table p.answers.items a [] old new at.first at.between q.task at.makes makes));
        few = omega arith;
        requests = latches;
        count = count ∙ ap (λ n. n + count_by is_obtain (d ∷ [])) at.count ∙ sym (counted_more calls i d lt place.1 is_obtain)
            ∙ ap (λ n. count_by is_obtain (take n calls)) (sym size);
        board = call_keeps_board c table d a old new at.between q.task makes b at.board;
        rest = call_rests c table d a old new at.between q.task makes;
        left = subst (λ n. costs_of c (drop n calls) ≤ q.task.left) (sym size) spared;
        stands = subst (Stands c (slice_get calls (length q.answers.items)) q.task q.task) (sym between) refl;
      }

  -- it is where it was, but for what it did since its last call
  pub task_stands : q.answers.items ≡ p.answers.items → q.requests.items ≡ p.requests.items
      → Stands b.config (slice_get calls (length p.answers.items)) at.between q.task q.stage → IsTaskAt b table calls k q
  task_stands answers requests stands =
      let c = b.config in record {
        first = at.first;
        fresh = at.fresh;
        between = at.between;
        makes = subst (λ (rs : List (Option LatchToken)).
            MakesCalls c table (take (length q.answers.items) calls) q.answers.items [] rs at.first at.between) (sym requests)
            (subst (λ (given : List Answer).
            MakesCalls c table (take (length given) calls) given [] p.requests.items at.first at.between) (sym answers) at.makes);
        few = subst (λ (given : List Answer). length given ≤ length calls) (sym answers) at.few;
        requests = subst AreOfLatches (sym requests) at.requests;
        count = ap (λ (rs : List (Option LatchToken)). length rs) requests ∙ at.count
            ∙ ap (λ (given : List Answer). count_by is_obtain (take (length given) calls)) (sym answers);
        board = at.board;
        rest = at.rest;
        left = subst (λ (given : List Answer). costs_of c (drop (length given) calls) ≤ at.between.left) (sym answers) at.left;
        stands = subst (λ (given : List Answer). Stands c (slice_get calls (length given)) at.between q.task q.stage) (sym answers)
            stands;
      }
