use Rattle.std.proofs.Common.{◌≡◌, ◌-◌, ◌*◌, ◌≤◌, List, ℕ, [], length, get_or, subst, sym, ap, ◌∙◌, Ok, refl, arith}
use Rattle.std.specs.List.{range_with_len}
use Rattle.mv_plan.specs.SpoolSetup.{task_budgets, writer}
use Rattle.mv_plan.specs.SpoolTasks.{ends_kept, writing}
use Rattle.mv_work.specs.Spool.{IsSpool, SpoolFace}
use Rattle.mv_work.specs.Writing.{ends_from}
use Rattle.mv_work.proofs.Decks.{writer_budget}
use Rattle.mv_work.proofs.Going.{writer_come}
use Rattle.mv_work.proofs.Spools.{fresh_rests}
use Rattle.mv_work.proofs.Waits.{asks_first, comes_as}
use Rattle.mv_work.proofs.spool.Spool.begin_writer.Goals as goal

-- the ends from the first on are all
ends_first : (s : SpoolFace) → ends_from s [] 0 ≡ writing s.board.config (length s.jobs)
ends_first s =
    ap (λ m. ends_kept s.board.config (length s.jobs) [] (range_with_len 0 m))
    (let e : length s.jobs - 0 ≡ length s.jobs = omega arith in e)

pub returns : goal.returns
returns g c t ends fresh none room =
    let s = c.args.self.now in
    let spool = subst IsSpool c.self.view_is c.self.invariant in
    let empty = ap (λ (es : List ℕ). length es) none in
    let budget = writer_budget s.jobs s.initiators (writer s.initiators) refl in
    let few : 2 * (length s.jobs - 0) ≤ get_or (task_budgets s.jobs s.initiators) (writer s.initiators) 0 = omega arith in
    let rests = fresh_rests spool (writer s.initiators) (2 * (length s.jobs - 0)) t fresh few in
    writer_come s t t c.keep_stage.result ends c.args.job.now c.keep_stage.new.stage (Ok c.write-next.result) c.keep_stage.ensures.stage
    c.keep_stage.ensures.need fresh.number
    (comes_as (sym (ends_first s) ∙ ap (λ es. ends_from s es 0) (sym none)) (asks_first (c.write-next.ensures ends (omega arith)) rests))
