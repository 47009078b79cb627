-- What run_tasks and close say of a station is a round of its configuration. Used by run_round.
use Rattle.std.proofs.Common.{◌≡◌, ℕ, ◌<◌, ◌≤◌, List, length, get_or, refl, sym, ap, ◌∙◌, subst, arith}
use Rattle.std.specs.List.{AllByRecursion}
use Rattle.mv_wait.specs.Prelude.{Setup, Entry, BoardFace, CallerFace, AreInOrder, IsIn, Legal, after, events_limit}
use Rattle.mv_machine.specs.Prelude.{KeepsBudgets}
use Rattle.mv_board.specs.Faces.{AreHeld}
use Rattle.mv_rounds.specs.Round.{CanRun, IsRound}

pub closed_round : {W Room : Type 0} (can_start : W → BoardFace → ℕ → Room → Type 0)
    (has_done : W → BoardFace → ℕ → Room → CallerFace → Room → Type 0) (b : BoardFace) (c : Setup) (work : W) (old rooms : List Room)
    (tasks : List CallerFace) (volumes : List ℕ) (es journal : List Entry) → b.config ≡ c → journal ≡ es → CanRun can_start c work old
    → AreInOrder b 0 tasks → length tasks ≡ b.config.callers → length rooms ≡ length old
    → ((k : ℕ) (s : Room) (t : CallerFace) → k < length old → has_done work b k (get_or old k s) (get_or tasks k t) (get_or rooms k s))
    → Legal b.config es → KeepsBudgets b.config es → length es ≤ events_limit → AllByRecursion (IsIn b.config es) tasks
    → AreHeld b.config (after b.config es) volumes → IsRound can_start has_done c work rooms volumes journal
closed_round {W} {Room} can_start has_done b c work old rooms tasks volumes es journal at listed can order all count done legal budgets few
    callers held =
    let Is : Setup → List Entry → Type 0 = λ c es. IsRound can_start has_done c work rooms volumes es in
    let same : b.config.callers ≡ c.callers = ap (λ (s : Setup). s.callers) at in
    let size : length old ≡ b.config.callers = can.count ∙ sym same in
    subst (λ c. Is c journal) at (subst (λ xs. Is b.config xs) (sym listed) (record {
      station = b;
      config = refl;
      tasks = tasks;
      order = order;
      all = all;
      count = count ∙ size;
      done = λ k room task lt.
          let low : k < length old = omega arith in
          (get_or old k room, can.start b k room at low, done k room task low);
      legal = legal;
      budgets = budgets;
      few = few;
      callers = callers;
      held = held;
    }))
