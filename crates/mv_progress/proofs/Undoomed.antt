-- The laws. Of a history that follows the plan these are equivalent: it has no early settle; it can be continued to a run; and what is left
-- of each task's program can finish.
use Rattle.mv_plan.proofs.Words.{◌≡◌, ℕ, ◌≤◌, List, [], ◌∷◌, ◌++◌, ◌⊎◌, inl, inr, subst, Entry, after, JobData, Follows, IsRun, all_push}
use Rattle.mv_plan.proofs.Words.{spool_setup, task_program}
use Rattle.std.proofs.Common.{◌↔◌}
use Rattle.mv_calls.proofs.Hearing.{heard_from}
use Rattle.mv_plan.proofs.deck.Planned.{IsPlanned}
use Rattle.mv_progress.specs.Progress.{HasNoDoomedTask, HasNextEvent, CannotDeadlock, ExtendsToARun, IsNoEarlySettle, HasNoEarlySettle}
use Rattle.mv_progress.proofs.Longer.{prefix_follows, done_later}
use Rattle.mv_progress.proofs.NextEvents.{IsTimely, none_follow}
use Rattle.mv_progress.proofs.Results.{goes_on, reaches_a_run}
use Rattle.mv_progress.proofs.EarlySettles.{undoomed_is_timely}

module _ (deck : List JobData) (initiators : ℕ) where
  -- no prefix of a run has a doomed task
  pub prefix_is_undoomed : (es rest : List Entry) → IsRun deck initiators (es ++ rest) → HasNoDoomedTask deck initiators es
  prefix_is_undoomed es rest run = record {
    follows = prefix_follows (spool_setup deck initiators) (task_program deck initiators) es rest run.follow;
    finish = λ k lt. let d = run.done k lt in (
      heard_from (after (spool_setup deck initiators) es) k rest,
      d.0,
      done_later (spool_setup deck initiators) (task_program deck initiators) es rest k d.0 run.follow d.1,
    );
  }

  module _ (some : 1 ≤ initiators) (sound : IsPlanned deck initiators) where
    timely_undoomed : (es : List Entry) → IsTimely deck initiators es → HasNoDoomedTask deck initiators es
    timely_undoomed es w = let r = reaches_a_run deck initiators some sound es w in prefix_is_undoomed es r.rest r.run

    undoomed_timely : (es : List Entry) → HasNoDoomedTask deck initiators es → IsTimely deck initiators es
    undoomed_timely es w = record { follows = w.follows; settles = undoomed_is_timely deck initiators some sound es w }

    pub undoomed_continues : (es : List Entry) → HasNoDoomedTask deck initiators es
        → IsRun deck initiators es ⊎ HasNextEvent deck initiators es
    undoomed_continues es w = elim (goes_on deck initiators some sound es (undoomed_timely es w)) [
      | inl run ↦ inl run
      | inr g ↦ inr (g.0, timely_undoomed (es ++ g.0 ∷ []) g.1)
    ]

    -- at each moment of a run
    pub run_cannot_deadlock : (es before later : List Entry) → IsRun deck initiators es → es ≡ before ++ later
        → CannotDeadlock deck initiators before
    run_cannot_deadlock es before later run split =
        let w = prefix_is_undoomed before later (subst (λ l. IsRun deck initiators l) split run) in
        record { undoomed = w; next = undoomed_continues before w }

    pub any_event : (es : List Entry) (e : Entry) → HasNoDoomedTask deck initiators es → Follows deck initiators (es ++ e ∷ [])
        → IsNoEarlySettle deck e → HasNoDoomedTask deck initiators (es ++ e ∷ [])
    any_event es e w follows timely = timely_undoomed (es ++ e ∷ []) (record {
      follows = follows;
      settles = all_push (IsNoEarlySettle deck) es e (undoomed_timely es w).settles timely;
    })

    pub undoomed_extends : (es : List Entry) → HasNoDoomedTask deck initiators es → ExtendsToARun deck initiators es
    undoomed_extends es w = reaches_a_run deck initiators some sound es (undoomed_timely es w)

    pub undoomed_iff_timely : (es : List Entry) → Follows deck initiators es → HasNoDoomedTask deck initiators es ↔ HasNoEarlySettle deck es
    undoomed_iff_timely es f = (
      (λ w. (undoomed_timely es w).settles),
      (λ p. timely_undoomed es (record { follows = f; settles = p })),
    )

    pub has_a_run : (es : List Entry) × IsRun deck initiators es
    has_a_run =
        let r = reaches_a_run deck initiators some sound []
        (record { follows = none_follow deck initiators some sound; settles = tt }) in (r.rest, r.run)
