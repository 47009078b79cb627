-- All of this holds at each moment of a history in which no task is lost.
use Rattle.mv_plan.proofs.Words.{◌≡◌, ℕ, zero, suc, ◌≤◌, List, [], ◌∷◌, ◌++◌, length, None, arith, common_steps, Entry}
use Rattle.mv_plan.proofs.Words.{IsNext, next, after_from, Setup, System, opening, JobData, spool_setup}
use Rattle.mv_machine.proofs.Lists.{all_front, all_back}
use Rattle.mv_plan.proofs.deck.Planned.{IsPlanned}
use Rattle.mv_plan.proofs.deck.Ends.{few_jobs}
use Rattle.mv_plan.proofs.deck.Setup.{facts}
use Rattle.mv_plan.proofs.points.Points.{At, entering_from, Dispatching, stage_at, Opening, errand}
use Rattle.mv_plan.proofs.walks.Walks.{Points, start_points, Move, WalkTo}
use Rattle.mv_plan.proofs.walks.Stands.{TasksStand, standing}
use Rattle.mv_plan.proofs.walks.Along.{NoneLost}
use Rattle.mv_plan.proofs.places.Moments.{Moment, walk_moments}
use Rattle.mv_plan.proofs.results.HandedOut.{dismissed_by}
use Rattle.mv_plan.proofs.results.EndsPosted.{Ends, ends_first, ends_next, end_moment}
use Rattle.mv_progress.specs.Progress.{IsNoEarlySettle, HasNoEarlySettle}
use Rattle.mv_progress.proofs.reached.Entered.{WereEntered, entered_next}
use Rattle.mv_progress.proofs.reached.Found.{AllFound, stage_all, found_next}
use Rattle.mv_progress.proofs.reached.Dismissed.{AreDismissed, IsGone, dismissed_next}
use Rattle.mv_progress.proofs.reached.Ended.{HaveEnds, ends_come}

-- ---- all together

pub record Reached (deck : List JobData) (initiators : ℕ) (s : System) (t : Points) (past : List Entry) : Type 0 where
  pub in_books : WereEntered (length deck) s t.reader
  pub dismissed : AreDismissed initiators s t
  pub ended : HaveEnds deck initiators s t past
  pub found : HasNoEarlySettle deck past → AllFound t.scheduler

pub reached_start : (c : Setup) (deck : List JobData) (initiators : ℕ)
    → Reached deck initiators (opening c) (start_points deck initiators) []
reached_start c deck initiators = record {
  in_books = entering (length deck);
  dismissed = λ i lt. (λ less. absurd (let z = none_dismissed deck initiators in omega arith), λ g. absurd (no_gone g));
  ended = λ j lt some. absurd (omega arith);
  found = λ p. stage_all (length deck) initiators (Dispatching 0 deck);
} where
  entering : (n : ℕ) → WereEntered n (opening c) (entering_from 0 n)
  entering zero = λ j lt. absurd (omega arith)
  entering (suc n) = λ j lt. absurd (omega arith)

  no_gone : IsGone None (At Opening) → ⊥
  no_gone g = grind (arith, common_steps)

  none_dismissed : (deck' : List JobData) (m : ℕ) → dismissed_by m (errand (stage_at (length deck) m (Dispatching 0 deck'))) ≡ 0
  none_dismissed x m = grind (arith, common_steps)

-- ---- along a history

module _ (deck : List JobData) (initiators : ℕ) (some : 1 ≤ initiators) (sound : IsPlanned deck initiators) where
  abbrev setup : Setup
  setup = spool_setup deck initiators

  abbrev Both : System → Points → List Entry → Type 0
  Both s t past = Ends setup deck initiators s t past × Reached deck initiators s t past

  reached_next : (s : System) (t u : Points) (past : List Entry) (e : Entry) → Moment setup deck initiators s t past
      → NoneLost initiators u → IsNext setup s e → Move deck initiators t e u → Both s t past
      → Reached deck initiators (next s e) u (past ++ e ∷ [])
  reached_next s t u past e now unlost nx m h =
      let stands : TasksStand deck initiators t = standing deck initiators now.kept t now.stand in
      record {
        in_books = entered_next deck initiators s t u e m stands.reader unlost.at_reader h.1.in_books;
        dismissed = dismissed_next setup deck initiators s t u e nx m stands now.rows now.none_lost unlost h.1.dismissed;
        ended = ends_come setup deck initiators sound s t u past e nx m (end_moment setup deck initiators s t past now h.0) unlost
            h.1.ended;
        found = λ p. found_next deck initiators t u e sound.jobs m stands (all_back (IsNoEarlySettle deck) past (e ∷ []) p).0
            (h.1.found (all_front (IsNoEarlySettle deck) past (e ∷ []) p));
      }

  -- so it holds at the end of each walk on which no task is lost
  pub reached : (es : List Entry) (u : Points) → WalkTo setup deck initiators (opening setup) (start_points deck initiators) es u
      → NoneLost initiators u → Reached deck initiators (after_from (opening setup) es) u es
  reached es u walk found = (walk_moments setup deck initiators (facts deck initiators some) sound.jobs (few_jobs deck initiators sound)
      Both
      (λ s t u past e now unlost nx m h. (
        ends_next setup deck initiators (facts deck initiators some) sound s t u past e now nx m h.0,
        reached_next s t u past e now unlost.none_lost nx m h,
      ))
      (ends_first setup deck initiators sound, reached_start setup deck initiators) es u walk found).1.1
