-- A timely history is a run, or some task can make its next event. So it can be continued, event by event, until it is a run; since no task
-- passes its budget, that takes at most as many events as the deck weighs.
use Rattle.mv_plan.proofs.Words.{◌≡◌, ℕ, zero, suc, ◌+◌, ◌^◌, ◌<◌, ◌≤◌, List, [], ◌∷◌, ◌++◌, length, sum, slice_index, ◌⊎◌, inl, inr, refl}
use Rattle.mv_plan.proofs.Words.{sym, ap, ◌∙◌, subst, append_assoc, append-nil, arith, cases_lt, length-append, Entry, Setup, System, after}
use Rattle.mv_plan.proofs.Words.{of, JobData, spool_setup, task_budgets, weight, Follows, IsRun, all_push, common_steps, None, Some, Option}
use Rattle.mv_plan.proofs.Words.{WaitSlot}
use Rattle.mv_machine.specs.Merge.{entry_count}
use Rattle.mv_machine.specs.Parts.{parts_from}
use Rattle.mv_machine.proofs.Allowed.{lists_stay}
use Rattle.mv_machine.proofs.Budgets.{no_high_generation}
use Rattle.mv_machine.proofs.Merged.{total_parts}
use Rattle.mv_plan.proofs.budgets.{within_budgets}
use Rattle.mv_plan.proofs.deck.Planned.{IsPlanned}
use Rattle.mv_plan.proofs.deck.Ends.{budgets_sum}
use Rattle.mv_plan.proofs.deck.Setup.{length_budgets}
use Rattle.mv_plan.proofs.points.Points.{Point, At, Finished, TooSoon, Astray, ReaderAt, SchedulerAt, WriterAt, Settling, Keeping}
use Rattle.mv_plan.proofs.points.Points.{IsNotLost, next_job, errand}
use Rattle.mv_plan.proofs.points.Programs.{IsReaderAt, IsWriterAt}
use Rattle.mv_plan.proofs.points.Scheduler.{IsSchedulerAt}
use Rattle.mv_plan.proofs.walks.Walks.{Points, all_tasks}
use Rattle.mv_plan.proofs.walks.Histories.{Stood, stood, AreFinished}
use Rattle.mv_plan.proofs.ends.Blocks.{IsComplete}
use Rattle.mv_plan.proofs.results.NoneWrong.{Safe, following_is_safe}
use Rattle.mv_plan.proofs.results.EndsPosted.{Ends}
use Rattle.mv_plan.proofs.results.HandedOut.{dismissed_by}
use Rattle.mv_plan.proofs.serving.{Served}
use Rattle.mv_progress.specs.Progress.{IsNoEarlySettle, ExtendsToARun}
use Rattle.mv_progress.proofs.NextEvents.{IsTimely, HasTimelyNext, PossibleEvent, reader_event, scheduler_event, initiator_event}
use Rattle.mv_progress.proofs.NextEvents.{writer_event, event_follows, finished_run}
use Rattle.mv_progress.proofs.reached.{Reached, reached, AllFound, IsLeaving}
use Rattle.mv_progress.proofs.Admitted.{reader_admitted, scheduler_admitted, writer_admitted}
use Rattle.mv_progress.proofs.InitiatorStatus as status_of
use Rattle.mv_progress.proofs.InitiatorStatus.{Status, CanMove, IsQueued, IsResting, enabled, queued, rests, ended}
use Rattle.mv_progress.proofs.LatchWaiters.{queued_leads}
use Rattle.mv_progress.proofs.SchedulerAndWriter.{IsStill, settles_complete, job_ended, reader_can, scheduler_can, writer_can}

-- ---- no history is longer than the weight

parts_few : (k m : ℕ) (es : List Entry) (budgets : List ℕ) → ((i : ℕ) → i < m → length (of (k + i) es) ≤ slice_index budgets i)
    → length budgets ≡ m → entry_count (parts_from k m es) ≤ sum budgets
parts_few k zero es budgets f e = omega arith
parts_few k (suc m) es [] f e = absurd (omega arith)
parts_few k (suc m) es (b ∷ budgets) f e =
    let a : length (of k es) ≤ b = subst (λ z. length (of z es) ≤ b) (let q : k + 0 ≡ k = omega arith in q) (f 0 (omega arith)) in
    let ih = parts_few (suc k) m es budgets (λ i lt. subst (λ z. length (of z es) ≤ slice_index budgets i)
    (let q : k + suc i ≡ suc k + i = omega arith in q) (f (suc i) (omega arith))) (omega arith) in
    let whole : sum (b ∷ budgets) ≡ b + sum budgets = grind (arith, common_steps) in omega arith

pub no_longer : (deck : List JobData) (initiators : ℕ) → 1 ≤ initiators → IsPlanned deck initiators → (es : List Entry)
    → Follows deck initiators es → length es ≤ weight deck initiators
no_longer deck initiators some sound es f =
    let made = (within_budgets deck initiators some sound es f).made in
    let total = total_parts (spool_setup deck initiators) es f.legal in
    let few = parts_few 0 (initiators + 3) es (task_budgets deck initiators)
    (λ i lt. subst (λ z. length (of z es) ≤ slice_index (task_budgets deck initiators) i) (let q : i ≡ 0 + i = omega arith in q)
    (made i lt))
    (length_budgets deck initiators) in
    let whole = budgets_sum deck initiators in omega arith

-- ---- one event more

-- if each number gives G or its R, then G holds or all R
either_all : (G : Type 0) (R : ℕ → Type 0) (b : ℕ) → ((i : ℕ) → i < b → G ⊎ R i) → G ⊎ ((i : ℕ) → i < b → R i)
either_all G R zero f = inr (λ i lt. absurd (omega arith))
either_all G R (suc b) f = join (f b (omega arith)) (either_all G R b (λ i lt. f i (omega arith))) where
  join : G ⊎ R b → G ⊎ ((i : ℕ) → i < b → R i) → G ⊎ ((i : ℕ) → i < suc b → R i)
  join (inl g) w = inl g
  join (inr r) (inl g) = inl g
  join (inr r) (inr all) = inr (λ i lt. elim (cases_lt i b) [
    | inl less ↦ all i less
    | inr ge ↦ subst R (let e : b ≡ i = omega arith in e) r
  ])

module _ (deck : List JobData) (initiators : ℕ) (some : 1 ≤ initiators) (sound : IsPlanned deck initiators) (es : List Entry)
    (timely : IsTimely deck initiators es) where
  abbrev n : ℕ
  n = length deck

  abbrev c : Setup
  c = spool_setup deck initiators

  abbrev st : Stood deck initiators some sound es
  st = stood deck initiators some sound es timely.follows

  abbrev s : System
  s = after c es

  abbrev t : Points
  t = st.points

  safe : Safe c deck initiators s t es
  safe = (following_is_safe deck initiators some sound es timely.follows st).0

  ends : Ends c deck initiators s t es
  ends = (following_is_safe deck initiators some sound es timely.follows st).1.0

  served : Served deck initiators s t es
  served = (following_is_safe deck initiators some sound es timely.follows st).1.1

  got : Reached deck initiators s t es
  got = reached deck initiators some sound es t st.walk safe.now.none_lost

  low : (m : ℕ) → (s.element m).state.generation < 2 ^ 30
  low m =
      let short = no_longer deck initiators some sound es timely.follows in
      let light = sound.light in
      let small = no_high_generation c es m timely.follows.legal (omega arith) in omega arith

  lists : length s.latches.state ≡ 8
  lists = lists_stay c es timely.follows.legal

  abbrev Next : Type 0
  Next = PossibleEvent c deck initiators s t

  status : (i : ℕ) → i < initiators → Status c deck initiators s t i
  status i lt = status_of.status deck initiators some sound s t es low lists safe.now served i lt

  it_moves : (i : ℕ) → i < initiators → CanMove c deck initiators s t i → Next
  it_moves i lt g = initiator_event c deck initiators s t safe.now.none_lost i g.0 lt g.1 g.2

  abbrev Still : ℕ → Type 0
  Still i = IsStill deck initiators some sound s t es safe.now served ends.posted got i

  moves_or_still : (i : ℕ) → i < initiators → Next ⊎ Still i
  moves_or_still i lt = by (status i lt) where
    by : Status c deck initiators s t i → Next ⊎ Still i
    by (enabled g) = inl (it_moves i lt g)
    by (queued q) =
        let r = queued_leads deck initiators s t es safe.now served status 8 i lt q (omega arith) in inl (it_moves r.0 r.1 r.2)
    by (rests r) = inr (inl r)
    by (ended a at) = inr (inr (a, at))

  module _ (all : (i : ℕ) → i < initiators → Still i) where
    -- the reader
    read : Next ⊎ ((a : List ℕ) × (t.reader ≡ Finished a))
    read = by t.reader refl where
      by : (p : Point ReaderAt) → t.reader ≡ p → Next ⊎ ((a : List ℕ) × (t.reader ≡ Finished a))
      by (At x) at = inl (reader_event c deck initiators s t safe.now.none_lost x at
          (reader_can deck initiators s x (reader_admitted deck initiators some sound s x
          (subst (λ p. IsReaderAt n p) at safe.now.stand.at_reader))))
      by (Finished a) at = inr (a, at)
      by TooSoon at = absurd (subst (λ p. IsNotLost p) at safe.now.none_lost.at_reader)
      by Astray at = absurd (subst (λ p. IsNotLost p) at safe.now.none_lost.at_reader)

    -- the scheduler
    scheduled : ((a : List ℕ) × (t.reader ≡ Finished a)) → Next ⊎ ((a : List ℕ) × (t.scheduler ≡ Finished a))
    scheduled over = by t.scheduler refl where
      by : (p : Point SchedulerAt) → t.scheduler ≡ p → Next ⊎ ((a : List ℕ) × (t.scheduler ≡ Finished a))
      by (At x) at =
          let stands = subst (IsSchedulerAt deck initiators) at safe.now.stand.at_scheduler.0 in
          inl (scheduler_event c deck initiators s t safe.now.none_lost x at
          (scheduler_can deck initiators s x (scheduler_admitted deck initiators some sound s x stands) stands
          (subst (λ p. AllFound p) at (got.found timely.settles))
          (λ a e todo found is. settles_complete deck initiators some sound s t es safe.now served ends.posted got all over a e todo found
          (at ∙ ap (λ z. At z) is) (subst (λ z. IsSchedulerAt deck initiators (At z)) is stands))))
      by (Finished a) at = inr (a, at)
      by TooSoon at = absurd (subst (λ p. IsNotLost p) at safe.now.none_lost.at_scheduler)
      by Astray at = absurd (subst (λ p. IsNotLost p) at safe.now.none_lost.at_scheduler)

    module _ (over : (a : List ℕ) × (t.scheduler ≡ Finished a)) where
      -- the writer
      written : Next ⊎ ((a : List ℕ) × (t.writer ≡ Finished a))
      written = by t.writer refl where
        there : (x : WriterAt) → IsWriterAt n (At x) → (j more e : ℕ) (ends todo : List ℕ) (found : List WaitSlot)
            → x ≡ Keeping j more ends (Settling e todo found) → IsComplete s e
        there x stands j more e kept todo found is =
            let at = subst (λ z. IsWriterAt n (At z)) is stands in
            let count : next_job n t.scheduler ≡ n = ap (next_job n) over.1 in
            let whole = at.0 in
            subst (IsComplete s) (sym at.1)
            (job_ended deck initiators some sound s t es safe.now served ends.posted got all j (omega arith) (omega arith))

        by : (p : Point WriterAt) → t.writer ≡ p → Next ⊎ ((a : List ℕ) × (t.writer ≡ Finished a))
        by (At x) at =
            let stands = subst (λ p. IsWriterAt n p) at safe.now.stand.at_writer in
            inl (writer_event c deck initiators s t safe.now.none_lost x at
            (writer_can deck initiators s x (writer_admitted deck initiators some sound s x stands) stands (there x stands)))
        by (Finished a) at = inr (a, at)
        by TooSoon at = absurd (subst (λ p. IsNotLost p) at safe.now.none_lost.at_writer)
        by Astray at = absurd (subst (λ p. IsNotLost p) at safe.now.none_lost.at_writer)

      -- each initiator was dismissed, and has ended
      all_ended : (i : ℕ) → i < initiators → (a : List ℕ) × (t.initiators i ≡ Finished a)
      all_ended i lt = by (all i lt) where
        by : Still i → (a : List ℕ) × (t.initiators i ≡ Finished a)
        by (inr f) = f
        by (inl r) =
            let count : dismissed_by initiators (errand t.scheduler) ≡ initiators = ap (λ p. dismissed_by initiators (errand p)) over.1 in
            absurd (elim ((got.dismissed i lt).0 (omega arith)) [
              | inl e ↦ none_is (sym r.bare ∙ e)
              | inr l ↦ subst (λ p. IsLeaving p) r.at l
            ]) where
              none_is : ◌≡◌ {A = Option ℕ} None (Some 0) → ⊥
              none_is e = cc e

  -- some task can make its next event, or all have ended
  next_or_ended : Next ⊎ AreFinished initiators t
  next_or_ended = by (either_all Next Still initiators moves_or_still) where
    ended_all : ((a : List ℕ) × (t.reader ≡ Finished a)) → (w : (a : List ℕ) × (t.scheduler ≡ Finished a))
        → ((i : ℕ) → i < initiators → Still i) → Next ⊎ ((a : List ℕ) × (t.writer ≡ Finished a)) → Next ⊎ AreFinished initiators t
    ended_all r w all (inl o) = inl o
    ended_all r w all (inr z) = inr (all_tasks initiators _ t r w (all_ended all w) z)

    by_scheduler : ((a : List ℕ) × (t.reader ≡ Finished a)) → ((i : ℕ) → i < initiators → Still i)
        → Next ⊎ ((a : List ℕ) × (t.scheduler ≡ Finished a)) → Next ⊎ AreFinished initiators t
    by_scheduler r all (inl o) = inl o
    by_scheduler r all (inr w) = ended_all r w all (written all w)

    by_reader : ((i : ℕ) → i < initiators → Still i) → Next ⊎ ((a : List ℕ) × (t.reader ≡ Finished a)) → Next ⊎ AreFinished initiators t
    by_reader all (inl o) = inl o
    by_reader all (inr r) = by_scheduler r all (scheduled all r)

    by : Next ⊎ ((i : ℕ) → i < initiators → Still i) → Next ⊎ AreFinished initiators t
    by (inl o) = inl o
    by (inr all) = by_reader all (read all)

  pub goes_on : IsRun deck initiators es ⊎ HasTimelyNext deck initiators es
  goes_on = elim next_or_ended [
    | inl o ↦ inr (
      o.entry,
      record {
        follows = event_follows deck initiators some sound es timely.follows safe.now.fits o;
        settles = all_push (IsNoEarlySettle deck) es o.entry timely.settles o.settles;
      },
    )
    | inr w ↦ inl (finished_run deck initiators some sound es timely.follows w)
  ]

-- ---- and so on to a run

-- if each history of this kind follows, and is a run or has an entry more with which it is of this kind, each can be continued to a run
pub until_run : (deck : List JobData) (initiators : ℕ) → 1 ≤ initiators → IsPlanned deck initiators → (P : List Entry → Type 0)
    → ((es : List Entry) → P es → Follows deck initiators es)
    → ((es : List Entry) → P es → IsRun deck initiators es ⊎ ((e : Entry) × P (es ++ e ∷ [])))
    → (fuel : ℕ) (es : List Entry) → P es → weight deck initiators ≤ length es + fuel
    → (rest : List Entry) × IsRun deck initiators (es ++ rest)
until_run deck initiators some sound P follows step zero es w le = elim (step es w) [
  | inl run ↦ ([], subst (λ l. IsRun deck initiators l) (sym (append-nil es)) run)
  | inr g ↦
      let short = no_longer deck initiators some sound (es ++ g.0 ∷ []) (follows (es ++ g.0 ∷ []) g.1) in
      let more = length-append es (g.0 ∷ []) in absurd (omega arith)
]
until_run deck initiators some sound P follows step (suc fuel) es w le =
    by (step es w)
    (λ e v. until_run deck initiators some sound P follows step fuel (es ++ e ∷ []) v
    (let more = length-append es (e ∷ []) in omega arith)) where
      by : IsRun deck initiators es ⊎ ((e : Entry) × P (es ++ e ∷ []))
          → ((e : Entry) → P (es ++ e ∷ []) → (rest : List Entry) × IsRun deck initiators ((es ++ e ∷ []) ++ rest))
          → (rest : List Entry) × IsRun deck initiators (es ++ rest)
      by (inl run) more = ([], subst (λ l. IsRun deck initiators l) (sym (append-nil es)) run)
      by (inr (e, v)) more =
          let r = more e v in (e ∷ r.0, subst (λ l. IsRun deck initiators l) (append_assoc es (e ∷ []) r.0) r.1)

pub reaches_a_run : (deck : List JobData) (initiators : ℕ) → 1 ≤ initiators → IsPlanned deck initiators → (es : List Entry)
    → IsTimely deck initiators es → ExtendsToARun deck initiators es
reaches_a_run deck initiators some sound es timely =
    let r = until_run deck initiators some sound (IsTimely deck initiators) (λ es w. w.follows)
    (λ es w. goes_on deck initiators some sound es w) (weight deck initiators) es timely (omega arith) in record {
      short = no_longer deck initiators some sound es timely.follows;
      rest = r.0;
      run = r.1;
    }
