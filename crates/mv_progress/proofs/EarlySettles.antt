-- No run has an early settle: after one, the scheduler can only end its wait too soon, and does not finish. So a history with an early
-- settle is no prefix of a run, and its scheduler is doomed.
use Rattle.mv_plan.proofs.Words.{◌≡◌, ℕ, zero, suc, ◌+◌, ◌<◌, ◌≤◌, if◌then◌else◌, List, [], ◌∷◌, ◌++◌, length, map, None, ◌⊎◌}
use Rattle.mv_plan.proofs.Words.{inl, inr, refl, sym, ap, ◌∙◌, subst, arith, common_steps, AllByRecursion, all_push, length-append}
use Rattle.mv_plan.proofs.Words.{length-map, range_with_len, complete_count, Entry, Reply, EcbReply, JobData, After, idle, entered}
use Rattle.mv_plan.proofs.Words.{end_for_scheduler, ends_of, spool_setup, IsRun, scheduler, initiator, writer, Program, Heard, Done, Early}
use Rattle.mv_plan.proofs.Words.{Wrong, asks, Kept, Setup, WaitSlot}
use Rattle.std.proofs.lemmas.Bool.{lt-leb}
use Rattle.mv_plan.proofs.deck.Planned.{IsPlanned}
use Rattle.mv_plan.proofs.deck.Ends.{few_jobs}
use Rattle.mv_plan.proofs.deck.Setup.{facts}
use Rattle.mv_plan.proofs.points.Points.{Point, At, TooSoon, Settling, ForEntry, ForEnds, ForIdle, ToDismiss, SchedulerAt, Waits}
use Rattle.mv_plan.proofs.points.Points.{scheduler_asks, scheduler_goes, settling_from, found_at, Entering, IsNotLost, Finished, Astray}
use Rattle.mv_plan.proofs.points.Programs.{IsWriterAt, program_at, scheduler_program, keeps}
use Rattle.mv_plan.proofs.points.Scheduler.{IsSchedulerAt, later_below, SchedulerStands, scheduler_stands, scheduler_says, scheduler_hears}
use Rattle.mv_plan.proofs.walks.Walks.{Points, Move, reads, schedules, initiates, writes, entry_of, entry_is}
use Rattle.mv_plan.proofs.walks.Histories.{Stood, stood, run_finished, AreFinished}
use Rattle.mv_plan.proofs.walks.Stands.{TasksStand, standing}
use Rattle.mv_plan.proofs.walks.Along.{none_lost_at_end, NoneLost}
use Rattle.mv_plan.proofs.standing.Finds.{In, in_middle, in_all}
use Rattle.mv_plan.proofs.places.Moments.{walk_moments}
use Rattle.mv_calls.specs.Program.{left}
use Rattle.mv_progress.specs.Progress.{IsNoEarlySettle, HasNoEarlySettle, HasNoDoomedTask}
use Rattle.mv_progress.proofs.Longer.{early_stays}
use Rattle.mv_plan.proofs.results.NoneWrong.{following_is_safe}
use Rattle.mv_progress.proofs.SchedulerAndWriter.{writer_settles}
use Rattle.mv_progress.proofs.InitiatorStatus.{no_early_settle}

-- the scheduler has settled an end open and has others left to settle
abbrev pub IsGivenUp : Point SchedulerAt → Type 0
IsGivenUp (At (Waits (ForEnds j job jobs) (Settling e todo found))) = complete_count found < length found
IsGivenUp p = ⊥

count_le : (found : List WaitSlot) → complete_count found ≤ length found
count_le [] = omega arith
count_le (WaitSlot.Complete code ∷ found) = let ih = count_le found in omega arith
count_le (WaitSlot.Open ∷ found) = let ih = count_le found in omega arith

count_slot : (found : List WaitSlot) (slot : WaitSlot) → complete_count (found ++ slot ∷ []) ≤ complete_count found + 1
count_slot [] WaitSlot.Open = omega arith
count_slot [] (WaitSlot.Complete code) = omega arith
count_slot (WaitSlot.Complete code ∷ found) slot = let ih = count_slot found slot in omega arith
count_slot (WaitSlot.Open ∷ found) slot = count_slot found slot

count_none : (found : List WaitSlot) → complete_count (found ++ WaitSlot.Open ∷ []) ≡ complete_count found
count_none [] = refl
count_none (WaitSlot.Complete code ∷ found) = let ih = count_none found in omega arith
count_none (WaitSlot.Open ∷ found) = count_none found

-- it settles another block, or its wait ends too soon
settled_up : (n j : ℕ) (job : JobData) (jobs : List JobData) (past : List ℕ) (e : ℕ) (todo : List ℕ) (found : List WaitSlot)
    (slot : WaitSlot)
    → past ++ e ∷ todo ≡ ends_of n job.after → length past ≡ length found
    → complete_count (found ++ slot ∷ []) < length (found ++ slot ∷ [])
    → IsNotLost (settling_from n (ForEnds j job jobs) todo (found ++ slot ∷ []))
    → IsGivenUp (settling_from n (ForEnds j job jobs) todo (found ++ slot ∷ []))
settled_up n j job jobs past e (b ∷ todo) found slot is l lt f = lt
settled_up n j job jobs past e [] found slot is l lt f =
    let a : length past + 1 ≡ length (ends_of n job.after) = sym (length-append past (e ∷ [])) ∙ ap (λ z. length z) is in
    let b : length (ends_of n job.after) ≡ length job.after = length-map job.after (λ (p : After). end_for_scheduler n p.job) in
    let d = length-append found (slot ∷ []) in
    absurd (subst (λ b. IsNotLost (if b then found_at n (ForEnds j job jobs) (found ++ slot ∷ []) else TooSoon))
    (lt-leb (length job.after) (complete_count (found ++ slot ∷ [])) (omega arith)) f)

module _ (deck : List JobData) (initiators : ℕ) where
  abbrev n : ℕ
  n = length deck

  up_goes : (x : SchedulerAt) (r : Reply) → IsSchedulerAt deck initiators (At x) → IsGivenUp (At x)
      → IsNotLost (scheduler_goes n initiators x r) → IsGivenUp (scheduler_goes n initiators x r)
  up_goes (Waits (ForEnds j job jobs) (Settling e todo found)) (Reply.Ecb (EcbReply.Complete code)) st g f =
      settled_up n j job jobs st.1.0 e todo found (WaitSlot.Complete code) st.1.1 st.1.2
      (let a = count_slot found (WaitSlot.Complete code) in let b = length-append found (WaitSlot.Complete code ∷ []) in omega arith) f
  up_goes (Waits (ForEnds j job jobs) (Settling e todo found)) (Reply.Ecb EcbReply.Open) st g f =
      settled_up n j job jobs st.1.0 e todo found WaitSlot.Open st.1.1 st.1.2
      (let a = count_slot found WaitSlot.Open in let b = length-append found (WaitSlot.Open ∷ []) in omega arith) f
  up_goes x r st g f = grind (arith, common_steps)

  -- no idle block is a job's end
  idles_no_end : (from count : ℕ) → AllByRecursion (λ b. (j : ℕ) → j < n → b ≡ end_for_scheduler n j
      → ⊥) (map (idle n) (range_with_len from count))
  idles_no_end from zero = tt
  idles_no_end from (suc count) = ((λ j lt e. absurd (omega arith)), idles_no_end (from + 1) count)

  -- an event of the scheduler is no early settle, or the scheduler has given up after it
  timely_or_up : (x : SchedulerAt) (p : ℕ) (r : Reply) → IsSchedulerAt deck initiators (At x) → IsNotLost (scheduler_goes n initiators x r)
      → IsNoEarlySettle deck (entry_of scheduler p (scheduler_asks n x) r) ⊎ IsGivenUp (scheduler_goes n initiators x r)
  timely_or_up (Waits (ForEnds j job jobs) (Settling e todo found)) p (Reply.Ecb EcbReply.Open) st f =
      inr (settled_up n j job jobs st.1.0 e todo found WaitSlot.Open st.1.1 st.1.2
      (let a = count_le found in let b = count_none found in let d = length-append found (WaitSlot.Open ∷ []) in omega arith) f)
  timely_or_up (Waits (ForEntry j job jobs) (Settling e todo found)) p r st f =
      inl (λ k lt o op q. in_all (λ b. (j : ℕ) → j < n → b ≡ end_for_scheduler n j → ⊥) (entered j ∷ []) e
      ((λ k lt z. let less = later_below deck j job jobs st.0 in absurd (omega arith)), tt)
      (subst (λ l. In l e) st.1.1 (in_middle st.1.0 e todo)) k lt (cc o))
  timely_or_up (Waits (ForIdle j job jobs skipped) (Settling e todo found)) p r st f =
      inl (λ k lt o op q. in_all (λ b. (j : ℕ) → j < n → b ≡ end_for_scheduler n j → ⊥) (map (idle n) (range_with_len 0 initiators)) e
      (idles_no_end 0 initiators) (subst (λ l. In l e) st.1.1 (in_middle st.1.0 e todo)) k lt (cc o))
  timely_or_up (Waits (ToDismiss i more) (Settling e todo found)) p r st f =
      inl (λ k lt o op q. in_all (λ b. (j : ℕ) → j < n → b ≡ end_for_scheduler n j → ⊥) (idle n i ∷ []) e
      ((λ k lt z. absurd (omega arith)), tt) (subst (λ l. In l e) st.1.1 (in_middle st.1.0 e todo)) k lt (cc o))
  timely_or_up x p r st f = inl (λ k lt o op q. grind (arith, common_steps))

  -- no entry so far is an early settle, or the scheduler has given up
  abbrev Holds : Points → List Entry → Type 0
  Holds t past = HasNoEarlySettle deck past ⊎ IsGivenUp t.scheduler

  holds_next : (t u : Points) (past : List Entry) (e : Entry) → Move deck initiators t e u → TasksStand deck initiators t
      → NoneLost initiators u
      → Holds t past → Holds u (past ++ e ∷ [])
  holds_next t u past e (reads (Entering j more) k at o op moved) st f (inl a) =
      inl (all_push (IsNoEarlySettle deck) past e a (λ i lt y z q. let w = sym z ∙ op in absurd (cc w)))
  holds_next t u past e (reads x k at o op moved) st f (inr g) = inr (subst (λ v. IsGivenUp v.scheduler) (sym moved) g)
  holds_next t u past e (schedules x k at o op moved) st f h = by h where
    there : u.scheduler ≡ scheduler_goes n initiators x e.reply
    there = ap (λ v. v.scheduler) moved

    stands : IsSchedulerAt deck initiators (At x)
    stands = subst (IsSchedulerAt deck initiators) at st.scheduler

    not_lost : IsNotLost (scheduler_goes n initiators x e.reply)
    not_lost = subst (λ p. IsNotLost p) there f.at_scheduler

    by : Holds t past → Holds u (past ++ e ∷ [])
    by (inr g) = inr (subst (λ p. IsGivenUp p) (sym there) (up_goes x e.reply stands (subst (λ p. IsGivenUp p) at g) not_lost))
    by (inl a) = elim (timely_or_up x e.place e.reply stands not_lost) [
      | inl p ↦ inl (all_push (IsNoEarlySettle deck) past e a
          (subst (IsNoEarlySettle deck) (entry_is e scheduler (scheduler_asks n x) k o op) p))
      | inr g ↦ inr (subst (λ p. IsGivenUp p) (sym there) g)
    ]
  holds_next t u past e (initiates i x lt k at o op moved) st f h = elim h [
    | inl a ↦ inl (all_push (IsNoEarlySettle deck) past e a
        (subst (IsNoEarlySettle deck) (entry_is e (initiator i) _ k o op) (no_early_settle deck i x e.place e.reply)))
    | inr g ↦ inr (subst (λ v. IsGivenUp v.scheduler) (sym moved) g)
  ]
  holds_next t u past e (writes x k at o op moved) st f h = elim h [
    | inl a ↦ inl (all_push (IsNoEarlySettle deck) past e a (subst (IsNoEarlySettle deck) (entry_is e (writer initiators) _ k o op)
        (writer_settles deck initiators x e.place e.reply (subst (IsWriterAt n) at st.writer))))
    | inr g ↦ inr (subst (λ v. IsGivenUp v.scheduler) (sym moved) g)
  ]

  -- so a run has no early settle
  pub run_is_timely : 1 ≤ initiators → IsPlanned deck initiators → (es : List Entry) → IsRun deck initiators es
      → HasNoEarlySettle deck es
  run_is_timely some sound es run = elim last [ inl a ↦ a | inr g ↦ absurd (subst (λ p. IsGivenUp p) ended.at_scheduler.1 g) ] where
    st : Stood deck initiators some sound es
    st = stood deck initiators some sound es run.follow

    ended : AreFinished initiators st.points
    ended = run_finished deck initiators some sound es run st

    last : Holds st.points es
    last = (walk_moments (spool_setup deck initiators) deck initiators (facts deck initiators some) sound.jobs
        (few_jobs deck initiators sound)
        (λ s t past. Holds t past)
        (λ s t u past e now unlost nx m h.
        holds_next t u past e m (standing deck initiators now.kept t now.stand) unlost.none_lost h)
        (inl tt) es st.points st.walk (none_lost_at_end initiators st.points ended)).1

  -- ---- a scheduler that has given up does not finish, whatever it hears

  abbrev c : Setup
  c = spool_setup deck initiators

  -- the scheduler has given up, or is lost
  abbrev IsUp : Point SchedulerAt → Type 0
  IsUp p = IsGivenUp p ⊎ (IsNotLost p → ⊥)

  lost_or : (p : Point SchedulerAt) → IsNotLost p ⊎ (IsNotLost p → ⊥)
  lost_or (At x) = inl tt
  lost_or (Finished a) = inl tt
  lost_or TooSoon = inr (λ f. f)
  lost_or Astray = inr (λ f. f)

  up_stays : (x : SchedulerAt) (r : Reply) → IsSchedulerAt deck initiators (At x) → IsGivenUp (At x)
      → IsUp (scheduler_goes n initiators x r)
  up_stays x r st g = elim (lost_or (scheduler_goes n initiators x r)) [ inl f ↦ inl (up_goes x r st g f) | inr l ↦ inr l ]

  wrong_stays : (hs : List Heard) → left {A = List ℕ} Wrong hs ≡ Wrong
  wrong_stays [] = refl
  wrong_stays (h ∷ hs) = wrong_stays hs

  abbrev program : Kept → Point SchedulerAt → Program (List ℕ)
  program kept p = program_at (scheduler_program c n initiators kept) p

  module _ (some : 1 ≤ initiators) (sound : IsPlanned deck initiators) where
    up_never_done : (hs : List Heard) (kept : Kept) (p : Point SchedulerAt) (a : List ℕ) → SchedulerStands deck initiators kept p → IsUp p
        → left (program kept p) hs ≡ Done a → ⊥
    up_never_done hs kept TooSoon a st u d = let z : Early ≡ Done a = sym (early_stays {A = List ℕ} hs) ∙ d in cc z
    up_never_done hs kept Astray a st u d = let z : Wrong ≡ Done a = sym (wrong_stays hs) ∙ d in cc z
    up_never_done hs kept (Finished answer) a st (inl g) d = g
    up_never_done hs kept (Finished answer) a st (inr l) d = l tt
    up_never_done hs kept (At x) a st (inr l) d = l tt
    up_never_done [] kept (At x) a st (inl g) d =
        let z : asks (scheduler_program c n initiators kept x) ≡ None = ap asks d in
        let y = sym (scheduler_says c n initiators kept x) ∙ z in cc y
    up_never_done (h ∷ hs) kept (At x) a st (inl g) d =
        up_never_done hs (keeps kept (scheduler_asks n x) h.entry.reply) (scheduler_goes n initiators x h.entry.reply) a
        (scheduler_stands deck initiators kept x h.entry.reply st) (up_stays x h.entry.reply st.0 g)
        (ap (λ p. left p hs) (sym (scheduler_hears c deck initiators (facts deck initiators some) sound.jobs kept x h st)) ∙ d)

    -- so if the scheduler's program can finish, the history has no early settle
    pub undoomed_is_timely : (es : List Entry) → HasNoDoomedTask deck initiators es → HasNoEarlySettle deck es
    undoomed_is_timely es undoomed = elim last [
      | inl a ↦ a
      | inr g ↦
          let end = undoomed.finish scheduler (omega arith) in
          absurd (up_never_done end.0 (st.kept scheduler) st.points.scheduler end.1 st.stand.at_scheduler (inl g)
          (ap (λ p. left p end.0) (sym st.tasks.at_scheduler) ∙ end.2.done))
    ] where
      st : Stood deck initiators some sound es
      st = stood deck initiators some sound es undoomed.follows

      found : NoneLost initiators st.points
      found = (following_is_safe deck initiators some sound es undoomed.follows st).0.now.none_lost

      last : Holds st.points es
      last = (walk_moments c deck initiators (facts deck initiators some) sound.jobs (few_jobs deck initiators sound)
          (λ s t past. Holds t past)
          (λ s t u past e now unlost nx m h.
          holds_next t u past e m (standing deck initiators now.kept t now.stand) unlost.none_lost h)
          (inl tt) es st.points st.walk found).1
