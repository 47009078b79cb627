-- In its wait for ends the scheduler has found each block complete that it settled, if no entry is an early settle.
use Rattle.mv_plan.proofs.Words.{◌≡◌, ℕ, ◌+◌, ◌<◌, List, [], ◌∷◌, ◌++◌, length, refl, sym, ap, ◌∙◌, subst, arith}
use Rattle.mv_plan.proofs.Words.{common_steps, AllByRecursion, length-append, complete_count, Entry, moved, Ecb, Reply, EcbReply}
use Rattle.mv_plan.proofs.Words.{JobData, Step, After, end_for_scheduler, scheduler, code_of, ends_of, WaitSlot}
use Rattle.mv_plan.proofs.deck.Planned.{ArePlannedJobs}
use Rattle.mv_plan.proofs.points.Points.{Point, At, TooSoon, Arming, Settling, Stage, Dispatching, Dismissing, Awaited, ForEntry, ForEnds}
use Rattle.mv_plan.proofs.points.Points.{ForIdle, ToDismiss, SchedulerAt, Waits, Clears, awaited_blocks, scheduler_asks}
use Rattle.mv_plan.proofs.points.Points.{scheduler_goes, ends_at, stage_at, found_at, settling_from, arming_from, arming_first}
use Rattle.mv_plan.proofs.points.Programs.{lowest_keeps, on_armed_keeps}
use Rattle.mv_plan.proofs.points.Scheduler.{IsSchedulerAt, later_below, later_sound}
use Rattle.mv_plan.proofs.walks.Walks.{Points, Move, reads, schedules, initiates, writes, entry_of, entry_is}
use Rattle.mv_plan.proofs.walks.Stands.{TasksStand}
use Rattle.mv_plan.proofs.standing.Finds.{In, in_middle, in_all}
use Rattle.mv_progress.specs.Progress.{IsNoEarlySettle}

-- ---- what a wait for ends has found

-- each end that was settled was complete
abbrev pub FoundAll : Awaited → List WaitSlot → Type 0
FoundAll (ForEnds j job jobs) found = complete_count found ≡ length found
FoundAll a found = Unit {0}

abbrev pub AllFound : Point SchedulerAt → Type 0
AllFound (At (Waits a (Settling e todo found))) = FoundAll a found
AllFound p = Unit {0}

pub count_push : (found : List WaitSlot) (code : ℕ) → complete_count (found ++ WaitSlot.Complete code ∷ []) ≡ complete_count found + 1
count_push [] code = omega arith
count_push (WaitSlot.Complete x ∷ found) code = let ih = count_push found code in omega arith
count_push (WaitSlot.Open ∷ found) code = count_push found code

found_none : (a : Awaited) → FoundAll a []
found_none (ForEnds j job jobs) = refl
found_none a = tt

found_one : (a : Awaited) (found : List WaitSlot) (code : ℕ) → FoundAll a found → FoundAll a (found ++ WaitSlot.Complete code ∷ [])
found_one (ForEnds j job jobs) found code w =
    count_push found code ∙ ap (λ m. m + 1) w ∙ sym (length-append found (WaitSlot.Complete code ∷ []))
found_one a found code w = tt

-- the scheduler's settle of an end does not find it open
abbrev pub NoEarlySettleAt : SchedulerAt → Reply → Type 0
NoEarlySettleAt (Waits (ForEnds j job jobs) (Settling e todo found)) (Reply.Ecb EcbReply.Open) = ⊥
NoEarlySettleAt x r = Unit {0}

found_open : (a : Awaited) (e : ℕ) (todo : List ℕ) (found : List WaitSlot)
    → NoEarlySettleAt (Waits a (Settling e todo found)) (Reply.Ecb EcbReply.Open)
    → FoundAll a (found ++ WaitSlot.Open ∷ [])
found_open (ForEnds j job jobs) e todo found w = absurd w
found_open a e todo found w = tt

module _ (n initiators : ℕ) where
  ends_all : (j : ℕ) (name : List ℕ) (after : List After) (steps : List Step) (jobs : List JobData)
      → AllFound (ends_at n j (record { name = name; after = after; steps = steps }) jobs)
  ends_all j name x steps jobs = grind (arith, common_steps)

  found_at_all : (a : Awaited) (found : List WaitSlot) → AllFound (found_at n a found)
  found_at_all (ForEntry j job jobs) found =
      lowest_keeps AllFound (λ p code. ends_at n j job jobs) 0 found (λ p code. ends_all j job.name job.after job.steps jobs) tt
  found_at_all (ForEnds j job jobs) found = tt
  found_at_all (ForIdle j job jobs skipped) found =
      lowest_keeps AllFound (λ i g. At (Clears i g (code_of j skipped) (Dispatching (j + 1) jobs))) 0 found (λ i g. tt) tt
  found_at_all (ToDismiss i more) found = lowest_keeps AllFound (λ p g. At (Clears i g 0 (Dismissing (i + 1) more))) 0 found (λ p g. tt) tt

  settling_all : (a : Awaited) (es : List ℕ) (found : List WaitSlot) → FoundAll a found → AllFound (settling_from n a es found)
  settling_all a [] found w = grind (arith, common_steps, TooSoon, found_at_all)
  settling_all a (e ∷ es) found w = w

  arming_all : (a : Awaited) (es : List ℕ) → AllFound (arming_from n initiators a es)
  arming_all a [] = settling_all a (awaited_blocks n initiators a) [] (found_none a)
  arming_all a (e ∷ es) = tt

  first_all : (a : Awaited) (es : List ℕ) → AllFound (arming_first a es)
  first_all a [] = tt
  first_all a (e ∷ es) = tt

  pub stage_all : (after : Stage) → AllFound (stage_at n initiators after)
  stage_all x = grind (arith, common_steps)

  pub found_goes : (x : SchedulerAt) (r : Reply) → NoEarlySettleAt x r → AllFound (At x) → AllFound (scheduler_goes n initiators x r)
  found_goes (Waits a (Arming e todo)) r p w = on_armed_keeps AllFound (arming_from n initiators a todo) r (arming_all a todo) tt
  found_goes (Waits a (Settling e todo found)) (Reply.Ecb (EcbReply.Complete code)) p w =
      settling_all a todo (found ++ WaitSlot.Complete code ∷ []) (found_one a found code w)
  found_goes (Waits a (Settling e todo found)) (Reply.Ecb EcbReply.Open) p w =
      settling_all a todo (found ++ WaitSlot.Open ∷ []) (found_open a e todo found p)
  found_goes x r p w = grind (arith, common_steps, first_all, stage_all)

-- ---- a settle of the scheduler, if its entry is no early settle

-- the ends that a job waits for
pub ends_are : (n j : ℕ) (parts : List After) → AllByRecursion (λ part. part.job < j) parts
    → AllByRecursion (λ e. (k : ℕ) × (k < j) × (e ≡ end_for_scheduler n k)) (ends_of n parts)
ends_are n j [] a = tt
ends_are n j (part ∷ parts) a = ((part.job, a.0, refl), ends_are n j parts a.1)

settles_at : (deck : List JobData) (initiators : ℕ) (x : SchedulerAt) (p : ℕ) (r : Reply) → ArePlannedJobs 0 deck
    → IsSchedulerAt deck initiators (At x) → IsNoEarlySettle deck (entry_of scheduler p (scheduler_asks (length deck) x) r)
    → NoEarlySettleAt x r
settles_at deck initiators (Waits (ForEnds j job jobs) (Settling e todo found)) p (Reply.Ecb EcbReply.Open) sound st w =
    let lt : j < length deck = later_below deck j job jobs st.0 in
    let is : (k : ℕ) × (k < j) × (e ≡ end_for_scheduler (length deck) k) =
    in_all (λ e. (k : ℕ) × (k < j) × (e ≡ end_for_scheduler (length deck) k)) (ends_of (length deck) job.after) e
    (ends_are (length deck) j job.after (later_sound deck j job jobs sound st.0).earlier)
    (subst (λ l. In l e) st.1.1 (in_middle st.1.0 e todo)) in
    let low : is.0 < j = is.1 in w is.0 (omega arith) (ap (λ b. Ecb b) is.2) refl refl
settles_at deck initiators x p r sound st w = grind (arith, common_steps)

pub found_next : (deck : List JobData) (initiators : ℕ) (t u : Points) (e : Entry) → ArePlannedJobs 0 deck → Move deck initiators t e u
    → TasksStand deck initiators t → IsNoEarlySettle deck e → AllFound t.scheduler → AllFound u.scheduler
found_next deck initiators t u e sound (reads x k at o op moved) st p w = subst (λ v. AllFound v.scheduler) (sym moved) w
found_next deck initiators t u e sound (schedules x k at o op moved) st p w = subst (λ v. AllFound v.scheduler) (sym moved)
    (found_goes (length deck) initiators x e.reply
    (settles_at deck initiators x e.place e.reply sound (subst (IsSchedulerAt deck initiators) at st.scheduler)
    (subst (IsNoEarlySettle deck) (sym (entry_is e scheduler (scheduler_asks (length deck) x) k o op)) p)) (subst (λ q. AllFound q) at w))
found_next deck initiators t u e sound (initiates i x lt k at o op moved) st p w = subst (λ v. AllFound v.scheduler) (sym moved) w
found_next deck initiators t u e sound (writes x k at o op moved) st p w = subst (λ v. AllFound v.scheduler) (sym moved) w
