-- If the reader has ended and each initiator rests or has ended, all that the scheduler waits for is complete, so it can go on to its end.
-- Once it has ended, each initiator has ended too, and what the writer waits for is complete.
use Rattle.mv_plan.proofs.Words.{◌≡◌, ℕ, zero, suc, ◌+◌, ◌<◌, ◌≤◌, ◌==◌, Bool, true, false, if◌then◌else◌, List, [], ◌∷◌, ◌++◌, length, map}
use Rattle.mv_plan.proofs.Words.{Option, Some, None, ◌⊎◌, inl, inr, refl, sym, ap, ◌∙◌, subst, arith, common_steps, AllByRecursion}
use Rattle.mv_plan.proofs.Words.{cases_lt, le-leb, length-append, length-map, range_with_len, complete_count, Entry, Setup, System, Ecb, Op}
use Rattle.mv_plan.proofs.Words.{Reply, EcbOp, EcbReply, ecb_step, EcbState, ElementState, Phase, Complete, admitted, reply_to, JobData}
use Rattle.mv_plan.proofs.Words.{After, Step, entered, end_for_scheduler, end_for_writer, idle, reader, scheduler, writer, code_of, ends_of}
use Rattle.mv_plan.proofs.Words.{spool_setup, naming, given_codes, released_codes, purges, WaitSlot}
use Rattle.mv_machine.specs.System.{place_of}
use Rattle.mv_plan.proofs.deck.Planned.{IsPlanned}
use Rattle.mv_plan.proofs.lists.{sum_to, one_of}
use Rattle.mv_plan.proofs.points.Points.{Point, At, Finished, TooSoon, ReaderAt, Entering, reader_asks, reader_goes, entering_from, WaitAt}
use Rattle.mv_plan.proofs.points.Points.{Arming, Settling, Stage, Dispatching, Dismissing, Awaited, ForEntry, ForEnds, ForIdle, ToDismiss}
use Rattle.mv_plan.proofs.points.Points.{SchedulerAt, Waits, Clears, awaited_blocks, awaited_count, scheduler_asks, scheduler_goes, ends_at}
use Rattle.mv_plan.proofs.points.Points.{stage_at, found_at, settling_from, arming_from, arming_first, WriterAt, Keeping, writing_from}
use Rattle.mv_plan.proofs.points.Points.{writer_asks, writer_goes, writer_arming, InitiatorAt, Running, run_of, errand, next_job, code_held}
use Rattle.mv_plan.proofs.points.Points.{ForWriter}
use Rattle.mv_plan.proofs.points.Programs.{lowest_keeps, on_armed_keeps, on_posted_keeps, IsWriterAt}
use Rattle.mv_plan.proofs.points.Scheduler.{IsSchedulerAt, IsAwaited, later_below, later_sound}
use Rattle.mv_plan.proofs.walks.Walks.{Points, entry_of, block}
use Rattle.mv_plan.proofs.standing.Finds.{In, in_middle, in_all}
use Rattle.mv_plan.proofs.standing.Initiators.{RowAt, offer_of, hold_for, element_of, code_in}
use Rattle.mv_plan.proofs.places.Deeds.{element_code}
use Rattle.mv_plan.proofs.places.Moments.{Moment}
use Rattle.mv_plan.proofs.ends.Blocks.{IsComplete}
use Rattle.mv_plan.proofs.ends.Posted.{entered_from, Posted}
use Rattle.mv_plan.proofs.latches.Hands.{works}
use Rattle.mv_plan.proofs.serving.{Served, work, here, works_run}
use Rattle.mv_plan.proofs.results.HandedOut.{dismissed_by}
use Rattle.mv_progress.specs.Progress.{IsNoEarlySettle}
use Rattle.mv_progress.proofs.NextEvents.{IsInTime, IsEnabled}
use Rattle.mv_progress.proofs.reached.{Reached, FoundAll, AllFound, count_push, IsLeaving, IsEndingJob}
use Rattle.mv_progress.proofs.InitiatorStatus.{IsResting}

-- ---- sums

-- a sum of at least 1 has a term of at least 1
sum_some : (m : ℕ) (f : ℕ → ℕ) → 1 ≤ sum_to m f → (i : ℕ) × (i < m) × (1 ≤ f i)
sum_some zero f le = absurd (omega arith)
sum_some (suc m) f le = elim (cases_lt 0 (f m)) [
  | inl more ↦ (m, omega arith, omega arith)
  | inr none ↦ let r = sum_some m f (omega arith) in let lt : r.0 < m = r.1 in (r.0, omega arith, r.2)
]

-- a code that names a job is the job's
naming_is : (j : ℕ) (slot : Option ℕ) → 1 ≤ one_of (naming j slot) → (skipped : Bool) × (slot ≡ Some (code_of j skipped))
naming_is j None le = absurd (omega arith)
naming_is j (Some code) le = by (code == code_of j false) (code == code_of j true) refl refl le where
  by : (a b : Bool) → (code == code_of j false) ≡ a → (code == code_of j true) ≡ b
      → 1 ≤ one_of (naming j (Some code)) → (skipped : Bool) × (Some code ≡ Some (code_of j skipped))
  by a b p q le = grind (arith, common_steps)

here_is : (j : ℕ) (slot : Option ℕ) → 1 ≤ here j slot → slot ≡ Some j
here_is j slot le = grind (arith, common_steps)

ending_runs : (j : ℕ) (p : Point InitiatorAt) → IsEndingJob j p → (run : Running) × (run_of p ≡ Some run) × (run.job ≡ j)
ending_runs j p w = grind (arith, common_steps)

-- ---- an initiator that rests or has ended

module _ (deck : List JobData) (initiators : ℕ) (some : 1 ≤ initiators) (sound : IsPlanned deck initiators) (s : System) (t : Points)
    (past : List Entry) (now : Moment (spool_setup deck initiators) deck initiators s t past) (served : Served deck initiators s t past)
    (posted : Posted deck initiators s t) (got : Reached deck initiators s t past) where
  abbrev n : ℕ
  n = length deck

  abbrev c : Setup
  c = spool_setup deck initiators

  -- it rests, or has ended
  abbrev pub IsStill : ℕ → Type 0
  IsStill i = IsResting c deck initiators s t i ⊎ ((a : List ℕ) × (t.initiators i ≡ Finished a))

  row_of : (i : ℕ) (p : Point InitiatorAt) → i < initiators → t.initiators i ≡ p → RowAt n s t.scheduler i p
  row_of i p lt at = subst (λ p. RowAt n s t.scheduler i p) at (now.rows.rows i lt)

  -- its element holds no code
  still_bare : (i : ℕ) → i < initiators → IsStill i → element_code s i ≡ None
  still_bare i lt (inl r) = r.bare
  still_bare i lt (inr (a, at)) = let row = row_of i (Finished a) lt at in free_none (element_of s i) row.2 where
    free_none : (x : ElementState) → x.phase ≡ Phase.Free → code_held x ≡ None
    free_none x e = rw e refl

  -- it runs no job
  still_runs : (i : ℕ) (run : Running) → IsStill i → run_of (t.initiators i) ≡ Some run → ⊥
  still_runs i run (inl r) e = let z : None ≡ Some run = sym (ap run_of r.at) ∙ e in cc z
  still_runs i run (inr (a, at)) e = let z : None ≡ Some run = sym (ap run_of at) ∙ e in cc z

  module _ (all : (i : ℕ) → i < initiators → IsStill i) where
    -- ---- a job that was handed out has its end

    pub job_ended : (j : ℕ) → j < n → j < next_job n t.scheduler → IsComplete s (end_for_writer n j)
    job_ended j lt less = ended (elim (cases_lt 0 (length (purges (j + 1) past))) [
      | inl more ↦ omega arith
      | inr none ↦ absurd (unworked (let b = balance in omega arith))
    ]) where
      released : length (released_codes j past) ≡ 1
      released = let r = (now.ledger.released j lt).1 less in ap (λ l. length l) r.1

      held : sum_to initiators (λ i. one_of (naming j (element_code s i))) ≡ 0
      held = elim (cases_lt 0 (sum_to initiators (λ i. one_of (naming j (element_code s i))))) [
        | inl more ↦
            let r = sum_some initiators (λ i. one_of (naming j (element_code s i))) (omega arith) in
            let code = naming_is j (element_code s r.0) r.2 in
            let z : None ≡ Some (code_of j code.0) = sym (still_bare r.0 r.1 (all r.0 r.1)) ∙ code.1 in absurd (cc z)
        | inr none ↦ omega arith
      ]

      given_once : length (given_codes j past) ≡ 1
      given_once = let a = now.ledger.codes (naming j) refl in let b = released in let d = held in omega arith

      balance : length (purges (j + 1) past) + sum_to initiators (λ i. work j (t.initiators i)) ≡ 1
      balance = served.works now.none_lost j lt ∙ given_once

      unworked : 1 ≤ sum_to initiators (λ i. work j (t.initiators i)) → ⊥
      unworked le =
          let r = sum_some initiators (λ i. work j (t.initiators i)) le in
          let run = works_run (t.initiators r.0) j (here_is j (works (t.initiators r.0)) r.2) in
          still_runs r.0 run.0 (all r.0 r.1) run.1

      ended : 1 ≤ length (purges (j + 1) past) → IsComplete s (end_for_writer n j)
      ended le = elim (got.ended j lt le) [
        | inl b ↦ let run = ending_runs j (t.initiators b.0) b.2 in absurd (still_runs b.0 run.0 (all b.0 b.1) run.1)
        | inr d ↦ d
      ]

    -- ---- the scheduler

    -- the block of an initiator that the scheduler has not dismissed is complete
    idle_complete : (i : ℕ) → i < initiators → dismissed_by initiators (errand t.scheduler) ≤ i → hold_for i t.scheduler ≡ None
        → IsComplete s (idle n i)
    idle_complete i lt from free = by (all i lt) where
      code : (slot : Option ℕ) → offer_of n s i ≡ slot → (offer_of n s i ≡ None → ⊥) → IsComplete s (idle n i)
      code None e some = absurd (some e)
      code (Some g) e some = (g, complete_of (s.ecb (idle n i)).state e) where
        complete_of : (v : EcbState) → code_in v ≡ Some g → v ≡ Complete g
        complete_of (Complete x) e = ap (λ z. Complete z) (cc e)
        complete_of v e = absurd (cc e)

      by : IsStill i → IsComplete s (idle n i)
      by (inl r) = code (offer_of n s i) refl (λ e. r.seen e free)
      by (inr (a, at)) =
          let less = (got.dismissed i lt).1 (inr (subst (λ p. IsLeaving p) (sym at) tt)) in absurd (omega arith)

    module _ (read : (a : List ℕ) × (t.reader ≡ Finished a)) where
      was_entered : (j : ℕ) → j < n → IsComplete s (entered j)
      was_entered j lt = subst (λ p. (j : ℕ) → j < entered_from n p → IsComplete s (entered j)) read.1 got.in_books j lt

      ends_complete : (j : ℕ) (parts : List After) → j ≤ n → j ≤ next_job n t.scheduler → AllByRecursion (λ part. part.job < j) parts
          → AllByRecursion (IsComplete s) (ends_of n parts)
      ends_complete j [] le from a = tt
      ends_complete j (part ∷ parts) le from a =
          let less : part.job < j = a.0 in
          let lt : part.job < n = omega arith in
          let w = job_ended part.job lt (omega arith) in
          (posted.order part.job lt ForWriter w, ends_complete j parts le from a.1)

      idles_complete : (from count : ℕ) → from + count ≤ initiators → dismissed_by initiators (errand t.scheduler) ≡ 0
          → ((i : ℕ) → hold_for i t.scheduler ≡ None) → AllByRecursion (IsComplete s) (map (idle n) (range_with_len from count))
      idles_complete from zero le d free = tt
      idles_complete from (suc count) le d free =
          (idle_complete from (omega arith) (omega arith) (free from), idles_complete (from + 1) count (omega arith) d free)

      -- all blocks that the scheduler waits for are complete
      awaited_complete : (a : Awaited) (v : WaitAt) → t.scheduler ≡ At (Waits a v) → IsAwaited deck initiators a
          → AllByRecursion (IsComplete s) (awaited_blocks n initiators a)
      awaited_complete (ForEntry j job jobs) v at r = (was_entered j (later_below deck j job jobs r), tt)
      awaited_complete (ForEnds j job jobs) v at r =
          let lt = later_below deck j job jobs r in
          ends_complete j job.after (omega arith) (let e : next_job n t.scheduler ≡ j = ap (next_job n) at in omega arith)
          (later_sound deck j job jobs sound.jobs r).earlier
      awaited_complete (ForIdle j job jobs skipped) v at r =
          idles_complete 0 initiators (omega arith) (ap (λ p. dismissed_by initiators (errand p)) at) (λ i. ap (hold_for i) at)
      awaited_complete (ToDismiss i more) v at r = (
        idle_complete i (omega arith) (let e : dismissed_by initiators (errand t.scheduler) ≡ i =
            ap (λ p. dismissed_by initiators (errand p)) at in omega arith) (ap (hold_for i) at),
        tt,
      )

      pub settles_complete : (a : Awaited) (e : ℕ) (todo : List ℕ) (found : List WaitSlot)
          → t.scheduler ≡ At (Waits a (Settling e todo found))
          → IsSchedulerAt deck initiators (At (Waits a (Settling e todo found))) → IsComplete s e
      settles_complete a e todo found at st = in_all (IsComplete s) (awaited_blocks n initiators a) e
          (awaited_complete a (Settling e todo found) at st.0) (subst (λ l. In l e) st.1.1 (in_middle st.1.0 e todo))

-- ---- after a settle of a complete block no wait of the scheduler has ended too soon

module _ (n initiators : ℕ) where
  ends_in_time : (j : ℕ) (name : List ℕ) (after : List After) (steps : List Step) (jobs : List JobData)
      → IsInTime (ends_at n j (record { name = name; after = after; steps = steps }) jobs)
  ends_in_time j name x steps jobs = grind (arith, common_steps)

  found_in_time : (a : Awaited) (found : List WaitSlot) → IsInTime (found_at n a found)
  found_in_time (ForEntry j job jobs) found =
      lowest_keeps IsInTime (λ p code. ends_at n j job jobs) 0 found (λ p code. ends_in_time j job.name job.after job.steps jobs) tt
  found_in_time (ForEnds j job jobs) found = tt
  found_in_time (ForIdle j job jobs skipped) found =
      lowest_keeps IsInTime (λ i g. At (Clears i g (code_of j skipped) (Dispatching (j + 1) jobs))) 0 found (λ i g. tt) tt
  found_in_time (ToDismiss i more) found = lowest_keeps IsInTime (λ p g. At (Clears i g 0 (Dismissing (i + 1) more))) 0 found (λ p g. tt) tt

  settling_in_time : (a : Awaited) (es : List ℕ) (found : List WaitSlot) → (es ≡ [] → awaited_count a ≤ complete_count found)
      → IsInTime (settling_from n a es found)
  settling_in_time a [] found le = subst (λ b. IsInTime (if b then found_at n a found else TooSoon))
      (sym (le-leb (awaited_count a) (complete_count found) (le refl))) (found_in_time a found)
  settling_in_time a (e ∷ es) found le = tt

  first_in_time : (a : Awaited) (es : List ℕ) → IsInTime (arming_first a es)
  first_in_time a [] = tt
  first_in_time a (e ∷ es) = tt

  arming_in_time : (a : Awaited) (past : List ℕ) (e : ℕ) (todo : List ℕ) → past ++ e ∷ todo ≡ awaited_blocks n initiators a
      → IsInTime (arming_from n initiators a todo)
  arming_in_time a past e (b ∷ todo) is = tt
  arming_in_time a past e [] is = subst (λ bs. IsInTime (settling_from n a bs [])) is (some past) where
    some : (past : List ℕ) → IsInTime (settling_from n a (past ++ e ∷ []) [])
    some [] = tt
    some (b ∷ past) = tt

  stage_in_time : (after : Stage) → IsInTime (stage_at n initiators after)
  stage_in_time x = grind (arith, common_steps)

-- if the last block is complete too, as many were found complete as the scheduler waits for
enough_found : (n initiators : ℕ) (a : Awaited) (past : List ℕ) (e : ℕ) (found : List WaitSlot) (code : ℕ)
    → past ++ e ∷ [] ≡ awaited_blocks n initiators a → length past ≡ length found → FoundAll a found
    → awaited_count a ≤ complete_count (found ++ WaitSlot.Complete code ∷ [])
enough_found n initiators (ForEnds j job jobs) past e found code is l w =
    let a : length past + 1 ≡ length (ends_of n job.after) = sym (length-append past (e ∷ [])) ∙ ap (λ z. length z) is in
    let b : length (ends_of n job.after) ≡ length job.after = length-map job.after (λ (p : After). end_for_scheduler n p.job) in
    let d = count_push found code in omega arith
enough_found n initiators a past e found code is l w = let d = count_push found code in omega arith

-- the machine's reply to a settle of a complete block
settled_reply : (s : System) (k e code : ℕ) (r : Reply) → block s e ≡ Complete code
    → Some r ≡ reply_to s k (Ecb e) (Op.Ecb EcbOp.Settle) → r ≡ Reply.Ecb (EcbReply.Complete code)
settled_reply s k e code r is q = let z : r ≡ Reply.Ecb (ecb_step EcbOp.Settle (block s e)).1 = cc q in
    z ∙ ap (λ v. Reply.Ecb (ecb_step EcbOp.Settle v).1) is

module _ (deck : List JobData) (initiators : ℕ) where
  abbrev many : ℕ
  many = length deck

  abbrev setup : Setup
  setup = spool_setup deck initiators

  -- an event of the scheduler that settles no open block is no early settle
  scheduler_settles : (s : System) (x : SchedulerAt) (p : ℕ) (r : Reply)
      → ((a : Awaited) (e : ℕ) (todo : List ℕ) (found : List WaitSlot) → x ≡ Waits a (Settling e todo found) → IsComplete s e)
      → Some r ≡ reply_to s scheduler (scheduler_asks many x).0 (scheduler_asks many x).1
      → IsNoEarlySettle deck (entry_of scheduler p (scheduler_asks many x) r)
  scheduler_settles s (Waits a (Settling e todo found)) p r there q j lt o op bare =
      let w = there a e todo found refl in let is = settled_reply s scheduler e w.0 r w.1 q in cc (is, bare)
  scheduler_settles s x p r there q j lt o op bare = absurd (cc op)

  scheduler_in_time : (s : System) (x : SchedulerAt) (r : Reply) → IsSchedulerAt deck initiators (At x) → AllFound (At x)
      → ((a : Awaited) (e : ℕ) (todo : List ℕ) (found : List WaitSlot) → x ≡ Waits a (Settling e todo found) → IsComplete s e)
      → Some r ≡ reply_to s scheduler (scheduler_asks many x).0 (scheduler_asks many x).1 → IsInTime (scheduler_goes many initiators x r)
  scheduler_in_time s (Waits a (Arming e todo)) r st w there q =
      on_armed_keeps IsInTime (arming_from many initiators a todo) r (arming_in_time many initiators a st.1.0 e todo st.1.1) tt
  scheduler_in_time s (Waits a (Settling e todo found)) r st w there q =
      let code = there a e todo found refl in
      subst (λ z. IsInTime (scheduler_goes many initiators (Waits a (Settling e todo found)) z))
      (sym (settled_reply s scheduler e code.0 r code.1 q))
      (settling_in_time many initiators a todo (found ++ WaitSlot.Complete code.0 ∷ [])
      (λ none. enough_found many initiators a st.1.0 e found code.0
      (ap (λ z. st.1.0 ++ e ∷ z) (sym none) ∙ st.1.1) st.1.2 w))
  scheduler_in_time s x r st w there q = grind (arith, common_steps, first_in_time, stage_in_time, initiators)

  pub scheduler_can : (s : System) (x : SchedulerAt) → admitted setup s scheduler (scheduler_asks many x).0 (scheduler_asks many x).1 ≡ true
      → IsSchedulerAt deck initiators (At x) → AllFound (At x)
      → ((a : Awaited) (e : ℕ) (todo : List ℕ) (found : List WaitSlot) → x ≡ Waits a (Settling e todo found) → IsComplete s e)
      → IsEnabled setup deck s scheduler (scheduler_asks many x) (scheduler_goes many initiators x)
  scheduler_can s x adm st w there = record {
    admits = adm;
    in_time = λ r q. scheduler_in_time s x r st w there q;
    settles = λ r q. scheduler_settles s x (place_of s (scheduler_asks many x).0) r there q;
  }

  -- ---- the reader
  pub reader_can : (s : System) (x : ReaderAt) → admitted setup s reader (reader_asks x).0 (reader_asks x).1 ≡ true
      → IsEnabled setup deck s reader (reader_asks x) (reader_goes x)
  reader_can s (Entering j more) adm = record {
    admits = adm;
    in_time = λ r q. on_posted_keeps IsInTime (entering_from (j + 1) more) r (enters (j + 1) more) tt;
    settles = λ r q k lt o op bare. absurd (cc op);
  } where
    enters : (j more : ℕ) → IsInTime (entering_from j more)
    enters j zero = tt
    enters j (suc more) = tt

  -- ---- the writer
  writes_in_time : (j more : ℕ) (ends : List ℕ) → IsInTime (writing_from many j more ends)
  writes_in_time j zero ends = tt
  writes_in_time j (suc more) ends = tt

  -- the writer settles no end for the scheduler
  pub writer_settles : (x : WriterAt) (p : ℕ) (r : Reply) → IsWriterAt many (At x)
      → IsNoEarlySettle deck (entry_of (writer initiators) p (writer_asks x) r)
  writer_settles (Keeping j more ends (Arming e todo)) p r at k lt o op bare = absurd (cc op)
  writer_settles (Keeping j more ends (Settling e todo found)) p r at k lt o op bare =
      let is : e ≡ end_for_scheduler many k = cc o in let its : e ≡ end_for_writer many j = at.1 in omega arith

  writer_in_time : (s : System) (x : WriterAt) (r : Reply) → IsWriterAt many (At x)
      → ((j more e : ℕ) (ends todo : List ℕ) (found : List WaitSlot) → x ≡ Keeping j more ends (Settling e todo found) → IsComplete s e)
      → Some r ≡ reply_to s (writer initiators) (writer_asks x).0 (writer_asks x).1 → IsInTime (writer_goes many x r)
  writer_in_time s (Keeping j more ends (Arming e [])) r at there q = on_armed_keeps IsInTime (writer_arming many j more ends []) r tt tt
  writer_in_time s (Keeping j more ends (Arming e (b ∷ todo))) r at there q =
      on_armed_keeps IsInTime (writer_arming many j more ends (b ∷ todo)) r tt tt
  writer_in_time s (Keeping j more ends (Settling e [] [])) r at there q =
      let code = there j more e ends [] [] refl in
      subst (λ z. IsInTime (writer_goes many (Keeping j more ends (Settling e [] [])) z))
      (sym (settled_reply s (writer initiators) e code.0 r code.1 q)) (writes_in_time (j + 1) more (ends ++ code.0 ∷ []))
  writer_in_time s (Keeping j more ends (Settling e [] (f ∷ found))) r at there q = absurd (cc (at.3))
  writer_in_time s (Keeping j more ends (Settling e (b ∷ todo) found)) r at there q = absurd (cc (at.2))

  pub writer_can : (s : System) (x : WriterAt) → admitted setup s (writer initiators) (writer_asks x).0 (writer_asks x).1 ≡ true
      → IsWriterAt many (At x)
      → ((j more e : ℕ) (ends todo : List ℕ) (found : List WaitSlot) → x ≡ Keeping j more ends (Settling e todo found) → IsComplete s e)
      → IsEnabled setup deck s (writer initiators) (writer_asks x) (writer_goes many x)
  writer_can s x adm at there = record {
    admits = adm;
    in_time = λ r q. writer_in_time s x r at there q;
    settles = λ r q. writer_settles x (place_of s (writer_asks x).0) r at;
  }
