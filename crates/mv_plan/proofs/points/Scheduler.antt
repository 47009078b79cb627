-- Where the scheduler may stand: which jobs are left, which code it hands over, and what it keeps there, whatever the reply; its
-- program goes from point to point; and which points may follow one, as one lemma for any fact of points.
use Rattle.mv_plan.proofs.Words.{◌≡◌, ℕ, suc, ◌+◌, ◌<◌, ◌≤◌, Bool, true, List, [], ◌∷◌, ◌++◌, length, None, refl, sym, ap, ◌∙◌, map}
use Rattle.mv_plan.proofs.Words.{subst, append_assoc, zero-add, arith, length-append, length-map-range_with_len, Reply, JobData, After}
use Rattle.mv_plan.proofs.Words.{Step, Kept, code_of, EcbReply, common_steps, zero, false, Some, AllByRecursion, range_with_len, Setup}
use Rattle.mv_plan.proofs.Words.{Heard, asks, heard, going_on, unrefused, accepted, end_for_scheduler, idle, ends_of, some_end_above, rules}
use Rattle.mv_plan.proofs.Words.{ends_awaited, hand_over, AreDistinct, arm_all, settle_all, enough, wait_unrefused, Program, length-map}
use Rattle.mv_plan.proofs.Words.{ElementReply, on_element, finished, nat_le, cond, complete_count, WaitSlot}
use Rattle.mv_plan.proofs.deck.{IsPlannedJob, ArePlannedJobs, Facts}
use Rattle.mv_plan.proofs.points.Points.{Point, At, WaitAt, Arming, Settling, Stage, Dispatching, Dismissing, Awaited, ForEntry, ForEnds}
use Rattle.mv_plan.proofs.points.Points.{ForIdle, ToDismiss, SchedulerAt, Waits, Extends, Clears, Releases, awaited_blocks, scheduler_asks}
use Rattle.mv_plan.proofs.points.Points.{scheduler_goes, arming_from, settling_from, found_at, ends_at, lowest_at, awaited_count, stage_at}
use Rattle.mv_plan.proofs.points.Points.{arming_first, TooSoon, Astray, on_released, next_job, Errand, Dispatches, Dismisses, Finishes}
use Rattle.mv_plan.proofs.points.Points.{errand, next_of, IsNotLost}
use Rattle.mv_plan.proofs.points.Programs.{on_armed_keeps, on_settled_keeps, armed_goes, settled_goes, lowest_goes, enough_goes, keeps}
use Rattle.mv_plan.proofs.points.Programs.{program_at, stage_call, staged, awaited_then, awaited_stage, scheduler_program, handing}
use Rattle.mv_plan.proofs.points.Programs.{extending, lowest_keeps}
use Rattle.mv_calls.specs.Waits.{wait, wait_refusal}
use Rattle.mv_calls.proofs.Unrefused.{IsFree}
use Rattle.mv_calls.specs.Pauses.{released}

-- the deck's jobs from number j on
pub record AreLater (deck : List JobData) (j : ℕ) (jobs : List JobData) : Type 0 where
  pub front : List JobData
  pub whole : front ++ jobs ≡ deck
  pub count : length front ≡ j

pub later_all : (deck : List JobData) → AreLater deck 0 deck
later_all deck = record { front = []; whole = refl; count = refl }

pub one_later : (deck : List JobData) (j : ℕ) (job : JobData) (jobs : List JobData) → AreLater deck j (job ∷ jobs)
    → AreLater deck (j + 1) jobs
one_later deck j job jobs r = record {
  front = r.front ++ job ∷ [];
  whole = append_assoc r.front (job ∷ []) jobs ∙ r.whole;
  count = length-append r.front (job ∷ []) ∙ ap (λ k. k + 1) r.count;
}

pub later_count : (deck : List JobData) (j : ℕ) (jobs : List JobData) → AreLater deck j jobs → j + length jobs ≡ length deck
later_count deck j jobs r = ap (λ k. k + length jobs) (sym r.count) ∙ sym (length-append r.front jobs) ∙ ap (λ l. length l) r.whole

pub later_below : (deck : List JobData) (j : ℕ) (job : JobData) (jobs : List JobData) → AreLater deck j (job ∷ jobs) → j < length deck
later_below deck j job jobs r = let e = later_count deck j (job ∷ jobs) r in omega arith

sound_from : (j : ℕ) (front jobs : List JobData) → ArePlannedJobs j (front ++ jobs) → ArePlannedJobs (j + length front) jobs
sound_from j [] jobs s = subst (λ k. ArePlannedJobs k jobs) (omega arith) s
sound_from j (f ∷ front) jobs s = grind (arith, common_steps, sound_from (j + 1) front jobs s.1)

pub later_sound : (deck : List JobData) (j : ℕ) (job : JobData) (jobs : List JobData) → ArePlannedJobs 0 deck → AreLater deck j (job ∷ jobs)
    → IsPlannedJob j job
later_sound deck j job jobs s r = grind (arith, common_steps, zero-add, sound_from)

-- how far a wait for these blocks is
abbrev pub IsWaitAt : List ℕ → WaitAt → Type 0
IsWaitAt blocks (Arming e todo) = (past : List ℕ) × (past ++ e ∷ todo ≡ blocks)
IsWaitAt blocks (Settling e todo found) = (past : List ℕ) × (past ++ e ∷ todo ≡ blocks) × (length past ≡ length found)

abbrev pub IsAwaited : List JobData → ℕ → Awaited → Type 0
IsAwaited deck initiators (ForEntry j job jobs) = AreLater deck j (job ∷ jobs)
IsAwaited deck initiators (ForEnds j job jobs) = AreLater deck j (job ∷ jobs)
IsAwaited deck initiators (ForIdle j job jobs skipped) = AreLater deck j (job ∷ jobs)
IsAwaited deck initiators (ToDismiss i more) = i + suc more ≡ initiators

abbrev pub IsStage : List JobData → ℕ → Stage → Type 0
IsStage deck initiators (Dispatching j jobs) = AreLater deck j jobs
IsStage deck initiators (Dismissing i more) = i + more ≡ initiators

-- initiator i gets this code before the stage: that of the job in front of it, or 0 where it is dismissed
abbrev pub IsHanded : ℕ → ℕ → Stage → Type 0
IsHanded i code (Dispatching j jobs) = (k : ℕ) × (skipped : Bool) × (j ≡ k + 1) × (code ≡ code_of k skipped)
IsHanded i code (Dismissing m more) = (m ≡ i + 1) × (code ≡ 0)

abbrev pub IsSchedulerAt : List JobData → ℕ → Point SchedulerAt → Type 0
IsSchedulerAt deck initiators (At (Waits a w)) = IsAwaited deck initiators a × IsWaitAt (awaited_blocks (length deck) initiators a) w
IsSchedulerAt deck initiators (At (Extends j job jobs skipped)) = AreLater deck j (job ∷ jobs)
IsSchedulerAt deck initiators (At (Clears i g code after)) = (i < initiators) × IsStage deck initiators after × IsHanded i code after
IsSchedulerAt deck initiators (At (Releases i g code after)) = (i < initiators) × IsStage deck initiators after × IsHanded i code after
IsSchedulerAt deck initiators p = Unit {0}

-- how many of the done blocks were extended by then, where there are n jobs
abbrev pub stage_extended : ℕ → Stage → ℕ
stage_extended n (Dispatching j jobs) = j
stage_extended n (Dismissing i more) = n

abbrev pub awaited_extended : ℕ → Awaited → ℕ
awaited_extended n (ForEntry j job jobs) = j
awaited_extended n (ForEnds j job jobs) = j
awaited_extended n (ForIdle j job jobs skipped) = j + 1
awaited_extended n (ToDismiss i more) = n

-- the scheduler keeps that no others are extended
pub record SchedulerKept (n count : ℕ) (kept : Kept) : Type 0 where
  pub caller : kept.caller ≡ 1
  pub within : (e : ℕ) → kept.extended e ≡ true → (n ≤ e) × (e < n + count)

abbrev pub SchedulerKeptAt : ℕ → Kept → Point SchedulerAt → Type 0
SchedulerKeptAt n kept (At (Waits a w)) = SchedulerKept n (awaited_extended n a) kept
SchedulerKeptAt n kept (At (Extends j job jobs skipped)) = SchedulerKept n j kept
SchedulerKeptAt n kept (At (Clears i g code after)) = SchedulerKept n (stage_extended n after) kept
SchedulerKeptAt n kept (At (Releases i g code after)) = SchedulerKept n (stage_extended n after) kept
SchedulerKeptAt n kept p = Unit {0}

-- both
abbrev pub SchedulerStands : List JobData → ℕ → Kept → Point SchedulerAt → Type 0
SchedulerStands deck initiators kept p = IsSchedulerAt deck initiators p × SchedulerKeptAt (length deck) kept p

-- ---- each point's next stands

module _ (deck : List JobData) (initiators : ℕ) (kept : Kept) where
  lowest_stands : (f : ℕ → ℕ → Point SchedulerAt) (p bound : ℕ) (found : List WaitSlot) → p + length found ≤ bound
      → ((i code : ℕ) → i < bound → SchedulerStands deck initiators kept (f i code))
      → SchedulerStands deck initiators kept (lowest_at f p found)
  lowest_stands f p bound (WaitSlot.Open ∷ found) le each = lowest_stands f (p + 1) bound found (omega arith) each
  lowest_stands f p bound found le each = grind (arith, common_steps)

  ends_stands : (j : ℕ) (name : List ℕ) (after : List After) (steps : List Step) (jobs : List JobData)
      → AreLater deck j (record { name = name; after = after; steps = steps } ∷ jobs) → SchedulerKept (length deck) j kept
      → SchedulerStands deck initiators kept (ends_at (length deck) j (record { name = name; after = after; steps = steps }) jobs)
  ends_stands j name x steps jobs r k = grind (arith, common_steps)

  found_stands : (a : Awaited) (found : List WaitSlot) → IsAwaited deck initiators a
      → SchedulerKept (length deck) (awaited_extended (length deck) a) kept
      → length found ≤ length (awaited_blocks (length deck) initiators a)
      → SchedulerStands deck initiators kept (found_at (length deck) a found)
  found_stands a found r k le = grind (arith, common_steps, lowest_stands, ends_stands, length-map-range_with_len, one_later)

  settling_stands : (a : Awaited) (past es : List ℕ) (found : List WaitSlot) → IsAwaited deck initiators a
      → SchedulerKept (length deck) (awaited_extended (length deck) a) kept
      → past ++ es ≡ awaited_blocks (length deck) initiators a → length past ≡ length found
      → SchedulerStands deck initiators kept (settling_from (length deck) a es found)
  settling_stands a past es found s k e l = grind (arith, common_steps, kept, found_stands)

  arming_stands : (a : Awaited) (past es : List ℕ) → IsAwaited deck initiators a
      → SchedulerKept (length deck) (awaited_extended (length deck) a) kept
      → past ++ es ≡ awaited_blocks (length deck) initiators a
      → SchedulerStands deck initiators kept (arming_from (length deck) initiators a es)
  arming_stands a past x s k e = grind (arith, common_steps)

one_pushed : {X : Type 0} (xs ys : List X) (x : X) → (xs ++ x ∷ []) ++ ys ≡ xs ++ x ∷ ys
one_pushed xs ys x = append_assoc xs (x ∷ []) ys

-- after an extend that is answered Armed
pub extended_kept : (deck : List JobData) (initiators : ℕ) (kept : Kept) (j : ℕ) (job : JobData) (jobs : List JobData) (skipped : Bool)
    → SchedulerKept (length deck) j kept → SchedulerKept (length deck) (j + 1)
    (keeps kept (scheduler_asks (length deck) (Extends j job jobs skipped)) (Reply.Ecb EcbReply.Armed))
extended_kept deck initiators kept j job jobs skipped s = grind (arith, common_steps)

pub scheduler_stands : (deck : List JobData) (initiators : ℕ) (kept : Kept) (x : SchedulerAt) (r : Reply)
    → SchedulerStands deck initiators kept (At x)
    → SchedulerStands deck initiators (keeps kept (scheduler_asks (length deck) x) r) (scheduler_goes (length deck) initiators x r)
scheduler_stands deck initiators kept (Waits a (Arming e todo)) r s =
    on_armed_keeps (SchedulerStands deck initiators (keeps kept (scheduler_asks (length deck) (Waits a (Arming e todo))) r))
    (arming_from (length deck) initiators a todo) r
    (arming_stands deck initiators _ a (s.0.1.0 ++ e ∷ []) todo s.0.0 (record { caller = s.1.caller; within = s.1.within })
    (one_pushed s.0.1.0 todo e ∙ s.0.1.1)) (tt, tt)
scheduler_stands deck initiators kept (Waits a (Settling e todo found)) r s =
    on_settled_keeps (SchedulerStands deck initiators (keeps kept (scheduler_asks (length deck) (Waits a (Settling e todo found))) r))
    (λ slot. settling_from (length deck) a todo (found ++ slot ∷ [])) r
    (λ slot. settling_stands deck initiators _ a (s.0.1.0 ++ e ∷ []) todo (found ++ slot ∷ []) s.0.0
    (record { caller = s.1.caller; within = s.1.within }) (one_pushed s.0.1.0 todo e ∙ s.0.1.1)
    (length-append s.0.1.0 (e ∷ []) ∙ ap (λ k. k + 1) s.0.1.2 ∙ sym (length-append found (slot ∷ [])))) (tt, tt)
scheduler_stands deck initiators kept x r s = grind (arith, common_steps)

-- ---- at each point the program says the point's event, and a reply leads it on as it leads the point

pub scheduler_says : (c : Setup) (n initiators : ℕ) (kept : Kept) (x : SchedulerAt)
    → asks (scheduler_program c n initiators kept x) ≡ Some (scheduler_asks n x)
scheduler_says c n initiators kept x = grind (arith, common_steps)

-- the blocks with ends of different jobs are different
ends_differ : (n : ℕ) (part : After) (parts : List After) → AllByRecursion (λ m. m ≡ part.job → ⊥) (map (λ p. p.job) parts)
    → AllByRecursion (λ e. e ≡ end_for_scheduler n part.job → ⊥) (ends_of n parts)
ends_differ n part [] d = tt
ends_differ n part (p ∷ parts) d = ((λ q. d.0 (omega arith)), ends_differ n part parts d.1)

pub ends_distinct : (n : ℕ) (parts : List After) → AreDistinct (map (λ p. p.job) parts) → AreDistinct (ends_of n parts)
ends_distinct n [] d = tt
ends_distinct n (part ∷ parts) d = (ends_differ n part parts d.0, ends_distinct n parts d.1)

idles_differ : (n i from count : ℕ) → i < from → AllByRecursion (λ e. e ≡ idle n i → ⊥) (map (idle n) (range_with_len from count))
idles_differ n i from zero lt = tt
idles_differ n i from (suc count) lt = ((λ q. absurd (omega arith)), idles_differ n i (from + 1) count (omega arith))

pub idles_distinct : (n from count : ℕ) → AreDistinct (map (idle n) (range_with_len from count))
idles_distinct n from zero = tt
idles_distinct n from (suc count) = (idles_differ n from (from + 1) count (omega arith), idles_distinct n (from + 1) count)

module _ (c : Setup) (deck : List JobData) (initiators : ℕ) (facts : Facts c (length deck) initiators) (sound : ArePlannedJobs 0 deck) where
  abbrev n : ℕ
  n = length deck

  -- the program at a point, and a call of a stage with what follows the stage
  abbrev program : Kept → Point SchedulerAt → Program (List ℕ)
  program kept p = program_at (scheduler_program c n initiators kept) p

  abbrev stage : Stage → Kept → Program (Unit {0}) → Program (List ℕ)
  stage after kept p = staged c n initiators after kept p

  -- the waits' blocks
  abbrev blocks : Awaited → List ℕ
  blocks a = awaited_blocks n initiators a

  abbrev idles : List ℕ
  idles = map (idle n) (range_with_len 0 initiators)

  ends_free : (count j : ℕ) (kept : Kept) (parts : List After) → SchedulerKept n count kept → count ≤ n → j ≤ n
      → AllByRecursion (λ p. p.job < j) parts → AllByRecursion (IsFree c kept) (ends_of n parts)
  ends_free count j kept [] k le lt below = grind (arith, common_steps)
  ends_free count j kept (part ∷ parts) k le lt below = grind (arith, common_steps, ends_free count j kept parts)

  idles_free : (count from more : ℕ) (kept : Kept) → SchedulerKept n count kept → count ≤ n → from + more ≤ initiators
      → AllByRecursion (IsFree c kept) (map (idle n) (range_with_len from more))
  idles_free count from zero kept k le lt = tt
  idles_free count from (suc more) kept k le lt = grind (arith, common_steps, idles_free count (from + 1) more kept k le)

  -- a wait that is not refused begins at its first block
  wait_enters : (a : Awaited) (kept : Kept) (bs : List ℕ) → wait_refusal c (awaited_count a) bs kept ≡ None → bs ≡ blocks a → 1 ≤ length bs
      → stage (awaited_stage a) kept (accepted (wait c (awaited_count a) bs) (awaited_then c n initiators a) kept)
      ≡ program kept (arming_first a bs)
  wait_enters a kept x free same some = search rules

  extend_enters : (j : ℕ) (job : JobData) (jobs : List JobData) (skipped : Bool) (kept : Kept) → AreLater deck j (job ∷ jobs)
      → SchedulerKept n j kept
      → stage (Dispatching (j + 1) jobs) kept (extending c n initiators j skipped kept) ≡ program kept (At (Extends j job jobs skipped))
  extend_enters j job jobs skipped kept r k = grind (arith, common_steps)

  clear_enters : (i g code count : ℕ) (after : Stage) (kept : Kept) → i < initiators → SchedulerKept n count kept
      → stage after kept (hand_over c n code i g kept) ≡ program kept (At (Clears i g code after))
  clear_enters i g code count after kept lt k = grind (arith, common_steps)

  ends_enter : (j : ℕ) (name : List ℕ) (after : List After) (steps : List Step) (jobs : List JobData) (kept : Kept)
      → AreLater deck j (record { name = name; after = after; steps = steps } ∷ jobs) → SchedulerKept n j kept
      → stage (Dispatching (j + 1) jobs) kept (ends_awaited c n after (extending c n initiators j) kept)
      ≡ program kept (ends_at n j (record { name = name; after = after; steps = steps }) jobs)
  ends_enter j name [] steps jobs kept r k = extend_enters j (record { name = name; after = []; steps = steps }) jobs false kept r k
  ends_enter j name (part ∷ parts) steps jobs kept r k = let job : JobData = record { name = name; after = part ∷ parts; steps = steps } in
      let s = later_sound deck j job jobs sound r in
      let lt = later_below deck j job jobs r in wait_enters (ForEnds j job jobs) kept (ends_of n (part ∷ parts))
      (wait_unrefused c (length (part ∷ parts)) (ends_of n (part ∷ parts)) kept
      (omega (arith, length-map (part ∷ parts) (λ (p : After). end_for_scheduler n p.job))) (ends_distinct n (part ∷ parts) s.distinct)
      (ends_free j j kept (part ∷ parts) k (omega arith) (omega arith) s.earlier)) refl (omega arith)

  idle_enters : (j : ℕ) (job : JobData) (jobs : List JobData) (skipped : Bool) (kept : Kept) → AreLater deck j (job ∷ jobs)
      → SchedulerKept n (j + 1) kept
      → stage (Dispatching (j + 1) jobs) kept (handing c n initiators j skipped kept)
      ≡ program kept (arming_first (ForIdle j job jobs skipped) idles)
  idle_enters j job jobs skipped kept r k =
      let l = length-map-range_with_len (idle n) 0 initiators in
      let lt = later_below deck j job jobs r in
      let some = facts.some in wait_enters (ForIdle j job jobs skipped) kept idles
      (wait_unrefused c 1 idles kept (omega arith) (idles_distinct n 0 initiators)
      (idles_free (j + 1) 0 initiators kept k (omega arith) (omega arith))) refl (omega arith)

  pub stage_enters : (after : Stage) (kept : Kept) → IsStage deck initiators after → SchedulerKept n (stage_extended n after) kept
      → stage_call c n initiators after kept ≡ program kept (stage_at n initiators after)
  stage_enters x kept r k = grind (arith, common_steps)

  -- what was found is enough
  found_enters : (a : Awaited) (kept : Kept) (found : List WaitSlot) → IsAwaited deck initiators a
      → SchedulerKept n (awaited_extended n a) kept → length found ≤ length (blocks a)
      → stage (awaited_stage a) kept (awaited_then c n initiators a found kept) ≡ program kept (found_at n a found)
  found_enters (ForEntry j job jobs) kept found r k le =
      lowest_goes (stage (Dispatching (j + 1) jobs) kept) (scheduler_program c n initiators kept) _ (λ p code. ends_at n j job jobs) kept
      0 (length found) found (omega arith) (λ i code lt. ends_enter j job.name job.after job.steps jobs kept r k) refl
  found_enters (ForEnds j job jobs) kept found r k le = extend_enters j job jobs (some_end_above job.after found) kept r k
  found_enters (ForIdle j job jobs skipped) kept found r k le =
      lowest_goes (stage (Dispatching (j + 1) jobs) kept) (scheduler_program c n initiators kept) (hand_over c n (code_of j skipped))
      (λ i g. At (Clears i g (code_of j skipped) (Dispatching (j + 1) jobs))) kept 0 initiators found
      (let l = length-map-range_with_len (idle n) 0 initiators in omega arith)
      (λ i g lt. clear_enters i g (code_of j skipped) (j + 1) (Dispatching (j + 1) jobs) kept lt k) refl
  found_enters (ToDismiss i more) kept found e k le =
      lowest_goes (stage (Dismissing (i + 1) more) kept) (scheduler_program c n initiators kept) (λ p g. hand_over c n 0 i g)
      (λ p g. At (Clears i g 0 (Dismissing (i + 1) more))) kept 0 (length found) found (omega arith)
      (λ p g lt. clear_enters i g 0 n (Dismissing (i + 1) more) kept (omega arith) k) refl

  settle_enters : (a : Awaited) (kept : Kept) (es : List ℕ) (found : List WaitSlot) → IsAwaited deck initiators a
      → SchedulerKept n (awaited_extended n a) kept → length found + length es ≤ length (blocks a)
      → stage (awaited_stage a) kept
      (going_on kept (settle_all es found (enough (awaited_count a))) (unrefused (awaited_then c n initiators a)))
      ≡ program kept (settling_from n a es found)
  settle_enters a kept [] found s k le = grind (arith, common_steps, enough_goes, initiators, found_enters)
  settle_enters a kept (e ∷ es) found s k le = refl

  arm_enters : (a : Awaited) (kept : Kept) (es : List ℕ) → IsAwaited deck initiators a → SchedulerKept n (awaited_extended n a) kept
      → stage (awaited_stage a) kept (going_on kept (arm_all es (settle_all (blocks a) [] (enough (awaited_count a))))
      (unrefused (awaited_then c n initiators a)))
      ≡ program kept (arming_from n initiators a es)
  arm_enters a kept [] s k = settle_enters a kept (blocks a) [] s k (omega arith)
  arm_enters a kept (e ∷ es) s k = refl

  -- what is kept behind an event and its reply
  abbrev kept_by : Kept → SchedulerAt → Reply → Kept
  kept_by kept x r = keeps kept (scheduler_asks n x) r

  pub scheduler_hears : (kept : Kept) (x : SchedulerAt) (h : Heard) → SchedulerStands deck initiators kept (At x)
      → heard (scheduler_program c n initiators kept x) h
      ≡ program (kept_by kept x h.entry.reply) (scheduler_goes n initiators x h.entry.reply)
  scheduler_hears kept (Waits a (Arming e todo)) h s =
      armed_goes (λ p. stage (awaited_stage a) now (going_on now p (unrefused (awaited_then c n initiators a))))
      (scheduler_program c n initiators now) (arm_all todo (settle_all (blocks a) [] (enough (awaited_count a))))
      (arming_from n initiators a todo) h.entry.reply
      (arm_enters a now todo s.0.0 (record { caller = s.1.caller; within = s.1.within })) refl where
        now : Kept
        now = kept_by kept (Waits a (Arming e todo)) h.entry.reply
  scheduler_hears kept (Waits a (Settling e todo found)) h s =
      settled_goes (λ p. stage (awaited_stage a) now (going_on now p (unrefused (awaited_then c n initiators a))))
      (scheduler_program c n initiators now) (λ slot. settle_all todo (found ++ slot ∷ []) (enough (awaited_count a)))
      (λ slot. settling_from n a todo (found ++ slot ∷ [])) h.entry.reply
      (λ slot. settle_enters a now todo (found ++ slot ∷ []) s.0.0 (record { caller = s.1.caller; within = s.1.within })
      (room slot)) refl where
        now : Kept
        now = kept_by kept (Waits a (Settling e todo found)) h.entry.reply

        room : (slot : WaitSlot) → length (found ++ slot ∷ []) + length todo ≤ length (blocks a)
        room slot = grind (arith, common_steps)
  scheduler_hears kept (Releases i g code after) h s = goes h.entry.reply where
    goes : (r : Reply) → stage after (kept_by kept (Releases i g code after) r)
        (going_on (kept_by kept (Releases i g code after) r) (on_element r released) (unrefused (λ reached. finished tt)))
        ≡ program (kept_by kept (Releases i g code after) r) (scheduler_goes n initiators (Releases i g code after) r)
    goes (Reply.Element ElementReply.Early) = grind (arith, common_steps)
    goes (Reply.Element ElementReply.Woke) = grind (arith, common_steps)
    goes r = refl
  scheduler_hears kept x h s = grind (arith, common_steps, idle_enters, extended_kept)

-- ---- which points may follow: its errand stays but for a release, and the job that is next does not fall

module _ (n initiators : ℕ) (P : Point SchedulerAt → Type 0) where
  -- all that may follow is so
  abbrev pub AllNext : SchedulerAt → Type 0
  AllNext (Waits (ForEntry j job jobs) w) =
      ((v : WaitAt) → P (At (Waits (ForEntry j job jobs) v))) × ((v : WaitAt) → P (At (Waits (ForEnds j job jobs) v)))
      × ((b : Bool) → P (At (Extends j job jobs b)))
  AllNext (Waits (ForEnds j job jobs) w) =
      ((v : WaitAt) → P (At (Waits (ForEnds j job jobs) v))) × ((b : Bool) → P (At (Extends j job jobs b)))
  AllNext (Waits (ForIdle j job jobs skipped) w) =
      ((v : WaitAt) → P (At (Waits (ForIdle j job jobs skipped) v)))
      × ((i g : ℕ) → P (At (Clears i g (code_of j skipped) (Dispatching (j + 1) jobs))))
  AllNext (Waits (ToDismiss i more) w) =
      ((v : WaitAt) → P (At (Waits (ToDismiss i more) v))) × ((g : ℕ) → P (At (Clears i g 0 (Dismissing (i + 1) more))))
  AllNext (Extends j job jobs skipped) = (v : WaitAt) → P (At (Waits (ForIdle j job jobs skipped) v))
  AllNext (Clears i g code after) = P (At (Releases i g code after))
  AllNext (Releases i g code after) = P (stage_at n initiators after)

  ends_next : (j : ℕ) (name : List ℕ) (after : List After) (steps : List Step) (jobs : List JobData)
      → ((v : WaitAt) → P (At (Waits (ForEnds j (record { name = name; after = after; steps = steps }) jobs) v)))
      → ((b : Bool) → P (At (Extends j (record { name = name; after = after; steps = steps }) jobs b)))
      → P (ends_at n j (record { name = name; after = after; steps = steps }) jobs)
  ends_next j name x steps jobs w e = grind (arith, common_steps)

  found_next : (a : Awaited) (v : WaitAt) (found : List WaitSlot) → P Astray → AllNext (Waits a v) → P (found_at n a found)
  found_next (ForEntry j job jobs) v found lost all =
      lowest_keeps P (λ p code. ends_at n j job jobs) 0 found (λ p code. ends_next j job.name job.after job.steps jobs all.1 all.2) lost
  found_next (ForEnds j job jobs) v found lost all = all.1 (some_end_above job.after found)
  found_next (ForIdle j job jobs skipped) v found lost all =
      lowest_keeps P (λ i g. At (Clears i g (code_of j skipped) (Dispatching (j + 1) jobs))) 0 found all.1 lost
  found_next (ToDismiss i more) v found lost all =
      lowest_keeps P (λ p g. At (Clears i g 0 (Dismissing (i + 1) more))) 0 found (λ p g. all.1 g) lost

  wait_next : (a : Awaited) (v w : WaitAt) → AllNext (Waits a v) → P (At (Waits a w))
  wait_next a v w all = grind (arith, common_steps)

  settling_next : (a : Awaited) (v : WaitAt) (es : List ℕ) (found : List WaitSlot) → P Astray → P TooSoon → AllNext (Waits a v)
      → P (settling_from n a es found)
  settling_next a v [] found lost early all =
      elim (nat_le (awaited_count a) (complete_count found)) as (λ b. P (cond b (found_at n a found) TooSoon)) [
        | true ↦ found_next a v found lost all
        | false ↦ early
      ]
  settling_next a v (e ∷ es) found lost early all = wait_next a v _ all

  pub goes_next : (x : SchedulerAt) (r : Reply) → P Astray → P TooSoon → AllNext x → P (scheduler_goes n initiators x r)
  goes_next (Waits a (Settling e todo found)) r lost early all =
      on_settled_keeps P (λ slot. settling_from n a todo (found ++ slot ∷ [])) r
      (λ slot. settling_next a (Settling e todo found) todo (found ++ slot ∷ []) lost early all) lost
  goes_next x r lost early all = grind (arith, common_steps)

-- ---- the errand stays but for a release

-- whether a point is no release
abbrev pub NoRelease : SchedulerAt → Type 0
NoRelease (Releases i g code after) = ⊥
NoRelease x = Unit {0}

-- the errand behind a release
abbrev pub after_dismissals : ℕ → ℕ → Errand
after_dismissals m zero = Finishes
after_dismissals m (suc more) = Dismisses m

abbrev pub after_release : ℕ → Stage → Errand
after_release initiators (Dispatching j []) = after_dismissals 0 initiators
after_release initiators (Dispatching j (job ∷ jobs)) = Dispatches j
after_release initiators (Dismissing m more) = after_dismissals m more

module _ (n initiators : ℕ) where
  -- the errand there is this one, where the task is not lost
  abbrev Same : Errand → Point SchedulerAt → Type 0
  Same k p = IsNotLost p → errand p ≡ k

  all_same : (x : SchedulerAt) → NoRelease x → AllNext n initiators (Same (errand (At x))) x
  all_same x d = grind (arith, common_steps)

  pub same_errand : (x : SchedulerAt) (r : Reply) → NoRelease x → IsNotLost (scheduler_goes n initiators x r)
      → errand (scheduler_goes n initiators x r) ≡ errand (At x)
  same_errand x r d f = goes_next n initiators (Same (errand (At x))) x r (λ f. absurd f) (λ f. absurd f) (all_same x d) f

  pub released_errand : (after : Stage) (r : Reply) → IsNotLost (on_released (stage_at n initiators after) r)
      → errand (on_released (stage_at n initiators after) r) ≡ after_release initiators after
  released_errand after r f = grind (arith, common_steps)

-- ---- the job that is handed out next

module _ (n initiators : ℕ) where
  pub same_next : (x : SchedulerAt) (r : Reply) → NoRelease x → IsNotLost (scheduler_goes n initiators x r)
      → next_job n (scheduler_goes n initiators x r) ≡ next_job n (At x)
  same_next x r d f = ap (next_of n) (same_errand n initiators x r d f)

  dismissals_next : (m more : ℕ) → next_of n (after_dismissals m more) ≡ n
  dismissals_next m x = grind (arith, common_steps)

  -- behind a release
  pub dismissed_next : (m more : ℕ) (r : Reply) → IsNotLost (on_released (stage_at n initiators (Dismissing m more)) r)
      → next_job n (on_released (stage_at n initiators (Dismissing m more)) r) ≡ n
  dismissed_next m more r f = ap (next_of n) (released_errand n initiators (Dismissing m more) r f) ∙ dismissals_next m more

  pub dispatched_next : (j : ℕ) (jobs : List JobData) (r : Reply) → j + length jobs ≡ n
      → IsNotLost (on_released (stage_at n initiators (Dispatching j jobs)) r)
      → next_job n (on_released (stage_at n initiators (Dispatching j jobs)) r) ≡ j
  dispatched_next j jobs r e f = grind (arith, common_steps)

pub next_below : (deck : List JobData) (initiators : ℕ) (x : SchedulerAt) → IsSchedulerAt deck initiators (At x)
    → next_job (length deck) (At x) ≤ length deck
next_below deck initiators x s = grind (arith, common_steps)

nexts_grow : (deck : List JobData) (initiators : ℕ) (x : SchedulerAt) → IsSchedulerAt deck initiators (At x)
    → AllNext (length deck) initiators (λ p. next_job (length deck) (At x) ≤ next_job (length deck) p) x
nexts_grow deck initiators x s = grind (arith, common_steps)

pub next_grows : (deck : List JobData) (initiators : ℕ) (x : SchedulerAt) (r : Reply) → IsSchedulerAt deck initiators (At x)
    → next_job (length deck) (At x) ≤ next_job (length deck) (scheduler_goes (length deck) initiators x r)
next_grows deck initiators x r s = grind (arith, common_steps, goes_next, At, next_below, nexts_grow)
