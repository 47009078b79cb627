-- The codes that pass between the tasks are the deck's: the scheduler marks each job as the deck says, a block with a job's end holds
-- that end, an element holds 0 or a job's code with its mark, and the writer keeps the ends. All blocks at once, no induction.
use Rattle.mv_plan.proofs.Words.{◌≡◌, ℕ, ◌+◌, ◌<◌, ◌≤◌, nat_lt, ◌||◌, List, [], ◌∷◌, ◌++◌, length, Some, refl, sym, ap, ◌∙◌}
use Rattle.mv_plan.proofs.Words.{arith, AllByRecursion, leb-true, Reply, JobData, After, Step, some_unaccepted, ends, job_at, end_of}
use Rattle.mv_plan.proofs.Words.{end_for_scheduler, code_of, some_end_above, ends_of, complete_count, EcbReply, common_steps, suc, get_or}
use Rattle.mv_plan.proofs.Words.{◌⊎◌, inl, inr, subst, append-nil, append_assoc, length-append, get_or-append_seam, Complete, Entry, Object}
use Rattle.mv_plan.proofs.Words.{Ecb, Element, Op, IsNext, Setup, System, moved, opening, initiator, Named, job_named, one_end_per_job}
use Rattle.mv_plan.proofs.Words.{EcbOp, ElementOp, WaitSlot}
use Rattle.mv_plan.proofs.deck.{ArePlannedJobs, is_skipped, IsPlanned, end_by_mark}
use Rattle.mv_plan.proofs.points.{Point, At, TooSoon, WaitAt, Arming, Settling, Stage, Dispatching, Dismissing, Awaited, ForEntry, ForEnds}
use Rattle.mv_plan.proofs.points.{ForIdle, ToDismiss, SchedulerAt, Waits, Extends, Clears, Releases, awaited_blocks, awaited_count}
use Rattle.mv_plan.proofs.points.{scheduler_goes, settling_from, found_at, ends_at, stage_at, lowest_keeps, AreLater, later_below}
use Rattle.mv_plan.proofs.points.{later_sound, IsAwaited, IsWaitAt, IsSchedulerAt, Finished, ReaderAt, Entering, reader_asks, running}
use Rattle.mv_plan.proofs.points.{scheduler_asks, WriterAt, Keeping, writing_from, end_found, writer_asks, writer_goes, Running}
use Rattle.mv_plan.proofs.points.{InitiatorAt, initiator_asks, initiator_goes, IsReaderAt, IsWriterAt, IsInitiatorAt, IsEnding, OfRun}
use Rattle.mv_plan.proofs.points.{Starts, runs_goes, code_held, ForScheduler, ForWriter}
use Rattle.mv_machine.proofs.Lists.{all_map}
use Rattle.mv_plan.proofs.lists.{all_with}
use Rattle.mv_plan.proofs.walks.{Points, start_points, HasStanding, KeepsUnder, by_moves, entry_of, block, element, block_reply}
use Rattle.mv_plan.proofs.ends.Blocks.{complete_moved, held_moved, settled_code, HasEnd, posts_run, posts_ending}

-- what was found at the blocks of these parts are the ends of their jobs
abbrev pub AreFound : List JobData → List After → List WaitSlot → Type 0
AreFound deck parts [] = Unit {0}
AreFound deck (part ∷ parts) (WaitSlot.Complete code ∷ found) = (code ≡ end_of deck part.job) × AreFound deck parts found
AreFound deck (part ∷ parts) (WaitSlot.Open ∷ found) = AreFound deck parts found
AreFound deck [] (slot ∷ found) = ⊥

-- the code that was chosen for the job in front of a stage; 0 where an initiator is dismissed
abbrev pub IsCodeFor : List JobData → ℕ → Stage → Type 0
IsCodeFor deck code (Dispatching j jobs) = (k : ℕ) × (k < length deck) × (j ≡ k + 1) × (code ≡ code_of k (is_skipped deck k))
IsCodeFor deck code (Dismissing i more) = code ≡ 0

abbrev pub MarkedWait : List JobData → Awaited → List WaitSlot → Type 0
MarkedWait deck (ForEntry j job jobs) found = Unit {0}
MarkedWait deck (ForEnds j job jobs) found = AreFound deck job.after found
MarkedWait deck (ForIdle j job jobs skipped) found = skipped ≡ is_skipped deck j
MarkedWait deck (ToDismiss i more) found = Unit {0}

abbrev pub found_in : WaitAt → List WaitSlot
found_in (Arming e todo) = []
found_in (Settling e todo found) = found

abbrev pub IsMarked : List JobData → Point SchedulerAt → Type 0
IsMarked deck (At (Waits a w)) = MarkedWait deck a (found_in w)
IsMarked deck (At (Extends j job jobs skipped)) = skipped ≡ is_skipped deck j
IsMarked deck (At (Clears i g code after)) = IsCodeFor deck code after
IsMarked deck (At (Releases i g code after)) = IsCodeFor deck code after
IsMarked deck p = Unit {0}

-- ---- what was found

none_more : (deck : List JobData) (parts : List After) (found : List WaitSlot) → AreFound deck parts found
    → complete_count found ≤ length parts
none_more deck parts [] f = omega arith
none_more deck (part ∷ parts) (WaitSlot.Complete code ∷ found) f = let le = none_more deck parts found f.1 in
    omega arith
none_more deck (part ∷ parts) (WaitSlot.Open ∷ found) f = grind (arith, common_steps, none_more deck parts found f)
none_more deck [] (slot ∷ found) f = absurd f

-- where all ends were found, one is above what is accepted exactly where the deck says so
pub found_mark : (deck : List JobData) (parts : List After) (found : List WaitSlot) → AreFound deck parts found
    → length parts ≤ complete_count found → some_end_above parts found ≡ some_unaccepted (ends deck) parts
found_mark deck (part ∷ parts) (WaitSlot.Complete code ∷ found) f le =
    ap (λ c. nat_lt part.most c || some_end_above parts found) f.0
    ∙ ap (λ b. nat_lt part.most (end_of deck part.job) || b) (found_mark deck parts found f.1 (omega arith))
found_mark deck (part ∷ parts) (WaitSlot.Open ∷ found) f le = let few = none_more deck parts found f in
    absurd (omega arith)
found_mark deck parts found f le = grind (arith, common_steps)

abbrev pub IsRight : WaitSlot → ℕ → Type 0
IsRight (WaitSlot.Complete code) end = code ≡ end
IsRight WaitSlot.Open end = Unit {0}

-- one more was settled
pub found_push : (deck : List JobData) (n : ℕ) (parts : List After) (past : List ℕ) (e : ℕ) (todo : List ℕ) (found : List WaitSlot)
    (slot : WaitSlot)
    → past ++ e ∷ todo ≡ ends_of n parts → length past ≡ length found → AllByRecursion (λ part. part.job < n) parts
    → AreFound deck parts found
    → ((k : ℕ) → k < n → e ≡ end_for_scheduler n k → IsRight slot (end_of deck k)) → AreFound deck parts (found ++ slot ∷ [])
found_push deck n [] [] e todo found slot at count below f right = absurd (cc at)
found_push deck n [] (p ∷ past) e todo found slot at count below f right = absurd (cc at)
found_push deck n (part ∷ parts) [] e todo [] slot at count below f right = grind (arith, common_steps)
found_push deck n (part ∷ parts) [] e todo (s ∷ found) slot at count below f right = absurd (omega arith)
found_push deck n (part ∷ parts) (p ∷ past) e todo [] slot at count below f right = absurd (omega arith)
found_push deck n (part ∷ parts) (p ∷ past) e todo (WaitSlot.Complete code ∷ found) slot at count below f right =
    (f.0, found_push deck n parts past e todo found slot (cc at) (omega arith) below.1 f.1 right)
found_push deck n (part ∷ parts) (p ∷ past) e todo (WaitSlot.Open ∷ found) slot at count below f right =
    found_push deck n parts past e todo found slot (cc at) (omega arith) below.1 f right

-- ---- the jobs that are left

pub later_job : (deck : List JobData) (j : ℕ) (job : JobData) (jobs : List JobData) → AreLater deck j (job ∷ jobs) → job_at deck j ≡ job
later_job deck j job jobs r = grind (arith, common_steps)

later_skipped : (deck : List JobData) (j : ℕ) (job : JobData) (jobs : List JobData) → AreLater deck j (job ∷ jobs)
    → some_unaccepted (ends deck) job.after ≡ is_skipped deck j
later_skipped deck j job jobs r = ap (λ o. some_unaccepted (ends deck) o.after) (sym (later_job deck j job jobs r))

pub later_parts : (deck : List JobData) (j : ℕ) (job : JobData) (jobs : List JobData) → ArePlannedJobs 0 deck → AreLater deck j (job ∷ jobs)
    → AllByRecursion (λ part. part.job < length deck) job.after
later_parts deck j job jobs sound r =
    let lt = later_below deck j job jobs r in
    all_map (λ (part : After) (less : part.job < j). omega arith) job.after (later_sound deck j job jobs sound r).earlier

-- ---- each next point

module _ (deck : List JobData) (initiators : ℕ) where
  ends_marked : (j : ℕ) (name : List ℕ) (after : List After) (steps : List Step) (jobs : List JobData)
      → AreLater deck j (record { name = name; after = after; steps = steps } ∷ jobs)
      → IsMarked deck (ends_at (length deck) j (record { name = name; after = after; steps = steps }) jobs)
  ends_marked j name x steps jobs r = grind (arith, common_steps)

  stage_marked : (after : Stage) → IsMarked deck (stage_at (length deck) initiators after)
  stage_marked x = grind (arith, common_steps)

  found_marked : (a : Awaited) (found : List WaitSlot) → IsAwaited deck initiators a → MarkedWait deck a found
      → awaited_count a ≤ complete_count found → IsMarked deck (found_at (length deck) a found)
  found_marked (ForEntry j job jobs) found r f le =
      lowest_keeps (IsMarked deck) (λ p code. ends_at (length deck) j job jobs) 0 found
      (λ i code. ends_marked j job.name job.after job.steps jobs r) tt
  found_marked (ForEnds j job jobs) found r f le = found_mark deck job.after found f le ∙ later_skipped deck j job jobs r
  found_marked (ForIdle j job jobs skipped) found r f le =
      lowest_keeps (IsMarked deck) (λ i g. At (Clears i g (code_of j skipped) (Dispatching (j + 1) jobs))) 0 found
      (λ i code. (j, later_below deck j job jobs r, refl, ap (λ b. code_of j b) f)) tt
  found_marked (ToDismiss i more) found r f le =
      lowest_keeps (IsMarked deck) (λ p g. At (Clears i g 0 (Dismissing (i + 1) more))) 0 found (λ p code. refl) tt

  settling_marked : (a : Awaited) (es : List ℕ) (found : List WaitSlot) → IsAwaited deck initiators a → MarkedWait deck a found
      → IsMarked deck (settling_from (length deck) a es found)
  settling_marked a [] found s f = grind (arith, common_steps, TooSoon, found_marked, leb-true)
  settling_marked a (e ∷ es) found s f = f

  one_settled : (a : Awaited) (e : ℕ) (todo : List ℕ) (found : List WaitSlot) (slot : WaitSlot) → ArePlannedJobs 0 deck
      → IsAwaited deck initiators a → IsWaitAt (awaited_blocks (length deck) initiators a) (Settling e todo found)
      → MarkedWait deck a found → ((k : ℕ) → k < length deck → e ≡ end_for_scheduler (length deck) k → IsRight slot (end_of deck k))
      → MarkedWait deck a (found ++ slot ∷ [])
  one_settled a e todo found slot sound s w f right = grind (arith, common_steps, found_push, later_parts)

  -- what a settle of a block with a job's end finds
  abbrev pub FindsEnds : SchedulerAt → Reply → Type 0
  FindsEnds (Waits a (Settling e todo found)) (Reply.Ecb (EcbReply.Complete code)) =
      (k : ℕ) → k < length deck → e ≡ end_for_scheduler (length deck) k → code ≡ end_of deck k
  FindsEnds x r = Unit {0}

  pub scheduler_marks : (x : SchedulerAt) (r : Reply) → ArePlannedJobs 0 deck → IsSchedulerAt deck initiators (At x)
      → IsMarked deck (At x) → FindsEnds x r → IsMarked deck (scheduler_goes (length deck) initiators x r)
  scheduler_marks (Waits a (Settling e todo found)) (Reply.Ecb (EcbReply.Complete code)) sound s f finds =
      settling_marked a todo (found ++ WaitSlot.Complete code ∷ []) s.0
      (one_settled a e todo found (WaitSlot.Complete code) sound s.0 s.1 f finds)
  scheduler_marks (Waits a (Settling e todo found)) (Reply.Ecb EcbReply.Open) sound s f finds =
      settling_marked a todo (found ++ WaitSlot.Open ∷ []) s.0 (one_settled a e todo found WaitSlot.Open sound s.0 s.1 f (λ k lt at. tt))
  scheduler_marks x r sound s f finds = grind (arith, common_steps, stage_marked)

-- ---- the codes of jobs

-- a code that the scheduler releases: 0, or the job's with its mark
abbrev pub IsCode : List JobData → ℕ → Type 0
IsCode deck code = (code ≡ 0) ⊎ ((j : ℕ) × (j < length deck) × (code ≡ code_of j (is_skipped deck j)))

-- ---- blocks and elements

-- a block that is complete and has a job's end has that job's
abbrev pub HoldEnds : List JobData → System → Type 0
HoldEnds deck s = (j b code : ℕ) → j < length deck → HasEnd (length deck) j b → block s b ≡ Complete code → code ≡ end_of deck j

abbrev pub PostsEnds : List JobData → Object → Op → Type 0
PostsEnds deck o op = (m d : ℕ) → o ≡ Ecb m → op ≡ Op.Ecb (EcbOp.Post d) → (j : ℕ) → j < length deck → HasEnd (length deck) j m
    → d ≡ end_of deck j

ends_moved : (deck : List JobData) (s : System) (k : ℕ) (o : Object) (op : Op) → PostsEnds deck o op → HoldEnds deck s
    → HoldEnds deck (moved s k o op)
ends_moved deck s k o op right h = λ j b code lt has e. elim (complete_moved s k o op b code e) [
  | inl before ↦ h j b code lt has before
  | inr posted ↦ right b code posted.0 posted.1 j lt has
]

abbrev pub HoldCodes : List JobData → System → Type 0
HoldCodes deck s = (m code : ℕ) → code_held (element s m) ≡ Some code → IsCode deck code

abbrev pub ReleasesCodes : List JobData → Object → Op → Type 0
ReleasesCodes deck o op = (m g d : ℕ) → o ≡ Element m → op ≡ Op.Element (ElementOp.Release g d) → IsCode deck d

codes_moved : (deck : List JobData) (s : System) (k : ℕ) (o : Object) (op : Op) → ReleasesCodes deck o op → HoldCodes deck s
    → HoldCodes deck (moved s k o op)
codes_moved deck s k o op right h = λ m code e. elim (held_moved s k o op m code e) [
  | inl before ↦ h m code before
  | inr released ↦ right m released.0 code released.1 released.2
]

-- ---- the writer

-- what the writer has kept are the deck's ends so far, and all of them in the end
abbrev pub KeepsEnds : List JobData → Point WriterAt → Type 0
KeepsEnds deck (At (Keeping j more kept w)) = (rest : List ℕ) × (kept ++ rest ≡ ends deck) × (length kept ≡ j)
KeepsEnds deck (Finished kept) = kept ≡ ends deck
KeepsEnds deck p = Unit {0}

none_left : (kept rest all : List ℕ) → kept ++ rest ≡ all → length kept ≡ length all → kept ≡ all
none_left kept x all e l = grind (arith, common_steps)

writing_keeps : (deck : List JobData) (j more : ℕ) (kept rest : List ℕ) → kept ++ rest ≡ ends deck → length kept ≡ j
    → j + more ≡ length deck → KeepsEnds deck (writing_from (length deck) j more kept)
writing_keeps deck j x kept rest e l n = grind (arith, common_steps, none_left, one_end_per_job)

-- one more end is kept
one_kept : (deck : List JobData) (j more : ℕ) (kept rest : List ℕ) (code : ℕ) → kept ++ rest ≡ ends deck → length kept ≡ j
    → j + suc more ≡ length deck → code ≡ end_of deck j
    → KeepsEnds deck (writing_from (length deck) (j + 1) more (kept ++ code ∷ []))
one_kept deck j more kept [] code e l n c = grind (arith, common_steps, one_end_per_job, append-nil)
one_kept deck j more kept (r ∷ rest) code e l n c =
    writing_keeps deck (j + 1) more (kept ++ code ∷ []) rest
    (append_assoc kept (code ∷ []) rest
    ∙ ap (λ z. kept ++ z ∷ rest) (c ∙ ap (λ es. get_or es j 0) (sym e) ∙ ap (λ k. get_or (kept ++ r ∷ rest) k 0) (sym l)
    ∙ get_or-append_seam kept r rest 0) ∙ e)
    (length-append kept (code ∷ []) ∙ ap (λ k. k + 1) l) (omega arith)

abbrev pub WriterFindsEnd : List JobData → WriterAt → Reply → Type 0
WriterFindsEnd deck (Keeping j more kept (Settling e todo found)) (Reply.Ecb (EcbReply.Complete code)) = code ≡ end_of deck j
WriterFindsEnd deck x r = Unit {0}

-- a wait for one block that found these
settled_keeps : (deck : List JobData) (j more : ℕ) (kept rest : List ℕ) (code : ℕ) (found : List WaitSlot) → kept ++ rest ≡ ends deck
    → length kept ≡ j → j + suc more ≡ length deck → found ≡ [] → code ≡ end_of deck j
    → KeepsEnds deck (end_found (length deck) j more kept (found ++ WaitSlot.Complete code ∷ []))
settled_keeps deck j more kept rest code [] e l n none c = one_kept deck j more kept rest code e l n c
settled_keeps deck j more kept rest code (f ∷ found) e l n none c = absurd (cc none)

pub writer_kept : (deck : List JobData) (x : WriterAt) (r : Reply) → IsWriterAt (length deck) (At x) → KeepsEnds deck (At x)
    → WriterFindsEnd deck x r → KeepsEnds deck (writer_goes (length deck) x r)
writer_kept deck x r at k finds = grind (arith, common_steps, settled_keeps)

-- ---- the invariant

abbrev pub IsMarkedRun : List JobData → Running → Type 0
IsMarkedRun deck run = run.skipped ≡ is_skipped deck run.job

pub record Codes (deck : List JobData) (initiators : ℕ) (s : System) (t : Points) : Type 0 where
  pub blocks : HoldEnds deck s
  pub elements : HoldCodes deck s
  -- the scheduler's mark of the job at hand, and the ends that it has found for it, are the deck's
  pub scheduler : IsMarked deck t.scheduler
  -- and so is the mark of each job that is run
  pub runs : (i : ℕ) → i < initiators → OfRun (IsMarkedRun deck) (t.initiators i)
  pub writer : KeepsEnds deck t.writer

abbrev pub HasCodes : List JobData → ℕ → System → Points → List Entry → Type 0
HasCodes deck initiators s t past = Codes deck initiators s t

-- ---- what each caller's events post and release

reader_posts : (deck : List JobData) (x : ReaderAt) → IsReaderAt (length deck) (At x) → PostsEnds deck (reader_asks x).0 (reader_asks x).1
reader_posts deck (Entering k more) at m d a b j lt has = grind (arith, common_steps)

scheduler_posts : (deck : List JobData) (x : SchedulerAt)
    → PostsEnds deck (scheduler_asks (length deck) x).0 (scheduler_asks (length deck) x).1
scheduler_posts deck x m d p q j lt has = grind (arith, common_steps)

writer_posts : (deck : List JobData) (x : WriterAt) → PostsEnds deck (writer_asks x).0 (writer_asks x).1
writer_posts deck x m d p q j lt has = grind (arith, common_steps)

-- the code with which an initiator ends its job is the job's end
pub ending_is : (deck : List JobData) (initiators : ℕ) (run : Running) (code : ℕ) → IsPlanned deck initiators → IsEnding deck run code
    → IsMarkedRun deck run → code ≡ end_of deck run.job
ending_is deck initiators run code sound at f = at.end ∙ end_by_mark deck run.job run.skipped sound.jobs at.round.job f

-- what holds of each job that a code in the initiator's element names, holds of the job that it is given
pub starts_held : (Q : Running → Type 0) (deck : List JobData) (c : Setup) (s : System) (i : ℕ) (x : InitiatorAt) (p : ℕ) (r : Reply)
    → IsNext c s (entry_of (initiator i) p (initiator_asks (length deck) i x) r)
    → ((code : ℕ) (named : Named) (before : List ℕ) (more g : ℕ) → code_held (element s (initiator i)) ≡ Some code
    → job_named (length deck) code ≡ Some named → Q (running named before more g)) → Starts Q deck x r
starts_held x deck c s i y p r n h = grind (arith, common_steps)

module _ (deck : List JobData) (initiators : ℕ) (sound : IsPlanned deck initiators) where
  initiator_posts : (i : ℕ) (x : InitiatorAt) → IsInitiatorAt deck (At x) → OfRun (IsMarkedRun deck) (At x)
      → PostsEnds deck (initiator_asks (length deck) i x).0 (initiator_asks (length deck) i x).1
  initiator_posts i x at f m d p q j lt has =
      let w = posts_run deck i x j m at lt has p in
      ending_is deck initiators w.0 d sound (posts_ending deck i x w.0 d at w.1 q) (f w.0 w.1) ∙ ap (λ k. end_of deck k) w.2

  pub initiator_releases : (i : ℕ) (x : InitiatorAt)
      → ReleasesCodes deck (initiator_asks (length deck) i x).0 (initiator_asks (length deck) i x).1
  initiator_releases i x m g d p q = grind (arith, common_steps)

  pub scheduler_releases : (x : SchedulerAt) → IsMarked deck (At x)
      → ReleasesCodes deck (scheduler_asks (length deck) x).0 (scheduler_asks (length deck) x).1
  scheduler_releases x f m g d p q = grind (arith, common_steps)

  -- the job that a code names, and its mark
  pub given_mark : (code : ℕ) (named : Named) → IsCode deck code → job_named (length deck) code ≡ Some named
      → named.skipped ≡ is_skipped deck named.job
  given_mark code named x e = grind (arith, common_steps)

  starts_marked : (c : Setup) (s : System) (i : ℕ) (x : InitiatorAt) (p : ℕ) (r : Reply)
      → IsNext c s (entry_of (initiator i) p (initiator_asks (length deck) i x) r) → HoldCodes deck s
      → Starts (IsMarkedRun deck) deck x r
  starts_marked c s i x p r n h = starts_held (IsMarkedRun deck) deck c s i x p r n
      (λ code named before more g held e. given_mark code named (h (initiator i) code held) e)

  finds_ends : (c : Setup) (s : System) (x : SchedulerAt) (k p : ℕ) (r : Reply)
      → IsNext c s (entry_of k p (scheduler_asks (length deck) x) r) → HoldEnds deck s → FindsEnds deck initiators x r
  finds_ends c s (Waits a (Settling e todo found)) k p (Reply.Ecb (EcbReply.Complete code)) n h = λ j lt at.
      h j e code lt (ForScheduler, at)
      (settled_code (block s e) code (cc (sym (block_reply c s k e EcbOp.Settle p (Reply.Ecb (EcbReply.Complete code)) n))))
  finds_ends c s x k p r n h = tt

  finds_end : (c : Setup) (s : System) (x : WriterAt) (k p : ℕ) (r : Reply) → IsNext c s (entry_of k p (writer_asks x) r)
      → IsWriterAt (length deck) (At x) → HoldEnds deck s → WriterFindsEnd deck x r
  finds_end c s (Keeping j more kept (Settling e todo found)) k p (Reply.Ecb (EcbReply.Complete code)) n at h =
      h j e code (let t = at.0 in omega arith) (ForWriter, at.1)
      (settled_code (block s e) code (cc (sym (block_reply c s k e EcbOp.Settle p (Reply.Ecb (EcbReply.Complete code)) n))))
  finds_end c s x k p r n at h = tt

  pub reader_releases : (x : ReaderAt) → ReleasesCodes deck (reader_asks x).0 (reader_asks x).1
  reader_releases (Entering k more) m g d p q = absurd (cc p)

  pub writer_releases : (x : WriterAt) → ReleasesCodes deck (writer_asks x).0 (writer_asks x).1
  writer_releases x m g d p q = grind (arith, common_steps)

  pub codes_keep : (c : Setup) → KeepsUnder (HasStanding deck initiators) (HasCodes deck initiators) c deck initiators
  codes_keep c = by_moves (HasStanding deck initiators) (HasCodes deck initiators) c deck initiators
      (λ s t past x p r at n q h. record {
        blocks = ends_moved deck s _ (reader_asks x).0 (reader_asks x).1
            (reader_posts deck x (subst (IsReaderAt (length deck)) at q.reader)) h.blocks;
        elements = codes_moved deck s _ (reader_asks x).0 (reader_asks x).1 (reader_releases x) h.elements;
        scheduler = h.scheduler;
        runs = h.runs;
        writer = h.writer;
      })
      (λ s t past x p r at n q h. record {
        blocks = ends_moved deck s _ (scheduler_asks (length deck) x).0 (scheduler_asks (length deck) x).1
            (scheduler_posts deck x) h.blocks;
        elements = codes_moved deck s _ (scheduler_asks (length deck) x).0 (scheduler_asks (length deck) x).1
            (scheduler_releases x (subst (IsMarked deck) at h.scheduler)) h.elements;
        scheduler = scheduler_marks deck initiators x r sound.jobs (subst (IsSchedulerAt deck initiators) at q.scheduler)
            (subst (IsMarked deck) at h.scheduler) (finds_ends c s x _ p r n h.blocks);
        runs = h.runs;
        writer = h.writer;
      })
      (λ s t past i x p r lt at n q h. record {
        blocks = ends_moved deck s _ (initiator_asks (length deck) i x).0 (initiator_asks (length deck) i x).1
            (initiator_posts i x (subst (IsInitiatorAt deck) at (q.each i lt))
            (subst (OfRun (IsMarkedRun deck)) at (h.runs i lt))) h.blocks;
        elements = codes_moved deck s _ (initiator_asks (length deck) i x).0 (initiator_asks (length deck) i x).1
            (initiator_releases i x) h.elements;
        scheduler = h.scheduler;
        runs = λ k below. all_with (λ j pt. OfRun (IsMarkedRun deck) pt) t.initiators i (initiator_goes deck x r) k
            (runs_goes (IsMarkedRun deck) deck x r (subst (OfRun (IsMarkedRun deck)) at (h.runs i lt))
            (starts_marked c s i x p r n h.elements)) (h.runs k below);
        writer = h.writer;
      })
      (λ s t past x p r at n q h. record {
        blocks = ends_moved deck s _ (writer_asks x).0 (writer_asks x).1 (writer_posts deck x) h.blocks;
        elements = codes_moved deck s _ (writer_asks x).0 (writer_asks x).1 (writer_releases x) h.elements;
        scheduler = h.scheduler;
        runs = h.runs;
        writer = writer_kept deck x r (subst (IsWriterAt (length deck)) at q.writer) (subst (KeepsEnds deck) at h.writer)
            (finds_end c s x _ p r n (subst (IsWriterAt (length deck)) at q.writer) h.blocks);
      })

  pub codes_first : (c : Setup) → Codes deck initiators (opening c) (start_points deck initiators)
  codes_first c = grind (arith, common_steps)
