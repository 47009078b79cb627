-- Which blocks were posted, in which order: a job's own block is extended from before its job is released until it is posted,
-- and nothing is posted twice. Uses places only before the event.
use Rattle.mv_plan.proofs.Words.{◌≡◌, ℕ, ◌+◌, ◌<◌, ◌≤◌, Bool, List, length, Some, ◌⊎◌, inl, inr, refl, sym, ap, ◌∙◌, subst, arith, ecb_step}
use Rattle.mv_plan.proofs.Words.{EcbState, Zero, Extended, Complete, Entry, Object, Ecb, Element, Op, Reply, IsNext, Setup, System, moved}
use Rattle.mv_plan.proofs.Words.{opening, with_at, JobData, Purged, entered, end_for_scheduler, end_for_writer, idle, initiator, code_of}
use Rattle.mv_plan.proofs.Words.{not_to_run, done, EcbOp, EcbReply, ElementOp, common_steps, rules}
use Rattle.mv_plan.proofs.points.{Point, At, Finished, TooSoon, Astray, ReaderAt, Entering, reader_asks, reader_goes, rounds_after}
use Rattle.mv_plan.proofs.points.{SchedulerAt, Waits, Extends, Clears, Releases, scheduler_asks, scheduler_goes, WriterAt, writer_asks}
use Rattle.mv_plan.proofs.points.{Running, InitiatorAt, EndPost, end_block, Ending, OfJob, ForScheduler, ForWriter, initiator_asks}
use Rattle.mv_plan.proofs.points.{initiator_goes, InJob, on_posted_keeps, IsReaderAt, IsWriterAt, IsSchedulerAt, stage_extended}
use Rattle.mv_plan.proofs.points.{awaited_extended, IsInitiatorAt, named_is, ByStage, stage_map, stage_goes, NotEnding, AllNext, goes_next}
use Rattle.mv_plan.proofs.points.{next_grows, code_held, run_of, next_job, rounds_land, ended_lands}
use Rattle.mv_plan.proofs.walks.{Points, start_points, TasksStand, KeepsUnder, by_moves, entry_of, block, element}
use Rattle.mv_plan.proofs.places.{Ledger, RunBy, run_alone, run_released, run_unheld}
use Rattle.mv_plan.proofs.ends.Blocks.{HasEnd, one_post, IsComplete, NotComplete, BlockAfter, block_moved}
use Rattle.mv_plan.proofs.ends.Blocks.{moved_there, complete_moved, not_moved, is_moved, held_moved}
use Rattle.mv_plan.proofs.ends.Blocks.{initiator_no_release, run_below, at_post, posts_run, posts_no_entered, initiator_ecb}
use Rattle.mv_plan.proofs.lists.{all_but}
use Rattle.mv_plan.proofs.ends.RightCodes.{starts_held}
use Rattle.mv_plan.proofs.standing.{wait_no_done}

-- how many of the done blocks the scheduler has extended at a point
abbrev pub extended_at : ℕ → SchedulerAt → ℕ
extended_at n (Waits a w) = awaited_extended n a
extended_at n (Extends j job jobs skipped) = j
extended_at n (Clears i g code after) = stage_extended n after
extended_at n (Releases i g code after) = stage_extended n after

-- below m they are extended, or complete, and from m on they are zero
abbrev pub IsSplit : ℕ → System → ℕ → Type 0
IsSplit n s m = (j : ℕ) → j < n → (j < m → (block s (done n j) ≡ Extended (j + 1)) ⊎ IsComplete s (done n j))
    × (m ≤ j → block s (done n j) ≡ Zero)

abbrev pub DoneBlocks : ℕ → System → Point SchedulerAt → Type 0
DoneBlocks n s (At x) = IsSplit n s (extended_at n x)
DoneBlocks n s (Finished answer) = IsSplit n s n
DoneBlocks n s p = Unit {0}

-- the job that is entered next
abbrev pub entered_from : ℕ → Point ReaderAt → ℕ
entered_from n (At (Entering j more)) = j
entered_from n p = n

-- a job whose end is not posted
abbrev pub NotDone : ℕ → System → ℕ → Type 0
NotDone n s j = NotComplete s (done n j)

-- what is posted before a post of a job's end
abbrev pub PostedBefore : ℕ → System → EndPost → ℕ → Type 0
PostedBefore n s OfJob j = Unit {0}
PostedBefore n s ForScheduler j = IsComplete s (done n j)
PostedBefore n s ForWriter j = IsComplete s (end_for_scheduler n j)

-- a post that is next: it is not made, and what is before it is
abbrev pub IsPostNext : ℕ → System → EndPost → ℕ → Type 0
IsPostNext n s post j = NotComplete s (end_block n j post) × PostedBefore n s post j

-- so of the job that an initiator runs
abbrev pub EndStage : ℕ → System → Point InitiatorAt → Type 0
EndStage n s = ByStage (IsPostNext n s)

-- a job's ends are posted in this order
abbrev pub IsInOrder : ℕ → System → ℕ → Type 0
IsInOrder n s j = (post : EndPost) → IsComplete s (end_block n j post) → PostedBefore n s post j

pub record Posted (deck : List JobData) (initiators : ℕ) (s : System) (t : Points) : Type 0 where
  -- a job's entered block is not complete before the reader posts it
  pub entering : (j : ℕ) → j < length deck → entered_from (length deck) t.reader ≤ j → NotComplete s (entered j)
  -- a job's done block is not complete while its job is to come, is handed out, or is run and not at its end
  pub coming : (j : ℕ) → j < length deck → next_job (length deck) t.scheduler ≤ j → NotDone (length deck) s j
  pub handed : (i j : ℕ) (skipped : Bool) → i < initiators → j < length deck
      → code_held (element s (initiator i)) ≡ Some (code_of j skipped) → NotDone (length deck) s j
  pub stages : (i : ℕ) → i < initiators → EndStage (length deck) s (t.initiators i)
  pub order : (j : ℕ) → j < length deck → IsInOrder (length deck) s j
  pub blocks : DoneBlocks (length deck) s t.scheduler

abbrev pub HasPlaces : List JobData → ℕ → System → Points → List Entry → Type 0
HasPlaces deck initiators s t past = TasksStand deck initiators t × Ledger deck initiators s t past

abbrev pub HasPosted : List JobData → ℕ → System → Points → List Entry → Type 0
HasPosted deck initiators s t past = Posted deck initiators s t

-- ---- what each caller's events leave

pub scheduler_no_post : (n : ℕ) (x : SchedulerAt) (d : ℕ) → (scheduler_asks n x).1 ≡ Op.Ecb (EcbOp.Post d) → ⊥
scheduler_no_post n x d q = grind (arith, common_steps)

-- the scheduler clears idle blocks alone
pub scheduler_clears : (n : ℕ) (x : SchedulerAt) (b : ℕ) → (scheduler_asks n x).0 ≡ Ecb b
    → (scheduler_asks n x).1 ≡ Op.Ecb EcbOp.Clear → (i : ℕ) × (b ≡ idle n i)
scheduler_clears n x b o q = grind (arith, common_steps)

pub writer_no_post : (x : WriterAt) (d : ℕ) → (writer_asks x).1 ≡ Op.Ecb (EcbOp.Post d) → ⊥
writer_no_post x d q = grind (arith, common_steps)

pub writer_clears_none : (x : WriterAt) → (writer_asks x).1 ≡ Op.Ecb EcbOp.Clear → ⊥
writer_clears_none x q = grind (arith, common_steps)

pub clear_is_no_post : {d : ℕ} → EcbOp.Clear ≡ EcbOp.Post d → ⊥
clear_is_no_post e = cc e

posted_step : (d : ℕ) (v : EcbState) → (code : ℕ) × ((ecb_step (EcbOp.Post d) v).0 ≡ Complete code)
posted_step d (Complete c) = (c, refl)
posted_step d y = (d, refl)

pub posted_is : (s : System) (k : ℕ) (o : Object) (op : Op) (b d : ℕ) → o ≡ Ecb b → op ≡ Op.Ecb (EcbOp.Post d)
    → IsComplete (moved s k o op) b
posted_is s k o op b d e f = let c = posted_step d (block s b) in
    (c.0, moved_there s k b o op (EcbOp.Post d) e f ∙ c.1)

-- at least as many done blocks are extended as jobs were handed out
pub next_extended : (n : ℕ) (y : SchedulerAt) → next_job n (At y) ≤ extended_at n y
next_extended n x = grind (arith, common_steps)

done_map : (n : ℕ) (s s' : System) (p : Point SchedulerAt) → ((m : ℕ) → next_job n p ≤ m → IsSplit n s m → IsSplit n s' m)
    → DoneBlocks n s p → DoneBlocks n s' p
done_map n s s' (At y) f h = f (extended_at n y) (next_extended n y) h
done_map n s s' (Finished answer) f h = f n (omega arith) h
done_map n s s' TooSoon f h = tt
done_map n s s' Astray f h = tt

-- what was posted stays so where each block with an end of the job that is complete stays so
before_stays : (n : ℕ) (s s' : System) (j : ℕ) → ((b : ℕ) → HasEnd n j b → IsComplete s b → IsComplete s' b) → (post : EndPost)
    → PostedBefore n s post j → PostedBefore n s' post j
before_stays n s s' j still OfJob w = tt
before_stays n s s' j still ForScheduler w = still _ (OfJob, refl) w
before_stays n s s' j still ForWriter w = still _ (ForScheduler, refl) w

-- a stage stays where each block with an end of the job stays as it was, complete or not
stage_stays : (n : ℕ) (s s' : System) (p : Point InitiatorAt) → ((run : Running) → run_of p ≡ Some run → (b : ℕ) → HasEnd n run.job b
    → (NotComplete s b → NotComplete s' b) × (IsComplete s b → IsComplete s' b)) → EndStage n s p → EndStage n s' p
stage_stays n s s' p stays = stage_map (IsPostNext n s) (IsPostNext n s') p (λ run e post f.
    ((stays run e _ (post, refl)).0 f.0, before_stays n s s' run.job (λ b has. (stays run e b has).1) post f.1))

module _ (deck : List JobData) (initiators : ℕ) where
  abbrev n : ℕ
  n = length deck

  -- ---- an initiator's event

  module _ (c : Setup) (s : System) (t : Points) (past : List Entry) (i : ℕ) (x : InitiatorAt) (p : ℕ) (r : Reply) (lt : i < initiators)
      (at : t.initiators i ≡ At x)
      (next : IsNext c s (entry_of (initiator i) p (initiator_asks n i x) r)) (q : HasPlaces deck initiators s t past)
      (h : Posted deck initiators s t) where
    abbrev asks : Object × Op
    asks = initiator_asks n i x

    abbrev i_after : System
    i_after = moved s (initiator i) asks.0 asks.1

    stands : IsInitiatorAt deck (At x)
    stands = subst (IsInitiatorAt deck) at (q.0.each i lt)

    -- it posts the end of the job that it runs alone
    own_end_posted : (j b code : ℕ) → j < n → HasEnd n j b → asks.0 ≡ Ecb b → asks.1 ≡ Op.Ecb (EcbOp.Post code) → RunBy t i j
    own_end_posted j b code below has o op =
        let w = posts_run deck i x j b stands below has o in
        (w.0, ap run_of at ∙ w.1, w.2)

    others_end : (j b : ℕ) → j < n → HasEnd n j b → (RunBy t i j → ⊥) → NotComplete s b → NotComplete i_after b
    others_end j b below has other free = search (rules, not_moved, own_end_posted)

    still : (b : ℕ) → IsComplete s b → IsComplete i_after b
    still b w = grind (arith, common_steps)

    -- the others' jobs
    others_stage : (m : ℕ) → m < initiators → (m ≡ i → ⊥) → EndStage n i_after (t.initiators m)
    others_stage m below other = stage_stays n s i_after (t.initiators m)
        (λ run e b has. let job = run_below deck (t.initiators m) run (q.0.each m below) e in
        let apart : RunBy t i run.job → ⊥ =
        λ z. other (run_alone deck initiators s t past q.1 run.job job m i below lt (run, e, refl) z) in
        (λ f. others_end run.job b job has apart f, still b))
        (h.stages m below)

    -- ---- its own

    plain_end : (j b : ℕ) → NotEnding x → j < n → HasEnd n j b → NotComplete s b → NotComplete i_after b
    plain_end j b plain below has free = grind (arith, common_steps)

    -- what stands of the ends of the job that it runs
    its_stage : (y : InitiatorAt) → x ≡ y → EndStage n s (At y)
    its_stage y is = subst (EndStage n s) (at ∙ ap (λ z. At z) is) (h.stages i lt)

    -- which is a job of the deck
    job_below : (y : InitiatorAt) (run : Running) → x ≡ y → run_of (At y) ≡ Some run → run.job < n
    job_below y run is e = run_below deck (At x) run stands (ap (λ z. run_of (At z)) is ∙ e)

    -- a block that it posts is complete then
    posted_now : (b code : ℕ) → asks ≡ (Ecb b, Op.Ecb (EcbOp.Post code)) → IsComplete i_after b
    posted_now b code e = posted_is s (initiator i) asks.0 asks.1 b code (ap (λ z. z.0) e) (ap (λ z. z.1) e)

    -- and another that was not is not
    posts_alone : (m b code : ℕ) → asks ≡ (Ecb m, Op.Ecb (EcbOp.Post code)) → (m ≡ b → ⊥) → NotComplete s b → NotComplete i_after b
    posts_alone m b code e apart free = grind (arith, common_steps)

    -- its stage after an event that posts no end
    own_plain : NotEnding x → EndStage n i_after (initiator_goes deck x r)
    own_plain plain = stage_goes (IsPostNext n i_after) deck x r plain
        (stage_stays n s i_after (At x)
        (λ run e b has. (λ f. plain_end run.job b plain (job_below x run refl e) has f, still b)) (its_stage x refl))
        (starts_held (λ run. IsPostNext n i_after OfJob run.job) deck c s i x p r next (λ code named before more g held e. (
          plain_end named.job _ plain (named_is n code named e).0 (OfJob, refl)
              (h.handed i named.job named.skipped lt (named_is n code named e).0
              (held ∙ ap (λ z. Some z) (named_is n code named e).1)),
          tt,
        )))

    after_job : (run : Running) → EndStage n i_after (rounds_after run)
    after_job run = rounds_land (EndStage n i_after) tt run.more _ run.generation (λ left e. tt)

    -- behind a post of its job's end, that post is made, and the next one is not
    later_next : (run : Running) (post later : EndPost) (code : ℕ) (counts : Purged) → x ≡ InJob run (Ending post code counts)
        → (post ≡ later → ⊥) → (IsComplete s (end_block n run.job later) → IsComplete s (end_block n run.job post))
        → NotComplete i_after (end_block n run.job later) × IsComplete i_after (end_block n run.job post)
    later_next run post later code counts is apart before =
        let asked : asks ≡ (Ecb (end_block n run.job post), Op.Ecb (EcbOp.Post code)) =
        ap (λ z. initiator_asks n i z) is in
        let job = job_below _ run is refl in (
          posts_alone _ _ code asked (λ e. apart (one_post n run.job run.job post later job job e).1)
              (λ d e. let w = before (d, e) in (its_stage _ is).0 w.0 w.1),
          posted_now _ code asked,
        )

    -- its stage after each event
    own_stage : (y : InitiatorAt) → x ≡ y → EndStage n i_after (initiator_goes deck y r)
    own_stage (InJob run (Ending OfJob code counts)) is = ended_lands (EndStage n i_after) tt run code counts r
        (later_next run OfJob ForScheduler code counts is (λ e. cc e) (h.order run.job (job_below _ run is refl) ForScheduler))
        (after_job run)
    own_stage (InJob run (Ending ForScheduler code counts)) is =
        on_posted_keeps (EndStage n i_after) (At (InJob run (Ending ForWriter code counts))) r
        (later_next run ForScheduler ForWriter code counts is (λ e. cc e) (h.order run.job (job_below _ run is refl) ForWriter)) tt
    own_stage y is = grind (arith, common_steps, own_plain)

    -- the order of its posts
    order_after : (j : ℕ) → j < n → IsInOrder n i_after j
    order_after j below post w = before_stays n s i_after j (λ b has. still b) post
        (elim (complete_moved s (initiator i) asks.0 asks.1 (end_block n j post) w.0 w.1) [
          | inl before ↦ h.order j below post (w.0, before)
          | inr posted ↦ let a = at_post deck i x j post stands below posted.0 in
              subst (PostedBefore n s post) a.4 (its_stage _ a.3).1
        ])

    -- the done blocks
    abbrev Moved : ℕ → Type 0
    Moved j = BlockAfter s (initiator i) asks.0 asks.1 (done n j)

    split_after : (m : ℕ) → next_job n t.scheduler ≤ m → IsSplit n s m → IsSplit n i_after m
    split_after m from sp j below = (
      λ less. extended_after (block_moved s (initiator i) asks.0 asks.1 (done n j)) ((sp j below).0 less),
      λ le. zero_after (block_moved s (initiator i) asks.0 asks.1 (done n j)) le,
    ) where
      extended_after : Moved j → (block s (done n j) ≡ Extended (j + 1)) ⊎ IsComplete s (done n j)
          → (block i_after (done n j) ≡ Extended (j + 1)) ⊎ IsComplete i_after (done n j)
      extended_after x was = grind (arith, common_steps)

      zero_after : Moved j → m ≤ j → block i_after (done n j) ≡ Zero
      zero_after (inl same) le = same ∙ (sp j below).1 le
      zero_after (inr w) le = let made = initiator_ecb n i x w.0 w.2 in
          let behind = run_released deck initiators s t past q.1 j below i lt
          (own_end_posted j (done n j) made.0 below (OfJob, refl) w.1 (w.2 ∙ ap (λ z. Op.Ecb z) made.1)) in
          absurd (omega arith)

    pub initiator_posted : Posted deck initiators i_after (record t { initiators = with_at t.initiators i (initiator_goes deck x r) })
    initiator_posted = record {
      entering = λ j below from. not_moved s (initiator i) asks.0 asks.1
          (entered j) (h.entering j below from)
          (λ code o op. posts_no_entered n i x j below o);
      coming = λ j below from. others_end j _ below (OfJob, refl) (λ z.
          let behind = run_released deck initiators s t past q.1 j below i lt z in omega arith) (h.coming j below from);
      handed = λ m j skipped lm below e. elim
          (held_moved s (initiator i) asks.0 asks.1 (initiator m)
          (code_of j skipped) e) [
            | inl before ↦ others_end j _ below (OfJob, refl) (λ z.
                run_unheld deck initiators s t past q.1 j below i m skipped lt lm z before) (h.handed m j skipped lm below before)
            | inr w ↦ absurd (initiator_no_release n i x w.0 (code_of j skipped) w.2)
          ];
      stages = λ m lm. all_but (λ m p. EndStage n i_after p) t.initiators i (initiator_goes deck x r) m (own_stage x refl)
          (λ other. others_stage m lm (λ z. other (sym z)));
      order = order_after;
      blocks = done_map n s i_after t.scheduler split_after h.blocks;
    }

  -- ---- an event that posts and clears no block with a job's end, and touches no done block

  module _ (s : System) (t : Points) (k : ℕ) (o : Object) (op : Op) (h : Posted deck initiators s t)
      (no_post : (j b code : ℕ) → j < n → HasEnd n j b → o ≡ Ecb b → op ≡ Op.Ecb (EcbOp.Post code) → ⊥)
      (no_clear : (j b : ℕ) → j < n → HasEnd n j b → o ≡ Ecb b → op ≡ Op.Ecb EcbOp.Clear → ⊥) where
    quiet_free : (j b : ℕ) → j < n → HasEnd n j b → NotComplete s b → NotComplete (moved s k o op) b
    quiet_free j b below has free = not_moved s k o op b free (λ code e f. no_post j b code below has e f)

    quiet_still : (j b : ℕ) → j < n → HasEnd n j b → IsComplete s b → IsComplete (moved s k o op) b
    quiet_still j b below has w = is_moved s k o op b w (no_clear j b below has)

    quiet_stage : (p : Point InitiatorAt) → IsInitiatorAt deck p → EndStage n s p → EndStage n (moved s k o op) p
    quiet_stage p at = search (rules, stage_stays, k, op, run_below, quiet_free, quiet_still)

    quiet_was : (j b : ℕ) → j < n → HasEnd n j b → IsComplete (moved s k o op) b → IsComplete s b
    quiet_was j b below has w = elim (complete_moved s k o op b w.0 w.1) [
      | inl before ↦ (w.0, before)
      | inr posted ↦ absurd (no_post j b w.0 below has posted.0 posted.1)
    ]

    quiet_order : (j : ℕ) → j < n → IsInOrder n (moved s k o op) j
    quiet_order j below post w = before_stays n s (moved s k o op) j (λ b has. quiet_still j b below has) post
        (h.order j below post (quiet_was j _ below (post, refl) w))

    quiet_split : ((j : ℕ) → j < n → o ≡ Ecb (done n j) → ⊥) → (m : ℕ) → IsSplit n s m → IsSplit n (moved s k o op) m
    quiet_split untouched m sp j below = grind (arith, common_steps)

    -- so of an event of the reader or the writer
    quiet_posted : (next_reader : Point ReaderAt) (next_writer : Point WriterAt)
        → ((i : ℕ) → i < initiators → IsInitiatorAt deck (t.initiators i))
        → ((j : ℕ) → j < n → entered_from n next_reader ≤ j → NotComplete (moved s k o op) (entered j))
        → ((m : ℕ) → o ≡ Element m → ⊥) → ((j : ℕ) → j < n → o ≡ Ecb (done n j) → ⊥)
        → Posted deck initiators (moved s k o op) (record t { reader = next_reader; writer = next_writer })
    quiet_posted next_reader next_writer each entering no_element untouched = record {
      entering = entering;
      coming = λ j below from. quiet_free j _ below (OfJob, refl) (h.coming j below from);
      handed = λ m j skipped lm below e. elim (held_moved s k o op (initiator m) (code_of j skipped) e) [
        | inl before ↦ quiet_free j _ below (OfJob, refl) (h.handed m j skipped lm below before)
        | inr w ↦ absurd (no_element (initiator m) w.1)
      ];
      stages = λ m lm. quiet_stage (t.initiators m) (each m lm) (h.stages m lm);
      order = quiet_order;
      blocks = done_map n s (moved s k o op) t.scheduler (λ m le sp. quiet_split untouched m sp) h.blocks;
    }

  -- ---- the reader

  reader_untouched : (x : ReaderAt) (j : ℕ) → IsReaderAt n (At x) → (reader_asks x).0 ≡ Ecb (done n j) → ⊥
  reader_untouched x j at o = grind (arith, common_steps)

  pub reader_ends : (x : ReaderAt) (j b : ℕ) → IsReaderAt n (At x) → HasEnd n j b → (reader_asks x).0 ≡ Ecb b → ⊥
  reader_ends x j b at has o = grind (arith, common_steps)

  reader_posted : (c : Setup) (s : System) (t : Points) (past : List Entry) (x : ReaderAt) (p : ℕ) (r : Reply) → t.reader ≡ At x
      → HasPlaces deck initiators s t past → Posted deck initiators s t
      → Posted deck initiators (moved s 0 (reader_asks x).0 (reader_asks x).1) (record t { reader = reader_goes x r })
  reader_posted c s t past x p r at q h =
      quiet_posted s t 0 (reader_asks x).0 (reader_asks x).1 h (λ j b code below has o op. reader_ends x j b stands has o)
      (λ j b below has o op. reader_ends x j b stands has o) (reader_goes x r) t.writer q.0.each enters (λ m o. reader_element x o)
      (λ j below o. reader_untouched x j stands o) where
        stands : IsReaderAt n (At x)
        stands = subst (IsReaderAt n) at q.0.reader

        enters : (j : ℕ) → j < n → entered_from n (reader_goes x r) ≤ j
            → NotComplete (moved s 0 (reader_asks x).0 (reader_asks x).1) (entered j)
        enters j below from = grind (arith, common_steps)

        reader_element : (x : ReaderAt) {m : ℕ} → (reader_asks x).0 ≡ Element m → ⊥
        reader_element (Entering k more) e = cc e

  -- ---- the writer

  pub writer_is : (x : WriterAt) (b : ℕ) → (writer_asks x).0 ≡ Ecb b → IsWriterAt n (At x) → (j : ℕ) × (b ≡ end_for_writer n j)
  writer_is x b o at = grind (arith, common_steps)

  writer_element : (x : WriterAt) (m : ℕ) → (writer_asks x).0 ≡ Element m → ⊥
  writer_element x m o = grind (arith, common_steps)

  writer_posted : (s : System) (t : Points) (past : List Entry) (x : WriterAt) (k : ℕ) (v : Point WriterAt) → t.writer ≡ At x
      → HasPlaces deck initiators s t past → Posted deck initiators s t
      → Posted deck initiators (moved s k (writer_asks x).0 (writer_asks x).1) (record t { writer = v })
  writer_posted s t past x k v at q h =
      quiet_posted s t k (writer_asks x).0 (writer_asks x).1 h (λ j b code below has o op. writer_no_post x code op)
      (λ j b below has o op. writer_clears_none x op) t.reader v q.0.each
      (λ j below from. not_moved s k (writer_asks x).0 (writer_asks x).1 (entered j) (h.entering j below from)
      (λ code o op. writer_no_post x code op)) (λ m o. writer_element x m o)
      (λ j below o. let w = writer_is x (done n j) o (subst (IsWriterAt n) at q.0.writer) in
      let e = w.1 in omega arith)

  -- ---- the scheduler

  -- it touches a done block only to extend it
  scheduler_untouched : (x : SchedulerAt) (j : ℕ) → IsSchedulerAt deck initiators (At x) → j < n → (scheduler_asks n x).0 ≡ Ecb (done n j)
      → (job : JobData) × (jobs : List JobData) × (skipped : Bool) × (x ≡ Extends j job jobs skipped)
  scheduler_untouched (Extends k job jobs skipped) j s below o = let e : done n k ≡ done n j = cc o in
      let same : k ≡ j = omega arith in (job, jobs, skipped, ap (λ z. Extends z job jobs skipped) same)
  scheduler_untouched x j s below o = grind (arith, common_steps, wait_no_done)

  released_next : (x : SchedulerAt) (g j : ℕ) (skipped : Bool) → n ≤ not_to_run → IsSchedulerAt deck initiators (At x)
      → j < n → (scheduler_asks n x).1 ≡ Op.Element (ElementOp.Release g (code_of j skipped))
      → next_job n (At x) ≤ j
  released_next x g j skipped few s below op = grind (arith, common_steps)

  -- where no done block was touched, the next point has extended as many
  nexts_done : (v : System) (x : SchedulerAt) → IsSchedulerAt deck initiators (At x)
      → ((j : ℕ) (job : JobData) (jobs : List JobData) (skipped : Bool) → x ≡ Extends j job jobs skipped → ⊥)
      → IsSplit n v (extended_at n x)
      → AllNext n initiators (λ p. DoneBlocks n v p) x
  nexts_done v x s ne sp = grind (arith, common_steps)

  module _ (few : n ≤ not_to_run) (s : System) (t : Points) (past : List Entry) (x : SchedulerAt) (r : Reply)
      (at : t.scheduler ≡ At x) (q : HasPlaces deck initiators s t past) (h : Posted deck initiators s t) where
    s_stands : IsSchedulerAt deck initiators (At x)
    s_stands = subst (IsSchedulerAt deck initiators) at q.0.scheduler

    abbrev s_asks : Object × Op
    s_asks = scheduler_asks n x

    abbrev s_after : System
    s_after = moved s 1 s_asks.0 s_asks.1

    s_no_post : (j b code : ℕ) → j < n → HasEnd n j b → s_asks.0 ≡ Ecb b → s_asks.1 ≡ Op.Ecb (EcbOp.Post code) → ⊥
    s_no_post j b code below has o op = scheduler_no_post n x code op

    s_no_clear : (j b : ℕ) → j < n → HasEnd n j b → s_asks.0 ≡ Ecb b → s_asks.1 ≡ Op.Ecb EcbOp.Clear → ⊥
    s_no_clear j b below has o op = grind (arith, common_steps)

    free_still : (j : ℕ) → j < n → NotDone n s j → NotDone n s_after j
    free_still j below f = grind (arith, common_steps)

    plain_after : (y : SchedulerAt) → x ≡ y
        → ((j : ℕ) (job : JobData) (jobs : List JobData) (skipped : Bool) → y ≡ Extends j job jobs skipped → ⊥)
        → IsSplit n s (extended_at n y)
        → DoneBlocks n s_after (scheduler_goes n initiators x r)
    plain_after y is ne sp = goes_next n initiators (λ p. DoneBlocks n s_after p) x r tt tt
        (nexts_done s_after x s_stands (λ j job jobs skipped e. ne j job jobs skipped (sym is ∙ e))
        (quiet_split s t 1 s_asks.0 s_asks.1 h s_no_post s_no_clear
        (λ j below o. let w = scheduler_untouched x j s_stands below o in ne j w.0 w.1 w.2 (sym is ∙ w.3))
        (extended_at n x) (subst (λ z. IsSplit n s (extended_at n z)) (sym is) sp)))

    blocks_after : (y : SchedulerAt) → x ≡ y → IsSplit n s (extended_at n y) → DoneBlocks n s_after (scheduler_goes n initiators x r)
    blocks_after (Extends j job jobs skipped) is sp = grind (arith, common_steps)
    blocks_after y is sp = plain_after y is (λ j job jobs skipped e. cc e) sp

    scheduler_posted : Posted deck initiators s_after (record t { scheduler = scheduler_goes n initiators x r })
    scheduler_posted = record {
      entering = λ j below from. not_moved s 1 s_asks.0 s_asks.1 (entered j)
          (h.entering j below from) (λ code o op. scheduler_no_post n x code op);
      coming = λ j below from. let grows = next_grows deck initiators x r s_stands in
          free_still j below (h.coming j below (subst (λ z. next_job n z ≤ j) (sym at) (omega arith)));
      handed = λ m j skipped lm below e. elim
          (held_moved s 1 s_asks.0 s_asks.1 (initiator m) (code_of j skipped) e) [
            | inl before ↦ free_still j below (h.handed m j skipped lm below before)
            | inr w ↦ free_still j below (h.coming j below
                (subst (λ z. next_job n z ≤ j) (sym at) (released_next x w.0 j skipped few s_stands below w.2)))
          ];
      stages = λ m lm. quiet_stage s t 1 s_asks.0 s_asks.1 h s_no_post s_no_clear (t.initiators m) (q.0.each m lm) (h.stages m lm);
      order = quiet_order s t 1 s_asks.0 s_asks.1 h s_no_post s_no_clear;
      blocks = blocks_after x refl (subst (λ z. DoneBlocks n s z) at h.blocks);
    }

  pub posted_keeps : (c : Setup) → n ≤ not_to_run → KeepsUnder (HasPlaces deck initiators) (HasPosted deck initiators) c deck initiators
  posted_keeps c few = search (rules, by_moves, initiators, reader_posted, scheduler_posted, initiator_posted, writer_posted)

  pub posted_first : (c : Setup) → Posted deck initiators (opening c) (start_points deck initiators)
  posted_first c = grind (arith, common_steps)

  -- ---- the Extend of a done block is answered Armed

  pub extend_is_armed : (c : Setup) (s : System) (t : Points) (j : ℕ) (job : JobData) (jobs : List JobData) (skipped : Bool) (k p : ℕ)
      (r : Reply) → t.scheduler ≡ At (Extends j job jobs skipped) → TasksStand deck initiators t → Posted deck initiators s t
      → IsNext c s (entry_of k p (scheduler_asks n (Extends j job jobs skipped)) r) → r ≡ Reply.Ecb EcbReply.Armed
  extend_is_armed c s t j job jobs skipped k p r at stands h next = grind (arith, common_steps)
