-- What the entries so far say of the blocks with the jobs' ends: the codes that were posted are those that the blocks hold, and the
-- writer has found the end of each job before the one that it waits for. Used by the result on ends.
use Rattle.mv_plan.proofs.Words.{◌≡◌, ℕ, ◌+◌, ◌<◌, ◌==◌, Bool, List, [], ◌∷◌, ◌++◌, length, map, Some, None, ◌⊎◌, inl, inr, refl, sym, ap}
use Rattle.mv_plan.proofs.Words.{◌∙◌, subst, append-nil, arith, AllByRecursion, filter_map-append, EcbOp, ecb_step, EcbState, Extended}
use Rattle.mv_plan.proofs.Words.{Complete, Entry, Object, Ecb, Element, Op, Reply, IsNext, Setup, System, moved, opening, posts, post_codes}
use Rattle.mv_plan.proofs.Words.{JobData, not_run, end_of, end_for_scheduler, end_for_writer, code_of, all_push, done, EcbReply, ElementOp}
use Rattle.mv_plan.proofs.Words.{common_steps, suc, cases_lt, idle, reader, scheduler, initiator, writer, WaitSlot}
use Rattle.std.proofs.lemmas.List.{map-append}
use Rattle.mv_plan.specs.PostingEnds.{post_in, FindsEnd}
use Rattle.mv_plan.proofs.deck.{IsPlanned, is_skipped, skipped_ends, few_jobs, code_parts, never_zero}
use Rattle.mv_plan.proofs.ends.Blocks.{HasEnd, NotComplete, BlockAfter, block_moved, moved_there, IsComplete}
use Rattle.mv_plan.proofs.ends.Blocks.{is_moved, reader_ecb, initiator_ecb, idle_none, posts_run}
use Rattle.mv_plan.proofs.ends.RightCodes.{HoldEnds, ReleasesCodes, IsMarked, Codes, reader_releases, scheduler_releases}
use Rattle.mv_plan.proofs.ends.RightCodes.{initiator_releases, writer_releases}
use Rattle.mv_plan.proofs.walks.{entry_of, block, Points, start_points, HasStanding, KeepsUnder, by_moves, TasksStand}
use Rattle.mv_plan.proofs.points.{Point, At, Finished, Arming, Settling, WriterAt, Keeping, writing_from, end_found, writer_asks}
use Rattle.mv_plan.proofs.points.{writer_goes, reader_asks, scheduler_asks, initiator_asks, on_armed_keeps, IsWriterAt, ReaderAt}
use Rattle.mv_plan.proofs.points.{SchedulerAt, InitiatorAt, Offering, IsReaderAt, IsInitiatorAt, run_of, next_job, IsNotLost, OfJob}
use Rattle.mv_plan.proofs.points.{ForScheduler, ForWriter}
use Rattle.mv_plan.proofs.ends.Posted.{scheduler_clears, writer_clears_none, clear_is_no_post, Posted, DoneBlocks, reader_ends}
use Rattle.mv_plan.proofs.ends.Posted.{scheduler_no_post, writer_no_post}
use Rattle.mv_plan.proofs.places.{RunBy}

-- the codes that a block is complete with
abbrev pub code_list : EcbState → List ℕ
code_list (Complete code) = code ∷ []
code_list v = []

-- a release of a job's code says that the job is not to be run exactly where its end is the not-run end
abbrev pub HasRightMark : List JobData → Entry → Type 0
HasRightMark deck e = (m g j : ℕ) (skipped : Bool) → j < length deck → e.object ≡ Element m
    → e.op ≡ Op.Element (ElementOp.Release g (code_of j skipped)) → skipped ≡ (end_of deck j == not_run)

-- no post finds its block complete
abbrev pub PostsFirst : Entry → Type 0
PostsFirst e = (b d code : ℕ) → e.object ≡ Ecb b → e.op ≡ Op.Ecb (EcbOp.Post d) → e.reply ≡ Reply.Ecb (EcbReply.Already code) → ⊥

pub record Traces (deck : List JobData) (s : System) (past : List Entry) : Type 0 where
  -- each block with a job's end was posted exactly where it is complete, and with that code
  pub codes : (j b : ℕ) → j < length deck → HasEnd (length deck) j b → post_codes b past ≡ code_list (block s b)
  -- the post of a done block started its exit
  pub woke : (j : ℕ) → j < length deck → AllByRecursion (λ p. p.1 ≡ Reply.Ecb (EcbReply.Woke (j + 1))) (posts (done (length deck) j) past)
  pub found : AllByRecursion (FindsEnd deck) past
  pub marked : AllByRecursion (HasRightMark deck) past
  pub first : AllByRecursion PostsFirst past

-- ---- one entry more

-- an event posts this block, or it does not
abbrev PostCase : ℕ → Object → Op → Reply → Type 0
PostCase b o op r = ((d : ℕ) × (o ≡ Ecb b) × (op ≡ Op.Ecb (EcbOp.Post d)) × (post_in b o op r ≡ Some (d, r)))
    ⊎ ((post_in b o op r ≡ None) × ((d : ℕ) → o ≡ Ecb b → op ≡ Op.Ecb (EcbOp.Post d) → ⊥))

post_case : (b : ℕ) (o : Object) (op : Op) (r : Reply) → PostCase b o op r
post_case b y op r = grind (arith, common_steps)

posts_none : (b k p : ℕ) (o : Object) (op : Op) (r : Reply) (past : List Entry) → post_in b o op r ≡ None
    → posts b (past ++ entry_of k p (o, op) r ∷ []) ≡ posts b past
posts_none b k p o op r past e = grind (arith, common_steps, filter_map-append, append-nil)

posts_some : (b k p : ℕ) (o : Object) (op : Op) (r : Reply) (past : List Entry) (d : ℕ) → post_in b o op r ≡ Some (d, r)
    → posts b (past ++ entry_of k p (o, op) r ∷ []) ≡ posts b past ++ (d, r) ∷ []
posts_some b k p o op r past d e = grind (arith, common_steps, filter_map-append)

-- ---- tables

no_code : (v : EcbState) → ((code : ℕ) → v ≡ Complete code → ⊥) → code_list v ≡ []
no_code y f = grind (arith, common_steps)

posted_code : (d : ℕ) (v : EcbState) → ((code : ℕ) → v ≡ Complete code → ⊥) → code_list (ecb_step (EcbOp.Post d) v).0 ≡ d ∷ []
posted_code d y f = grind (arith, common_steps)

kept_code : (op : EcbOp) (v : EcbState) → ((d : ℕ) → op ≡ EcbOp.Post d → ⊥) → (op ≡ EcbOp.Clear → ⊥)
    → code_list (ecb_step op v).0 ≡ code_list v
kept_code y v f g = grind (arith, common_steps)

-- an answer Complete is of a complete block, and so is an answer Already
complete_reply : (op : EcbOp) (v : EcbState) (code : ℕ) → (ecb_step op v).1 ≡ EcbReply.Complete code → v ≡ Complete code
complete_reply op v code e = grind arith

-- the reply at a block
replied : (c : Setup) (s : System) (k b p : ℕ) (o : Object) (op : Op) (r : Reply) (e : EcbOp) → IsNext c s (entry_of k p (o, op) r)
    → o ≡ Ecb b → op ≡ Op.Ecb e → r ≡ Reply.Ecb (ecb_step e (block s b)).1
replied c s k b p o op r e n f g = grind (arith, common_steps)

-- an event on a block is of a block's kind
ecb_kind : (c : Setup) (s : System) (k b p : ℕ) (o : Object) (op : Op) (r : Reply) → IsNext c s (entry_of k p (o, op) r) → o ≡ Ecb b
    → (e : EcbOp) × (op ≡ Op.Ecb e)
ecb_kind c s k b p o op r n f = grind (arith, common_steps)

-- ---- the step, for any event

module _ (deck : List JobData) (initiators : ℕ) (sound : IsPlanned deck initiators) (c : Setup) (s : System) (k p : ℕ)
    (o : Object) (op : Op) (r : Reply) (past : List Entry)
    (next : IsNext c s (entry_of k p (o, op) r)) (h : Traces deck s past) (ends : HoldEnds deck s) (releases : ReleasesCodes deck o op)
    (free : (b d : ℕ) → o ≡ Ecb b → op ≡ Op.Ecb (EcbOp.Post d) → NotComplete s b)
    (extended : (j d : ℕ) → j < length deck → o ≡ Ecb (done (length deck) j) → op ≡ Op.Ecb (EcbOp.Post d)
    → block s (done (length deck) j) ≡ Extended (j + 1))
    (no_clear : (j b : ℕ) → j < length deck → HasEnd (length deck) j b → o ≡ Ecb b → op ≡ Op.Ecb EcbOp.Clear → ⊥) where
  abbrev e : Entry
  e = entry_of k p (o, op) r

  codes_next : (j b : ℕ) → j < length deck → HasEnd (length deck) j b → PostCase b o op r
      → post_codes b (past ++ e ∷ []) ≡ code_list (block (moved s k o op) b)
  codes_next j b lt has (inl w) = ap (λ ps. map (λ p. p.0) ps) (posts_some b k p o op r past w.0 w.3)
      ∙ map-append (λ p. p.0) (posts b past) ((w.0, r) ∷ [])
      ∙ ap (λ z. z ++ w.0 ∷ []) (h.codes j b lt has ∙ no_code (block s b) (free b w.0 w.1 w.2))
      ∙ sym (ap (λ v. code_list v) (moved_there s k b o op (EcbOp.Post w.0) w.1 w.2)
      ∙ posted_code w.0 (block s b) (free b w.0 w.1 w.2))
  codes_next j b lt has (inr w) = ap (λ ps. map (λ p. p.0) ps) (posts_none b k p o op r past w.0) ∙ h.codes j b lt has
      ∙ sym (after (block_moved s k o op b)) where
        after : BlockAfter s k o op b → code_list (block (moved s k o op) b) ≡ code_list (block s b)
        after (inl same) = ap (λ v. code_list v) same
        after (inr m) = ap (λ v. code_list v) m.3
            ∙ kept_code m.0 (block s b) (λ d q. w.1 d m.1 (m.2 ∙ ap (λ z. Op.Ecb z) q))
            (λ q. no_clear j b lt has m.1 (m.2 ∙ ap (λ z. Op.Ecb z) q))

  woke_next : (j : ℕ) → j < length deck → PostCase (done (length deck) j) o op r
      → AllByRecursion (λ p. p.1 ≡ Reply.Ecb (EcbReply.Woke (j + 1))) (posts (done (length deck) j) (past ++ e ∷ []))
  woke_next j lt (inl w) = subst (λ ps. AllByRecursion (λ p. p.1 ≡ Reply.Ecb (EcbReply.Woke (j + 1))) ps)
      (sym (posts_some (done (length deck) j) k p o op r past w.0 w.3))
      (all_push (λ p. p.1 ≡ Reply.Ecb (EcbReply.Woke (j + 1))) (posts (done (length deck) j) past) (w.0, r) (h.woke j lt)
      (replied c s k (done (length deck) j) p o op r (EcbOp.Post w.0) next w.1 w.2
      ∙ ap (λ v. Reply.Ecb (ecb_step (EcbOp.Post w.0) v).1) (extended j w.0 lt w.1 w.2)))
  woke_next j lt (inr w) = grind (arith, common_steps, posts_none)

  finds_at : (b j code : ℕ) → j < length deck → HasEnd (length deck) j b → o ≡ Ecb b → r ≡ Reply.Ecb (EcbReply.Complete code)
      → code ≡ end_of deck j
  finds_at b j code lt has f e = let w = ecb_kind c s k b p o op r next f in
      ends j b code lt has (complete_reply w.0 (block s b) code (cc (sym (replied c s k b p o op r w.0 next f w.1) ∙ e)))

  finds_next : FindsEnd deck e
  finds_next j code lt (inl f) q = finds_at (end_for_scheduler (length deck) j) j code lt (ForScheduler, refl) f q
  finds_next j code lt (inr f) q = finds_at (end_for_writer (length deck) j) j code lt (ForWriter, refl) f q

  mark_next : HasRightMark deck e
  mark_next m g j skipped lt f q = elim (releases m g (code_of j skipped) f q) [
    | inl none ↦ absurd (never_zero j skipped none)
    | inr w ↦
        let same = code_parts (length deck) j w.0 skipped (is_skipped deck w.0) (few_jobs deck initiators sound) lt w.1 w.2 in
        same.1 ∙ ap (λ z. is_skipped deck z) (sym same.0) ∙ skipped_ends deck j sound.jobs lt
  ]

  first_next : PostsFirst e
  first_next b d code f g q = grind (arith, common_steps)

  pub traces_next : Traces deck (moved s k o op) (past ++ e ∷ [])
  traces_next = record {
    codes = λ j b lt has. codes_next j b lt has (post_case b o op r);
    woke = λ j lt. woke_next j lt (post_case (done (length deck) j) o op r);
    found = all_push (FindsEnd deck) past e h.found finds_next;
    marked = all_push (HasRightMark deck) past e h.marked mark_next;
    first = all_push PostsFirst past e h.first first_next;
  }

pub traces_first : (deck : List JobData) (c : Setup) → Traces deck (opening c) []
traces_first deck c = record { codes = λ j b lt has. refl; woke = λ j lt. tt; found = tt; marked = tt; first = tt }

-- ---- the writer has found the end of each job before the one that it waits for

-- the ends of all jobs below are posted to the writer
abbrev pub HasFound : ℕ → System → Point WriterAt → Type 0
HasFound n s (At (Keeping j more kept w)) = (k : ℕ) → k < j → IsComplete s (end_for_writer n k)
HasFound n s (Finished kept) = (k : ℕ) → k < n → IsComplete s (end_for_writer n k)
HasFound n s p = Unit {0}

abbrev pub WriterHas : List JobData → System → Points → List Entry → Type 0
WriterHas deck s t past = HasFound (length deck) s t.writer

writing_found : (n j more : ℕ) (s : System) (kept : List ℕ) → j + more ≡ n → ((k : ℕ) → k < j → IsComplete s (end_for_writer n k))
    → HasFound n s (writing_from n j more kept)
writing_found n j x s kept e h = grind (arith, common_steps)

one_more : (n j : ℕ) (s : System) → IsComplete s (end_for_writer n j) → ((k : ℕ) → k < j → IsComplete s (end_for_writer n k)) → (k : ℕ)
    → k < j + 1 → IsComplete s (end_for_writer n k)
one_more n j s last h k lt = elim
    (cases_lt k j) [
      | inl less ↦ h k less
      | inr le ↦ subst (λ z. IsComplete s (end_for_writer n z)) (let e : j ≡ k = omega arith in e) last
    ]

settled_found : (n j more : ℕ) (s : System) (kept : List ℕ) (code : ℕ) (found : List WaitSlot) → found ≡ [] → j + suc more ≡ n
    → IsComplete s (end_for_writer n j) → ((k : ℕ) → k < j → IsComplete s (end_for_writer n k))
    → HasFound n s (end_found n j more kept (found ++ WaitSlot.Complete code ∷ []))
settled_found n j more s kept code [] none e last h =
    writing_found n (j + 1) more s (kept ++ code ∷ []) (omega arith) (one_more n j s last h)
settled_found n j more s kept code (f ∷ found) none e last h = absurd (cc none)

idle_elsewhere : (n i k : ℕ) → k < n → end_for_writer n k ≡ idle n i → ⊥
idle_elsewhere n i k lt e = omega arith

module _ (deck : List JobData) (initiators : ℕ) where
  abbrev FindsIt : System → WriterAt → Reply → Type 0
  FindsIt s (Keeping j more kept (Settling e todo found)) (Reply.Ecb (EcbReply.Complete code)) = IsComplete s e
  FindsIt s x r = Unit {0}

  finds_it : (c : Setup) (s : System) (x : WriterAt) (k p : ℕ) (r : Reply) → IsNext c s (entry_of k p (writer_asks x) r) → FindsIt s x r
  finds_it c s x k p r n = grind (arith, common_steps)

  own_found : (s s' : System) (x : WriterAt) (r : Reply) → IsWriterAt (length deck) (At x)
      → ((b : ℕ) → IsComplete s b → IsComplete s' b) → FindsIt s x r → HasFound (length deck) s (At x)
      → HasFound (length deck) s' (writer_goes (length deck) x r)
  own_found s s' (Keeping j more kept (Arming e [])) r at f it h =
      on_armed_keeps (HasFound (length deck) s') (At (Keeping j more kept (Settling (end_for_writer (length deck) j) [] []))) r
      (λ k lt. f _ (h k lt)) tt
  own_found s s' (Keeping j more kept (Settling e [] found)) (Reply.Ecb (EcbReply.Complete code)) at f it h =
      settled_found (length deck) j more s' kept code found at.3 at.0 (f _ (subst (IsComplete s) at.1 it)) (λ k lt. f _ (h k lt))
  own_found s s' x r at f it h = grind (arith, common_steps)

  -- an event that clears no end for the writer
  still_found : (s : System) (p : Point WriterAt) (k : ℕ) (o : Object) (op : Op) → IsWriterAt (length deck) p
      → ((j : ℕ) → j < length deck → o ≡ Ecb (end_for_writer (length deck) j) → op ≡ Op.Ecb EcbOp.Clear → ⊥)
      → HasFound (length deck) s p → HasFound (length deck) (moved s k o op) p
  still_found s p k o op at clear h = kept s (moved s k o op) p at (λ j lt w. is_moved s k o op _ w (clear j lt)) h where
    kept : (s z : System) (p : Point WriterAt) → IsWriterAt (length deck) p → ((j : ℕ) → j < length deck
        → IsComplete s (end_for_writer (length deck) j) → IsComplete z (end_for_writer (length deck) j))
        → HasFound (length deck) s p → HasFound (length deck) z p
    kept s z (At (Keeping j more ends (Arming e todo))) at f h = λ k lt. f k (let q = at.0 in omega arith) (h k lt)
    kept s z (At (Keeping j more ends (Settling e todo found))) at f h = grind (arith, common_steps)
    kept s z (Finished ends) at f h = λ k lt. f k lt (h k lt)
    kept s z p at f h = tt

  pub writer_has_keeps : (c : Setup) → KeepsUnder (HasStanding deck initiators) (WriterHas deck) c deck initiators
  writer_has_keeps c = by_moves (HasStanding deck initiators) (WriterHas deck) c deck initiators
      (λ s t past x p r at n q h. still_found s t.writer reader (reader_asks x).0 (reader_asks x).1 q.writer
      (λ j lt o op. clear_is_no_post (reader_ecb x EcbOp.Clear op).1) h)
      (λ s t past x p r at n q h.
      still_found s t.writer scheduler (scheduler_asks (length deck) x).0 (scheduler_asks (length deck) x).1 q.writer
      (λ j lt o op. let i = scheduler_clears (length deck) x (end_for_writer (length deck) j) o op in
      idle_elsewhere (length deck) i.0 j lt i.1) h)
      (λ s t past i x p r lt at n q h.
      still_found s t.writer (initiator i) (initiator_asks (length deck) i x).0 (initiator_asks (length deck) i x).1 q.writer
      (λ j lt o op. clear_is_no_post (initiator_ecb (length deck) i x EcbOp.Clear op).1) h)
      (λ s t past x p r at n q h. own_found s (moved s (writer initiators) (writer_asks x).0 (writer_asks x).1) x r
      (subst (IsWriterAt (length deck)) at q.writer)
      (λ b w. is_moved s (writer initiators) (writer_asks x).0 (writer_asks x).1 b w (λ o op. writer_clears_none x op))
      (finds_it c s x _ p r n) (subst (HasFound (length deck) s) at h))

  pub writer_has_first : (c : Setup) → WriterHas deck (opening c) (start_points deck initiators) []
  writer_has_first c = writing_found (length deck) 0 (length deck) (opening c) [] (omega arith) (λ k lt. absurd (omega arith))

-- ---- what the traces use of a moment, and how each caller's entry adds to them

-- an initiator that offers itself finds its block free
abbrev pub IsFreeToOffer : ℕ → System → ℕ → Point InitiatorAt → Type 0
IsFreeToOffer n s i (At (Offering more before g)) = NotComplete s (idle n i)
IsFreeToOffer n s i p = Unit {0}

pub record EndMoment (deck : List JobData) (initiators : ℕ) (s : System) (t : Points) : Type 0 where
  pub stands : TasksStand deck initiators t
  pub released : (i j : ℕ) → i < initiators → j < length deck → RunBy t i j → j < next_job (length deck) t.scheduler
  pub codes : Codes deck initiators s t
  pub posted : Posted deck initiators s t
  pub offering : (i : ℕ) → i < initiators → IsFreeToOffer (length deck) s i (t.initiators i)
  pub going : IsNotLost t.scheduler

abbrev pub HasEndMoment : List JobData → ℕ → System → Points → List Entry → Type 0
HasEndMoment deck initiators s t past = EndMoment deck initiators s t

abbrev pub HasTraces : List JobData → System → Points → List Entry → Type 0
HasTraces deck s t past = Traces deck s past

-- where the scheduler is not lost, a done block whose job is handed out is extended, or complete
pub done_extended : (n : ℕ) (s : System) (p : Point SchedulerAt) (j : ℕ) → IsNotLost p → DoneBlocks n s p → j < n → j < next_job n p
    → (block s (done n j) ≡ Extended (j + 1)) ⊎ IsComplete s (done n j)
done_extended n s x j going h lt less = grind (arith, common_steps)

module _ (deck : List JobData) (initiators : ℕ) (sound : IsPlanned deck initiators) where
  -- an initiator's post finds its block not complete
  pub initiator_free : (s : System) (t : Points) (i : ℕ) (x : InitiatorAt) → EndMoment deck initiators s t → i < initiators
      → t.initiators i ≡ At x
      → (b d : ℕ) → (initiator_asks (length deck) i x).0 ≡ Ecb b → (initiator_asks (length deck) i x).1 ≡ Op.Ecb (EcbOp.Post d)
      → NotComplete s b
  initiator_free s t i x m lt at b d o op = grind (arith, common_steps)

  -- and that of a done block finds it extended
  pub initiator_extended : (s : System) (t : Points) (i : ℕ) (x : InitiatorAt) → EndMoment deck initiators s t → i < initiators
      → t.initiators i ≡ At x
      → (j d : ℕ) → j < length deck → (initiator_asks (length deck) i x).0 ≡ Ecb (done (length deck) j)
      → (initiator_asks (length deck) i x).1 ≡ Op.Ecb (EcbOp.Post d) → block s (done (length deck) j) ≡ Extended (j + 1)
  initiator_extended s t i x m lt at j d below o op =
      let stands : IsInitiatorAt deck (At x) = subst (IsInitiatorAt deck) at (m.stands.each i lt) in
      let w = posts_run deck i x j (done (length deck) j) stands below (OfJob, refl) o in
      elim (done_extended (length deck) s t.scheduler j m.going m.posted.blocks below
      (m.released i j lt below (w.0, ap run_of at ∙ w.1, w.2))) [
        | inl e ↦ e
        | inr c ↦ absurd (initiator_free s t i x m lt at (done (length deck) j) d o op c.0 c.1)
      ]

  pub reader_free : (s : System) (t : Points) (x : ReaderAt) → EndMoment deck initiators s t → t.reader ≡ At x → (b d : ℕ)
      → (reader_asks x).0 ≡ Ecb b → (reader_asks x).1 ≡ Op.Ecb (EcbOp.Post d) → NotComplete s b
  reader_free s t x m at b d o op = grind (arith, common_steps)

  pub traces_keep : (c : Setup) → KeepsUnder (HasEndMoment deck initiators) (HasTraces deck) c deck initiators
  traces_keep c = by_moves (HasEndMoment deck initiators) (HasTraces deck) c deck initiators
      (λ s t past x p r at n q h. let stands : IsReaderAt (length deck) (At x) = subst (IsReaderAt (length deck)) at q.stands.reader in
      traces_next deck initiators sound c s reader p (reader_asks x).0 (reader_asks x).1 r past n h q.codes.blocks
      (reader_releases deck initiators sound x)
      (reader_free s t x q at)
      (λ j d lt o op. absurd (reader_ends deck initiators x j (done (length deck) j) stands (OfJob, refl) o))
      (λ j b lt has o op. reader_ends deck initiators x j b stands has o))
      (λ s t past x p r at n q h. traces_next deck initiators sound c s scheduler p (scheduler_asks (length deck) x).0
      (scheduler_asks (length deck) x).1 r past n h q.codes.blocks
      (scheduler_releases deck initiators sound x (subst (IsMarked deck) at q.codes.scheduler))
      (λ b d o op. absurd (scheduler_no_post (length deck) x d op))
      (λ j d lt o op. absurd (scheduler_no_post (length deck) x d op))
      (λ j b lt has o op. let w = scheduler_clears (length deck) x b o op in idle_none
      (length deck) j w.0 lt (subst (HasEnd (length deck) j) w.1 has)))
      (λ s t past i x p r lt at n q h. traces_next deck initiators sound c s (initiator i) p (initiator_asks (length deck) i x).0
      (initiator_asks (length deck) i x).1 r past n h q.codes.blocks
      (initiator_releases deck initiators sound i x) (initiator_free s t i x q lt at) (initiator_extended s t i x q lt at)
      (λ j b below has o op. clear_is_no_post (initiator_ecb (length deck) i x EcbOp.Clear op).1))
      (λ s t past x p r at n q h. traces_next deck initiators sound c s (writer initiators) p (writer_asks x).0
      (writer_asks x).1 r past n h q.codes.blocks (writer_releases deck initiators sound x)
      (λ b d o op. absurd (writer_no_post x d op)) (λ j d lt o op. absurd (writer_no_post x d op))
      (λ j b lt has o op. writer_clears_none x op))
