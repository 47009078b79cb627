-- Behind a run each job's end was posted once to each of its three blocks: specs/PostingEnds. The marks that were released are
-- the deck's, no post came second, and the writer has kept the deck's ends.
use Rattle.mv_plan.proofs.Words.{◌≡◌, ℕ, ◌+◌, ◌<◌, ◌≤◌, List, [], ◌∷◌, ◌++◌, length, map, refl, ap, ◌∙◌, subst, AllByRecursion, EcbState}
use Rattle.mv_plan.proofs.Words.{Complete, Entry, Reply, IsNext, next, after, Setup, System, opening, posts, post_codes, EndsArePosted}
use Rattle.mv_plan.proofs.Words.{JobData, end_of, ends, Done, left_in, IsRun, spool_setup, end_for_scheduler, end_for_writer, writer}
use Rattle.mv_plan.proofs.Words.{task_program, done, EcbReply, rules}
use Rattle.mv_plan.proofs.deck.{IsPlanned, few_jobs, Facts, facts}
use Rattle.mv_plan.proofs.ends.{HasEnd, Codes, KeepsEnds, codes_keep, codes_first, EndMoment}
use Rattle.mv_plan.proofs.ends.{IsFreeToOffer, traces_keep, IsComplete, posted_keeps, posted_first, HasRightMark, code_list, traces_first}
use Rattle.mv_plan.proofs.ends.{WriterHas, HasFound, writer_has_keeps, writer_has_first, Traces}
use Rattle.mv_plan.proofs.standing.{RowAt}
use Rattle.mv_plan.proofs.points.{program_at, writer_program, Point, Finished, SchedulerAt, InitiatorAt, OfJob, ForScheduler, ForWriter}
use Rattle.mv_plan.proofs.ends.Posted.{Posted}
use Rattle.mv_plan.proofs.walks.{Stood, stood, AreFinished, run_finished, none_lost_at_end, Points, start_points, Move, TasksStand}
use Rattle.mv_plan.proofs.walks.{standing, NoneLost}
use Rattle.mv_plan.proofs.places.{run_released, Moment, walk_moments}

-- what is kept about ends and blocks from moment to moment
pub record Ends (c : Setup) (deck : List JobData) (initiators : ℕ) (s : System) (t : Points) (past : List Entry) : Type 0 where
  pub codes : Codes deck initiators s t
  pub posted : Posted deck initiators s t
  pub found : WriterHas deck s t past
  pub traces : Traces deck s past

pub ends_first : (c : Setup) (deck : List JobData) (initiators : ℕ) → IsPlanned deck initiators
    → Ends c deck initiators (opening c) (start_points deck initiators) []
ends_first c deck initiators sound = search (rules, codes_first, posted_first, writer_has_first, traces_first)

-- an initiator that offers itself finds its block free
row_offers : (n : ℕ) (s : System) (q : Point SchedulerAt) (i : ℕ) (p : Point InitiatorAt) → RowAt n s q i p → IsFreeToOffer n s i p
row_offers n s q i p w = search rules

pub end_moment : (c : Setup) (deck : List JobData) (initiators : ℕ) (s : System) (t : Points) (past : List Entry)
    → Moment c deck initiators s t past → Ends c deck initiators s t past → EndMoment deck initiators s t
end_moment c deck initiators s t past now h = record {
  stands = standing deck initiators now.kept t now.stand;
  released = λ i j lt below run. run_released deck initiators s t past now.ledger j below i lt run;
  codes = h.codes;
  posted = h.posted;
  offering = λ i lt. row_offers (length deck) s t.scheduler i (t.initiators i) (now.rows.rows i lt);
  going = now.none_lost.at_scheduler;
}

module _ (c : Setup) (deck : List JobData) (initiators : ℕ) (facts : Facts c (length deck) initiators)
    (sound : IsPlanned deck initiators) where
  pub ends_next : (s : System) (t u : Points) (past : List Entry) (e : Entry) → Moment c deck initiators s t past → IsNext c s e
      → Move deck initiators t e u
      → Ends c deck initiators s t past → Ends c deck initiators (next s e) u (past ++ e ∷ [])
  ends_next s t u past e now n m h =
      let stands : TasksStand deck initiators t = standing deck initiators now.kept t now.stand in
      record {
        codes = codes_keep deck initiators sound c s t u past e n m stands h.codes;
        posted = posted_keeps deck initiators c (few_jobs deck initiators sound) s t u past e n m (stands, now.ledger) h.posted;
        found = writer_has_keeps deck initiators c s t u past e n m stands h.found;
        traces = traces_keep deck initiators sound c s t u past e n m (end_moment c deck initiators s t past now h) h.traces;
      }

-- ---- the end

pairs_one : (ps : List (ℕ × Reply)) (a : ℕ) (r : Reply) → map (λ p. p.0) ps ≡ a ∷ [] → AllByRecursion (λ p. p.1 ≡ r) ps → ps ≡ (a, r) ∷ []
pairs_one [] a r e all = absurd (cc e)
pairs_one (p ∷ []) a r e all = let q : p.0 ≡ a = cc e in ap (λ z. (z, p.1) ∷ []) q ∙ ap (λ z. (a, z) ∷ []) all.0
pairs_one (p ∷ q ∷ ps) a r e all = absurd (cc e)

complete_list : (v : EcbState) (code : ℕ) → v ≡ Complete code → code_list v ≡ code ∷ []
complete_list v code e = ap (λ z. code_list z) e

module _ (deck : List JobData) (initiators : ℕ) (some : 1 ≤ initiators) (sound : IsPlanned deck initiators) (es : List Entry) where
  abbrev c : Setup
  c = spool_setup deck initiators

  -- of each following history in which no task is lost
  pub ends_found : (st : Stood deck initiators some sound es) → NoneLost initiators st.points
      → Ends c deck initiators (after c es) st.points es
  ends_found st f = (walk_moments c deck initiators (facts deck initiators some) sound.jobs (few_jobs deck initiators sound)
      (λ s t past. Ends c deck initiators s t past)
      (λ s t u past e now on n m h. ends_next c deck initiators (facts deck initiators some) sound s t u past e now n m h)
      (ends_first c deck initiators sound) es st.points st.walk f).1

  -- and so of each run
  ends_at : IsRun deck initiators es → (st : Stood deck initiators some sound es) → AreFinished initiators st.points
      → Ends c deck initiators (after c es) st.points es
  ends_at run st f = ends_found st (none_lost_at_end initiators st.points f)

  -- each block with a job's end is complete, with that end
  block_ends : (s : System) (t : Points) → Ends c deck initiators s t es → AreFinished initiators t → (j : ℕ) → j < length deck
      → (post_codes (done (length deck) j) es ≡ end_of deck j ∷ [])
      × (post_codes (end_for_scheduler (length deck) j) es ≡ end_of deck j ∷ [])
      × (post_codes (end_for_writer (length deck) j) es ≡ end_of deck j ∷ [])
  block_ends s t h f j lt =
      let all : HasFound (length deck) s (Finished f.at_writer.0) = subst (λ p. HasFound (length deck) s p) f.at_writer.1 h.found in
      let w : IsComplete s (end_for_writer (length deck) j) = all j lt in
      let v : IsComplete s (end_for_scheduler (length deck) j) = h.posted.order j lt ForWriter w in
      let d : IsComplete s (done (length deck) j) = h.posted.order j lt ForScheduler v in (
        of (done (length deck) j) (OfJob, refl) d,
        of (end_for_scheduler (length deck) j) (ForScheduler, refl) v,
        of (end_for_writer (length deck) j) (ForWriter, refl) w,
      ) where
        of : (b : ℕ) → HasEnd (length deck) j b → IsComplete s b → post_codes b es ≡ end_of deck j ∷ []
        of b has w = h.traces.codes j b lt has ∙ complete_list (s.ecb b).state w.0 w.1
            ∙ ap (λ z. z ∷ []) (h.codes.blocks j b w.0 lt has w.1)

  -- the law of ends
  pub ends_are_posted : IsRun deck initiators es → EndsArePosted deck es
  ends_are_posted run =
      let st : Stood deck initiators some sound es = stood deck initiators some sound es run.follow in
      let f : AreFinished initiators st.points = run_finished deck initiators some sound es run st in
      let h : Ends c deck initiators (after c es) st.points es = ends_at run st f in
      record {
        done = λ j lt. pairs_one (posts (done (length deck) j) es) (end_of deck j) (Reply.Ecb (EcbReply.Woke (j + 1)))
            (block_ends (after c es) st.points h f j lt).0 (h.traces.woke j lt);
        scheduler = λ j lt. (block_ends (after c es) st.points h f j lt).1;
        writer = λ j lt. (block_ends (after c es) st.points h f j lt).2;
        found = h.traces.found;
      }

  -- the marks that were released are the deck's
  pub marks_are_right : IsRun deck initiators es → AllByRecursion (HasRightMark deck) es
  marks_are_right run =
      let st : Stood deck initiators some sound es = stood deck initiators some sound es run.follow in
      (ends_at run st (run_finished deck initiators some sound es run st)).traces.marked

  -- the ends that the writer keeps are the deck's
  pub writer_keeps : IsRun deck initiators es
      → left_in (spool_setup deck initiators) (task_program deck initiators) (writer initiators) es ≡ Done (ends deck)
  writer_keeps run =
      let st : Stood deck initiators some sound es = stood deck initiators some sound es run.follow in
      let f : AreFinished initiators st.points = run_finished deck initiators some sound es run st in
      let h : Ends c deck initiators (after c es) st.points es = ends_at run st f in
      let same : f.at_writer.0 ≡ ends deck = subst (λ p. KeepsEnds deck p) f.at_writer.1 h.codes.writer in
      st.tasks.at_writer ∙ ap (λ p. program_at
      (writer_program (spool_setup deck initiators) (length deck) (st.kept (writer initiators))) p) f.at_writer.1
      ∙ ap (λ a. Done a) same
