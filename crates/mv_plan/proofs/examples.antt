-- Histories of small decks are runs, by computing them: a check on the definitions. What the law of ends says of a run, by computing it;
-- and the law applied to it. Legal histories that are no runs: another end posted, the closing release left out, a job released twice, and
-- a volume read before its latch was granted. Each is legal by computing it, and its program says another event at the wrong entry.
use Rattle.mv_plan.proofs.Words.{◌≡◌, ℕ, zero, suc, ◌+◌, ◌<◌, List, [], ◌∷◌, ◌++◌, length, replicate, ◌∙◌, arith, length-append, Entry, map}
use Rattle.mv_plan.proofs.Words.{length-replicate, opening, legal_by, JobData, spool_setup, task_program, IsRun, codes, false, refl, Print}
use Rattle.mv_plan.proofs.Words.{range_with_len, Exclusive, Use, Count, Abend, Return, weight, ends, total, made, at_block, at_element, ◌≤◌}
use Rattle.mv_plan.proofs.Words.{at_volume, at_latches, Free, EcbOp, EcbReply, ElementOp, ElementReply, LatchOp, LatchReply, VolumeOp, true}
use Rattle.mv_plan.proofs.Words.{VolumeReply, None, AllByRecursion, posts, post_codes, EndsArePosted, list_any, Step, is_end, done, Reply}
use Rattle.mv_plan.proofs.Words.{end_for_scheduler, end_for_writer, Some, ap, some_pair_parts, Object, Ecb, Element, Volume, Latches, Op}
use Rattle.mv_plan.proofs.Words.{asks, Follows, take}
use Rattle.mv_calls.proofs.Computed.{answers, claims}
use Rattle.mv_calls.specs.Program.{IsDoneOn}
use Rattle.mv_calls.specs.Runs.{heard_in}
use Rattle.mv_calls.proofs.Interleaved.{finish}
use Rattle.mv_latch.specs.declared.request.LatchForm.TheVariants.{Waiting}
use Rattle.mv_deck.specs.Deck.{place_of}
use Rattle.mv_deck.specs.Held.{is_out_of_order, lacks_latch}
use Rattle.mv_deck.specs.Operand.{is_name, most_after}
use Rattle.mv_deck.specs.Sound.{IsSound, IsSoundStep, HasGoodNumbers, IsSoundJob, IsSoundAfter, AreSoundSteps, AreDistinct}
use Rattle.mv_plan.proofs.deck.{planned, is_skipped}
use Rattle.mv_plan.proofs.results.EndsPosted.{ends_are_posted}
use Rattle.mv_machine.specs.Legal.{Legal}

-- so of each of these, counted from 0
abbrev Each : {A : Type 0} → (ℕ → A → Type 0) → List A → Type 0
Each P [] = Unit {0}
Each P (x ∷ xs) = P 0 x × Each (λ k. P (suc k)) xs

-- so of the one of this number
each_at : {A : Type 0} (P : ℕ → A → Type 0) (xs : List A) → Each P xs → (k : ℕ) → k < length xs → (x : A) × P k x
each_at P [] w k lt = absurd (omega arith)
each_at P (x ∷ xs) w zero lt = (x, w.0)
each_at P (x ∷ xs) w (suc k) lt = each_at (λ k. P (suc k)) xs w.1 k (omega arith)

-- what each task keeps
abbrev kept_ends : ℕ → List ℕ → List (List ℕ)
kept_ends initiators ends = replicate (initiators + 2) [] ++ ends ∷ []

-- each task is done on its part of these entries
abbrev AreDone : List JobData → ℕ → List Entry → List ℕ → Type 0
AreDone deck initiators es ends =
    Each (λ k kept. IsDoneOn (task_program deck initiators k) (heard_in (spool_setup deck initiators) k es) kept)
    (kept_ends initiators ends)

-- the entries are a run where the machine answers what they say, and each task is done
run_by : (deck : List JobData) (initiators : ℕ) (es : List Entry) (ends : List ℕ)
    → answers (spool_setup deck initiators) (opening (spool_setup deck initiators)) es ≡ claims es
    → AreDone deck initiators es ends → IsRun deck initiators es
run_by deck initiators es ends legal done =
    let count : length (kept_ends initiators ends) ≡ initiators + 3 =
    length-append (replicate (initiators + 2) []) (ends ∷ [])
    ∙ (let e = length-replicate {A = List ℕ} (initiators + 2) [] in omega arith) in
    finish (spool_setup deck initiators) (task_program deck initiators) es (legal_by (spool_setup deck initiators) es legal)
    (λ k lt. each_at _ (kept_ends initiators ends) done k (omega arith))

-- ---- the empty deck with one initiator
unfoldable pub empty_deck : List JobData
empty_deck = []

unfoldable pub empty_journal : List Entry
empty_journal =
    at_block 1 0 0 EcbOp.Arm EcbReply.Armed
    ∷ at_element 2 2 0 ElementOp.Open (ElementReply.Opened 0)
    ∷ at_block 2 0 1 (EcbOp.Post 0) (EcbReply.Woke 0)
    ∷ at_block 1 0 2 EcbOp.Settle (EcbReply.Complete 0)
    ∷ at_block 1 0 3 EcbOp.Clear (EcbReply.Word 1073741824)
    ∷ at_element 2 2 1 (ElementOp.Pause 0) ElementReply.Parked
    ∷ at_element 1 2 2 (ElementOp.Release 0 0) ElementReply.Woke
    ∷ at_element 2 2 3 (ElementOp.Resume 0) (ElementReply.Given 0 1)
    ∷ at_element 2 2 4 (ElementOp.Close 1) ElementReply.Closed
    ∷ []

empty_is_run : IsRun empty_deck 1 empty_journal
unfolding empty_deck empty_journal
empty_is_run = run_by empty_deck 1 empty_journal [] refl (made refl refl, (made refl refl, (made refl refl, (made refl refl, tt))))

empty_ends : ends empty_deck ≡ []
unfolding empty_deck
empty_ends = refl

-- ---- four jobs with two initiators: a request is queued and granted by a release, a purge takes out what an abended job holds, an
-- accepted end lets a job run, and another is not run

unfoldable pub night_deck : List JobData
night_deck =
    record { name = codes "LOAD"; after = []; steps = Use 0 Exclusive ∷ Count 0 5 ∷ Free 0 ∷ Return 4 ∷ [] }
    ∷ record { name = codes "BACKUP"; after = []; steps = Use 0 Exclusive ∷ Count 0 7 ∷ Abend 16777228 ∷ [] }
    ∷ record {
      name = codes "VERIFY";
      after = record { job = 0; most = 4 } ∷ record { job = 1; most = 0 } ∷ [];
      steps = Print (codes "CHECKED") ∷ [];
    }
    ∷ record { name = codes "REPORT"; after = record { job = 0; most = 4 } ∷ []; steps = Print (codes "OK") ∷ [] }
    ∷ []

unfoldable pub night_journal : List Entry
night_journal =
    at_element 3 3 0 ElementOp.Open (ElementReply.Opened 0)
    ∷ at_element 2 2 0 ElementOp.Open (ElementReply.Opened 0)
    ∷ at_block 1 0 0 EcbOp.Arm EcbReply.Armed
    ∷ at_block 4 9 0 EcbOp.Arm EcbReply.Armed
    ∷ at_block 0 0 1 (EcbOp.Post 0) (EcbReply.Woke 0)
    ∷ at_block 3 17 0 (EcbOp.Post 0) EcbReply.Posted
    ∷ at_block 0 1 0 (EcbOp.Post 0) EcbReply.Posted
    ∷ at_block 0 2 0 (EcbOp.Post 0) EcbReply.Posted
    ∷ at_block 0 3 0 (EcbOp.Post 0) EcbReply.Posted
    ∷ at_block 2 16 0 (EcbOp.Post 0) EcbReply.Posted
    ∷ at_element 2 2 1 (ElementOp.Pause 0) ElementReply.Parked
    ∷ at_element 3 3 1 (ElementOp.Pause 0) ElementReply.Parked
    ∷ at_block 1 0 2 EcbOp.Settle (EcbReply.Complete 0)
    ∷ at_block 1 4 0 (EcbOp.Extend 1) EcbReply.Armed
    ∷ at_block 1 16 1 EcbOp.Arm (EcbReply.Complete 0)
    ∷ at_block 1 17 1 EcbOp.Arm (EcbReply.Complete 0)
    ∷ at_block 1 16 2 EcbOp.Settle (EcbReply.Complete 0)
    ∷ at_block 1 17 2 EcbOp.Settle (EcbReply.Complete 0)
    ∷ at_block 1 16 3 EcbOp.Clear (EcbReply.Word 1073741824)
    ∷ at_element 1 2 2 (ElementOp.Release 0 1) ElementReply.Woke
    ∷ at_block 1 1 1 EcbOp.Arm (EcbReply.Complete 0)
    ∷ at_block 1 1 2 EcbOp.Settle (EcbReply.Complete 0)
    ∷ at_block 1 5 0 (EcbOp.Extend 2) EcbReply.Armed
    ∷ at_element 2 2 3 (ElementOp.Resume 0) (ElementReply.Given 1 1)
    ∷ at_block 1 16 4 EcbOp.Arm EcbReply.Armed
    ∷ at_block 1 17 3 EcbOp.Arm (EcbReply.Complete 0)
    ∷ at_block 1 16 5 EcbOp.Settle EcbReply.Open
    ∷ at_block 1 17 4 EcbOp.Settle (EcbReply.Complete 0)
    ∷ at_block 1 17 5 EcbOp.Clear (EcbReply.Word 1073741824)
    ∷ at_element 1 3 2 (ElementOp.Release 0 2) ElementReply.Woke
    ∷ at_block 1 2 1 EcbOp.Arm (EcbReply.Complete 0)
    ∷ at_latches 2 0 (LatchOp.Obtain 0 1 Exclusive Waiting) (LatchReply.Granted 0)
    ∷ at_element 3 3 3 (ElementOp.Resume 0) (ElementReply.Given 2 1)
    ∷ at_latches 3 1 (LatchOp.Obtain 0 2 Exclusive Waiting) (LatchReply.Queued 1)
    ∷ at_block 1 2 2 EcbOp.Settle (EcbReply.Complete 0)
    ∷ at_volume 2 0 0 VolumeOp.Read (VolumeReply.Value 0)
    ∷ at_block 1 8 0 EcbOp.Arm EcbReply.Armed
    ∷ at_volume 2 0 1 (VolumeOp.Write 5) VolumeReply.Stored
    ∷ at_latches 2 2 (LatchOp.Release 0 0 false) (LatchReply.Released 1)
    ∷ at_block 1 10 0 EcbOp.Arm EcbReply.Armed
    ∷ at_latches 2 3 (LatchOp.Purge 1) (LatchReply.Purged 0 0)
    ∷ at_block 2 4 1 (EcbOp.Post 4) (EcbReply.Woke 1)
    ∷ at_block 2 8 1 (EcbOp.Post 4) (EcbReply.Woke 0)
    ∷ at_block 2 9 1 (EcbOp.Post 4) (EcbReply.Woke 0)
    ∷ at_latches 3 4 (LatchOp.Confirm 0 1) (LatchReply.Granted 1)
    ∷ at_block 2 16 6 (EcbOp.Post 1) EcbReply.Posted
    ∷ at_element 2 2 4 (ElementOp.Pause 1) ElementReply.Parked
    ∷ at_volume 3 0 2 VolumeOp.Read (VolumeReply.Value 5)
    ∷ at_volume 3 0 3 (VolumeOp.Write 12) VolumeReply.Stored
    ∷ at_latches 3 5 (LatchOp.Purge 2) (LatchReply.Purged 1 0)
    ∷ at_block 4 9 2 EcbOp.Settle (EcbReply.Complete 4)
    ∷ at_block 3 5 1 (EcbOp.Post 16777228) (EcbReply.Woke 2)
    ∷ at_block 3 10 1 (EcbOp.Post 16777228) (EcbReply.Woke 0)
    ∷ at_block 3 11 0 (EcbOp.Post 16777228) EcbReply.Posted
    ∷ at_block 4 11 1 EcbOp.Arm (EcbReply.Complete 16777228)
    ∷ at_block 4 11 2 EcbOp.Settle (EcbReply.Complete 16777228)
    ∷ at_block 4 13 0 EcbOp.Arm EcbReply.Armed
    ∷ at_block 3 17 6 (EcbOp.Post 1) EcbReply.Posted
    ∷ at_block 1 8 2 EcbOp.Settle (EcbReply.Complete 4)
    ∷ at_block 1 10 2 EcbOp.Settle (EcbReply.Complete 16777228)
    ∷ at_element 3 3 4 (ElementOp.Pause 1) ElementReply.Parked
    ∷ at_block 1 6 0 (EcbOp.Extend 3) EcbReply.Armed
    ∷ at_block 1 16 7 EcbOp.Arm (EcbReply.Complete 1)
    ∷ at_block 1 17 7 EcbOp.Arm (EcbReply.Complete 1)
    ∷ at_block 1 16 8 EcbOp.Settle (EcbReply.Complete 1)
    ∷ at_block 1 17 8 EcbOp.Settle (EcbReply.Complete 1)
    ∷ at_block 1 16 9 EcbOp.Clear (EcbReply.Word 1073741825)
    ∷ at_element 1 2 5 (ElementOp.Release 1 8388611) ElementReply.Woke
    ∷ at_block 1 3 1 EcbOp.Arm (EcbReply.Complete 0)
    ∷ at_element 2 2 6 (ElementOp.Resume 1) (ElementReply.Given 8388611 2)
    ∷ at_latches 2 6 (LatchOp.Purge 3) (LatchReply.Purged 0 0)
    ∷ at_block 1 3 2 EcbOp.Settle (EcbReply.Complete 0)
    ∷ at_block 2 6 1 (EcbOp.Post 33554432) (EcbReply.Woke 3)
    ∷ at_block 2 12 0 (EcbOp.Post 33554432) EcbReply.Posted
    ∷ at_block 1 8 3 EcbOp.Arm (EcbReply.Complete 4)
    ∷ at_block 1 8 4 EcbOp.Settle (EcbReply.Complete 4)
    ∷ at_block 1 7 0 (EcbOp.Extend 4) EcbReply.Armed
    ∷ at_block 2 13 1 (EcbOp.Post 33554432) (EcbReply.Woke 0)
    ∷ at_block 2 16 10 (EcbOp.Post 2) EcbReply.Posted
    ∷ at_block 1 16 11 EcbOp.Arm (EcbReply.Complete 2)
    ∷ at_block 1 17 9 EcbOp.Arm (EcbReply.Complete 1)
    ∷ at_block 1 16 12 EcbOp.Settle (EcbReply.Complete 2)
    ∷ at_block 1 17 10 EcbOp.Settle (EcbReply.Complete 1)
    ∷ at_block 4 13 2 EcbOp.Settle (EcbReply.Complete 33554432)
    ∷ at_block 4 15 0 EcbOp.Arm EcbReply.Armed
    ∷ at_element 2 2 7 (ElementOp.Pause 2) ElementReply.Parked
    ∷ at_block 1 16 13 EcbOp.Clear (EcbReply.Word 1073741826)
    ∷ at_element 1 2 8 (ElementOp.Release 2 4) ElementReply.Woke
    ∷ at_block 1 16 14 EcbOp.Arm EcbReply.Armed
    ∷ at_element 2 2 9 (ElementOp.Resume 2) (ElementReply.Given 4 3)
    ∷ at_latches 2 7 (LatchOp.Purge 4) (LatchReply.Purged 0 0)
    ∷ at_block 2 7 1 (EcbOp.Post 0) (EcbReply.Woke 4)
    ∷ at_block 2 14 0 (EcbOp.Post 0) EcbReply.Posted
    ∷ at_block 2 15 1 (EcbOp.Post 0) (EcbReply.Woke 0)
    ∷ at_block 2 16 15 (EcbOp.Post 3) (EcbReply.Woke 0)
    ∷ at_block 1 16 16 EcbOp.Settle (EcbReply.Complete 3)
    ∷ at_block 1 16 17 EcbOp.Clear (EcbReply.Word 1073741827)
    ∷ at_element 1 2 10 (ElementOp.Release 3 0) ElementReply.Early
    ∷ at_element 2 2 11 (ElementOp.Pause 3) (ElementReply.Given 0 4)
    ∷ at_block 1 17 11 EcbOp.Arm (EcbReply.Complete 1)
    ∷ at_block 4 15 2 EcbOp.Settle (EcbReply.Complete 0)
    ∷ at_block 1 17 12 EcbOp.Settle (EcbReply.Complete 1)
    ∷ at_block 1 17 13 EcbOp.Clear (EcbReply.Word 1073741825)
    ∷ at_element 1 3 5 (ElementOp.Release 1 0) ElementReply.Woke
    ∷ at_element 2 2 12 (ElementOp.Close 4) ElementReply.Closed
    ∷ at_element 3 3 6 (ElementOp.Resume 1) (ElementReply.Given 0 2)
    ∷ at_element 3 3 7 (ElementOp.Close 2) ElementReply.Closed
    ∷ []

night_is_run : IsRun night_deck 2 night_journal
unfolding night_deck night_journal
night_is_run = run_by night_deck 2 night_journal (4 ∷ 16777228 ∷ 33554432 ∷ 0 ∷ []) refl
    (made refl refl, (made refl refl, (made refl refl, (made refl refl, (made refl refl, tt)))))

night_ends : ends night_deck ≡ 4 ∷ 16777228 ∷ 33554432 ∷ 0 ∷ []
unfolding night_deck
night_ends = refl

night_weight : weight night_deck 2 ≡ 146
unfolding night_deck
night_weight = refl

night_totals : map (total night_deck) (range_with_len 0 8) ≡ 12 ∷ 0 ∷ 0 ∷ 0 ∷ 0 ∷ 0 ∷ 0 ∷ 0 ∷ []
unfolding night_deck
night_totals = refl

-- ---- the law of ends

-- its four jobs end with 4, U0012, not run and 0
done_posts : map (λ j. posts (done 4 j) night_journal) (0 ∷ 1 ∷ 2 ∷ 3 ∷ [])
    ≡ ((4, Reply.Ecb (EcbReply.Woke 1)) ∷ []) ∷ ((16777228, Reply.Ecb (EcbReply.Woke 2)) ∷ []) ∷
    ((33554432, Reply.Ecb (EcbReply.Woke 3)) ∷ []) ∷ ((0, Reply.Ecb (EcbReply.Woke 4)) ∷ []) ∷ []
unfolding night_journal
done_posts = refl

scheduler_posts : map (λ j. post_codes (end_for_scheduler 4 j) night_journal) (0 ∷ 1 ∷ 2 ∷ 3 ∷ [])
    ≡ (4 ∷ []) ∷ (16777228 ∷ []) ∷ (33554432 ∷ []) ∷ (0 ∷ []) ∷ []
unfolding night_journal
scheduler_posts = refl

writer_posts : map (λ j. post_codes (end_for_writer 4 j) night_journal) (0 ∷ 1 ∷ 2 ∷ 3 ∷ [])
    ≡ (4 ∷ []) ∷ (16777228 ∷ []) ∷ (33554432 ∷ []) ∷ (0 ∷ []) ∷ []
unfolding night_journal
writer_posts = refl

marks : map (λ j. is_skipped night_deck j) (0 ∷ 1 ∷ 2 ∷ 3 ∷ []) ≡ false ∷ false ∷ true ∷ false ∷ []
unfolding night_deck
marks = refl

-- the law's premises hold of it
sound : IsSound night_deck 2
unfolding night_deck
sound = record {
  jobs_stand = (
    job refl refl (omega arith) tt tt (
      step (omega arith) refl refl refl,
      (
        step (omega arith, omega arith, omega arith) refl refl refl,
        (step (omega arith) refl refl refl, (step (omega arith) refl refl refl, tt)),
      ),
    ),
    (
      job refl refl (omega arith) tt tt (
        step (omega arith) refl refl refl,
        (step (omega arith, omega arith, omega arith) refl refl refl, (step (omega arith, omega arith) refl refl refl, tt)),
      ),
      (
        job refl refl (omega arith) ((λ e. absurd (omega arith), tt), (tt, tt))
            ((omega arith, omega arith), ((omega arith, omega arith), tt)) (step tt refl refl refl, tt),
        (job refl refl (omega arith) (tt, tt) ((omega arith, omega arith), tt) (step tt refl refl refl, tt), tt),
      ),
    ),
  );
  light = omega arith;
} where
  step : {done : List Step} {s : Step} → HasGoodNumbers s → is_out_of_order done s ≡ false → lacks_latch done s ≡ false
      → list_any is_end done ≡ false → IsSoundStep done s
  step n o l e = record { numbers = n; in_order = o; latched = l; before_end = e }

  job : {before : List JobData} {j : JobData} → is_name j.name ≡ true → place_of before j.name ≡ None → length j.after ≤ most_after
      → AreDistinct j.after → AllByRecursion (IsSoundAfter (length before)) j.after → AreSoundSteps [] j.steps → IsSoundJob before j
  job n w f d e s = record { named = n; new = w; few = f; distinct = d; earlier = e; steps = s }

of_night : EndsArePosted night_deck night_journal
of_night = ends_are_posted night_deck 2 (omega arith) (planned night_deck 2 sound) night_journal night_is_run

-- ---- legal histories that are no runs

-- what a program says is the event that was made
abbrev IsSaid : Object × Op → Object × Op → Type 0
IsSaid says made = Some says ≡ Some made

-- two posts of one block
same_post : (o : Object) (a b : ℕ) → IsSaid (o, Op.Ecb (EcbOp.Post a)) (o, Op.Ecb (EcbOp.Post b)) → a ≡ b
same_post o a b e =
    let q : Op.Ecb (EcbOp.Post a) ≡ Op.Ecb (EcbOp.Post b) = (some_pair_parts o o _ _ e).1 in cc q

-- two releases of one pause
same_release : (o : Object) (g a b : ℕ) → IsSaid (o, Op.Element (ElementOp.Release g a)) (o, Op.Element (ElementOp.Release g b)) → a ≡ b
same_release o g a b e =
    let q : Op.Element (ElementOp.Release g a) ≡ Op.Element (ElementOp.Release g b) = (some_pair_parts o o _ _ e).1 in cc q

-- two objects
confirm_is_no_read : (latch id v : ℕ) → IsSaid (Latches, Op.Latch (LatchOp.Confirm latch id)) (Volume v, Op.Volume VolumeOp.Read) → ⊥
confirm_is_no_read latch id v e = let q : Latches ≡ Volume v = (some_pair_parts Latches (Volume v) _ _ e).0 in absurd (cc q)

-- ---- the first job ends with 4, and 5 is posted

other_end : List Entry
other_end = take 41 night_journal ++ at_block 2 4 1 (EcbOp.Post 5) (EcbReply.Woke 1) ∷ []

other_end_is_legal : Legal (spool_setup night_deck 2) other_end
unfolding other_end night_deck night_journal
other_end_is_legal = legal_by (spool_setup night_deck 2) other_end refl

other_end_is_refused : Follows night_deck 2 other_end → ⊥
unfolding other_end night_deck night_journal
other_end_is_refused f =
    let same = same_post (Ecb 4) 4 5 (f.says 2 (omega arith)).1.1.1.1.1.1.1.1.1.0 in absurd (omega (arith, same))

-- ---- the initiator is not closed

unclosed : List Entry
unclosed = take 6 empty_journal

unclosed_is_legal : Legal (spool_setup empty_deck 1) unclosed
unfolding unclosed empty_deck empty_journal
unclosed_is_legal = legal_by (spool_setup empty_deck 1) unclosed refl

unclosed_is_refused : IsRun empty_deck 1 unclosed → ⊥
unfolding unclosed empty_deck empty_journal
unclosed_is_refused run =
    let e : Some (Element 2, Op.Element (ElementOp.Release 0 0)) ≡ None = ap (λ p. asks p) (run.done 1 (omega arith)).1 in absurd (cc e)

-- ---- the first job is released again, to the second initiator

twice : List Entry
twice = take 29 night_journal ++ at_element 1 3 2 (ElementOp.Release 0 1) ElementReply.Woke ∷ []

twice_is_legal : Legal (spool_setup night_deck 2) twice
unfolding twice night_deck night_journal
twice_is_legal = legal_by (spool_setup night_deck 2) twice refl

twice_is_refused : Follows night_deck 2 twice → ⊥
unfolding twice night_deck night_journal
twice_is_refused f =
    let same = same_release (Element 3) 0 2 1 (f.says 1 (omega arith)).1.1.1.1.1.1.1.1.1.1.1.1.1.1.1.1.1.0 in
    absurd (omega (arith, same))

-- ---- the second job's request is queued, and it reads without a grant

unconfirmed : List Entry
unconfirmed = take 34 night_journal ++ at_volume 3 0 0 VolumeOp.Read (VolumeReply.Value 0) ∷ []

unconfirmed_is_legal : Legal (spool_setup night_deck 2) unconfirmed
unfolding unconfirmed night_deck night_journal
unconfirmed_is_legal = legal_by (spool_setup night_deck 2) unconfirmed refl

unconfirmed_is_refused : Follows night_deck 2 unconfirmed → ⊥
unfolding unconfirmed night_deck night_journal
unconfirmed_is_refused f = confirm_is_no_read 0 1 0 (f.says 3 (omega arith)).1.1.1.1.1.0
