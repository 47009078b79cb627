-- Runs worked by hand: scripts with a history of their tasks, the program of each task done on its part of it, and the text of the
-- answers, by computing them.
use Rattle.std.proofs.Common.{◌≡◌, ℕ, zero, suc, ◌<◌, List, [], ◌∷◌, ◌++◌, Some, None, refl, subst, arith}
use Rattle.std.specs.Prelude.{codes}
use Rattle.std.specs.Fmt.{digits}
use Rattle.mv_ecb.specs.Word.{Complete}
use Rattle.mv_machine.specs.declared.entry.Entry.{Entry}
use Rattle.mv_machine.specs.declared.entry.Object.TheVariants.{Ecb}
use Rattle.mv_machine.specs.declared.packing.WordState.TheVariants as state
use Rattle.mv_scriptline.specs.declared.call.Call.TheVariants as call
use Rattle.mv_machine.specs.Legal.{Legal}
use Rattle.mv_calls.specs.Program.{Done, Early, Says}
use Rattle.mv_calls.specs.Runs.{heard_in, left_in}
use Rattle.mv_calls.proofs.Computed.{legal_by}
use Rattle.mv_calls.proofs.Examples as examples
use Rattle.mv_script.specs.declared.answer.Answer.TheVariants as answer
use Rattle.mv_script.specs.AnswerText.{answers_text}
use Rattle.mv_script.specs.Fault.{first_fault}
use Rattle.mv_script.specs.Run.{IsMet, IsScriptRun, script_answers, entries_before, answer_at, moves_in}
use Rattle.mv_script.specs.Script.{script_of}
use Rattle.mv_script.specs.Tasks.{Moves, Past, task_program}
use Rattle.mv_script.proofs.Sounds.{sound}
use Rattle.mv_script.proofs.Tries.{post_tried}

abbrev lf : List ℕ
lf = 10 ∷ []

-- no word was met elsewhere
abbrev none_met : Moves
none_met k i = None

-- the text of the answers of a script's text in this history
abbrev answers_in : List ℕ → Moves → List Entry → List ℕ
answers_in bytes moves es = answers_text (script_answers (script_of bytes) moves es)

-- ---- two blocks are posted before the wait for two of three

abbrev waiting : List ℕ
waiting =
    codes "SCRIPT 1" ++ lf ++ codes "ECB 0" ++ lf ++ codes "ECB 0" ++ lf ++ codes "ECB 0" ++ lf ++ codes "TASK" ++ lf ++ codes "POST 0 7"
    ++ lf ++ codes "POST 2 9" ++ lf ++ codes "WAIT 2 0 1 2" ++ lf ++ codes "TEST 1" ++ lf ++ codes "END" ++ lf

waiting_is_legal : Legal (script_of waiting).setup examples.posted_before
waiting_is_legal = legal_by (script_of waiting).setup examples.posted_before refl

waiting_answers : answers_in waiting none_met examples.posted_before
    ≡ codes "0 1 POSTED" ++ lf ++ codes "0 2 POSTED" ++ lf ++ codes "0 3 WAITED C7 O C9" ++ lf ++ codes "0 4 WORD 0" ++ lf
unfolding digits
waiting_answers = refl

-- the first three calls made eight entries
waiting_entries : entries_before (script_of waiting) none_met examples.posted_before 0 3 ≡ 8
waiting_entries = refl

-- ---- an exit posts its two targets

abbrev exits : List ℕ
exits =
    codes "SCRIPT 1" ++ lf ++ codes "ECB 0" ++ lf ++ codes "ECB 0" ++ lf ++ codes "ECB 0" ++ lf ++ codes "EXIT 0 1 2" ++ lf
    ++ codes "TASK" ++ lf ++ codes "POST 2 3" ++ lf ++ codes "EXTEND 0 1" ++ lf ++ codes "WAIT 1 0" ++ lf ++ codes "POST 0 8" ++ lf
    ++ codes "TEST 1" ++ lf ++ codes "TEST 2" ++ lf ++ codes "END"

exits_are_legal : Legal (script_of exits).setup examples.exit_posts
exits_are_legal = legal_by (script_of exits).setup examples.exit_posts refl

exits_answers : answers_in exits none_met examples.exit_posts
    ≡ codes "0 1 POSTED" ++ lf ++ codes "0 2 DONE" ++ lf ++ codes "0 3 EXTENDED 0" ++ lf ++ codes "0 4 WOKE" ++ lf
    ++ codes "0 5 WORD 1073741832" ++ lf ++ codes "0 6 WORD 1073741827" ++ lf
unfolding digits
exits_answers = refl

-- ---- the second try meets the word that the first one left

abbrev tries : List ℕ
tries =
    codes "SCRIPT 1" ++ lf ++ codes "ECB 0" ++ lf ++ codes "TASK" ++ lf ++ codes "TRYPOST 0 0 5" ++ lf ++ codes "TRYPOST 0 0 6" ++ lf
    ++ codes "END"

-- the answers show one word
abbrev tries_met : Moves
tries_met = moves_in ((answer.Posted ∷ answer.Moved 35185445830661 ∷ []) ∷ [])

tries_are_legal : Legal (script_of tries).setup examples.one_post
tries_are_legal = legal_by (script_of tries).setup examples.one_post refl

tries_answers : answers_in tries tries_met examples.one_post ≡ codes "0 1 POSTED" ++ lf ++ codes "0 2 MOVED 1 1073741829" ++ lf
unfolding digits
tries_answers = refl

-- it is a run of the script: the word was met
tries_run : IsScriptRun (script_of tries) tries_met examples.one_post
tries_run = record {
  finish = record {
    follow = record {
      legal = tries_are_legal;
      callers = (omega arith, tt);
      says = λ k lt. says k lt;
      waits = λ k lt e. waits k lt e;
    };
    done = λ k lt. done k lt;
  };
  met = met;
} where
  says : (k : ℕ) → k < 1 → Says (task_program (script_of tries) tries_met k) (heard_in (script_of tries).setup k examples.one_post)
  says zero lt = (refl, tt)
  says (suc k) lt = absurd (omega arith)

  waits : (k : ℕ) → k < 1 → left_in (script_of tries).setup (task_program (script_of tries) tries_met) k examples.one_post ≡ Early → ⊥
  waits zero lt e = absurd cc
  waits (suc k) lt e = omega arith

  done : (k : ℕ) → k < 1
      → (past : Past) × (left_in (script_of tries).setup (task_program (script_of tries) tries_met) k examples.one_post ≡ Done past)
  done zero lt = (_, refl)
  done (suc k) lt = absurd (omega arith)

  second : IsMet (script_of tries) tries_met examples.one_post 0 1 35185445830661
  second = record {
    call = call.TryPost 0 0 6;
    made = refl;
    object = Ecb 0;
    expected = 0;
    tries = refl;
    other = λ e. absurd (omega arith);
    had = record {
      place = 1;
      state = state.Ecb (Complete 5);
      unpacks = refl;
      reached = omega arith;
      was = refl;
      made = omega arith;
      behind = (λ e. omega arith, tt);
      ahead = tt;
    };
  }

  met : (k i w : ℕ) → k < 1 → tries_met k i ≡ Some w → IsMet (script_of tries) tries_met examples.one_post k i w
  met zero zero w lt e = absurd cc
  met zero (suc zero) w lt e =
      let same : 35185445830661 ≡ w = cc in
      subst (λ (x : ℕ). IsMet (script_of tries) tries_met examples.one_post 0 1 x) same second
  met zero (suc (suc i)) w lt e = absurd cc
  met (suc k) i w lt e = absurd (omega arith)

-- so the law on tries says of its second call what the text shows
tries_by_law : answer_at (script_answers (script_of tries) tries_met examples.one_post) 0 1 ≡ Some (answer.Moved 35185445830661)
unfolding first_fault
tries_by_law = post_tried (script_of tries) tries_met examples.one_post 0 1 0 0 6 (sound tries refl) tries_run refl

-- ---- an obtain that posts a block, granted by a release; and a release of a request that is gone

abbrev latches : List ℕ
latches =
    codes "SCRIPT 1" ++ lf ++ codes "ECB 0" ++ lf ++ codes "TASK" ++ lf ++ codes "OBTAIN 0 1 X COND" ++ lf
    ++ codes "OBTAIN 0 2 X ECB 0" ++ lf ++ codes "OBTAIN 8 2 X COND" ++ lf ++ codes "TEST 0" ++ lf ++ codes "FREE 1 C" ++ lf
    ++ codes "TEST 0" ++ lf ++ codes "CHECK 2" ++ lf ++ codes "FREE 1 C" ++ lf ++ codes "CHECK 3" ++ lf ++ codes "END"

latches_are_legal : Legal (script_of latches).setup examples.grant_posts
latches_are_legal = legal_by (script_of latches).setup examples.grant_posts refl

latches_answers : answers_in latches none_met examples.grant_posts
    ≡ codes "0 1 GRANTED" ++ lf ++ codes "0 2 PENDING" ++ lf ++ codes "0 3 BADLATCH" ++ lf ++ codes "0 4 WORD 0" ++ lf
    ++ codes "0 5 RELEASED 1" ++ lf ++ codes "0 6 WORD 1073741824" ++ lf ++ codes "0 7 GRANTED" ++ lf ++ codes "0 8 GONE" ++ lf
    ++ codes "0 9 NOTOKEN" ++ lf
unfolding digits
latches_answers = refl

-- ---- the end of a task closes its element; tokens of elements

abbrev ending : List ℕ
ending =
    codes "SCRIPT 1" ++ lf ++ codes "TASK" ++ lf ++ codes "ALLOC" ++ lf ++ codes "OBTAIN 0 5 X COND" ++ lf ++ codes "EOT 5 - 0" ++ lf
    ++ codes "TESTP 0" ++ lf ++ codes "DEALLOC 0.0" ++ lf ++ codes "END"

ending_is_legal : Legal (script_of ending).setup examples.task_ends
ending_is_legal = legal_by (script_of ending).setup examples.task_ends refl

ending_answers : answers_in ending none_met examples.task_ends
    ≡ codes "0 1 TOKEN 0.0" ++ lf ++ codes "0 2 GRANTED" ++ lf ++ codes "0 3 PURGED 1 0" ++ lf ++ codes "0 4 STATE 1 FREE 0" ++ lf
    ++ codes "0 5 SPENT 1" ++ lf
unfolding digits
ending_answers = refl

-- ---- two tasks: the post wakes the wait

abbrev woken : List ℕ
woken =
    codes "SCRIPT 2" ++ lf ++ codes "ECB 0" ++ lf ++ codes "TASK" ++ lf ++ codes "WAIT 1 0" ++ lf ++ codes "TASK" ++ lf
    ++ codes "POST 0 3" ++ lf ++ codes "END"

woken_is_legal : Legal (script_of woken).setup examples.post_wakes
woken_is_legal = legal_by (script_of woken).setup examples.post_wakes refl

woken_answers : answers_in woken none_met examples.post_wakes ≡ codes "0 1 WAITED C3" ++ lf ++ codes "1 1 WOKE" ++ lf
unfolding digits
woken_answers = refl

-- ---- what the text of answers tells apart, and what it does not

-- a word alone, and the same word with numbers
told_apart : answers_text ((answer.AlreadyReleased ∷ answer.AlreadyPosted 0 ∷ answer.Purged ∷ answer.PurgedCounts 0 0 ∷ []) ∷ [])
    ≡ codes "0 1 ALREADY" ++ lf ++ codes "0 2 ALREADY 0" ++ lf ++ codes "0 3 PURGED" ++ lf ++ codes "0 4 PURGED 0 0" ++ lf
unfolding digits
told_apart = refl

-- a task without calls has no line, so how many stand behind the last one with a call does not show
no_calls_no_line : answers_text ([] ∷ (answer.Done ∷ []) ∷ [] ∷ []) ≡ codes "1 1 DONE" ++ lf
unfolding digits
no_calls_no_line = refl
