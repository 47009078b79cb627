-- The tasks that came back with their rooms, and the run that they made together.
use Rattle.std.proofs.Common.{◌≡◌, ℕ, ◌+◌, ◌<◌, List, [], ◌∷◌, length, get_or, map, Option, Some, refl, sym, ap, ◌∙◌, subst, arith}
use Rattle.std.specs.Prelude.{slice_get, option_and_then}
use Rattle.std.specs.List.{AllByRecursion, range_with_len}
use Rattle.std.proofs.lemmas.List.{get_or-map, length-map}
use Rattle.std.proofs.lemmas.Option.{slice_get-get_or, unwrap_or-slice_get}
use Rattle.mv_attach.proofs.Back.{no_task}
use Rattle.mv_board.specs.Faces.{BoardFace, CallerFace, IsIn}
use Rattle.mv_machine.specs.declared.entry.Entry.{Entry}
use Rattle.mv_machine.specs.Legal.{Legal}
use Rattle.mv_calls.specs.declared.table.Table.{Table}
use Rattle.mv_calls.specs.Program.{IsDoneOn}
use Rattle.mv_calls.specs.Runs.{heard_in}
use Rattle.mv_calls.proofs.Interleaved.{finish}
use Rattle.mv_script.specs.declared.answer.Answer.{Answer}
use Rattle.mv_scriptline.specs.declared.call.Call.{Call}
use Rattle.mv_script.specs.Run.{IsMet, IsScriptRun, word_in, past_in, task_answers, script_answers, moves_in}
use Rattle.mv_script.specs.Script.{ScriptData}
use Rattle.mv_script.specs.Sound.{IsSound}
use Rattle.mv_script.specs.Tasks.{Moves, task_program, calls_at}
use Rattle.mv_runscript.specs.declared.room.Room.{Room}
use Rattle.mv_runscript.specs.Making.{past_with}
use Rattle.mv_runscript.specs.Rooms.{HasMade, script_with}
use Rattle.mv_runscript.proofs.Histories.{task_done, task_met}
use Rattle.mv_wait.proofs.Parts.{one_of}
use Rattle.mv_runscript.proofs.Lists.{is_mapped}
use Rattle.mv_runscript.proofs.Scripts.{task_count}

abbrev pub answers_of : Room → List Answer
answers_of r = r.answers.items

-- a history is a run of a script, in which each call answered so
pub record IsRunBy (script : ScriptData) (lists : List (List Answer)) (es : List Entry) : Type 0 where
  pub run : IsScriptRun script (moves_in lists) es
  pub answers : lists ≡ script_answers script (moves_in lists) es

module _ (b : BoardFace) (table : Option Table) (calls : List (List Call)) (es : List Entry) (tasks : List CallerFace) (rooms : List Room)
    (sound : IsSound (script_with b.config table calls)) (legal : Legal b.config es) (within : AllByRecursion (IsIn b.config es) tasks)
    (count : length tasks ≡ length calls) (size : length rooms ≡ length calls)
    (done : (k : ℕ) (r : Room) (t : CallerFace) → k < length calls
    → HasMade b table (get_or calls k []) k (get_or rooms k r) (get_or tasks k t)) where
  abbrev script : ScriptData
  script = script_with b.config table calls

  abbrev lists : List (List Answer)
  lists = map answers_of rooms

  abbrev moves : Moves
  moves = moves_in lists

  module _ (k : ℕ) (d : Room) (lt : k < length calls) where
    abbrev task : CallerFace
    task = get_or tasks k (no_task b)

    abbrev room : Room
    room = get_or rooms k d

    made : HasMade b table (calls_at script k) k room task
    made = subst (λ cs. HasMade b table cs k room task) (sym (unwrap_or-slice_get calls k [])) (done k d (no_task b) lt)

    lists_at : slice_get lists k ≡ Some (answers_of room)
    lists_at =
        let all : length lists ≡ length rooms = length-map rooms answers_of in
        slice_get-get_or lists k [] (omega arith) ∙ ap (λ a. Some a) (get_or-map answers_of rooms k d [] (omega arith))

    words_at : (j : ℕ) → moves k j ≡ option_and_then word_in (slice_get (answers_of room) j)
    words_at j = ap (λ o. option_and_then word_in (option_and_then (λ task. slice_get task j) o)) lists_at

    within_at : IsIn b.config es task
    within_at = one_of (IsIn b.config es) tasks k (no_task b) within (omega arith)

    done_at : IsDoneOn (task_program script moves k) (heard_in b.config k es) (past_with (answers_of room) room.requests.items)
    done_at =
        task_done script moves es k (answers_of room) room.requests.items made.before task made.fresh.number made.fresh.log made.fresh.told
        made.makes within_at words_at

    met_at : (i w : ℕ) → moves k i ≡ Some w → IsMet script moves es k i w
    met_at i w is =
        task_met script moves es k (answers_of room) room.requests.items made.before task made.fresh.number made.fresh.log made.fresh.told
        made.makes within_at words_at i w is

    answers_at : task_answers script moves es k ≡ answers_of room
    answers_at = ap (λ p. (past_in p).answers) done_at.done

  -- the run, by a room to read where none is
  run_by : Room → IsScriptRun script moves es
  run_by d = record {
    finish = finish b.config (task_program script moves) es legal (λ k lt.
        let n = task_count b.config table calls sound in (_, done_at k d (omega arith)));
    met = λ k i w lt is. met_at k d (omega arith) i w is;
  }

  -- and the answers, by another
  lists_by : Room → lists ≡ script_answers script moves es
  lists_by d =
      let all : length lists ≡ length rooms = length-map rooms answers_of in
      is_mapped (task_answers script moves es) lists 0 (λ k answers lt. at k answers (omega arith))
      ∙ ap (λ m. map (task_answers script moves es) (range_with_len 0 m)) (let e : length lists ≡ length calls = omega arith in e) where
        at : (k : ℕ) (answers : List Answer) → k < length rooms → get_or lists k answers ≡ task_answers script moves es (0 + k)
        at k answers lt =
            get_or-map answers_of rooms k d answers lt ∙ sym (answers_at k d (omega arith))
            ∙ ap (λ m. task_answers script moves es m) (let e : k ≡ 0 + k = omega arith in e)

  -- the history that they made is a run, whose answers are theirs; there is a first room to read
  pub run_made : IsRunBy script lists es
  run_made = first rooms refl where
    first : (rs : List Room) → rs ≡ rooms → IsRunBy script lists es
    first [] is =
        let e = ap (λ (rs : List Room). length rs) is in
        let some = sound.some in absurd (omega arith)
    first (r ∷ rs) is = record { run = run_by r; answers = lists_by r }
