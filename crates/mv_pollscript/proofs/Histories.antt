-- What a task has done, in the history of all tasks.
use Rattle.std.proofs.Common.{◌≡◌, ℕ, ◌+◌, List, [], ◌++◌, length, take, Option, refl, sym, ap, ◌∙◌, subst, arith}
use Rattle.std.specs.Prelude.{slice_get}
use Rattle.mv_board.specs.Faces.{BoardFace, CallerFace, IsIn}
use Rattle.mv_calls.specs.Keeping.{kept_of, nothing_kept}
use Rattle.mv_calls.specs.Made.{told_by}
use Rattle.mv_calls.specs.Program.{Done, Heard, IsDoneOn, entries, noted}
use Rattle.mv_calls.specs.Runs.{heard_in}
use Rattle.mv_calls.specs.declared.table.Table.{Table}
use Rattle.mv_calls.proofs.Making.{noted_again}
use Rattle.mv_config.specs.Setup.{Setup}
use Rattle.mv_machine.specs.Told.{told as told_to}
use Rattle.mv_machine.specs.declared.entry.Entry.{Entry}
use Rattle.mv_runscript.specs.Making.{past_with}
use Rattle.mv_runscript.specs.Rooms.{script_with}
use Rattle.mv_runscript.proofs.Paths.{path_served}
use Rattle.mv_script.specs.Costs.{costs_of}
use Rattle.mv_script.specs.Tasks.{calls_at, made_all, named_table, no_past}
use Rattle.mv_scriptline.specs.declared.call.Call.{Call}
use Rattle.mv_wait.specs.Run.{Went}
use Rattle.mv_wait.proofs.Runs.{served_runs, went_then}
use Rattle.mv_calls.specs.Rest.{IsAtRest}
use Rattle.mv_pollscript.specs.SoFar.{Begins, HasGotTo, words_in}
use Rattle.mv_pollscript.specs.Task.{IsTaskAt}
use Rattle.mv_pollscript.specs.declared.task.ScriptTask.{ScriptTask}
use Rattle.mv_pollscript.proofs.Halves.{half}

-- a new task is at rest
pub new_at_rest : IsAtRest []
new_at_rest = record { armed = λ n. refl; parked = λ n. refl; queued = λ latch id. refl }

-- the events of a task that was new are what it heard
pub heard_went : (c : Setup) (es : List Entry) (k : ℕ) (hs : List Heard) (t u : CallerFace) → t.number ≡ k → t.log ≡ [] → t.told ≡ []
    → IsIn c es u → Went hs t u → heard_in c k es ≡ hs
heard_went c es k hs t u number log told within went =
    ap (λ n. heard_in c n es) (sym (went.same.number ∙ number))
    ∙ ap (λ log. noted log (told_to c u.number es)) within.logged ∙ ap (λ ws. noted u.log ws) within.told
    ∙ ap (λ es. noted es u.told) (went.logged ∙ ap (λ es. es ++ entries hs) log)
    ∙ ap (λ ws. noted (entries hs) ws) (went.told ∙ ap (λ ws. ws ++ told_by hs) told)
    ∙ noted_again hs went.wakes

module _ (b : BoardFace) (table : Option Table) (lists : List (List Call)) (es : List Entry) (k : ℕ) (p : ScriptTask)
    (at : IsTaskAt b table (calls_at (script_with b.config table lists) k) k p) (within : IsIn b.config es p.task) where
  pub got_to : HasGotTo (script_with b.config table lists) es k p.answers.items
  got_to =
      let c = b.config in
      let answers = p.answers.items in
      let tokens = p.requests.items in
      let all = calls_at (script_with c table lists) k in
      let calls = take (length answers) all in
      let first = at.first in
      let between = at.between in
      let past = past_with answers tokens in
      let s = path_served c table (words_in answers) calls answers [] [] tokens first between
      (λ j lt. ap (words_in answers) (let e : 0 + j ≡ j = omega arith in e))
      (subst IsAtRest (sym at.fresh.log) new_at_rest) at.makes in
      let runs = served_runs (costs_of c calls) (made_all c (named_table table) (words_in answers) (past_with [] []) calls)
      (λ past. past ≡ past_with answers tokens) first between s in
      let begun = half c table past between p.task (slice_get all (length answers)) p.stage at.stands in
      let fresh : kept_of first.number first.log ≡ nothing_kept k =
      ap (λ es. kept_of first.number es) at.fresh.log ∙ ap nothing_kept at.fresh.number in
      let kept : kept_of between.number between.log ≡ kept_of k (entries runs.events) =
      ap (λ n. kept_of n between.log) (runs.went.same.number ∙ at.fresh.number)
      ∙ ap (λ log. kept_of k log) (runs.went.logged ∙ ap (λ es. es ++ entries runs.events) at.fresh.log) in record {
        past = past;
        done = runs.events;
        begun = begun.events;
        events = heard_went c es k (runs.events ++ begun.events) first p.task at.fresh.number at.fresh.log at.fresh.told within
            (went_then runs.events begun.events first between p.task runs.went begun.went);
        few = at.few;
        calls = subst (λ kept. IsDoneOn (made_all c (named_table table) (words_in answers) no_past calls kept) runs.events past) fresh
            (record { says = runs.says; done = runs.leaves ∙ ap (λ p. Done p) s.is });
        answered = refl;
        next = subst (λ kept. Begins c table past kept (slice_get all (length answers)) begun.events) kept begun.begins;
      }
