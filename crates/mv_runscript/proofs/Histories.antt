-- A task that was new and has made its calls, in the history of all tasks: its program is done there, with its answers, and
-- each word that an answer shows was met there.
use Rattle.std.proofs.Common.{◌≡◌, ℕ, ◌+◌, List, [], ◌∷◌, ◌++◌, length, take, Option, Some, None, refl, sym, ap}
use Rattle.std.proofs.Common.{◌∙◌, subst, arith}
use Rattle.std.specs.Prelude.{slice_get, option_and_then}
use Rattle.std.specs.List.{AllByRecursion}
use Rattle.std.proofs.lemmas.List.{length-map}
use Rattle.mv_board.specs.Faces.{CallerFace, IsIn}
use Rattle.mv_board.specs.declared.view.Sight.{Sight}
use Rattle.mv_machine.specs.declared.entry.Entry.{Entry}
use Rattle.mv_machine.specs.Parts.{Had}
use Rattle.mv_machine.specs.Told.{told as told_to}
use Rattle.mv_calls.specs.Keeping.{kept_of, nothing_kept}
use Rattle.mv_calls.specs.Made.{told_by}
use Rattle.mv_calls.specs.Program.{Program, Do, Done, Early, Wrong, Heard, Says, left, IsDoneOn, entries, noted}
use Rattle.mv_calls.specs.Rest.{IsAtRest}
use Rattle.mv_calls.specs.Runs.{heard_in}
use Rattle.mv_calls.proofs.Making.{noted_again}
use Rattle.mv_latchset.specs.declared.token.LatchToken.{LatchToken}
use Rattle.mv_wait.specs.Run.{Went}
use Rattle.mv_wait.proofs.Runs.{went_then, served_runs}
use Rattle.mv_script.specs.declared.answer.Answer.{Answer}
use Rattle.mv_script.specs.Costs.{costs_of}
use Rattle.mv_script.specs.Run.{word_in, taken_count, entries_before, IsMet}
use Rattle.mv_script.specs.Script.{ScriptData}
use Rattle.mv_script.specs.Tasks.{Moves, no_past, named_table, made_all, calls_at, task_program}
use Rattle.mv_runscript.specs.Making.{past_with, MakesCalls}
use Rattle.mv_runscript.proofs.Lists.{all_between, get_of_take}
use Rattle.mv_runscript.proofs.Paths.{call_went, path_went, path_served, path_among}

-- a new task is at rest
pub new_at_rest : IsAtRest []
new_at_rest = record { armed = λ n. refl; parked = λ n. refl; queued = λ latch id. refl }

-- a program that is done on some events takes just these
pub taken_is : {A : Type 0} (p : Program A) (xs ys : List Heard) (a : A) → Says p xs → left p xs ≡ Done a
    → taken_count p (xs ++ ys) ≡ length xs
taken_is p [] ys a says done = ap (λ q. taken_count q ys) done
taken_is (Do o op next) (x ∷ xs) ys a says done = omega (arith, taken_is (next x) xs ys a says.1 done)
taken_is (Done b) (x ∷ xs) ys a says done = absurd (cc says.0)
taken_is Early (x ∷ xs) ys a says done = absurd (cc says.0)
taken_is Wrong (x ∷ xs) ys a says done = absurd (cc says.0)

-- a word that an answer shows is that of an answer that there is
some_met : (o : Option Answer) (w : ℕ) → option_and_then word_in o ≡ Some w → (a : Answer) × (o ≡ Some a) × (word_in a ≡ Some w)
some_met None w is = absurd (cc is)
some_met (Some a) w is = (a, refl, is)

module _ (script : ScriptData) (moves : Moves) (es : List Entry) (k : ℕ) (answers : List Answer) (tokens : List (Option LatchToken))
    (t u : CallerFace) (number : t.number ≡ k) (log : t.log ≡ []) (told : t.told ≡ [])
    (makes : MakesCalls script.setup script.table (calls_at script k) answers [] tokens t u) (within : IsIn script.setup es u)
    (words : (j : ℕ) → moves k j ≡ option_and_then word_in (slice_get answers j)) where
  from_first : (j : ℕ) → moves k (0 + j) ≡ moves k j
  from_first j = ap (λ n. moves k n) (let e : 0 + j ≡ j = omega arith in e)

  quiet : IsAtRest t.log
  quiet = subst IsAtRest (sym log) new_at_rest

  same_number : u.number ≡ k
  same_number = (path_went script.setup script.table (calls_at script k) answers [] tokens t u makes).1.same.number ∙ number

  heard_own : heard_in script.setup k es ≡ noted u.log u.told
  heard_own =
      ap (λ n. heard_in script.setup n es) (sym same_number)
      ∙ ap (λ log. noted log (told_to script.setup u.number es)) within.logged ∙ ap (λ ws. noted u.log ws) within.told

  -- the events of a new task are what it heard
  heard_went : (hs : List Heard) → Went hs t u → heard_in script.setup k es ≡ hs
  heard_went hs went =
      heard_own
      ∙ ap (λ es. noted es u.told) (went.logged ∙ ap (λ es. es ++ entries hs) log)
      ∙ ap (λ ws. noted (entries hs) ws) (went.told ∙ ap (λ ws. ws ++ told_by hs) told)
      ∙ noted_again hs went.wakes

  begun : kept_of t.number t.log ≡ nothing_kept k
  begun = ap (λ es. kept_of t.number es) log ∙ ap nothing_kept number

  -- its program is done with its answers
  pub task_done : IsDoneOn (task_program script moves k) (heard_in script.setup k es) (past_with answers tokens)
  task_done =
      let s = path_served script.setup script.table (moves k) (calls_at script k) answers [] [] tokens t u
      (λ j lt. from_first j ∙ words j) quiet makes in
      let runs = served_runs (costs_of script.setup (calls_at script k))
      (made_all script.setup (named_table script.table) (moves k) (past_with [] []) (calls_at script k))
      (λ past. past ≡ past_with answers tokens) t u s in
      subst (λ hs. IsDoneOn (task_program script moves k) hs (past_with answers tokens)) (sym (heard_went runs.events runs.went))
      (subst (λ kept. IsDoneOn (made_all script.setup (named_table script.table) (moves k) no_past (calls_at script k) kept) runs.events
      (past_with answers tokens))
      begun
      (record { says = runs.says; done = runs.leaves ∙ ap (λ p. Done p) s.is }))

  -- and each word that an answer shows was met
  pub task_met : (i w : ℕ) → moves k i ≡ Some w → IsMet script moves es k i w
  task_met i w is =
      let shown = some_met (slice_get answers i) w (sym (words i) ∙ is) in
      let r = path_among script.setup script.table (calls_at script k) answers [] tokens t u i shown.0 makes shown.1 in
      let met = r.own.met w shown.2 in
      let s = path_served script.setup script.table (moves k) (take i (calls_at script k)) (take i answers) [] [] r.had t r.before
      (λ j lt. from_first j ∙ words j ∙ ap (λ o. option_and_then word_in o) (sym (get_of_take answers i j lt))) quiet r.first in
      let first = served_runs (costs_of script.setup (take i (calls_at script k)))
      (made_all script.setup (named_table script.table) (moves k) (past_with [] []) (take i (calls_at script k)))
      (λ past. past ≡ past_with (take i answers) r.had)
      t r.before s in
      let own = call_went script.setup script.table r.call shown.0 r.had r.got r.before r.behind r.own in
      let later = went_then own.0 r.later r.before r.behind u own.1 r.went in
      let heard : heard_in script.setup k es ≡ first.events ++ (own.0 ++ r.later) =
      heard_went (first.events ++ (own.0 ++ r.later))
      (went_then first.events (own.0 ++ r.later) t r.before u first.went later) in
      let entries_is : entries_before script moves es k i ≡ length first.events =
      ap (λ hs. taken_count (made_all script.setup (named_table script.table) (moves k) no_past (take i (calls_at script k)) (nothing_kept k))
      hs) heard
      ∙ ap (λ kept. taken_count (made_all script.setup (named_table script.table) (moves k) no_past (take i (calls_at script k)) kept)
      (first.events ++ (own.0 ++ r.later)))
      (sym begun)
      ∙ taken_is (made_all script.setup (named_table script.table) (moves k) no_past (take i (calls_at script k))
      (kept_of t.number t.log)) first.events
      (own.0 ++ r.later) s.answer first.says first.leaves in
      let after : length r.before.log ≡ length first.events =
      ap (λ (es : List Entry). length es) (first.went.logged ∙ ap (λ es. es ++ entries first.events) log)
      ∙ length-map first.events (λ (h : Heard). h.entry) in
      let sight : Sight = record { object = met.object; word = w; after = length r.before.log } in
      let had : Had script.setup es u.number (length r.before.log) met.object w =
      all_between (λ m. Had script.setup es u.number m.after m.object m.word) r.before.met sight r.went.met.0
      (subst (λ ms. AllByRecursion (λ m. Had script.setup es u.number m.after m.object m.word) ms)
      (r.went.met.1 ∙ ap (λ ms. ms ++ r.went.met.0) met.met) within.met) in record {
        call = r.call;
        made = r.is;
        object = met.object;
        expected = met.expected;
        tries = met.tries;
        other = met.other;
        had = subst (λ n. Had script.setup es k n met.object w) (after ∙ sym entries_is)
            (subst (λ n. Had script.setup es n (length r.before.log) met.object w) same_number had);
      }
