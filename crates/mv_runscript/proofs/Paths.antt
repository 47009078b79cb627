-- All calls of a task, one after the other: one more, what they come to, and one among them.
use Rattle.std.proofs.Common.{◌≡◌, ℕ, zero, suc, ◌+◌, ◌<◌, List, [], ◌∷◌, ◌++◌, length, take, Option, Some, refl, sym, ap}
use Rattle.std.proofs.Common.{◌∙◌, subst, arith, append_assoc, length-append}
use Rattle.std.specs.Prelude.{slice_get, option_and_then}
use Rattle.std.proofs.lemmas.List.{append-nil}
use Rattle.std.proofs.lemmas.List.Sums.{sum_by-cons}
use Rattle.mv_board.specs.Faces.{CallerFace}
use Rattle.mv_calls.specs.Program.{Heard}
use Rattle.mv_calls.specs.Rest.{IsAtRest}
use Rattle.mv_latchset.specs.declared.token.LatchToken.{LatchToken}
use Rattle.mv_config.specs.Setup.{Setup}
use Rattle.mv_calls.specs.declared.table.Table.{Table}
use Rattle.mv_wait.specs.Run.{IsServed, Went}
use Rattle.mv_wait.proofs.Runs.{went_none, went_then, served_runs}
use Rattle.mv_script.specs.declared.answer.Answer.{Answer}
use Rattle.mv_scriptline.specs.declared.call.Call.{Call}
use Rattle.mv_script.specs.Costs.{cost, costs_of}
use Rattle.mv_script.specs.Run.{word_in}
use Rattle.mv_script.specs.Tasks.{named_table, made, made_all}
use Rattle.mv_runscript.specs.Making.{past_with, MakesCall, MakesCalls}
use Rattle.mv_runscript.proofs.Served.{served_so, served_none, served_followed}

-- one more
pub path_on : (c : Setup) (table : Option Table) (calls : List Call) (d : Call) (answers : List Answer) (a : Answer)
    (old between new : List (Option LatchToken)) (t u v : CallerFace)
    → MakesCalls c table calls answers old between t u → MakesCall c table d a between new u v
    → MakesCalls c table (calls ++ d ∷ []) (answers ++ a ∷ []) old new t v
path_on c table [] d [] a old between new t u v p x =
    (new, v, subst (λ s. MakesCall c table d a s new t v) p.0 (subst (λ w. MakesCall c table d a between new w v) p.1 x), (refl, refl))
path_on c table [] d (b ∷ answers) a old between new t u v p x = absurd p
path_on c table (e ∷ calls) d [] a old between new t u v p x = absurd p
path_on c table (e ∷ calls) d (b ∷ answers) a old between new t u v p x =
    (p.0, p.1, p.2, path_on c table calls d answers a p.0 between new p.1 u v p.3 x)

-- the events of one call
pub call_went : (c : Setup) (table : Option Table) (d : Call) (a : Answer) (old new : List (Option LatchToken)) (t u : CallerFace) →
    MakesCall c table d a old new t u
    → (hs : List Heard) × Went hs t u
call_went c table d a old new t u x =
    let runs = served_runs (cost c d) (made c (named_table table) (word_in a) (past_with [] old) d)
    (λ past. past ≡ past_with ([] ++ a ∷ []) new) t u
    (x.served []) in
    (runs.events, runs.went)

-- and of all
pub path_went : (c : Setup) (table : Option Table) (calls : List Call) (answers : List Answer) (old new : List (Option LatchToken))
    (t u : CallerFace)
    → MakesCalls c table calls answers old new t u → (hs : List Heard) × Went hs t u
path_went c table [] [] old new t u p = ([], subst (λ w. Went [] t w) (sym p.1) (went_none t))
path_went c table [] (a ∷ answers) old new t u p = absurd p
path_went c table (d ∷ calls) [] old new t u p = absurd p
path_went c table (d ∷ calls) (a ∷ answers) old new t u p =
    let first = call_went c table d a old p.0 t p.1 p.2 in
    let later = path_went c table calls answers p.0 new p.1 u p.3 in
    (first.0 ++ later.0, went_then first.0 later.0 t p.1 u first.1 later.1)

-- these are the words that these answers show, from place n on
abbrev pub Agree : (ℕ → Option ℕ) → ℕ → List Answer → Type 0
Agree moved n answers = (j : ℕ) → j < length answers → moved (n + j) ≡ option_and_then word_in (slice_get answers j)

-- the calls of a task from here on, behind these answers
pub path_served : (c : Setup) (table : Option Table) (moved : ℕ → Option ℕ) (calls : List Call) (answers before : List Answer)
    (old new : List (Option LatchToken)) (t u : CallerFace)
    → Agree moved (length before) answers → IsAtRest t.log → MakesCalls c table calls answers old new t u
    → IsServed (costs_of c calls) (made_all c (named_table table) moved (past_with before old) calls)
    (λ past. past ≡ past_with (before ++ answers) new) t u
path_served c table moved [] [] before old new t u agree quiet p =
    subst (λ w. IsServed (costs_of c []) (made_all c (named_table table) moved (past_with before old) [])
    (λ past. past ≡ past_with (before ++ []) new) t w)
    (sym p.1)
    (served_so 0 (costs_of c []) (made_all c (named_table table) moved (past_with before old) [])
    (λ past. past ≡ past_with (before ++ []) new)
    (λ past. past ≡ past_with (before ++ []) new) t t (omega arith) (λ past is. is)
    (served_none (made_all c (named_table table) moved (past_with before old) []) (past_with before old)
    (λ past. past ≡ past_with (before ++ []) new) t refl
    (ap (λ xs. past_with xs old) (sym (append-nil before)) ∙ ap (λ s. past_with (before ++ []) s) (sym p.0)) quiet))
path_served c table moved [] (a ∷ answers) before old new t u agree quiet p = absurd p
path_served c table moved (d ∷ calls) [] before old new t u agree quiet p = absurd p
path_served c table moved (d ∷ calls) (a ∷ answers) before old new t u agree quiet p =
    let word : moved (length before) ≡ word_in a =
    ap moved (let e : length before ≡ length before + 0 = omega arith in e) ∙ agree zero (omega arith) in
    let first : IsServed (cost c d) (made c (named_table table) (moved (length before)) (past_with before old) d)
    (λ past. past ≡ past_with (before ++ a ∷ []) p.0) t p.1 =
    subst (λ m. IsServed (cost c d) (made c (named_table table) m (past_with before old) d)
    (λ past. past ≡ past_with (before ++ a ∷ []) p.0) t p.1)
    (sym word) (p.2.served before) in
    let later = path_served c table moved calls answers (before ++ a ∷ []) p.0 new p.1 u
    (λ j lt. ap moved (let n = length-append before (a ∷ []) in
    let e : length (before ++ a ∷ []) + j ≡ length before + suc j = omega arith in e) ∙ agree (suc j) (omega arith))
    first.made.rest p.3 in
    served_so (cost c d + costs_of c calls) (costs_of c (d ∷ calls)) (made_all c (named_table table) moved (past_with before old)
    (d ∷ calls))
    (λ past. past ≡ past_with ((before ++ a ∷ []) ++ answers) new) (λ past. past ≡ past_with (before ++ a ∷ answers) new) t u
    (let sum = sum_by-cons (cost c) d calls in omega arith)
    (λ past is. is ∙ ap (λ xs. past_with xs new) (append_assoc before (a ∷ []) answers))
    (served_followed (cost c d) (costs_of c calls) (made c (named_table table) (moved (length before)) (past_with before old) d)
    (λ next. made_all c (named_table table) moved next calls) (past_with (before ++ a ∷ []) p.0)
    (λ past. past ≡ past_with ((before ++ a ∷ []) ++ answers) new) t p.1 u first later)

-- ---- one among them

-- the call that answered so at place j, with those before it, and the events of those behind it
pub record IsAmong (c : Setup) (table : Option Table) (calls : List Call) (answers : List Answer) (old new : List (Option LatchToken))
    (t u : CallerFace)
    (j : ℕ) (a : Answer) : Type 0 where
  pub call : Call
  pub is : slice_get calls j ≡ Some call
  pub before : CallerFace
  pub behind : CallerFace
  pub had : List (Option LatchToken)
  pub got : List (Option LatchToken)
  pub first : MakesCalls c table (take j calls) (take j answers) old had t before
  pub own : MakesCall c table call a had got before behind
  pub later : List Heard
  pub went : Went later behind u

pub path_among : (c : Setup) (table : Option Table) (calls : List Call) (answers : List Answer) (old new : List (Option LatchToken))
    (t u : CallerFace)
    (j : ℕ) (a : Answer)
    → MakesCalls c table calls answers old new t u → slice_get answers j ≡ Some a → IsAmong c table calls answers old new t u j a
path_among c table [] [] old new t u j a p is = absurd (cc is)
path_among c table [] (b ∷ answers) old new t u j a p is = absurd p
path_among c table (d ∷ calls) [] old new t u j a p is = absurd p
path_among c table (d ∷ calls) (b ∷ answers) old new t u zero a p is =
    let others = path_went c table calls answers p.0 new p.1 u p.3 in record {
      call = d;
      is = refl;
      before = t;
      behind = p.1;
      had = old;
      got = p.0;
      first = (refl, refl);
      own = subst (λ x. MakesCall c table d x old p.0 t p.1) (let e : b ≡ a = cc is in e) p.2;
      later = others.0;
      went = others.1;
    }
path_among c table (d ∷ calls) (b ∷ answers) old new t u (suc j) a p is =
    let r = path_among c table calls answers p.0 new p.1 u j a p.3 is in record {
      call = r.call;
      is = r.is;
      before = r.before;
      behind = r.behind;
      had = r.had;
      got = r.got;
      first = (p.0, p.1, p.2, r.first);
      own = r.own;
      later = r.later;
      went = r.went;
    }
