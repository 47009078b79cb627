-- One more call of a task.
use Rattle.std.proofs.Common.{◌≡◌, ℕ, ◌+◌, ◌<◌, ◌≤◌, Bool, Option, List, [], ◌∷◌, ◌++◌, length, get_or, take, drop, cond}
use Rattle.std.proofs.Common.{sym, ap, ◌∙◌, subst, arith}
use Rattle.std.specs.Prelude.{count_by}
use Rattle.std.proofs.lemmas.List.{take_more, drop_more}
use Rattle.std.proofs.lemmas.List.Sums.{sum_by-cons, sum_by-append}
use Rattle.mv_board.specs.Faces.{BoardFace, CallerFace, IsOf}
use Rattle.mv_calls.specs.Rest.{IsAtRest}
use Rattle.mv_latchset.specs.declared.token.LatchToken.{LatchToken}
use Rattle.mv_config.specs.Setup.{Setup}
use Rattle.mv_calls.specs.declared.table.Table.{Table}
use Rattle.mv_wait.proofs.Compose.{still_served}
use Rattle.mv_script.specs.declared.answer.Answer.{Answer}
use Rattle.mv_scriptline.specs.declared.call.Call.{Call}
use Rattle.mv_script.specs.Costs.{cost, costs_of}
use Rattle.mv_script.specs.Run.{word_in}
use Rattle.mv_script.specs.Tasks.{named_table, made}
use Rattle.mv_runscript.specs.Making.{past_with, MakesCall, MakesCalls}
use Rattle.mv_runscript.proofs.Paths.{path_on}

-- how many of two lists, and of a list with one more in front
count_both : {A : Type 0} (p : A → Bool) (xs ys : List A) → count_by p (xs ++ ys) ≡ count_by p xs + count_by p ys
count_both p xs ys = sum_by-append (λ x. cond (p x) 1 0) xs ys

module _ (calls : List Call) (i : ℕ) (d : Call) (lt : i < length calls) (is : d ≡ get_or calls i d) where
  pub taken_more : take (i + 1) calls ≡ take i calls ++ d ∷ []
  taken_more = take_more calls i d lt ∙ ap (λ (x : Call). take i calls ++ x ∷ []) (sym is)

  pub dropped_more : drop i calls ≡ d ∷ drop (i + 1) calls
  dropped_more = drop_more calls i d lt ∙ ap (λ (x : Call). x ∷ drop (i + 1) calls) (sym is)

  -- how many of the calls so far, and of those to come
  pub counted_more : (p : Call → Bool) → count_by p (take (i + 1) calls) ≡ count_by p (take i calls) + count_by p (d ∷ [])
  counted_more p = ap (count_by p) taken_more ∙ count_both p (take i calls) (d ∷ [])

  pub left_more : (p : Call → Bool) → count_by p (drop i calls) ≡ count_by p (d ∷ []) + count_by p (drop (i + 1) calls)
  left_more p = ap (count_by p) dropped_more ∙ count_both p (d ∷ []) (drop (i + 1) calls)

  pub cost_more : (c : Setup) → costs_of c (drop i calls) ≡ cost c d + costs_of c (drop (i + 1) calls)
  cost_more c = ap (costs_of c) dropped_more ∙ sum_by-cons (cost c) d (drop (i + 1) calls)

  -- the calls that were made
  pub path_more : (c : Setup) (table : Option Table) (answers : List Answer) (a : Answer) (old between new : List (Option LatchToken))
      (t u v : CallerFace)
      → MakesCalls c table (take i calls) answers old between t u → MakesCall c table d a between new u v
      → MakesCalls c table (take (i + 1) calls) (answers ++ a ∷ []) old new t v
  path_more c table answers a old between new t u v p x =
      subst (λ (cs : List Call). MakesCalls c table cs (answers ++ a ∷ []) old new t v) (sym taken_more)
      (path_on c table (take i calls) d answers a old between new t u v p x)

-- ---- what a call leaves

module _ (c : Setup) (table : Option Table) (d : Call) (a : Answer) (old new : List (Option LatchToken)) (t u : CallerFace)
    (x : MakesCall c table d a old new t u) where
  pub call_spends : t.left ≤ u.left + cost c d
  call_spends = let s = x.served [] in let few = s.made.few in let left = s.left in omega arith

  pub call_rests : IsAtRest u.log
  call_rests = (x.served []).made.rest

  pub call_keeps_board : (b : BoardFace) → IsOf b t → IsOf b u
  call_keeps_board b of =
      still_served b (cost c d) (made c (named_table table) (word_in a) (past_with [] old) d)
      (λ past. past ≡ past_with ([] ++ a ∷ []) new) t u (x.served []) of
