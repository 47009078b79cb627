-- Scripts that are sound, task by task, and their configuration.
use Rattle.std.proofs.Common.{◌≡◌, ℕ, zero, suc, ◌<◌, Option, Some, None, List, [], ◌∷◌, ◌++◌, length, get_or, take, sym, ap, subst, arith}
use Rattle.std.proofs.Common.{append_assoc}
use Rattle.std.proofs.lemmas.List.{append-nil}
use Rattle.mv_config.specs.Setup.{Setup}
use Rattle.mv_calls.specs.declared.table.Table.{Table}
use Rattle.mv_scriptline.specs.declared.call.Call.{Call}
use Rattle.mv_calls.specs.Table.{IsTableOf, IsSoundTable}
use Rattle.mv_calls.proofs.TableFacts.{checked_is_sound}
use Rattle.mv_script.specs.Sound.{IfThere, IsSound}
use Rattle.mv_runscript.specs.Making.{IsSoundIn, AreSoundIn}
use Rattle.mv_runscript.specs.Rooms.{script_with}

-- a call behind as many as its place
pub sound_at : (c : Setup) (table : Option Table) (before calls : List Call) (i : ℕ) (d : Call) → AreSoundIn c table before calls → i <
    length calls
    → IsSoundIn c table (before ++ take i calls) (get_or calls i d)
sound_at c table before [] i d sound lt = absurd (omega arith)
sound_at c table before (x ∷ calls) zero d sound lt =
    subst (λ bs. IsSoundIn c table bs x) (sym (append-nil before)) sound.0
sound_at c table before (x ∷ calls) (suc i) d sound lt =
    subst (λ bs. IsSoundIn c table bs (get_or calls i d)) (append_assoc before (x ∷ []) (take i calls))
    (sound_at c table (before ++ x ∷ []) calls i d sound.1 (omega arith))

module _ (c : Setup) (table : Option Table) (tasks : List (List Call)) (sound : IsSound (script_with c table tasks)) where
  pub task_count : c.callers ≡ length tasks
  task_count = ap (λ (s : Setup). s.callers) sound.setup

  -- what its calls ask of the table
  pub table_sound : IfThere (IsSoundTable c) table
  table_sound = go table sound.table where
    go : (o : Option Table) → IfThere (IsTableOf c) o → IfThere (IsSoundTable c) o
    go None is = tt
    go (Some t) is = checked_is_sound c t is
