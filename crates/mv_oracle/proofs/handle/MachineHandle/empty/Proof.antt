-- A null pointer, and no machine.
use Rattle.mv_oracle.proofs.Walks.{[], ◌∷◌, refl, proved, ftrue, ‵, ◌⊛◌, ◌$◌, ◌∵◌, !, qed, keep, use0, fjoin, feq_i, suffices, done, agg, enter, lit, and_then, no_more, returns, alloc_all, pass_all, free_all, look_at, sets, Ptr, null_ptr, nothing, walk_of, says, ends_at, word-Good}
use Rattle.mv_oracle.proofs.HandleSteps.{handle_val, Fields, fields_made}
use Rattle.mv_oracle.specs.contracts.handle.MachineHandle.{the_type}
use Rattle.mv_oracle.specs.contracts.handle.MachineHandle.empty as f
use Rattle.mv_oracle.proofs.handle.MachineHandle.empty.Statement.{statement}
use Rattle.mv_oracle.proofs.handle.MachineHandle.empty.Code as code

pub empty_spec : {M : Type 1} → statement M
empty_spec 𝓤 𝓛 𝓜 𝓡 wired =
    let c = f.clauses 𝓛 𝓜.mem 𝓡.returns in let W = walk_of 𝓛 f.ended tt c in
    proved 𝓛 f.ended tt c 𝓜 𝓡 tt f.Key.name code.function (code.unfolded 𝓤 𝓛.H 𝓜 𝓡 wired) (λ κs. tt) (λ κs. tt) (λ κs qs bounds a _ are.
    let y : W.Ghost = ((κs, qs, bounds, a, tt), tt) in
    qed 𝓛 ((‵ ftrue ⊛ ‵ ftrue) ∷ ‵ ftrue ∷ []) ∵ keep ! [] $
    enter ! _ _ _ _ _ $ alloc_all ! (λ l. pass_all ! refl tt $
    sets ! (agg ! (and_then ! (lit ! tt) (no_more !))) refl (word-Good the_type.name null_ptr) $
    returns ! (look_at ! 0 refl) $ free_all ! refl $
    feq_i ! Ptr null_ptr null_ptr refl $ use0 𝓛 (‵ (Fields.own_val (null_ptr, tt) (handle_val null_ptr ∷ []))) (fields_made 𝓛 null_ptr) $ fjoin ! $
    suffices ! _ (ends_at 𝓛 f.ended tt c y (handle_val null_ptr) (record { at = null_ptr; held = [] }) tt tt) $
    says ! refl $ nothing ! $ nothing ! $ done !))
