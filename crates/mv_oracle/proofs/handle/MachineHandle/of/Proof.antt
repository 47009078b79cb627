-- The box gives its pointer to the handle.
use Rattle.mv_oracle.proofs.Walks.{List, [], ◌∷◌, ◌++◌, refl, ap, proved_at, Ura, Dict, impl, method, no_args, tnil, dnil, Val, full_share, emp, emp∗, comm∗, ex, sep, via, id⊢, ftrue, fsep, Running, tables, Model, Wired, WpFn, Logic, sem, ‵, raw, ◌⊛◌, some, later, prop, ◌$◌, ◌∵◌, !, qed, move, keep, drop, use0, use1, use2, split, join, fsplit, fjoin, feq_l, pick, await, rewrite, regoal, show, suffices, done, agg, enter, of_opd, and_then, no_more, returns, alloc_all, pass_all, free_all, look_at, get, sets, lands_as, yes, rest, layout, Met, owns, Ptr, RawPtr, plain, nothing, only, calls_at, beside, spared, Lasts, lasts, Spec, triple_of, framed, run_framed, widened, Stays, stay_dropped, walk_of, says, ends_at, Goes-blank, one, ghosts, dict, passed, Ptr-Good, word-Good}
use Rattle.std_alloc.specs.contracts.boxed.Box.into_raw as g
use Rattle.std_alloc.proofs.boxed.Box.into_raw.Met.{met}
use Rattle.mv_oracle.specs.Held.{held_at}
use Rattle.mv_oracle.specs.contracts.oracle.Oracle.{the_row as Machine}
use Rattle.mv_oracle.specs.contracts.handle.MachineHandle.{the_type}
use Rattle.mv_oracle.specs.contracts.mv_oracle++oracle++Oracle+Destruct.drop as d
use Rattle.mv_oracle.proofs.mv_oracle++oracle++Oracle+Destruct.drop.Symbol as dropping
use Rattle.mv_oracle.proofs.mv_oracle++oracle++Oracle+Destruct.drop.Met.{met as drop_met}
use Rattle.mv_oracle.proofs.HandleSteps.{MachineArg, HeapArg, machine_arg_laws, heap_arg_laws, heap_drop, heap_glue, Boxed, boxed_laws, handle_val, Fields, fields_made, with_tokens, at_static, tokens}
use Rattle.mv_oracle.specs.contracts.handle.MachineHandle.of as f
use Rattle.mv_oracle.proofs.handle.MachineHandle.of.Statement.{statement}
use Rattle.mv_oracle.proofs.handle.MachineHandle.of.Code as code

abbrev stayed : Stays f.ended.signature.params f.ended.kept
stayed = (stay_dropped _ yes, tt)

-- how a machine is let go, which `into_raw` asks of a type that it leaks
abbrev machine_drop : Dict
machine_drop = impl ("mv_oracle::mv_oracle++oracle++Oracle+Destruct::drop" ∷ []) tnil dnil

module _ {M : Type 1} (𝓤 : Ura M) (𝓛 : Logic 𝓤) (𝓜 : Model 𝓤 𝓛.H) (𝓡 : Running 𝓤 𝓛.H 𝓜) (wired : Wired 𝓡.env dropping.code) where
  -- the call that lets a machine go, with nothing said of it afterwards
  abbrev lets_go : Spec 𝓤 d.signature
  lets_go κs a = record {
    ghost = Unit {0};
    requires = λ _. emp 𝓤;
    ensures = λ _ r. ex 𝓤 (λ (ws : Unit {0} × Unit {0}). sep 𝓤 (sem 𝓛 (fsep ftrue ftrue)) (emp 𝓤));
  }

  machine_glue : Met 𝓛 𝓜 𝓡 𝓡.env MachineArg machine_drop
  machine_glue =
      let key = method machine_drop 0 no_args in let c = d.spec 𝓛 𝓜.mem 𝓡.returns in
      let framed_run = run_framed 𝓤 𝓛.H 𝓜 𝓡 (𝓡.env key) in
      spared 𝓛 d.signature (𝓡.run (𝓡.env key)) framed_run 1 (Machine.lives, tt) lets_go
      (beside 𝓛 d.signature (𝓡.run (𝓡.env key)) framed_run c lets_go (λ κs a x. tt) (λ κs a x. emp 𝓤)
      (λ κs a x. via 𝓤 (sep 𝓤 (emp 𝓤) (emp 𝓤)) (emp∗ 𝓤 (emp 𝓤)) (comm∗ 𝓤 (emp 𝓤) (emp 𝓤)))
      (λ κs a x r. qed 𝓛 (raw ((c κs a).ensures tt r) ∷ raw (emp 𝓤) ∷ []) ∵ keep ! [] $
      show ! (λ (ws : Unit {0} × Unit {0}). sep 𝓤 (sem 𝓛 (fsep ftrue ftrue)) (emp 𝓤)) (tt, tt) $
      nothing ! $ nothing ! $ nothing ! $ join ! $ done !)
      (widened 𝓤 𝓛.H (triple_of 𝓛 d.signature c) 𝓜 𝓡 𝓡.env (𝓡.env dropping.name) (𝓡.env key) (dropping.as_method 𝓡.env wired key refl)
      (drop_met 𝓤 𝓛 𝓜 𝓡 wired)))

pub of_spec : {M : Type 1} → statement M
of_spec 𝓤 𝓛 𝓜 𝓡 wired =
    let c = f.clauses 𝓛 𝓜.mem 𝓡.returns in let W = walk_of 𝓛 f.ended stayed c in let 𝓣 = tables 𝓤 𝓛.H 𝓜 𝓡 𝓡.env in
    proved_at 𝓛 f.ended stayed c 𝓜 𝓡 (Goes-blank 𝓛 0 (plain (λ κs. Boxed)) yes (λ κs x w. tt), tt)
    f.Key.name code.function (code.unfolded 𝓤 𝓛.H 𝓜 𝓡 wired) (λ y are.
    let b = y.0.3.0 in let found = one (layout Boxed) y.0.4.0 ((boxed_laws.lawful 𝓛).typed b y.0.4.0 are.0) in
    qed 𝓛 ((‵ ftrue ⊛ ‵ (owns (Boxed ∷ []) (b, tt) y.0.4)) ∷ ‵ ftrue ∷ []) ∵ split ! $ move ! (1 ∷ []) $ fsplit ! $ keep ! (0 ∷ []) $
    rewrite ! 0 (λ (us : List Val). ‵ (Boxed.own_val b us)) found.1 refl $
    regoal ! (λ (us : List Val). prop (WpFn 𝓤 𝓛.H 𝓣.C 𝓣.Λ code.function us (W.post y))) (λ i. found.1 i ++ []) refl $
    enter ! _ _ _ _ _ $ alloc_all ! (λ l. pass_all ! refl (found.2, tt) $
    let T = g.ended MachineArg HeapArg ghosts dict heap_drop machine_drop in
    let G = triple_of 𝓛 T.signature (g.spec MachineArg HeapArg ghosts dict heap_drop machine_drop 𝓛 𝓜.mem 𝓡.returns) in
    let z : G.Ghost = ((([], ([], tt)), (full_share, (full_share, tt)), tt, (b, tt), (found.0 ∷ [], tt)), tt) in
    sets ! (of_opd ! (get ! refl)) refl found.2 $
    -- [the box; the locals]
    nothing ! $ move ! (1 ∷ 0 ∷ []) $ fjoin ! $ with_tokens ! $ join ! $ nothing ! $
    at_static ! $
    move ! (1 ∷ 0 ∷ []) $ use2 𝓛 (raw (G.pre z)) (id⊢ 𝓤 _) $
    calls_at ! (framed 𝓤 𝓛.H 𝓜 𝓣) G (met 𝓤 𝓛 𝓜 𝓡 (code.calls-std_alloc::boxed::Box::into_raw 𝓡.env wired)
    MachineArg HeapArg machine_arg_laws heap_arg_laws ghosts dict heap_drop machine_drop
    (passed 𝓡.env (code.calls-std_heap::GlobalAllocator::allocate 𝓡.env wired) (code.calls-std_heap::GlobalAllocator::deallocate 𝓡.env wired)
    (code.calls-std_heap::GlobalAllocator::grow 𝓡.env wired) (code.calls-std_heap::GlobalAllocator::shrink 𝓡.env wired) _ 𝓤 𝓛 𝓜 𝓡)
    (heap_glue 𝓤 𝓛 𝓜 𝓡 (code.calls-mv_oracle::Destruct++none::drop 𝓡.env wired))
    (machine_glue 𝓤 𝓛 𝓜 𝓡 (code.calls-mv_oracle::mv_oracle++oracle++Oracle+Destruct::drop 𝓡.env wired))) z
    (and_then ! (get ! refl) (no_more !)) (λ u.
    use1 𝓛 (later (some (λ (p : Ptr). (tokens 𝓛 ⊛ ‵ (RawPtr.own_val p (u ∷ []))) ⊛
    some (λ (ws : Lasts T z.0.0 z.0.3). ‵ (lasts T z.0.0 z.0.3 ws) ⊛ ‵ (held_at p (b.value ∷ [])))))) (id⊢ 𝓤 _) $ await ! tt $
    pick ! (λ p. split ! $ split ! $ drop ! $ feq_l ! (λ is. pick ! (λ ws. split ! $ drop ! $
    -- [the machine and the right to free it; the locals]
    lands_as ! (ap only is) refl (Ptr-Good p) $
    sets ! (of_opd ! (get ! refl)) refl (Ptr-Good p) $
    sets ! (agg ! (and_then ! (get ! refl) (no_more !))) refl (word-Good the_type.name p) $
    returns ! (look_at ! 0 refl) $ free_all ! refl $
    use0 𝓛 (‵ (Fields.own_val (p, tt) (handle_val p ∷ []))) (fields_made 𝓛 p) $ fjoin ! $
    suffices ! _ (ends_at 𝓛 f.ended stayed c y (handle_val p) (record { at = p; held = b.value ∷ [] }) (rest (Boxed.exit yes) b, tt) (tt, tt)) $
    says ! refl $ nothing ! $ nothing ! $ join ! $ nothing ! $ done !))))))
