-- A pointer that is not null becomes the box again.
use Rattle.mv_oracle.proofs.Walks.{◌≡◌, List, [], ◌∷◌, refl, sym, ap, subst, ◌∙◌, lit<, proved, vptr, vcons, vnil, full_share, id⊢, never_e, ftrue, fact, tables, WpFn, ‵, raw, ◌⊛◌, some, later, prop, at_ret, ◌$◌, ◌∵◌, !, qed, by, move, keep, drop, use0, use1, use2, split, join, fsplit, fjoin, feq_i, feq_l, pick, await, rewrite, regoal, suffices, done, live, whole, sub, agg, enter, of_opd, lit, bin, fld, stop, and_then, no_more, first, blocks, branches, skips, exec, returns, returns_within, alloc_all, pass_all, free_all, look_at, get, get_in, sets, lands_last, env, yes, rest, Is, shows, layout, owns, Ptr, block_ptr, null_ptr, in_a_block, Testable, tests_null, plain, nothing, heard, peeks, calls_at_last, Lasts, lasts, triple_of, framed, Stays, stay_dropped, walk_of, says, Goes-dropped, ends_at, Goes-blank, ghosts, dict, passed, Ptr-Good, word-Good, some_Good, Some-of, none_of}
use Rattle.std.specs.Prelude.{Some, None}
use denote.Struct.Laws as plain_struct
use Rattle.core.specs.contracts.option.Option as Opt
use Rattle.std.specs.contracts.alloc.Global.{the_row as Heap, the_type as heap_type}
use Rattle.std.proofs.alloc.Global.TheLaws as heap_laws
use Rattle.std_alloc.specs.contracts.boxed.Box.from_raw as g
use Rattle.std_alloc.proofs.boxed.Box.from_raw.Met.{met}
use Rattle.mv_oracle.specs.declared.oracle.Oracle.{Oracle}
use Rattle.mv_oracle.specs.Held.{held_at}
use Rattle.mv_oracle.specs.contracts.handle.MachineHandle.{the_row as Handle, the_type}
use Rattle.mv_oracle.proofs.handle.MachineHandle.TheLaws as handle_laws
use Rattle.mv_oracle.proofs.HandleSteps.{MachineArg, HeapArg, machine_arg_laws, heap_arg_laws, heap_drop, heap_glue, Boxed, boxed_laws, handle_val, by_held, comparable, none_at_null, learned_of, with_tokens, at_static, tokens}
use Rattle.mv_oracle.specs.contracts.handle.MachineHandle.into_box as f
use Rattle.mv_oracle.proofs.handle.MachineHandle.into_box.Statement.{statement}
use Rattle.mv_oracle.proofs.handle.MachineHandle.into_box.Code as code

abbrev stayed : Stays f.ended.signature.params f.ended.kept
stayed = (stay_dropped _ yes, (stay_dropped _ yes, tt))

pub into_box_spec : {M : Type 1} → statement M
into_box_spec 𝓤 𝓛 𝓜 𝓡 wired =
    let c = f.clauses 𝓛 𝓜.mem 𝓡.returns in let W = walk_of 𝓛 f.ended stayed c in let 𝓣 = tables 𝓤 𝓛.H 𝓜 𝓡 𝓡.env in
    let heap_val = plain_struct.val heap_type heap_laws.the_laws in
    proved 𝓛 f.ended stayed c 𝓜 𝓡
    (Goes-blank 𝓛 0 (plain (λ κs. Handle)) yes (λ κs x w. tt), (Goes-dropped 𝓛 0 (plain (λ κs. Heap)) yes (λ κs x w. refl), tt))
    f.Key.name code.function (code.unfolded 𝓤 𝓛.H 𝓜 𝓡 wired)
    (λ κs. ((λ h. handle_val h.at ∷ []), ((λ heap. heap_val heap ∷ []), tt)))
    (λ κs. (handle_laws.lowers.val_is, (plain_struct.tells heap_type heap_laws.the_laws, tt))) (λ κs qs bounds a _ are.
    let h = a.0 in let heap = a.1.0 in let u = heap_val heap in
    let y : W.Ghost = ((κs, qs, bounds, a, (handle_val h.at ∷ [], (u ∷ [], tt))), tt) in
    let heap_good = ((heap_laws.the_row_laws.lawful 𝓛).typed heap (u ∷ []) are.1.0).0 in
    let last : Lasts f.ended κs a = (rest (Handle.exit yes) h, (rest (Heap.exit yes) heap, tt)) in
    let Run = λ (p : Ptr). prop (WpFn 𝓤 𝓛.H 𝓣.C 𝓣.Λ code.function (handle_val p ∷ u ∷ []) (W.post y)) in
    qed 𝓛 ((‵ ftrue ⊛ ‵ (owns (Handle ∷ Heap ∷ []) a (handle_val h.at ∷ [], (u ∷ [], tt)))) ∷ ‵ ftrue ∷ []) ∵
    split ! $ move ! (1 ∷ []) $ fsplit ! $ fsplit ! $ move ! (2 ∷ []) $ fsplit ! $ keep ! (3 ∷ 0 ∷ []) $
    -- [what the handle owns; the allocator]
    by_held h.held
    (λ none. rewrite ! 0 (λ (held : List Oracle). ‵ (held_at h.at held)) none refl $ feq_l ! (λ null. drop ! $ regoal ! Run null refl $
    enter ! _ _ _ _ _ $ alloc_all ! (λ l. pass_all ! refl (word-Good the_type.name null_ptr, (heap_good, tt)) $
    let good = Ptr-Good null_ptr in
    sets ! (of_opd ! (get_in ! (fld ! refl (stop !)) (sub ! 0 refl (whole !)))) refl good $
    sets ! (bin ! (get ! refl) (lit ! tt) (tests_null null_ptr (lit< tt))) refl (tt, tt) $
    first ! $ branches ! (get ! refl)
    (λ is_null. sets ! (agg ! (and_then ! (lit ! tt) (no_more !))) refl (tt, (record { fits = lit< tt }, tt)) $
    returns_within ! (W.post y) refl (look_at ! 0 refl) $ free_all ! refl $
    suffices ! _ (ends_at 𝓛 f.ended stayed c y (live 0 vnil) None last (tt, (tt, tt))) $ says ! none $
    use0 𝓛 (‵ ((Opt.the_row Boxed).own_val None (live 0 vnil ∷ []))) (none_of 𝓛 Boxed) $ nothing ! $ nothing ! $ join ! $ nothing ! $ join ! $ nothing ! $ done !)
    (λ not_null. absurd not_null))))
    (λ m one_held. rewrite ! 0 (λ (held : List Oracle). ‵ (held_at h.at held)) one_held refl $
    learned_of ! (held_at h.at (m ∷ [])) (Testable h.at) (comparable 𝓛 h.at m) (λ test.
    in_a_block ! h.at (λ p. held_at p (m ∷ [])) (none_at_null 𝓛 m) (λ b o at_block. regoal ! Run at_block refl $
    enter ! _ _ _ _ _ $ alloc_all ! (λ l. pass_all ! refl (word-Good the_type.name (block_ptr b o), (heap_good, tt)) $
    let at_good = Ptr-Good (block_ptr b o) in
    sets ! (of_opd ! (get_in ! (fld ! refl (stop !)) (sub ! 0 refl (whole !)))) refl at_good $
    sets ! (bin ! (get ! refl) (lit ! tt) (tests_null (block_ptr b o) (subst Testable at_block test))) refl (tt, tt) $
    first ! $ branches ! (get ! refl) (λ is_null. absurd is_null) (λ not_null. skips ! $
    exec ! 𝓣.C 𝓣.Λ (env code.Mir.locals l) code.Mir.t-4 (at_ret (env code.Mir.locals l) (W.post y)) $
    first ! $ blocks ! $
    sets ! (of_opd ! (get ! refl)) refl at_good $
    let T = g.ended MachineArg HeapArg ghosts dict heap_drop in
    let G = triple_of 𝓛 T.signature (g.spec MachineArg HeapArg ghosts dict heap_drop 𝓛 𝓜.mem 𝓡.returns) in
    let z : G.Ghost = ((([], ([], tt)), (full_share, (full_share, tt)), tt, (heap, (block_ptr b o, tt)), (u ∷ [], (vptr b o ∷ [], tt))), m) in
    -- [the machine and the right to free it; the allocator; the locals]
    at_static ! $
    nothing ! $ feq_i ! _ (vptr b o ∷ []) _ refl $ fjoin ! $ move ! (2 ∷ 0 ∷ []) $ fjoin ! $ with_tokens ! $ join ! $ use2 𝓛 (raw (G.pre z)) (id⊢ 𝓤 _) $
    calls_at_last ! (framed 𝓤 𝓛.H 𝓜 𝓣) G (met 𝓤 𝓛 𝓜 𝓡 (code.calls-std_alloc::boxed::Box::from_raw 𝓡.env wired)
    MachineArg HeapArg machine_arg_laws heap_arg_laws ghosts dict heap_drop
    (passed 𝓡.env (code.calls-std_heap::GlobalAllocator::allocate 𝓡.env wired) (code.calls-std_heap::GlobalAllocator::deallocate 𝓡.env wired)
    (code.calls-std_heap::GlobalAllocator::grow 𝓡.env wired) (code.calls-std_heap::GlobalAllocator::shrink 𝓡.env wired) _ 𝓤 𝓛 𝓜 𝓡)
    (heap_glue 𝓤 𝓛 𝓜 𝓡 (code.calls-mv_oracle::Destruct++none::drop 𝓡.env wired))) z
    (and_then ! (get ! refl) (and_then ! (get ! refl) (no_more !))) (λ v.
    use1 𝓛 (later (some (λ (r : Boxed.Denot). (tokens 𝓛 ⊛ ‵ (Boxed.own_val r (v ∷ []))) ⊛
    some (λ (ws : Lasts T z.0.0 z.0.3). ‵ (lasts T z.0.0 z.0.3 ws) ⊛ raw (fact 𝓤 (r.value ≡ m)) ⊛ raw (fact 𝓤 (r.alloc ≡ heap)))))) (id⊢ 𝓤 _) $
    await ! tt $ pick ! (λ r. split ! $ split ! $ drop ! $ peeks ! Boxed (Is Boxed) (shows 𝓛 Boxed) r (v ∷ []) (λ is.
    let good = ((boxed_laws.lawful 𝓛).typed r (v ∷ []) is).0 in
    move ! (1 ∷ []) $ pick ! (λ ws. split ! $ drop ! $ split ! $ heard ! _ (λ same. drop ! $
    -- [the box; the locals]
    lands_last ! refl good $
    exec ! 𝓣.C 𝓣.Λ (env code.Mir.locals l) code.Mir.t-5 (at_ret (env code.Mir.locals l) (W.post y)) $
    sets ! (of_opd ! (get ! refl)) refl good $
    sets ! (of_opd ! (get ! refl)) refl good $
    sets ! (agg ! (and_then ! (lit ! tt) (and_then ! (get ! refl) (no_more !)))) refl (some_Good (layout Boxed) v good) $
    returns ! (look_at ! 0 refl) $ free_all ! refl $
    use1 𝓛 (‵ ((Opt.the_row Boxed).own_val (Some r) (live 1 (vcons v vnil) ∷ []))) (Some-of 𝓛 Boxed r v) $
    suffices ! _ (ends_at 𝓛 f.ended stayed c y (live 1 (vcons v vnil)) (Some r) last (tt, (tt, tt))) $
    says ! (one_held ∙ ap (λ (n : Oracle). n ∷ []) (sym same)) $ nothing ! $ nothing ! $ join ! $ nothing ! $ join ! $ nothing ! $ done !))))))))))
    (λ m n more several. rewrite ! 0 (λ (held : List Oracle). ‵ (held_at h.at held)) several refl $ keep ! (0 ∷ []) $ by ! (never_e 𝓤 _)))
