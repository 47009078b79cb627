-- What the walks of a handle's functions share: its machine value, what a pointer to a machine tells, and what a call on a box of a
-- machine requires besides its arguments. Assumes `Logic`.
use Rattle.mv_oracle.proofs.Walks.{◌≡◌, List, [], ◌∷◌, refl, Ura, Dict, impl, tcons, tnil, dnil, Val, vstruct, vcons, vnil, full_share, ent, emp, via, fst∗, snd∗, guard_i, never, Fml, ftrue, flft, ◌⊑◌, fact, fact_i, fact_use, Logic, sem, Item, Goal, Seq, Step, step, ‵, raw, ◌⊛◌, given, ◌$◌, use0, use1, join, learn, layout, RattleType, Ptr, null_ptr, ptr_val, Testable, nothing, ghosts, Model, Running, Wired, Met, glues}
use Rattle.std.proofs.GlobalToken.{dealloc_token-Testable}
use mir.Raw.{raw as bare}
use denote.Memory.{lone}
use denote.Exit.{no}
use denote.Param.{arg}
use denote.Param.Laws.{Laws, arg_laws}
use denote.Shadow.{makes_shadow}
use denote.Struct.Owning.{shape}
use denote.Struct.Struct.{Struct}
use Rattle.core.specs.Ptr.{points_to}
use Rattle.std.specs.contracts.alloc.Global.{the_row as Heap}
use Rattle.std.proofs.alloc.Global.TheLaws as heap_laws
use Rattle.std_alloc.specs.contracts.boxed.Box as Box
use Rattle.std_alloc.proofs.boxed.Box.TheLaws as box_laws
use Rattle.mv_oracle.proofs.Destruct++none.drop.Code as dropping
use Rattle.mv_oracle.specs.declared.oracle.Oracle.{Oracle}
use Rattle.mv_oracle.specs.contracts.oracle.Oracle.{the_row as Machine}
use Rattle.mv_oracle.proofs.oracle.Oracle.TheLaws as machine_laws
use Rattle.mv_oracle.specs.contracts.handle.MachineHandle.{the_type}
use Rattle.mv_oracle.specs.Held.{heap, token, held_at}

-- a machine in a box
abbrev pub Boxed : RattleType
Boxed = Box.the_row Machine Heap ghosts

abbrev pub boxed_laws : Laws Boxed
boxed_laws = box_laws.the_row_laws Machine Heap ghosts machine_laws.the_row_laws heap_laws.the_row_laws

-- a machine and the allocator as the types of a generic call, which are passed without their names
abbrev pub MachineArg : RattleType
MachineArg = arg (bare (layout Machine)) no Machine

abbrev pub HeapArg : RattleType
HeapArg = arg (bare (layout Heap)) no Heap

abbrev pub machine_arg_laws : Laws MachineArg
machine_arg_laws = arg_laws (bare (layout Machine)) no Machine machine_laws.the_row_laws refl

abbrev pub heap_arg_laws : Laws HeapArg
heap_arg_laws = arg_laws (bare (layout Heap)) no Heap heap_laws.the_row_laws refl

-- how the allocator is let go: it has nothing to free
abbrev pub heap_drop : Dict
heap_drop = impl ("mv_oracle::Destruct++none::drop" ∷ []) (tcons (layout HeapArg) tnil) dnil

module _ {M : Type 1} (𝓤 : Ura M) (𝓛 : Logic 𝓤) (𝓜 : Model 𝓤 𝓛.H) (𝓡 : Running 𝓤 𝓛.H 𝓜) where
  pub heap_glue : Wired 𝓡.env dropping.code → Met 𝓛 𝓜 𝓡 𝓡.env HeapArg heap_drop
  unfolding dropping.code
  heap_glue wired = glues "mv_oracle::Destruct++none::drop" 𝓡.env wired HeapArg heap_arg_laws _ 𝓤 𝓛 𝓜 𝓡

-- the machine value of a handle
abbrev pub handle_val : Ptr → Val
handle_val p = vstruct (vcons (ptr_val p) vnil)

-- the fields of a handle, without what it owns beside them
abbrev pub Fields : RattleType
Fields = Struct (shape the_type)

-- the machines of a handle are none, one, or more
pub by_held : {X : Type 1} (held : List Oracle) → (held ≡ [] → X) → ((m : Oracle) → held ≡ m ∷ [] → X)
    → ((m n : Oracle) (more : List Oracle) → held ≡ m ∷ n ∷ more → X) → X
by_held [] none one several = none refl
by_held (m ∷ []) none one several = one m refl
by_held (m ∷ n ∷ more) none one several = several m n more refl

module _ {M : Type 1} {𝓤 : Ura M} (𝓛 : Logic 𝓤) where
  -- a pointer in a handle owns nothing itself
  pub fields_made : (p : Ptr) → ent 𝓤 (emp 𝓤) (sem 𝓛 (Fields.own_val (p, tt) (handle_val p ∷ [])))
  fields_made p = makes_shadow 𝓛 (Fields.own_val (p, tt) (handle_val p ∷ [])) (λ vs. (tt, (tt, tt))) ((ptr_val p ∷ [], tt), (refl, (refl, tt)))

  -- a pointer to a machine may be compared with null, since it can be freed
  pub comparable : (p : Ptr) (m : Oracle) → ent 𝓤 (sem 𝓛 (held_at p (m ∷ []))) (fact 𝓤 (Testable p))
  comparable p m =
      let block = bare (lone Machine.mir) in
      via 𝓤 (sem 𝓛 (token block p)) (snd∗ 𝓤 (sem 𝓛 (points_to Machine p m)) (sem 𝓛 (token block p)))
      (dealloc_token-Testable 𝓛 heap block p)

  -- no machine is at null
  pub none_at_null : (m : Oracle) → ent 𝓤 (sem 𝓛 (held_at null_ptr (m ∷ []))) (never 𝓤)
  none_at_null m = fst∗ 𝓤 (never 𝓤) (sem 𝓛 (token (bare (lone Machine.mir)) null_ptr))

  -- the tokens of the lifetimes of a machine and of its allocator, which borrow nothing
  abbrev pub tokens : Item 𝓤
  tokens = ‵ (flft [] full_share) ⊛ ‵ (flft [] full_share) ⊛ ‵ ftrue

  -- a requirement of a call on a box of a machine, with those that it has for any types
  abbrev pub of_static : Item 𝓤 → Item 𝓤
  of_static i = raw (fact 𝓤 ([] ⊑ Machine.lives)) ⊛ raw (fact 𝓤 ([] ⊑ Heap.lives)) ⊛ i

module _ {K : Type 0} {M : Type 1} {𝓤 : Ura M} {𝓛 : Logic 𝓤} {G : Goal 𝓤 𝓛.H} {Γ : List (Item 𝓤)} where
  -- a fact is learned from the entry at the head, which stays
  pub learned_of : K → (F : Fml) (φ : Type 0) → ent 𝓤 (sem 𝓛 F) (fact 𝓤 φ) → (φ → Seq K 𝓛 (‵ F ∷ Γ) G) → Seq K 𝓛 (‵ F ∷ Γ) G
  learned_of t F φ shown k = use1 𝓛 (given φ (‵ F)) (fact_use 𝓤 φ shown (λ x. guard_i 𝓤 φ (sem 𝓛 F) x)) $ learn t k

  pub with_tokens : K → Step K 𝓛 (tokens 𝓛 ∷ Γ) G Γ G
  with_tokens t = step (λ s.
      nothing t $ use0 𝓛 (‵ (flft [] full_share)) (𝓛.lfts.lft-nil full_share) $ join t $
      use0 𝓛 (‵ (flft [] full_share)) (𝓛.lfts.lft-nil full_share) $ join t $ s)

  pub at_static : K → {i : Item 𝓤} → Step K 𝓛 (of_static 𝓛 i ∷ Γ) G (i ∷ Γ) G
  at_static t = step (λ s.
      use0 𝓛 (raw (fact 𝓤 ([] ⊑ Heap.lives))) (fact_i 𝓤 ([] ⊑ Heap.lives) (emp 𝓤) (heap_laws.the_within [])) $ join t $
      use0 𝓛 (raw (fact 𝓤 ([] ⊑ Machine.lives))) (fact_i 𝓤 ([] ⊑ Machine.lives) (emp 𝓤) (machine_laws.the_within [])) $ join t $ s)
