-- The names that the walks of a handle's functions cite: the steps that follow a body, and what is known of the types in it.
pub use Rattle.std.proofs.Common.{◌≡◌, List, [], ◌∷◌, ◌++◌, refl, sym, ap, subst, ◌∙◌, lit<}
pub use Rattle.std.proofs.raw_atomic.Walks.{proved, proved_at}
pub use seplogic.Ra.Ura.{Ura}
pub use mir.Syntax.{Dict, impl, method, no_args, tcons, tnil, dnil}
pub use mir.Val.{Val, vptr, vstruct, vcons, vnil}
pub use base.Fraction.{full_share}
pub use base.Logic.{ent, emp, emp∗, comm∗, ex, sep, via, fst∗, snd∗, guard_i, never, never_e, id⊢}
pub use base.Fml.{Fml, ftrue, fsep, flft}
pub use contract.BorrowLft.{◌⊑◌}
pub use contract.Monad.{fact, fact_i, fact_use}
pub use contract.Running.{Running, tables}
pub use prog.Model.{Model}
pub use prog.Wired.{Wired}
pub use prog.Wp.{WpFn}
pub use types.Logic.{Logic, sem}
pub use types.Kit.{Item, Goal, Seq, Step, step, ‵, raw, ◌⊛◌, some, later, given, prop, at_ret, ◌$◌, ◌∵◌, !, qed, by, move, keep, drop, use0, use1, use2, split, join, fsplit, fjoin, feq_i, feq_l, pick, learn, await, rewrite, regoal, show, suffices, done}
pub use types.Match.{live}
pub use types.Part.{whole, sub, agg}
pub use types.Run.{enter, of_opd, lit, bin, fld, stop, and_then, no_more, first, blocks, branches, skips, exec, returns, returns_within}
pub use types.ByLocal.{alloc_all, pass_all, free_all, look_at, get, get_in, sets, lands_as, lands_last, env}
pub use denote.Exit.{yes, rest}
pub use denote.Laws.{Is, shows}
pub use denote.Param.{layout}
pub use denote.Param.Glue.{Met}
pub use denote.Param.NoDrop.{glues}
pub use denote.RattleType.{RattleType, owns}
pub use denote.RawPtr.{Ptr, RawPtr, block_ptr, null_ptr, ptr_val, in_a_block, Testable, tests_null}
pub use denote.Signature.{plain}
pub use denote.Steps.{nothing, only, heard, peeks}
pub use denote.Triple.Call.{calls_at, calls_at_last}
pub use denote.Triple.Carry.{beside, spared}
pub use denote.Triple.Clauses.{Lasts, lasts}
pub use denote.Triple.Spec.{Spec, triple_of}
pub use denote.Triple.Table.{framed, run_framed, widened}
pub use denote.Triple.Walked.{Stays, stay_dropped, walk_of, says, Goes-dropped, ends_at}
pub use Rattle.core.proofs.alloc.Calls.{Goes-blank}
pub use Rattle.core.proofs.cell.Inside.{one}
pub use Rattle.std.specs.contracts.impls.GlobalAllocator.TheImpl.{ghosts, dict}
pub use Rattle.std.proofs.impls.GlobalAllocator.TheImpl.Met.{passed}
pub use Rattle.std_alloc.proofs.RcSteps.{Ptr-Good, word-Good, some_Good, Some-of, none_of}
