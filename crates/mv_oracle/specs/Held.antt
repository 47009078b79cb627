-- What a handle owns.
use Rattle.std.specs.Prelude.{List, [], ◌∷◌}
use mir.Syntax.{Ty}
use base.Fml.{Fml, feq, ffalse}
use denote.RawPtr.{Ptr, null_ptr}
use Rattle.std.specs.declared.alloc.Global.{Global}
use Rattle.std.specs.contracts.impls.GlobalAllocator.TheImpl.{ghosts}
use Rattle.std_alloc.specs.Box.Ownership.{box_owns}
use Rattle.mv_oracle.specs.contracts.oracle.Oracle.{the_row}

-- the heap's handle, which is one value
abbrev pub heap : Global
heap = record { memory = record { seal = tt } }

-- the right to free a block of the heap
abbrev pub token : Ty → Ptr → Fml
token = ghosts.dealloc_token heap

-- nothing at null; one value in a block of the heap at any other pointer
abbrev pub held_at : Ptr → List the_row.Denot → Fml
held_at p [] = feq Ptr p null_ptr
held_at p (x ∷ []) = box_owns token the_row p x
held_at p _ = ffalse
