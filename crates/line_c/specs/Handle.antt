-- What a handle owns.
use Rattle.std.specs.Prelude.{Option, None, Some}
use base.Fml.{Fml, feq}
use denote.RattleType.{RattleType}
use denote.RawPtr.{Ptr, null_ptr}
use Rattle.std.specs.declared.alloc.Global.{Global}
use Rattle.std.specs.contracts.impls.GlobalAllocator.TheImpl.{ghosts}
use Rattle.std_alloc.specs.Box.Ownership.{box_owns}

-- nothing at the null pointer, or else the box of a value x of type R, which the allocator frees
abbrev pub owned : (R : RattleType) → Global → Ptr → Option R.Denot → Fml
owned R alloc at None = feq Ptr at null_ptr
owned R alloc at (Some x) = box_owns (ghosts.dealloc_token alloc) R at x
