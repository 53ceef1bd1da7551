-- A handle and a loose session as the machine has them: a pointer beside the allocator, which has no bytes.
use Rattle.std.proofs.Common.{[], ◌∷◌}
use mir.Syntax.{ty_struct, ty_ptr, tcons, tnil}
use mir.Val.{Val}
use denote.RattleType.{RattleType}
use denote.Laws.{Is, Tells}
use denote.Param.{layout}
use denote.RawPtr.{Ptr}
use Rattle.core.proofs.cell.Inside.{Good}
use Rattle.line_host.specs.contracts.session.Session as session
use Rattle.line_host.proofs.session.Session.TheLaws as session_laws
use Rattle.std.specs.contracts.alloc.Global as heap
use Rattle.std.proofs.alloc.Global.TheLaws as heap_laws
use Rattle.std.specs.declared.alloc.Global.{Global}
use Rattle.std.specs.contracts.impls.GlobalAllocator.TheImpl.{ghosts}
use Rattle.line_c.specs.contracts.handle.Handle as handle
use Rattle.line_c.proofs.handle.Handle.TheLaws as handle_laws
use Rattle.line_c.specs.contracts.loose.Loose as loose
use Rattle.line_c.proofs.loose.Loose.TheLaws as loose_laws
use Rattle.line_c.proofs.Pair.{pair, pair_fits}

abbrev pub Handle : RattleType
Handle = handle.the_row

abbrev pub LooseSession : RattleType
LooseSession = loose.the_row session.the_row heap.the_row ghosts

abbrev pub heap_word : Global → Val
heap_word alloc = heap_laws.lowered alloc

abbrev pub word : Ptr → Global → Val
word p alloc = pair p (heap_word alloc)

pub heap_fits : (alloc : Global) → Good (layout heap.the_row) (heap_word alloc)
heap_fits alloc = (tt, ((tt, tt), tt))

pub word_fits : (p : Ptr) (alloc : Global) → Good (ty_struct [] (tcons ty_ptr (tcons (layout heap.the_row) tnil))) (word p alloc)
word_fits p alloc = pair_fits p (layout heap.the_row) (heap_word alloc) (heap_fits alloc)

pub handle_tells : Tells Handle (Is Handle) (λ h. word h.at h.alloc ∷ [])
handle_tells = handle_laws.lowers.val_is

pub loose_tells : Tells LooseSession (Is LooseSession) (λ l. word l.at l.alloc ∷ [])
loose_tells =
    (loose_laws.lowers session.the_row heap.the_row ghosts session_laws.the_row_laws heap_laws.the_row_laws heap_laws.the_told).val_is
