-- The names that the proofs of this crate cite: steps on what is owned, steps through the code, and how a proof begins and ends.
pub use Rattle.std.proofs.Common.{◌≡◌, ℕ, List, [], ◌∷◌, ◌++◌, refl, sym, ap, lit<}
pub use base.Logic.{id⊢}
pub use base.Fml.{ftrue, flft}
pub use contract.Monad.{fact}
pub use types.Kit.{‵, raw, ◌⊛◌, some, later, prop, at_ret, ◌$◌, ◌∵◌, !, qed, done}
pub use types.Kit.{move, keep, drop, use0, use1, split, split3, join, fsplit, fjoin, feq_i, rewrite, pick, await, suffices, regoal}
pub use denote.Steps.{nothing, heard, only, peeks}
pub use mir.Val.{Val, vcons, vnil}
pub use types.Run.{enter, stop, fld, of_opd, lit, bin, and_then, no_more, first, blocks, branches, exec, returns}
pub use types.ByLocal.{alloc_all, pass_all, free_all, look_at, get, get_in, is, sets, sets_last, lands_as, lands_last, env}
pub use types.Part.{whole, sub, agg}
pub use denote.Triple.Call.{calls_at, calls_at_last}
pub use denote.Triple.Clauses.{Lasts, lasts}
pub use denote.Triple.Spec.{triple_of}
pub use denote.Triple.Table.{framed}
pub use contract.Running.{tables}
pub use denote.Exit.{yes, no}
pub use denote.RattleType.{RattleType}
pub use denote.Builtin.{RawPtr}
pub use denote.RawPtr.{Ptr, block_ptr, null_ptr, ptr_val, tests_null}
pub use denote.Signature.{plain}
pub use denote.Triple.Walked.{Stays, walk_of, says, stay_dropped, Goes-dropped, ends_at}
pub use Rattle.core.proofs.alloc.Calls.{Goes-blank}
pub use Rattle.std.proofs.raw_atomic.Walks.{proved, proved_at}
