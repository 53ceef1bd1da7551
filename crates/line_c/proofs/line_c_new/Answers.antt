use Rattle.std.proofs.Common.{inl, refl}
use Rattle.line_host.specs.declared.status.Status.TheVariants.{NoMemory}
use Rattle.line_c.proofs.line_c_new.Goals as goal

-- there was no memory for the box of the session
pub returns : goal.returns
returns c = rw (c.in_default.ensures.taken, c.take.ensures.after, c.code-in-Err-new.ensures) (NoMemory, refl, inl tt)
