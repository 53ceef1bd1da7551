-- What a kill ring is once a text that it lent is let go.
use Rattle.std.specs.Prelude.{◌≡◌}
use Rattle.std.specs.Borrow.{Fml, MutBor}
use Rattle.std.specs.Io.BufRead.{Rests}
use Rattle.line_buffer.specs.KillRing.{Ring}
use Rattle.line_buffer.specs.contracts.kill_ring.KillRing.{the_row}

-- the lent ring ends as this one
abbrev pub LoanEndsAs : MutBor Ring → Ring → Fml
LoanEndsAs lent ring = Rests the_row lent (λ left. left ≡ ring)
