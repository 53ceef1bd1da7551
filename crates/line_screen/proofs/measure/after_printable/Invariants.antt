use Rattle.std.proofs.Common.{◌≡◌}
use Rattle.line_screen.specs.Measure.{columns_after}
use Rattle.line_screen.proofs.measure.after_printable.Given as goal

-- as many columns as are left take this place to where all of them take the first
abbrev pub invariant-loop-left : goal.invariant-loop-left
invariant-loop-left l = columns_after l.columns l.left l.place ≡ columns_after l.columns l.count l.fn.place

abbrev pub decreases-loop-left : goal.decreases-loop-left
decreases-loop-left l = l.left
