use Rattle.std.proofs.Common.{◌≡◌, min}
use Rattle.std.specs.List.{sum_by}
use Rattle.line_buffer.specs.Width.{columns_of_char}
use Rattle.line_buffer.proofs.layout.columns_of_chars.Given as goal

abbrev pub invariant-loop-c : goal.invariant-loop-c
invariant-loop-c l = l.columns ≡ min (sum_by columns_of_char l.yielded) 18446744073709551615
