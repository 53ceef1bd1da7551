use Rattle.std.proofs.Common.{◌-◌}
use Rattle.std.specs.Str.Iter.{chars_rest}
use Rattle.line_buffer.proofs.BlankLemmas.{Blanks}
use Rattle.line_buffer.proofs.line_buffer.indents.blank_len.Given as goal

abbrev pub invariant-loop : goal.invariant-loop
invariant-loop l = Blanks l.amount l.text (chars_rest l.rest) (l.amount - l.counter) l.len
