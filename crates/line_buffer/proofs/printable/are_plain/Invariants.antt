use Rattle.std.proofs.Common.{◌≡◌, take}
use Rattle.std.specs.List.{list_all}
use Rattle.line_buffer.specs.Printable.{is_plain}
use Rattle.line_buffer.proofs.printable.are_plain.Given as goal

-- whether the bytes so far are
abbrev pub invariant-loop-byte : goal.invariant-loop-byte
invariant-loop-byte l = l.plain ≡ list_all is_plain (take l.byte-index l.bytes)
