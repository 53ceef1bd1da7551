use Rattle.std.proofs.Common.{◌≡◌, take}
use Rattle.std.specs.List.{list_all}
use Rattle.line_buffer.specs.Printable.{is_printable}
use Rattle.line_buffer.proofs.printable.is_printable_text.Given as goal

-- whether the bytes so far are
abbrev pub invariant-loop-byte : goal.invariant-loop-byte
invariant-loop-byte l = l.printable ≡ list_all is_printable (take l.byte-index l.byte-items)
