use Rattle.std.proofs.Common.{◌≡◌, take}
use Rattle.line_script.specs.Script.{lacks_escapes}
use Rattle.line_script.proofs.script.lacks_escapes.Given as goal

-- whether the bytes so far have none
abbrev pub invariant-loop-byte : goal.invariant-loop-byte
invariant-loop-byte l = l.lacks ≡ lacks_escapes (take l.byte-index l.text)
