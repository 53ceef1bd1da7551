use Rattle.std.proofs.Common.{◌≡◌, drop}
use Rattle.std.specs.List.{fold}
use Rattle.tests_steps.specs.Screen.{after_byte}
use Rattle.tests_steps.proofs.recorder.measured.Given as goal

-- the bytes that are left take this place to where the text ends
abbrev pub invariant-loop-byte : goal.invariant-loop-byte
invariant-loop-byte l =
    fold (after_byte l.columns) l.place (drop l.byte-index l.byte-items)
    ≡ fold (after_byte l.columns) l.fn.origin l.text
