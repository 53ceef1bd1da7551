use Rattle.std.proofs.Common.{◌≡◌, map, take}
use Rattle.line_parts.specs.Completed.{listed_of}
use Rattle.tests_parts.proofs.asked.folders.copied.Given as goal

abbrev pub invariant-loop-entry : goal.invariant-loop-entry
invariant-loop-entry l = map listed_of l.copies.items ≡ map listed_of (take l.entry-index l.entries)
