use Rattle.std.proofs.Common.{◌≡◌, map, string_bytes, take}
use Rattle.line_parts.specs.WordList.{beginning_with}
use Rattle.line_parts.proofs.completion.word_list.beginning_with.Given as goal

abbrev pub invariant-loop-word : goal.invariant-loop-word
invariant-loop-word l = map string_bytes l.found.items ≡ beginning_with l.start (map string_bytes (take l.word-index l.words))
