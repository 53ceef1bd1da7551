use Rattle.std.proofs.Common.{◌≡◌, filter, length, map, nat_lt, string_bytes}
use Rattle.line_host.proofs.session.words_of.Given as goal

abbrev pub invariant-loop-word : goal.invariant-loop-word
invariant-loop-word l = map string_bytes l.words.items ≡ filter (λ word. nat_lt 0 (length word)) (map (λ word. word.now) l.yielded)
