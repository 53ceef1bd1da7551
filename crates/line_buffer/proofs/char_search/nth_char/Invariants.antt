use Rattle.line_buffer.proofs.SearchLemmas.{FoundOn}
use Rattle.line_buffer.proofs.char_search.nth_char.Given as goal

abbrev pub invariant-loop : goal.invariant-loop
invariant-loop l = FoundOn l.c l.text l.counter l.found l.from
