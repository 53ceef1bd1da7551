use Rattle.line_buffer.proofs.SearchLemmas.{FoundBack}
use Rattle.line_buffer.proofs.char_search.nth_char_back.Given as goal

abbrev pub invariant-loop : goal.invariant-loop
invariant-loop l = FoundBack l.c l.text l.counter l.found l.to
