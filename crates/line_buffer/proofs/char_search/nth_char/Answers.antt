use Rattle.std.proofs.Common.{rules, arith}
use Rattle.line_buffer.proofs.SearchLemmas.{on-start, on-next, on-none}
use Rattle.line_buffer.proofs.char_search.nth_char.Goals as goal

pub loop-init : goal.loop-init
loop-init c = on-start c.args.c c.args.text.now c.utf8.text

pub returns-in_default-clause-offset : goal.returns-in_default-clause-offset
returns-in_default-clause-offset c =
    record {
      place = on-none c.args.c c.args.text.now c.loop.counter c.loop.found c.loop.from c.utf8.text c.loop.invariant c.range_from.result.now c.args.n c.range_from.ensures.value c.in_default.ensures.cases (omega arith);
      boundary = search rules;
    }

pub loop-preserved : goal.loop-preserved
loop-preserved c =
    let found = c.in-Some.ensures.cases in
    on-next c.args.c c.args.text.now c.loop.counter c.loop.found c.loop.from c.utf8.text c.loop.invariant c.range_from.result.now c.in-Some.bytes found.0 c.len_utf8.result c.range_from.ensures.value found.1 found.3 found.4 c.len_utf8.ensures.value
