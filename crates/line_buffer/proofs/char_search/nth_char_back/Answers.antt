use Rattle.std.proofs.Common.{rules, ◌∙◌, arith}
use Rattle.line_buffer.proofs.SearchLemmas.{back-start, back-next, back-none, front_range}
use Rattle.line_buffer.proofs.char_search.nth_char_back.Goals as goal

pub loop-init : goal.loop-init
loop-init c = back-start c.args.c c.args.text.now

pub returns-in_default-clause-offset : goal.returns-in_default-clause-offset
returns-in_default-clause-offset c =
    record {
      place = back-none c.args.c c.args.text.now c.loop.counter c.loop.found c.loop.to c.utf8.text c.loop.invariant c.range.result.now c.args.n (c.range.ensures.value ∙ front_range c.loop.to c.args.text.now) c.in_default.ensures.cases (omega arith);
      boundary = search rules;
    }

pub loop-preserved : goal.loop-preserved
loop-preserved c =
    let found = c.in-Some.ensures.cases in
    back-next c.args.c c.args.text.now c.loop.counter c.loop.found c.loop.to c.utf8.text c.loop.invariant c.range.result.now c.in-Some.place found.0 (c.range.ensures.value ∙ front_range c.loop.to c.args.text.now) found.1 found.3 found.4
