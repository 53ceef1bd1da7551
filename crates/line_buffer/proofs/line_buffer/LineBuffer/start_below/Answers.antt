use Rattle.std.proofs.Common.{rules, ◌≡◌, ◌+◌, ◌-◌, suc, sym, ap, ◌∙◌, arith}
use Rattle.line_buffer.specs.Lines.{next_line}
use Rattle.std.proofs.lemmas.Str.{IsCharBoundary-from_rest}
use Rattle.line_buffer.proofs.LineLemmas.{below-none, below-some}
use Rattle.line_buffer.proofs.line_buffer.LineBuffer.start_below.Goals as goal

pub returns-in_default-clause-offset : goal.returns-in_default-clause-offset
returns-in_default-clause-offset c =
    record {
      place = sym (below-none (c.args.n - c.loop.counter) c.args.self.now.text c.loop.place (sym c.in_default.is ∙ c.next_line.ensures.place ∙ ap next_line c.text_from.ensures)) ∙ c.loop.invariant.same;
      boundary = search rules;
    }

pub loop-preserved : goal.loop-preserved
loop-preserved c =
    let one : c.args.n - c.loop.counter ≡ suc (c.args.n - (c.loop.counter + 1)) = omega arith in
    let text = c.text_from.ensures in
    let next = sym c.in-Some.is ∙ c.next_line.ensures.place ∙ ap next_line text in
    record {
      same = sym (below-some _ _ c.args.self.now.text c.loop.place c.in-Some.bytes one next) ∙ c.loop.invariant.same;
      bound = omega arith;
      boundary = IsCharBoundary-from_rest c.args.self.now.text c.loop.place c.in-Some.bytes c.loop.invariant.boundary.0 (rw (← text) c.in-Some.ensures.boundary);
    }
