use Rattle.std.proofs.Common.{rules, ◌≡◌, ◌+◌, ◌-◌, suc, length, sym, ap, ◌∙◌, arith}
use Rattle.std.proofs.lemmas.List.{length-take}
use Rattle.line_buffer.specs.Lines.{line_above}
use Rattle.line_buffer.proofs.BoundaryLemmas.{boundary_in_front}
use Rattle.line_buffer.proofs.LineLemmas.{above-none, above-some}
use Rattle.line_buffer.proofs.line_buffer.LineBuffer.start_above.Goals as goal

pub returns-in_default-clause-offset : goal.returns-in_default-clause-offset
returns-in_default-clause-offset c =
    record {
      place = sym (above-none (c.args.n - c.loop.counter) c.args.self.now.text c.loop.place (sym c.in_default.is ∙ c.line_above.ensures.offset.place ∙ ap line_above c.text_to.ensures)) ∙ c.loop.invariant.same;
      boundary = search rules;
    }

pub loop-preserved : goal.loop-preserved
loop-preserved c =
    let one : c.args.n - c.loop.counter ≡ suc (c.args.n - (c.loop.counter + 1)) = omega arith in
    let text = c.text_to.ensures in
    let next = sym c.in-Some.is ∙ c.line_above.ensures.offset.place ∙ ap line_above text in
    record {
      same = sym (above-some _ _ c.args.self.now.text c.loop.place c.in-Some.above one next) ∙ c.loop.invariant.same;
      bound = omega (arith, c.in-Some.ensures.up, ap length text, length-take c.loop.place c.args.self.now.text);
      boundary = boundary_in_front c.args.self.now.text c.loop.place c.in-Some.above c.loop.invariant.boundary (rw (← text) c.in-Some.ensures.offset.boundary);
    }
