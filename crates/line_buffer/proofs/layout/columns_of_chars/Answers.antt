use Rattle.std.proofs.Common.{rules, min, ap, sym, ◌∙◌}
use Rattle.std.proofs.lemmas.Iterator.{YieldsList-from_chars}
use Rattle.std.proofs.lemmas.Iterator.Consumers.{YieldsList-end}
use Rattle.std.specs.List.{sum_by}
use Rattle.line_buffer.specs.Width.{columns_of_char}
use Rattle.line_buffer.proofs.WidthLemmas.{all_columns, map-same}
use Rattle.line_buffer.proofs.layout.columns_of_chars.Goals as goal

pub returns : goal.returns
returns c =
    let t = YieldsList-end (YieldsList-from_chars c.args.text.now c.utf8.text cc) c.loop-c.yielded _ c.loop-c.yielded_by _ _ c.in-None.is c.next.ensures.steps in
    c.loop-c.invariant ∙ ap (λ cs. min (sum_by columns_of_char cs) 18446744073709551615) (sym (map-same c.loop-c.yielded) ∙ t.0) ∙ all_columns c.args.text.now c.utf8.text (search rules)
