-- Behind a byte of one-byte characters another character begins, or the text ends.
use Rattle.std.proofs.lemmas.Str.{IsCharBoundary-after_ascii}
use Rattle.line_parts.proofs.highlight.lit.Goals as goal

pub range-bracket-requires-clause-end_boundary : goal.range-bracket-requires-clause-end_boundary
range-bracket-requires-clause-end_boundary c = IsCharBoundary-after_ascii c.args.line.now c.args.at c.utf8.line c.requires.within c.requires.single

pub range_from-behind-requires : goal.range_from-behind-requires
range_from-behind-requires c = λ some. IsCharBoundary-after_ascii c.args.line.now c.args.at c.utf8.line c.requires.within c.requires.single
