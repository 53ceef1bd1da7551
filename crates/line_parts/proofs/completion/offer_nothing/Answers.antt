-- A completion may begin where the text does.
use Rattle.std.proofs.lemmas.Str.{IsCharBoundary-start}
use Rattle.line_parts.proofs.completion.offer_nothing.Goals as goal

pub returns-clause-boundary : goal.returns-clause-boundary
returns-clause-boundary g c = IsCharBoundary-start _ c.utf8.line
