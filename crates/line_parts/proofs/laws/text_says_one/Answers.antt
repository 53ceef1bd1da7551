use Rattle.line_parts.proofs.TextLawLemmas.{text_says_one}
use Rattle.line_parts.proofs.laws.text_says_one.Goals as goal

pub returns : goal.returns
returns c = text_says_one
