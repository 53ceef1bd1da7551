use Rattle.std.proofs.lemmas.Str.{encode_ascii}
use Rattle.line_parts.proofs.validate.unpaired.Goals as goal

pub returns-clause-text : goal.returns-clause-text
returns-clause-text c = rw (c.from-shown.ensures, encode_ascii c.args.bracket c.requires) at c.in_ok-format.ensures.ok
