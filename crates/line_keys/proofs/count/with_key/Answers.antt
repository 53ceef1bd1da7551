use Rattle.std.proofs.Common.{sym, ap, ◌∙◌}
use Rattle.line_keys.specs.Count.{number_of}
use Rattle.line_keys.proofs.CountLemmas.{no-digit, one-digit}
use Rattle.line_keys.proofs.count.with_key.Goals as goal

pub returns-in_default : goal.returns-in_default
returns-in_default c = λ digits is. is ∙ sym (ap (λ ds. number_of ds) (no-digit digits c.args.key (cc)))

pub returns : goal.returns
returns c = λ digits is. c.with_digit.ensures digits is ∙ sym (ap (λ ds. number_of ds) (one-digit digits c.args.key _ (cc)))
