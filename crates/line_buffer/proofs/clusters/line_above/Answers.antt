use Rattle.std.proofs.Common.{rules, ◌∙◌, None, lit<}
use Rattle.std.proofs.lemmas.Str.Pattern.{strip_suffix_char}
use Rattle.line_buffer.proofs.LineLemmas.{no_line_above}
use Rattle.line_buffer.proofs.clusters.line_above.Goals as goal

pub returns-in_err-above-clause-offset : goal.returns-in_err-above-clause-offset
returns-in_err-above-clause-offset c =
    record {
      place = c.from_residual.ensures ∙ no_line_above c.args.text.now (strip_suffix_char 10 c.args.text.now None c.in_err-above.ensures.cases (lit< tt));
      boundary = search rules;
    }
