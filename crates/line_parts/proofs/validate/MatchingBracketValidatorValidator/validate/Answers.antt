use Rattle.std.proofs.lemmas.Result.{IfOk-weaker}
use Rattle.line_parts.proofs.BracketLemmas.{judged_so}
use Rattle.line_parts.specs.Brackets.{IsVerdict}
use Rattle.line_parts.specs.BracketVerdict.{bracket_verdict}
use Rattle.line_parts.specs.Verdict.{verdict_of}
use Rattle.std.proofs.Common.{◌≡◌}
use Rattle.line_parts.proofs.validate.MatchingBracketValidatorValidator.validate.Goals as goal

pub returns-clause-answer : goal.returns-clause-answer
returns-clause-answer c =
    IfOk-weaker c.check_brackets.result (λ r. IsVerdict c.args.ctx.now (verdict_of r)) (λ r. verdict_of r ≡ bracket_verdict c.args.ctx.now)
    (λ r. judged_so c.args.ctx.now (verdict_of r)) (rw c.input.ensures at c.check_brackets.ensures.verdict)
