use Rattle.std.proofs.Common.{◌≡◌, map}
use Rattle.line_parts.specs.declared.completion.arguments.ArgumentOrOther.TheVariants as candidate
use Rattle.line_parts.proofs.completion.arguments.as_arguments.Given as goal

abbrev pub invariant-loop-candidate : goal.invariant-loop-candidate
invariant-loop-candidate g l = l.each.items ≡ map candidate.Argument l.yielded
