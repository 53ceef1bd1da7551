use Rattle.std.proofs.Common.{◌≡◌, ◌+◌, ◌≤◌, arith, length, drop}
use Rattle.std.specs.List.{prefix_len}
use Rattle.std.proofs.lemmas.Grind.{common_steps}
use Rattle.std.proofs.lemmas.List.{length-drop}
use Rattle.std.proofs.lemmas.List.Sums.{prefix_len-le-length}
use Rattle.console.specs.Spelling.{passes}
use Rattle.console.proofs.SpellingLemmas.{boundary_behind_run}
use Rattle.console.proofs.arithmetic.token.run_end.Goals as goal
use Rattle.console.proofs.arithmetic.token.run_end.Goals.{After-run_len}

-- how long the run is
ran : (c : After-run_len) → c.run_len.result ≡ prefix_len (passes c.args.kind) (drop c.args.at c.args.text.now)
ran c = grind (arith, common_steps)

-- the run is within the text
ends_within : (c : After-run_len) → c.args.at + c.run_len.result ≤ length c.args.text.now
ends_within c =
    let start : c.args.at ≤ length c.args.text.now = c.requires.0 in
    omega (arith, ran c, prefix_len-le-length (passes c.args.kind) (drop c.args.at c.args.text.now), length-drop c.args.at c.args.text.now)

pub overflow_add-result : goal.overflow_add-result
overflow_add-result c = let within = ends_within c in grind (arith, common_steps)

pub returns-clause-boundary : goal.returns-clause-boundary
returns-clause-boundary c = boundary_behind_run c.args.kind c.args.text.now c.args.at c.run_len.result (ran c) c.utf8.text c.requires

pub returns-clause-within : goal.returns-clause-within
returns-clause-within c = ends_within c
