use Rattle.std.proofs.Common.{◌≡◌, ◌<◌, length, get_or, arith}
use Rattle.std.proofs.lemmas.Grind.{common_steps}
use Rattle.console.proofs.PartLemmas.{token_is_at}
use Rattle.console.proofs.arithmetic.parts.token_at.Goals as goal

pub returns-in-Some : goal.returns-in-Some
returns-in-Some c =
    let t = c.in-Some.placed.now in
    let within : c.args.place < length c.args.tokens.now = grind (arith, common_steps) in
    let is : t ≡ get_or c.args.tokens.now c.args.place t = grind (arith, common_steps) in
    token_is_at c.args.tokens.now c.args.place t within is
