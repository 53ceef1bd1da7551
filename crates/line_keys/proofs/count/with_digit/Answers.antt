use Rattle.std.proofs.Common.{◌≡◌, ◌≤◌, arith}
use Rattle.line_keys.proofs.CountLemmas.{digit-first, digit-more, digit-over}
use Rattle.line_keys.proofs.count.with_digit.Goals as goal

pub returns-in-None : goal.returns-in-None
returns-in-None c = λ digits is. digit-first digits c.args.digit (rw c.in-None.is at is)

pub returns-in-Some : goal.returns-in-Some
returns-in-Some c = λ digits is. digit-more digits c.in-Some.n c.args.digit (search) (rw c.in-Some.is at is)

pub returns-in-Some-2 : goal.returns-in-Some-2
returns-in-Some-2 c =
    let same : c.in-Some.n ≡ c.in-Some-2.n = cc in
    let large : 1000 ≤ c.in-Some-2.n = grind (arith, c.if-n-lt1000.false, same) in
    λ digits is. digit-over digits c.in-Some-2.n c.args.digit large (rw c.in-Some-2.is at is)
