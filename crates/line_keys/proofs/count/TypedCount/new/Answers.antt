use Rattle.std.proofs.Common.{[], refl}
use Rattle.line_keys.proofs.count.TypedCount.new.Goals as goal

pub returns : goal.returns
returns c = (c.is_minus.ensures, c.with_key.ensures [] refl)
