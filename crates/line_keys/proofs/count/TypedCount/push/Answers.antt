use Rattle.std.proofs.Common.{refl}
use Rattle.line_keys.proofs.CountLemmas.{count-pushed}
use Rattle.line_keys.proofs.count.TypedCount.push.Goals as goal

pub returns : goal.returns
returns c = λ keys is. count-pushed _ _ keys c.args.key refl c.with_key-self.ensures is
