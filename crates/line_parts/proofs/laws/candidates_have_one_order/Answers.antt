use Rattle.line_parts.proofs.OrderLemmas.{order_is_one}
use Rattle.line_parts.proofs.laws.candidates_have_one_order.Goals as goal

pub returns : goal.returns
returns c = order_is_one
