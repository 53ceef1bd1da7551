use Rattle.line_session.proofs.CompletingLemmas.{agree_in, agree_there}
use Rattle.line_session.proofs.completing.agree.Goals as goal

pub returns-in_ok-elect-clause-agree : goal.returns-in_ok-elect-clause-agree
returns-in_ok-elect-clause-agree g c =
    let common = rw c.in-Some.is at c.longest_common_prefix.ensures in
    agree_in _ _ _ c.in-Some.common.now _ _ _ _ _ common c.pos.ensures.value c.is_put_in.ensures c.if-is_put_in.true c.in_ok-elect.ensures.elects

pub returns-else-is_put_in-clause-agree : goal.returns-else-is_put_in-clause-agree
returns-else-is_put_in-clause-agree g c =
    let common = rw c.in-Some.is at c.longest_common_prefix.ensures in
    agree_there _ _ _ c.in-Some.common.now _ _ _ common c.pos.ensures.value c.is_put_in.ensures c.if-is_put_in.false
