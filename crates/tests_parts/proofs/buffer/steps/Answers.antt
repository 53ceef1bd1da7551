use Rattle.tests_parts.proofs.ToldLemmas.{none_tell}
use Rattle.tests_parts.proofs.buffer.steps.Goals as goal

pub returns-in_err-differs-in-Err : goal.returns-in_err-differs-in-Err
returns-in_err-differs-in-Err c = none_tell _ _ c.new.ensures

pub returns-after-not-is_settled : goal.returns-after-not-is_settled
returns-after-not-is_settled c = none_tell _ _ c.new.ensures
