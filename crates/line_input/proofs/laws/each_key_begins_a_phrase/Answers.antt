use Rattle.line_input.proofs.BeginLemmas.{count-begins, key-begins}
use Rattle.line_input.proofs.laws.each_key_begins_a_phrase.Goals as goal

pub returns : goal.returns
returns c = record { alone = key-begins; behind_count = count-begins }
