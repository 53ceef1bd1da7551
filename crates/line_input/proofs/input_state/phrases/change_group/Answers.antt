use Rattle.std.proofs.Common.{◌∙◌, ap}
use Rattle.line_keys.specs.Model.Draft.{start_text}
use Rattle.line_input.proofs.GroupLemmas.{start_ended}
use Rattle.line_input.proofs.ReadingLemmas.{on_answer_then}
use Rattle.line_input.proofs.input_state.phrases.change_group.Goals as goal

pub returns-in-End-clause-start : goal.returns-in-End-clause-start
returns-in-End-clause-start g c = on_answer_then c.done_inserting.result (λ ended. ap start_text ended ∙ start_ended (g.W.EditorState.draft c.args.wrt.now)) c.done_inserting.ensures.draft
