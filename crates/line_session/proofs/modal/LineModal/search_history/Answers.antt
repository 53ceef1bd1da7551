use Rattle.line_session.proofs.modal.LineModal.search_history.Goals as goal

pub returns-clause-answer : goal.returns-clause-answer
returns-clause-answer g c = rw c.history.ensures at c.search.ensures.answer
