use Rattle.line_parts.proofs.history.file.FileHistoryHistory.search.Goals as goal

pub returns-clause-answer : goal.returns-clause-answer
returns-clause-answer c = rw (← c.self.view_is) c.search.ensures.answer
