use Rattle.line_parts.proofs.history.file.FileHistoryHistory.starts_with.Goals as goal

pub returns-clause-answer : goal.returns-clause-answer
returns-clause-answer c = rw (← c.self.view_is) c.starts_with.ensures.answer
