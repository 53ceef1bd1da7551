use Rattle.line_parts.proofs.history.mem.MemHistoryHistory.search.Goals as goal

pub returns-clause-answer : goal.returns-clause-answer
returns-clause-answer c = rw (← c.self.view_is) c.nearest_match.ensures.answer
