use Rattle.line_keys.proofs.tables.emacs.emacs_ctrl.Goals as goal

pub returns-in-93 : goal.returns-in-93
returns-in-93 g c = rw c.in-93.is c.search.ensures
