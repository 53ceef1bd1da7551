use Rattle.line_editor.proofs.TwoRunsLaws.{two-renderers}
use Rattle.line_editor.proofs.laws.two_renderers_leave_the_same.Goals as goal

pub returns : goal.returns
returns g c = two-renderers _ _ _ _
