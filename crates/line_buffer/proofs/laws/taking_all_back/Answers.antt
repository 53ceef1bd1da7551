use Rattle.std.proofs.Common.{◌≡◌, ℕ, List, [], ◌∷◌}
use Rattle.line_buffer.specs.Changes.{Entry}
use Rattle.line_buffer.specs.Line.{Line}
use Rattle.line_buffer.specs.Undo.{TellsOf, all_taken_back, taken_back}
use Rattle.line_buffer.proofs.laws.taking_all_back.Goals as goal

all_back : (entries : List Entry) (l : Line) (start : List ℕ) → TellsOf entries l.text start → (all_taken_back entries l).text ≡ start
all_back [] l start told = told
all_back (e ∷ entries) l start told = all_back entries (taken_back e l) start told.1

pub returns : goal.returns
returns c = all_back
