-- A law of the key of the matching bracket.
use Rattle.std.specs.Prelude.{◌≡◌, ℕ, Option}
use Rattle.line_config.specs.declared.config.EditMode.TheVariants.{Vi}
use Rattle.line_keys.specs.Command.{move_to_bracket}
use Rattle.line_keys.specs.Model.Draft.{Draft}
use Rattle.line_keys.specs.Key.{event}
use Rattle.line_keys.specs.Meaning.{gives, stays}
use Rattle.line_keys.specs.Motion.{bracket_motion, motion_of}
use Rattle.line_keys.specs.Table.{row_of}
use Rattle.line_keys.specs.declared.count.Count.{Count}
use Rattle.line_keys.specs.declared.keys.KeyCode.TheVariants.{Char}
use Rattle.line_keys.specs.declared.keys.TheConstants.Modifiers.{NONE}
use Rattle.line_keys.specs.declared.refresher.InputMode.TheVariants as modes
use Rattle.line_keys.specs.declared.tables.Operator.{Operator}

-- % stands for the same in Vi's command mode, and after an operator, whatever the count is
abbrev pub BracketTakesNoCount : Type 0
BracketTakesNoCount = (draft : Draft) (typed : Option Count) (operator : Operator) (n : ℕ)
    → ((row_of Vi modes.Command (event (Char 37) NONE) draft).entry typed ≡ stays (gives move_to_bracket))
    × (motion_of operator (event (Char 37) NONE) n ≡ bracket_motion operator)
