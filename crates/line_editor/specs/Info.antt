-- What is shown after the line.
use Rattle.std.specs.Prelude.{ℕ, List, Option, None, option_map}
use Rattle.line_editor.specs.declared.edit.Info.{Info}
use Rattle.line_editor.specs.declared.edit.Info.TheVariants.{Nothing, Hint, Message}

-- the text after the line: nothing, the hint's, or a message's
abbrev pub shown_info : Info → Option (List ℕ) → Option (List ℕ)
shown_info Nothing hint = None
shown_info Hint hint = hint
shown_info (Message message) hint = option_map (λ s. s.now) message
