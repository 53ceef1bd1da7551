-- The line that is being edited.
use Rattle.std.specs.Prelude.{◌≡◌, ℕ, List, [], Option, None, option_map}
use Rattle.line_buffer.specs.Changes.{Changes, begun, ended, no_changes}
use Rattle.line_buffer.specs.Line.{Line}
use Rattle.line_buffer.specs.Undo.{first_text}
use Rattle.line_parts.specs.Environment.{Environment, hint_for}
use Rattle.line_parts.specs.Hint.{Suggestion}

-- a line with its cursor, the line that was left for the history, the history index, the hint, and the changes so far
pub record Draft : Type 0 where
  pub line : Line
  pub saved : Line
  pub index : ℕ
  pub hint : Option Suggestion
  pub changes : Changes

-- the draft before the first key, at a history index
abbrev pub empty_draft : ℕ → Draft
empty_draft index = record {
  line = record { text = []; cursor = 0 };
  saved = record { text = []; cursor = 0 };
  index = index;
  hint = None;
  changes = no_changes;
}

-- the hint asked again
abbrev pub hinted : Environment → Draft → Draft
hinted environment draft =
    record draft { hint = hint_for environment draft.line.text draft.line.cursor draft.index }

-- what is shown of the hint, if there is one
abbrev pub hint_shown : Draft → Option (List ℕ)
hint_shown draft = option_map (λ hint. hint.display) draft.hint

-- the hint taken away
abbrev pub unhinted : Draft → Draft
unhinted draft = record draft { hint = None }

-- a group of changes is opened
abbrev pub in_group : Draft → Draft
in_group draft = record draft { changes = begun draft.changes }

-- every open group of changes is closed
abbrev pub out_of_group : Draft → Draft
out_of_group draft = record draft { changes = ended draft.changes }

-- the changes forgotten
abbrev pub without_changes : Draft → Draft
without_changes draft = record draft { changes = no_changes }

-- all but the hint stays
pub record KeepsText (old new : Draft) : Type 0 where
  pub line : new.line ≡ old.line
  pub saved : new.saved ≡ old.saved
  pub index : new.index ≡ old.index
  pub changes : new.changes ≡ old.changes

-- the lines and the history index stay
pub record KeepsLine (old new : Draft) : Type 0 where
  pub line : new.line ≡ old.line
  pub saved : new.saved ≡ old.saved
  pub index : new.index ≡ old.index

-- the text that taking back all changes restores
abbrev pub start_text : Draft → List ℕ
start_text draft = first_text draft.changes draft.line
