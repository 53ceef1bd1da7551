-- What a terminal shows of a line between two calls.
use Rattle.std.specs.Prelude.{◌≡◌, ℕ, false, true, List, [], Option, Some}
use Rattle.line_buffer.specs.Line.{Line}
use Rattle.line_keys.specs.Model.Display.{Screen, corner, cursor_position}
use Rattle.line_keys.specs.Model.Draft.{Draft, hint_shown}
use Rattle.line_keys.specs.Item.{Item}
use Rattle.line_keys.specs.Model.ShownLine.{MayTrail}
use Rattle.line_parts.specs.Environment.{Environment}
use Rattle.line_screen.specs.Measure.{measured}
use Rattle.line_term.specs.Shown.{EndsInRows, IsOnTerminal}
use Rattle.line_session.specs.Searching.{search_value, search_prompt}
use Rattle.line_session.specs.Sitting.{BegunLine, Sitting}
use Rattle.line_session.specs.declared.mode.Mode.{Mode}
use Rattle.line_session.specs.declared.mode.Mode.TheVariants as modes

-- a screen of so many columns with a line after a prompt, a text after that, if there is one, and its cursor where the line's is
abbrev pub screen_of : ℕ → List ℕ → Line → Option (List ℕ) → Screen
screen_of columns prompt line trailing =
    let prompt_end = measured columns prompt corner in record {
      position = cursor_position (measured columns) prompt_end line;
      prompt = prompt;
      text = line.text;
      origin = prompt_end;
      behind = trailing;
      known = true;
    }

module _ {O : Type 0} (contents : O → Option (List ℕ)) where
  -- what was written to an output shows this line, if it ends above the last row that a measure knows
  abbrev pub IsLineOn : ℕ → O → List ℕ → Line → Option (List ℕ) → Type 0
  IsLineOn columns out prompt line trailing =
      let screen = screen_of columns prompt line trailing in
      EndsInRows (measured columns) screen → IsOnTerminal contents columns out screen

  -- it shows the line as it is in a mode, with these items left: after its own prompt, with a text after it that may trail it; in a search,
  -- once all items are read, after that of the search, with its hint. Of a list, and of a program that is suspended, nothing is said
  abbrev pub IsLineInModeOn : Mode → List Item → Environment → ℕ → O → List ℕ → Draft → Type 0
  IsLineInModeOn (modes.Searching searching) items environment columns out prompt draft =
      items ≡ [] → IsLineOn columns out (search_prompt (search_value searching)) draft.line (hint_shown draft)
  IsLineInModeOn (modes.Listing listing) items environment columns out prompt draft = Unit {0}
  IsLineInModeOn modes.Suspended items environment columns out prompt draft = Unit {0}
  IsLineInModeOn mode items environment columns out prompt draft =
      (trailing : Option (List ℕ)) × MayTrail environment draft trailing × IsLineOn columns out prompt draft.line trailing

  -- it shows the line that has begun, unless this is to be drawn before the next key is read
  abbrev pub ShowsBegun : {H : Type 0} → (H → List (List ℕ) → Environment) → Sitting H → O → Type 0
  ShowsBegun answers sitting out = (begun : BegunLine) → sitting.line ≡ Some begun → begun.draws ≡ false
      → IsLineInModeOn begun.mode sitting.items (answers sitting.helper sitting.lines) sitting.columns out sitting.prompt begun.kept.draft
