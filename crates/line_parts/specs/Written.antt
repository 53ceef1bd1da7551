-- What an elected text makes of a line and its changes.
use Rattle.std.specs.Prelude.{◌≡◌, ℕ, List, OnOk, Result, slice_range}
use Rattle.line_buffer.specs.Changes.{Changes, with_entries, with_replace}
use Rattle.line_buffer.specs.Line.{Line, replaced_in}
use Rattle.line_buffer.specs.Undo.{StillTellsOrGone}
use Rattle.line_config.specs.Error.{MemoryOnly}
use Rattle.line_config.specs.declared.error.ReadlineError.{ReadlineError}

-- a line, and its changes
pub record Written : Type 0 where
  pub line : Line
  pub changes : Changes

-- a line with its changes
abbrev pub written_as : Line → Changes → Written
written_as line changes = record { line = line; changes = changes }

-- a text in place of what stands from a byte offset to the cursor, recorded as one replacement
abbrev pub put_to_cursor : Written → ℕ → List ℕ → Written
put_to_cursor old start text = record {
  line = replaced_in old.line start old.line.cursor text;
  changes = with_entries old.changes (with_replace start
      (slice_range old.line.text start old.line.cursor) text old.changes.entries);
}

-- a text was put in place of what stands from a byte offset to the cursor; after an error, which is want of memory, the changes
-- still record the line, or there are none
pub record PutsToCursor {T : Type 0} (result : Result T ReadlineError) (start : ℕ) (text : List ℕ) (line : Line) (changes : Changes) (line' : Line) (changes' : Changes) : Type 0 where
  pub written : OnOk result (written_as line' changes' ≡ put_to_cursor (written_as line changes) start text)
  pub told : StillTellsOrGone result changes line changes' line'
  pub memory : MemoryOnly result
