-- What the kept changes say.
use Rattle.std.specs.Prelude.{List, map, reverse}
use Rattle.std.specs.String.{string_bytes}
use Rattle.line_buffer.specs.Changes.{Entry, begins, ends, inserted, deleted, replaced}
use Rattle.line_buffer.specs.declared.undo.change.Change.{Change}
use Rattle.line_buffer.specs.declared.undo.change.Change.TheVariants as Kept

-- the entry of a kept change
abbrev pub entry_of : Change → Entry
entry_of Kept.Begin = begins
entry_of Kept.End = ends
entry_of (Kept.Insert place text) = inserted place (string_bytes text)
entry_of (Kept.Delete place text) = deleted place (string_bytes text)
entry_of (Kept.Replace place old new) = replaced place (string_bytes old) (string_bytes new)

-- the entries of the kept changes, newest first
abbrev pub entries_of : List Change → List Entry
entries_of changes = reverse (map entry_of changes)
