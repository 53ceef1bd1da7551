-- Where a text ends on the screen of the tests, byte by byte.
use Rattle.std.specs.Prelude.{ℕ, ◌==◌, List, if◌then◌else◌}
use Rattle.std.specs.List.{fold}
use Rattle.line_buffer.specs.declared.layout.Position.{Position}
use Rattle.line_keys.specs.Model.Display.{next_column, next_row}

-- the place after a byte: a newline ends the row, and another byte takes a column
abbrev pub after_byte : ℕ → Position → ℕ → Position
after_byte columns p byte =
    if byte == 10 then record { row = next_row p.row; col = 0 } else next_column columns p

-- where a text ends that begins at the origin
unfoldable pub measured_by_bytes : ℕ → List ℕ → Position → Position
measured_by_bytes columns text origin = fold (after_byte columns) origin text
