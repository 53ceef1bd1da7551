-- Changes of a line that are drawn in part: a character typed at its end, and characters killed there.
use Rattle.std.specs.Prelude.{◌≡◌, ℕ, ◌+◌, ◌-◌, ◌==◌, ◌&&◌, ◌||◌, nat_lt, nat_le, Bool, true, not, [], ◌∷◌, length, drop, Some, is_some}
use Rattle.std.specs.List.{list_all}
use Rattle.line_buffer.specs.Line.{Line, inserted_at_cursor, is_at_end, without}
use Rattle.line_buffer.specs.Printable.{is_plain, is_printable}
use Rattle.line_keys.specs.Model.Display.{Display}
use Rattle.line_keys.specs.Model.Draft.{Draft}
use Rattle.line_parts.specs.Environment.{Environment}
use Rattle.line_parts.specs.declared.highlight.CmdKind.{CmdKind}
use Rattle.line_parts.specs.declared.highlight.CmdKind.TheVariants.{Other}

-- there is highlighting: colors are shown, there is a helper, and `highlight_char` says so of the line or said so the time before
abbrev pub has_highlighting : Environment → Display → Line → CmdKind → Bool
has_highlighting environment display line kind =
    (display.surface.colors && is_some environment.verdict_at)
    && (display.lit || environment.lights line.text line.cursor kind)

-- the line is printable ASCII and newlines; there is no hint, and no text was drawn after the line
abbrev pub is_bare_line : Display → Draft → Bool
is_bare_line display draft =
    list_all is_plain draft.line.text && not (is_some draft.hint) && not display.layout.has_info

-- what is left of a line has no hint, and there is no highlighting
abbrev pub leaves_bare : Environment → Display → Draft → Bool
leaves_bare environment display left =
    not (is_some left.hint) && not (has_highlighting environment display left.line Other)

-- the line takes a character plainly: printable ASCII at its end, with a column left after it
abbrev pub takes_char : Display → Draft → ℕ → Bool
takes_char display draft c =
    is_printable c && is_at_end draft.line && nat_lt (display.layout.cursor.col + 1) display.surface.columns
    && is_bare_line display draft

-- the text of a line from a place on can be cleared plainly: printable ASCII on the row of the kept cursor and end, for which both have
-- the columns
abbrev pub gives_end : Display → Draft → ℕ → Bool
gives_end display draft from =
    list_all is_printable (drop from draft.line.text)
    && (display.layout.cursor.row == display.layout.end.row)
    && nat_le (draft.line.cursor - from) display.layout.cursor.col
    && nat_le (length draft.line.text - from) display.layout.end.col
    && is_bare_line display draft

-- plain typing: a line takes a character plainly, and what is left has no hint and no highlighting
abbrev pub types_plainly : Environment → Display → Draft → Draft → ℕ → Bool
types_plainly environment display draft left c = takes_char display draft c && leaves_bare environment display left

-- a plain kill: the end of a line can be cleared plainly, and what is left has no hint and no highlighting
abbrev pub kills_plainly : Environment → Display → Draft → Draft → ℕ → Bool
kills_plainly environment display draft left from = gives_end display draft from && leaves_bare environment display left

-- a draft became another by plain typing
pub record TypedPlainly (environment : Environment) (display : Display) (draft left : Draft) : Type 0 where
  pub char : ℕ
  pub plain : types_plainly environment display draft left char ≡ true
  pub line : left.line ≡ inserted_at_cursor draft.line (char ∷ [])

-- a draft became another by a plain kill
pub record KilledPlainly (environment : Environment) (display : Display) (draft left : Draft) : Type 0 where
  pub from : ℕ
  pub plain : kills_plainly environment display draft left from ≡ true
  pub line : left.line ≡ without draft.line (Some (from, length draft.line.text))
