-- The table of keys of both edit modes.
use Rattle.std.specs.Prelude.{ℕ, true, ◌==◌, if◌then◌else◌, List, [], ◌∷◌, Option, None}
use Rattle.line_buffer.specs.declared.movement.Movement.TheVariants.{BeginningOfLine, EndOfLine}
use Rattle.line_buffer.specs.declared.movement.Word.TheVariants.{Big}
use Rattle.line_config.specs.declared.config.EditMode.{EditMode}
use Rattle.line_config.specs.declared.config.EditMode.TheVariants.{Emacs, Vi}
use Rattle.line_keys.specs.Command.{Command, accept_or_insert_line, end_of_file, forward_search_history, kill, line_down_or_next_history, line_up_or_previous_history, move, noop, quoted_insert, reverse_search_history, transpose_chars, undo, unknown, yank}
use Rattle.line_keys.specs.Model.Draft.{Draft}
use Rattle.line_keys.specs.Key.{bits_of}
use Rattle.line_keys.specs.Meaning.{Row, Rows, always, by_sign, chars_back, chars_on, first_for, kills, meaning_row, moves, on_text, pastes, row, row_at, to_start, when, words_back}
use Rattle.line_keys.specs.declared.cmd.Anchor.TheVariants.{Before}
use Rattle.line_keys.specs.declared.count.Count.{Count}
use Rattle.line_keys.specs.declared.keys.KeyCode.{KeyCode}
use Rattle.line_keys.specs.declared.keys.KeyCode.TheVariants.{BracketedPasteStart, Char, Delete, Down, End, Enter, Home, Left, Right, UnknownEscSeq, Up}
use Rattle.line_keys.specs.declared.keys.TheConstants.Modifiers.{CTRL, NONE}

-- what C-D does on a line with a text
abbrev pub deletes : EditMode → Count → Command
deletes Emacs count = kill (chars_on count)
deletes Vi count = end_of_file

-- characters with Ctrl: D, J, M, Q, R, S, T, U, V, W, Y and _
abbrev pub common_ctrl_rows : EditMode → Rows
common_ctrl_rows style =
    (68, when on_text (row (deletes style)))
    ∷ (68, always unknown)
    ∷ (74, always (accept_or_insert_line true))
    ∷ (77, always (accept_or_insert_line true))
    ∷ (81, always quoted_insert)
    ∷ (82, always reverse_search_history)
    ∷ (83, always forward_search_history)
    ∷ (84, always transpose_chars)
    ∷ (85, kills to_start)
    ∷ (86, always quoted_insert)
    ∷ (87, kills (words_back Big))
    ∷ (89, row (by_sign (λ n. yank n Before) (λ _. unknown)))
    ∷ (95, row (λ count. undo count.n))
    ∷ []

-- the other keys, without a modifier
abbrev pub common_plain_rows : KeyCode → List Row
common_plain_rows Home = always (move BeginningOfLine) ∷ []
common_plain_rows End = always (move EndOfLine) ∷ []
common_plain_rows Left = moves chars_back ∷ []
common_plain_rows Right = moves chars_on ∷ []
common_plain_rows Delete = kills chars_on ∷ []
common_plain_rows Enter = always (accept_or_insert_line true) ∷ []
common_plain_rows Down = always (line_down_or_next_history 1) ∷ []
common_plain_rows Up = always (line_up_or_previous_history 1) ∷ []
common_plain_rows UnknownEscSeq = always noop ∷ []
common_plain_rows BracketedPasteStart = meaning_row (λ _. pastes) ∷ []
common_plain_rows _ = []

-- the rows of both edit modes
abbrev pub common_row : EditMode → KeyCode → ℕ → Draft → Option Row
common_row style (Char c) mods draft =
    if mods == bits_of CTRL then row_at (common_ctrl_rows style) c draft else None
common_row style code mods draft =
    if mods == bits_of NONE then first_for draft (common_plain_rows code) else None
