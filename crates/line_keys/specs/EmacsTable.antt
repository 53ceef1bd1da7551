-- The table of keys of Emacs.
use Rattle.std.specs.Prelude.{ℕ, ◌==◌, not, if◌then◌else◌, List, [], ◌∷◌, Option, Some, None}
use Rattle.line_buffer.specs.declared.movement.CharSearch.TheVariants.{Backward, ForwardBefore}
use Rattle.line_buffer.specs.declared.movement.Movement.TheVariants.{BeginningOfLine, EndOfLine}
use Rattle.line_buffer.specs.declared.movement.Word.TheVariants as words
use Rattle.line_keys.specs.Command.{Command, abort, beginning_of_history, capitalize_word, clear_screen, complete, complete_backward, complete_hint, downcase_word, end_of_history, kill, move, next_history, previous_history, self_insert, transpose_words, undo, unknown, upcase_word, yank_pop}
use Rattle.line_keys.specs.Model.Draft.{Draft}
use Rattle.line_keys.specs.Key.{bits_of}
use Rattle.line_keys.specs.Meaning.{Row, Rows, always, at_hint, by_sign, chars_back, chars_on, first_for, has_second, kills, meaning_row, moves, row, row_at, search, to_end, to_start, when, words_back, words_on}
use Rattle.line_keys.specs.declared.count.Count.{Count}
use Rattle.line_keys.specs.declared.keys.KeyCode.{KeyCode}
use Rattle.line_keys.specs.declared.keys.KeyCode.TheVariants.{Backspace, BackTab, Char, Esc, Left, Right, Tab}
use Rattle.line_keys.specs.declared.keys.KeyEvent.{KeyEvent}
use Rattle.line_keys.specs.declared.keys.TheConstants.Modifiers.{ALT, CTRL, CTRL_ALT, NONE}

-- a plain character inserts itself
abbrev pub typed_row : ℕ → Row
typed_row c = row (by_sign (λ n. self_insert n c) (λ _. unknown))

-- completes, and the other way round for a negative count
abbrev pub completes : Row
completes = row (by_sign (λ _. complete) (λ _. complete_backward))

-- what the second key of C-X means: C-G and Esc, C-U, and Backspace
abbrev pub second_row : KeyCode → ℕ → Count → Command
second_row (Char c) mods count =
    if not (mods == bits_of CTRL) then unknown
    else if c == 71 then abort
    else if c == 85 then undo count.n
    else unknown
second_row Esc mods count = if mods == bits_of NONE then abort else unknown
second_row Backspace mods count =
    if mods == bits_of NONE then kill (to_start count) else unknown
second_row _ mods count = unknown

-- what the second key of C-X means, under the count
abbrev pub second_at : Count → KeyEvent → Command
second_at count key = second_row key.0 (bits_of key.1) count

-- characters with Ctrl: A, B, E, F, G, H, I, K, L, N, P, X and ]
abbrev pub emacs_ctrl_rows : Rows
emacs_ctrl_rows =
    (65, always (move BeginningOfLine))
    ∷ (66, moves chars_back)
    ∷ (69, always (move EndOfLine))
    ∷ (70, moves chars_on)
    ∷ (71, always abort)
    ∷ (72, kills chars_back)
    ∷ (73, completes)
    ∷ (75, kills to_end)
    ∷ (76, always clear_screen)
    ∷ (78, always next_history)
    ∷ (80, always previous_history)
    ∷ (88, meaning_row (λ count. has_second (second_at count)))
    ∷ (93, search (λ c. ForwardBefore c) (λ c. Backward c))
    ∷ []

-- characters with Alt: <, >, and letters of both cases: B, C, D, F, L, T, U and Y
abbrev pub emacs_alt_rows : Rows
emacs_alt_rows =
    (60, always beginning_of_history)
    ∷ (62, always end_of_history)
    ∷ (66, moves (words_back words.Emacs)) ∷ (98, moves (words_back words.Emacs))
    ∷ (67, always capitalize_word) ∷ (99, always capitalize_word)
    ∷ (68, kills (words_on words.Emacs)) ∷ (100, kills (words_on words.Emacs))
    ∷ (70, moves (words_on words.Emacs)) ∷ (102, moves (words_on words.Emacs))
    ∷ (76, always downcase_word) ∷ (108, always downcase_word)
    ∷ (84, row (λ count. transpose_words count.n)) ∷ (116, row (λ count. transpose_words count.n))
    ∷ (85, always upcase_word) ∷ (117, always upcase_word)
    ∷ (89, always yank_pop) ∷ (121, always yank_pop)
    ∷ []

-- characters with Ctrl and Alt: G and ]
abbrev pub emacs_ctrl_alt_rows : Rows
emacs_ctrl_alt_rows =
    (71, always abort)
    ∷ (93, search (λ c. Backward c) (λ c. ForwardBefore c))
    ∷ []

-- the other keys, without a modifier
abbrev pub emacs_plain_rows : KeyCode → List Row
emacs_plain_rows Right = when at_hint (always complete_hint) ∷ []
emacs_plain_rows Esc = always abort ∷ []
emacs_plain_rows Backspace = kills chars_back ∷ []
emacs_plain_rows BackTab = always complete_backward ∷ []
emacs_plain_rows Tab = completes ∷ []
emacs_plain_rows _ = []

-- the other keys, with Alt
abbrev pub emacs_alt_key_rows : KeyCode → List Row
emacs_alt_key_rows Backspace = kills (words_back words.Emacs) ∷ []
emacs_alt_key_rows Left = moves (words_back words.Emacs) ∷ []
emacs_alt_key_rows Right = moves (words_on words.Emacs) ∷ []
emacs_alt_key_rows _ = []

-- the other keys, with Ctrl
abbrev pub emacs_ctrl_key_rows : KeyCode → List Row
emacs_ctrl_key_rows Left = moves (words_back words.Emacs) ∷ []
emacs_ctrl_key_rows Right = moves (words_on words.Emacs) ∷ []
emacs_ctrl_key_rows _ = []

-- the rows of Emacs alone
abbrev pub emacs_row : KeyCode → ℕ → Draft → Option Row
emacs_row (Char c) mods draft =
    if mods == bits_of NONE then Some (typed_row c)
    else if mods == bits_of CTRL then row_at emacs_ctrl_rows c draft
    else if mods == bits_of ALT then row_at emacs_alt_rows c draft
    else if mods == bits_of CTRL_ALT then row_at emacs_ctrl_alt_rows c draft
    else None
emacs_row code mods draft =
    if mods == bits_of NONE then first_for draft (emacs_plain_rows code)
    else if mods == bits_of ALT then first_for draft (emacs_alt_key_rows code)
    else if mods == bits_of CTRL then first_for draft (emacs_ctrl_key_rows code)
    else None
