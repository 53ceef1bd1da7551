-- The tables of keys of Vi: that of insert and replace mode, and that of command mode.
use Rattle.std.specs.Prelude.{ℕ, ◌==◌, if◌then◌else◌, List, [], ◌∷◌, Option, Some, None, option_map}
use Rattle.std.specs.Option.{option_or}
use Rattle.line_buffer.specs.Search.{opposite}
use Rattle.line_buffer.specs.declared.movement.At.TheVariants.{BeforeEnd, Start}
use Rattle.line_buffer.specs.declared.movement.CharSearch.{CharSearch}
use Rattle.line_buffer.specs.declared.movement.CharSearch.TheVariants.{Backward, BackwardAfter, Forward, ForwardBefore}
use Rattle.line_buffer.specs.declared.movement.Movement.{Movement}
use Rattle.line_buffer.specs.declared.movement.Movement.TheVariants.{BackwardChar, BackwardWord, BeginningOfLine, EndOfLine, ForwardChar, ForwardWord, ViFirstPrint, WholeLine}
use Rattle.line_buffer.specs.declared.movement.Word.TheVariants.{Big}
use Rattle.line_buffer.specs.declared.movement.Word.TheVariants as words
use Rattle.line_keys.specs.Command.{Command, abort, clear_screen, complete, complete_backward, complete_hint, forward_search_history, kill, line_down_or_next_history, line_up_or_previous_history, move, move_to_bracket, next_history, noop, overwrite, previous_history, replace, reverse_search_history, self_insert, undo, yank}
use Rattle.line_keys.specs.Model.Draft.{Draft}
use Rattle.line_keys.specs.Key.{bits_of}
use Rattle.line_keys.specs.Meaning.{Row, Rows, again, always, at_hint, beginning_group, ending_group, entering, first_for, kills, meaning_row, moves, operates, replaces_char, row, row_at, searches, searches_again, stays, when, any_line}
use Rattle.line_keys.specs.declared.cmd.Anchor.TheVariants.{After, Before}
use Rattle.line_keys.specs.declared.keys.KeyCode.{KeyCode}
use Rattle.line_keys.specs.declared.keys.KeyCode.TheVariants.{Backspace, BackTab, Char, End, Esc, Right, Tab}
use Rattle.line_keys.specs.declared.keys.TheConstants.Modifiers.{CTRL, NONE}
use Rattle.line_keys.specs.declared.refresher.InputMode.{InputMode}
use Rattle.line_keys.specs.declared.tables.Operator.{Operator}
use Rattle.line_keys.specs.declared.tables.Operator.TheVariants.{Change, Dedent, Delete, Indent, Yank}

-- insert and replace mode: a character is inserted, or replaces one
abbrev pub typed_char : InputMode → ℕ → Command
typed_char InputMode.Replace c = overwrite c
typed_char _ c = self_insert 1 c

-- insert and replace mode: characters with Ctrl: H and I
abbrev pub vi_insert_ctrl_rows : Rows
vi_insert_ctrl_rows =
    (72, always (kill (BackwardChar 1)))
    ∷ (73, always complete)
    ∷ []

-- insert and replace mode: the other keys, without a modifier
abbrev pub vi_insert_plain_rows : KeyCode → List Row
vi_insert_plain_rows Backspace = always (kill (BackwardChar 1)) ∷ []
vi_insert_plain_rows BackTab = always complete_backward ∷ []
vi_insert_plain_rows Tab = always complete ∷ []
vi_insert_plain_rows Right = when at_hint (always complete_hint) ∷ []
vi_insert_plain_rows Esc = ending_group (entering InputMode.Command (always (move (BackwardChar 1)))) ∷ []
vi_insert_plain_rows _ = []

-- the rows of insert and replace mode
abbrev pub vi_insert_row : InputMode → KeyCode → ℕ → Draft → Option Row
vi_insert_row mode (Char c) mods draft =
    if mods == bits_of NONE then Some (always (typed_char mode c))
    else if mods == bits_of CTRL then row_at vi_insert_ctrl_rows c draft
    else None
vi_insert_row mode code mods draft =
    if mods == bits_of NONE then first_for draft (vi_insert_plain_rows code) else None

-- command mode: moves by the number of the count
abbrev pub moves_by : (ℕ → Movement) → Row
moves_by movement = moves (λ count. movement count.n)

-- command mode: a search for the character that is typed next
abbrev pub vi_search : (ℕ → CharSearch) → Row
vi_search by = meaning_row (λ count. searches count.n by)

-- command mode: the last search, changed by this
abbrev pub vi_search_again : (CharSearch → CharSearch) → Row
vi_search_again change = meaning_row (λ count. searches_again count.n change)

-- command mode: an operator
abbrev pub operation : Operator → Row
operation operator = meaning_row (λ count. operates operator count.n)

-- command mode: the last change again, with the count that is typed, if any
abbrev pub again_row : Row
again_row = record { guard = any_line; entry = λ typed. stays (again (option_map (λ count. count.n) typed)) }

-- command mode: characters that move: $, %, 0, ^, and b, e, h, l, w, B, E, W and the space
abbrev pub vi_move_rows : Rows
vi_move_rows =
    (36, always (move EndOfLine))
    ∷ (37, always move_to_bracket)
    ∷ (48, always (move BeginningOfLine))
    ∷ (94, always (move ViFirstPrint))
    ∷ (98, moves_by (λ n. BackwardWord n words.Vi))
    ∷ (66, moves_by (λ n. BackwardWord n Big))
    ∷ (101, moves_by (λ n. ForwardWord n BeforeEnd words.Vi))
    ∷ (69, moves_by (λ n. ForwardWord n BeforeEnd Big))
    ∷ (119, moves_by (λ n. ForwardWord n Start words.Vi))
    ∷ (87, moves_by (λ n. ForwardWord n Start Big))
    ∷ (104, moves_by (λ n. BackwardChar n))
    ∷ (108, moves_by (λ n. ForwardChar n))
    ∷ (32, moves_by (λ n. ForwardChar n))
    ∷ []

-- command mode: characters that search: f, t, F, T, ; and ,
abbrev pub vi_search_rows : Rows
vi_search_rows =
    (102, vi_search (λ c. Forward c))
    ∷ (70, vi_search (λ c. Backward c))
    ∷ (116, vi_search (λ c. ForwardBefore c))
    ∷ (84, vi_search (λ c. BackwardAfter c))
    ∷ (59, vi_search_again (λ search. search))
    ∷ (44, vi_search_again (λ search. opposite search))
    ∷ []

-- command mode: characters that enter another mode: a, i, A and I, which begin a group of changes, and c, s, C, R and S
abbrev pub vi_enter_rows : Rows
vi_enter_rows =
    (97, beginning_group (entering InputMode.Insert (moves_by (λ n. ForwardChar n))))
    ∷ (65, beginning_group (entering InputMode.Insert (always (move EndOfLine))))
    ∷ (105, beginning_group (entering InputMode.Insert (always noop)))
    ∷ (73, beginning_group (entering InputMode.Insert (always (move BeginningOfLine))))
    ∷ (99, entering InputMode.Insert (operation Change))
    ∷ (67, entering InputMode.Insert (always (replace EndOfLine None)))
    ∷ (115, entering InputMode.Insert (row (λ count. replace (ForwardChar count.n) None)))
    ∷ (83, entering InputMode.Insert (always (replace WholeLine None)))
    ∷ (82, entering InputMode.Replace (always (replace (ForwardChar 0) None)))
    ∷ []

-- command mode: characters that change the text or copy from it: d, p, r, u, x, y, D, P, X, <, > and the dot
abbrev pub vi_change_rows : Rows
vi_change_rows =
    (100, operation Delete)
    ∷ (121, operation Yank)
    ∷ (60, operation Dedent)
    ∷ (62, operation Indent)
    ∷ (68, always (kill EndOfLine))
    ∷ (120, kills (λ count. ForwardChar count.n))
    ∷ (88, kills (λ count. BackwardChar count.n))
    ∷ (112, row (λ count. yank count.n After))
    ∷ (80, row (λ count. yank count.n Before))
    ∷ (114, meaning_row (λ count. replaces_char count.n))
    ∷ (117, row (λ count. undo count.n))
    ∷ (46, again_row)
    ∷ []

-- command mode: characters that go by lines, or through the history: j, k, + and -
abbrev pub vi_line_rows : Rows
vi_line_rows =
    (43, row (λ count. line_down_or_next_history count.n))
    ∷ (106, row (λ count. line_down_or_next_history count.n))
    ∷ (45, row (λ count. line_up_or_previous_history count.n))
    ∷ (107, row (λ count. line_up_or_previous_history count.n))
    ∷ []

-- command mode: characters with Ctrl: G, H, K, L, N, P, R and S
abbrev pub vi_ctrl_rows : Rows
vi_ctrl_rows =
    (71, always abort)
    ∷ (72, moves_by (λ n. BackwardChar n))
    ∷ (75, always (kill EndOfLine))
    ∷ (76, always clear_screen)
    ∷ (78, always next_history)
    ∷ (80, always previous_history)
    ∷ (82, entering InputMode.Insert (always reverse_search_history))
    ∷ (83, entering InputMode.Insert (always forward_search_history))
    ∷ []

-- command mode: the other keys, without a modifier
abbrev pub vi_plain_rows : KeyCode → List Row
vi_plain_rows Backspace = moves_by (λ n. BackwardChar n) ∷ []
vi_plain_rows End = always (move EndOfLine) ∷ []
vi_plain_rows Esc = always noop ∷ []
vi_plain_rows _ = []

-- command mode: the row of a plain character
abbrev pub vi_char_row : ℕ → Draft → Option Row
vi_char_row c draft =
    option_or (row_at vi_move_rows c draft)
    (option_or (row_at vi_search_rows c draft)
    (option_or (row_at vi_enter_rows c draft)
    (option_or (row_at vi_change_rows c draft) (row_at vi_line_rows c draft))))

-- the rows of command mode
abbrev pub vi_command_row : KeyCode → ℕ → Draft → Option Row
vi_command_row (Char c) mods draft =
    if mods == bits_of NONE then vi_char_row c draft
    else if mods == bits_of CTRL then row_at vi_ctrl_rows c draft
    else None
vi_command_row code mods draft =
    if mods == bits_of NONE then first_for draft (vi_plain_rows code) else None

-- the rows of Vi alone
abbrev pub vi_row : InputMode → KeyCode → ℕ → Draft → Option Row
vi_row InputMode.Command code mods draft = vi_command_row code mods draft
vi_row mode code mods draft = vi_insert_row mode code mods draft
