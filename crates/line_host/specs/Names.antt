-- The commands that have a name.
use Rattle.std.specs.Prelude.{ℕ, true, List, [], ◌∷◌, Option, codes, option_map}
use Rattle.std.specs.List.{find}
use Rattle.std.specs.Option.{option_or}
use Rattle.std.specs.Str.{bytes_eq}
use Rattle.line_buffer.specs.declared.movement.At.TheVariants.{AfterEnd}
use Rattle.line_buffer.specs.declared.movement.Movement.{Movement}
use Rattle.line_buffer.specs.declared.movement.Movement.TheVariants as movements
use Rattle.line_buffer.specs.declared.movement.Word.TheVariants.{Big, Emacs}
use Rattle.line_keys.specs.Command.{Command, kill, move, abort, accept_or_insert_line, beginning_of_history, capitalize_word, clear_screen, complete, complete_backward, complete_hint, dedent, downcase_word, end_of_file, end_of_history, forward_search_history, history_search_backward, history_search_forward, indent, interrupt, line_down_or_next_history, line_up_or_previous_history, newline, next_history, noop, previous_history, quoted_insert, repaint, reverse_search_history, suspend, transpose_chars, transpose_words, undo, upcase_word, yank, yank_pop}
use Rattle.line_keys.specs.declared.cmd.Anchor.TheVariants.{Before}

-- what stands beside a name
abbrev pub of_name : {T : Type 0} → List (List ℕ × T) → List ℕ → Option T
of_name rows name = option_map (λ row. row.1) (find (λ row. bytes_eq name row.0) rows)

-- the commands that move the cursor, by the movement
abbrev pub moves : List (List ℕ × Movement)
moves =
    (codes "beginning-of-line", movements.BeginningOfLine)
    ∷ (codes "end-of-line", movements.EndOfLine)
    ∷ (codes "beginning-of-buffer", movements.BeginningOfBuffer)
    ∷ (codes "end-of-buffer", movements.EndOfBuffer)
    ∷ (codes "forward-char", movements.ForwardChar 1)
    ∷ (codes "backward-char", movements.BackwardChar 1)
    ∷ (codes "forward-word", movements.ForwardWord 1 AfterEnd Emacs)
    ∷ (codes "backward-word", movements.BackwardWord 1 Emacs)
    ∷ []

-- those that kill a part of the line, by the movement over it
abbrev pub kills : List (List ℕ × Movement)
kills =
    (codes "kill-line", movements.EndOfLine)
    ∷ (codes "backward-kill-line", movements.BeginningOfLine)
    ∷ (codes "unix-line-discard", movements.BeginningOfLine)
    ∷ (codes "kill-whole-line", movements.WholeLine)
    ∷ (codes "kill-word", movements.ForwardWord 1 AfterEnd Emacs)
    ∷ (codes "backward-kill-word", movements.BackwardWord 1 Emacs)
    ∷ (codes "unix-word-rubout", movements.BackwardWord 1 Big)
    ∷ (codes "delete-char", movements.ForwardChar 1)
    ∷ (codes "backward-delete-char", movements.BackwardChar 1)
    ∷ []

-- those that go through the history
abbrev pub of_history : List (List ℕ × Command)
of_history =
    (codes "previous-history", previous_history)
    ∷ (codes "next-history", next_history)
    ∷ (codes "beginning-of-history", beginning_of_history)
    ∷ (codes "end-of-history", end_of_history)
    ∷ (codes "history-search-backward", history_search_backward)
    ∷ (codes "history-search-forward", history_search_forward)
    ∷ (codes "reverse-search-history", reverse_search_history)
    ∷ (codes "forward-search-history", forward_search_history)
    ∷ (codes "previous-line-or-history", line_up_or_previous_history 1)
    ∷ (codes "next-line-or-history", line_down_or_next_history 1)
    ∷ []

-- the others
abbrev pub others : List (List ℕ × Command)
others =
    (codes "abort", abort)
    ∷ (codes "accept-line", accept_or_insert_line true)
    ∷ (codes "capitalize-word", capitalize_word)
    ∷ (codes "clear-screen", clear_screen)
    ∷ (codes "complete", complete)
    ∷ (codes "complete-backward", complete_backward)
    ∷ (codes "complete-hint", complete_hint)
    ∷ (codes "dedent", dedent movements.WholeLine)
    ∷ (codes "downcase-word", downcase_word)
    ∷ (codes "end-of-file", end_of_file)
    ∷ (codes "indent", indent movements.WholeLine)
    ∷ (codes "interrupt", interrupt)
    ∷ (codes "newline", newline)
    ∷ (codes "no-op", noop)
    ∷ (codes "quoted-insert", quoted_insert)
    ∷ (codes "redraw-current-line", repaint)
    ∷ (codes "suspend", suspend)
    ∷ (codes "transpose-chars", transpose_chars)
    ∷ (codes "transpose-words", transpose_words 1)
    ∷ (codes "undo", undo 1)
    ∷ (codes "upcase-word", upcase_word)
    ∷ (codes "yank", yank 1 Before)
    ∷ (codes "yank-pop", yank_pop)
    ∷ []

-- the command of a name, if there is one
abbrev pub command_named : List ℕ → Option Command
command_named name = option_or (option_map move (of_name moves name)) (option_or (option_map kill (of_name kills name))
    (option_or (of_name of_history name) (of_name others name)))
