-- Commands as values: what is compared of a text is its bytes, and not the memory that holds them.
use Rattle.std.specs.Prelude.{ℕ, Bool, true, false, List, Option, option_map, string_bytes}
use Rattle.line_buffer.specs.declared.movement.Movement.{Movement}
use Rattle.line_buffer.specs.declared.movement.Movement.TheVariants.{BackwardChar, ForwardChar}
use Rattle.line_keys.specs.declared.cmd.Anchor.{Anchor}
use Rattle.line_keys.specs.declared.cmd.Cmd.{Cmd}

-- a command; a text is the list of its bytes
pub data Command : Type 0 where
  abort : Command
  accept_line : Command
  beginning_of_history : Command
  capitalize_word : Command
  clear_screen : Command
  complete : Command
  complete_backward : Command
  complete_hint : Command
  dedent : Movement → Command
  downcase_word : Command
  end_of_file : Command
  end_of_history : Command
  forward_search_history : Command
  history_search_backward : Command
  history_search_forward : Command
  indent : Movement → Command
  insert : ℕ → List ℕ → Command
  interrupt : Command
  kill : Movement → Command
  move : Movement → Command
  next_history : Command
  noop : Command
  repaint : Command
  overwrite : ℕ → Command
  previous_history : Command
  quoted_insert : Command
  replace_char : ℕ → ℕ → Command
  replace : Movement → Option (List ℕ) → Command
  reverse_search_history : Command
  self_insert : ℕ → ℕ → Command
  suspend : Command
  transpose_chars : Command
  transpose_words : ℕ → Command
  undo : ℕ → Command
  unknown : Command
  upcase_word : Command
  vi_yank_to : Movement → Command
  yank : ℕ → Anchor → Command
  yank_pop : Command
  line_up_or_previous_history : ℕ → Command
  line_down_or_next_history : ℕ → Command
  newline : Command
  accept_or_insert_line : Bool → Command
  move_to_bracket : Command
  kill_to_bracket : Command
  replace_to_bracket : Option (List ℕ) → Command
  yank_to_bracket : Command

-- the command as a value
abbrev pub command_of : Cmd → Command
command_of Cmd.Abort = abort
command_of Cmd.AcceptLine = accept_line
command_of Cmd.BeginningOfHistory = beginning_of_history
command_of Cmd.CapitalizeWord = capitalize_word
command_of Cmd.ClearScreen = clear_screen
command_of Cmd.Complete = complete
command_of Cmd.CompleteBackward = complete_backward
command_of Cmd.CompleteHint = complete_hint
command_of (Cmd.Dedent movement) = dedent movement
command_of Cmd.DowncaseWord = downcase_word
command_of Cmd.EndOfFile = end_of_file
command_of Cmd.EndOfHistory = end_of_history
command_of Cmd.ForwardSearchHistory = forward_search_history
command_of Cmd.HistorySearchBackward = history_search_backward
command_of Cmd.HistorySearchForward = history_search_forward
command_of (Cmd.Indent movement) = indent movement
command_of (Cmd.Insert n text) = insert n (string_bytes text)
command_of Cmd.Interrupt = interrupt
command_of (Cmd.Kill movement) = kill movement
command_of (Cmd.Move movement) = move movement
command_of Cmd.NextHistory = next_history
command_of Cmd.Noop = noop
command_of Cmd.Repaint = repaint
command_of (Cmd.Overwrite c) = overwrite c
command_of Cmd.PreviousHistory = previous_history
command_of Cmd.QuotedInsert = quoted_insert
command_of (Cmd.ReplaceChar n c) = replace_char n c
command_of (Cmd.Replace movement text) = replace movement (option_map string_bytes text)
command_of Cmd.ReverseSearchHistory = reverse_search_history
command_of (Cmd.SelfInsert n c) = self_insert n c
command_of Cmd.Suspend = suspend
command_of Cmd.TransposeChars = transpose_chars
command_of (Cmd.TransposeWords n) = transpose_words n
command_of (Cmd.Undo n) = undo n
command_of Cmd.Unknown = unknown
command_of Cmd.UpcaseWord = upcase_word
command_of (Cmd.ViYankTo movement) = vi_yank_to movement
command_of (Cmd.Yank n anchor) = yank n anchor
command_of Cmd.YankPop = yank_pop
command_of (Cmd.LineUpOrPreviousHistory n) = line_up_or_previous_history n
command_of (Cmd.LineDownOrNextHistory n) = line_down_or_next_history n
command_of Cmd.Newline = newline
command_of (Cmd.AcceptOrInsertLine in_the_middle) = accept_or_insert_line in_the_middle
command_of Cmd.MoveToBracket = move_to_bracket
command_of Cmd.KillToBracket = kill_to_bracket
command_of (Cmd.ReplaceToBracket text) = replace_to_bracket (option_map string_bytes text)
command_of Cmd.YankToBracket = yank_to_bracket

-- a movement by single characters
abbrev pub is_by_char : Movement → Bool
is_by_char (BackwardChar _) = true
is_by_char (ForwardChar _) = true
is_by_char _ = false

-- the kill ring is reset before this command, so that no killed text joins the one before
abbrev pub resets_kill_ring : Command → Bool
resets_kill_ring (kill movement) = is_by_char movement
resets_kill_ring clear_screen = false
resets_kill_ring (replace _ _) = false
resets_kill_ring noop = false
resets_kill_ring suspend = false
resets_kill_ring (yank _ _) = false
resets_kill_ring yank_pop = false
resets_kill_ring kill_to_bracket = false
resets_kill_ring (replace_to_bracket _) = false
resets_kill_ring _ = true
