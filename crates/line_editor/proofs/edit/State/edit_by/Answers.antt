use Rattle.std.proofs.Common.{refl}
use Rattle.line_editor.specs.Drawings.{move_drawn}
use Rattle.line_editor.proofs.CommandLemmas.{does_refresh, moved_by_ruler}
use Rattle.line_editor.proofs.edit.State.edit_by.Goals as goal

pub returns-in-Move : goal.returns-in-Move
returns-in-Move g c =
    rw c.in-Move.is
    (moved_by_ruler _ _ _ c.args.self.now _ c.args.indent_size c.in-Move.movement _ (move_drawn c.args.self.now.line.edited.line c.in-Move.movement) 1 c.move_by.ensures)

pub returns-in-Repaint : goal.returns-in-Repaint
returns-in-Repaint g c = rw c.in-Repaint.is (does_refresh _ _ c.args.self.now _ _ refl refl c.refresh_line.ensures)

pub returns-in-SelfInsert : goal.returns-in-SelfInsert
returns-in-SelfInsert g c = rw c.in-SelfInsert.is c.edit_insert.ensures

pub returns-in-Undo : goal.returns-in-Undo
returns-in-Undo g c = rw c.in-Undo.is c.undo.ensures

pub returns-in-HistorySearchBackward : goal.returns-in-HistorySearchBackward
returns-in-HistorySearchBackward g c = rw c.in-HistorySearchBackward.is c.edit_history_search.ensures

pub returns-in-HistorySearchForward : goal.returns-in-HistorySearchForward
returns-in-HistorySearchForward g c = rw c.in-HistorySearchForward.is c.edit_history_search-in-HistorySearchForward.ensures

pub returns-in-Newline : goal.returns-in-Newline
returns-in-Newline g c = rw c.in-Newline.is c.type_newline.ensures

pub returns-in-ReplaceChar : goal.returns-in-ReplaceChar
returns-in-ReplaceChar g c = rw c.in-ReplaceChar.is c.edit_replace_char.ensures

pub returns-in-Overwrite : goal.returns-in-Overwrite
returns-in-Overwrite g c = rw c.in-Overwrite.is c.edit_overwrite_char.ensures

pub returns-in-LineUpOrPreviousHistory : goal.returns-in-LineUpOrPreviousHistory
returns-in-LineUpOrPreviousHistory g c = rw c.in-LineUpOrPreviousHistory.is c.up_or_previous.ensures

pub returns-in-LineDownOrNextHistory : goal.returns-in-LineDownOrNextHistory
returns-in-LineDownOrNextHistory g c = rw c.in-LineDownOrNextHistory.is c.down_or_next.ensures

pub returns-in-Indent : goal.returns-in-Indent
returns-in-Indent g c = rw c.in-Indent.is c.edit_indent.ensures

pub returns-in-Dedent : goal.returns-in-Dedent
returns-in-Dedent g c = rw c.in-Dedent.is c.edit_indent-in-Dedent.ensures

pub returns-in-TransposeChars : goal.returns-in-TransposeChars
returns-in-TransposeChars g c = rw c.in-TransposeChars.is c.edit_transpose_chars.ensures

pub returns-in-TransposeWords : goal.returns-in-TransposeWords
returns-in-TransposeWords g c = rw c.in-TransposeWords.is c.edit_transpose_words.ensures

pub returns-in-CapitalizeWord : goal.returns-in-CapitalizeWord
returns-in-CapitalizeWord g c = rw c.in-CapitalizeWord.is c.edit_word.ensures

pub returns-in-DowncaseWord : goal.returns-in-DowncaseWord
returns-in-DowncaseWord g c = rw c.in-DowncaseWord.is c.edit_word-in-DowncaseWord.ensures

pub returns-in-UpcaseWord : goal.returns-in-UpcaseWord
returns-in-UpcaseWord g c = rw c.in-UpcaseWord.is c.edit_word-in-UpcaseWord.ensures

pub returns-in-PreviousHistory : goal.returns-in-PreviousHistory
returns-in-PreviousHistory g c = rw c.in-PreviousHistory.is c.edit_history_next.ensures

pub returns-in-NextHistory : goal.returns-in-NextHistory
returns-in-NextHistory g c = rw c.in-NextHistory.is c.edit_history_next-in-NextHistory.ensures

pub returns-in-BeginningOfHistory : goal.returns-in-BeginningOfHistory
returns-in-BeginningOfHistory g c = rw c.in-BeginningOfHistory.is c.edit_history.ensures

pub returns-in-EndOfHistory : goal.returns-in-EndOfHistory
returns-in-EndOfHistory g c = rw c.in-EndOfHistory.is c.edit_history-in-EndOfHistory.ensures

pub returns-in-CompleteHint : goal.returns-in-CompleteHint
returns-in-CompleteHint g c = rw c.in-CompleteHint.is c.complete_hint.ensures

pub returns-in-ClearScreen : goal.returns-in-ClearScreen
returns-in-ClearScreen g c = rw c.in-ClearScreen.is c.clear_and_redraw.ensures

pub returns-in-Insert : goal.returns-in-Insert
returns-in-Insert g c = rw c.in-Insert.is (rw c.deref.ensures at c.edit_yank.ensures.does)
