-- What helps a session, and what answers for its lines.
use Rattle.std.specs.Prelude.{◌≡◌, ◌≢◌, ◌&&◌, ℕ, nat_lt, if◌then◌else◌, List, Some, None, filter, is_some, length, map, option_map, String, string_bytes}
use Rattle.std.specs.declared.alloc.Global.{Global}
use Rattle.std.specs.Str.{IsUtf8}
use Rattle.std.specs.Str.Lines.{lines}
use Rattle.line_parts.specs.BracketMatch.{remembered}
use Rattle.line_parts.specs.BracketVerdict.{bracket_verdict}
use Rattle.line_parts.specs.Environment.{Environment}
use Rattle.line_parts.specs.Hint.{suggested}
use Rattle.line_parts.specs.HistoryHint.{history_hint}
use Rattle.line_parts.specs.Verdict.{valid}
use Rattle.line_parts.specs.WordList.{completed_among}
use Rattle.line_parts.specs.Written.{put_to_cursor}
use Rattle.line_parts.specs.declared.completion.word_list.Words.{Words}
use Rattle.line_parts.specs.declared.helper.hints_and_brackets.HintsAndBrackets.{HintsAndBrackets}
use Rattle.line_parts.specs.declared.helper.parts.Parts.{Parts}
use Rattle.line_parts.specs.declared.highlight.dim_hints.DimHints.{DimHints}
use Rattle.line_host.specs.Hosted.{Hosted, with_editor}
use Rattle.line_host.specs.Status.{IsDoneOrMemory}
use Rattle.line_host.specs.declared.status.Status.{Status}
use Rattle.line_host.specs.declared.status.Status.TheVariants as status

-- a completer of words; and switches for hints, for colors and for validation
abbrev pub Helped : Type 0
Helped = Parts Words HintsAndBrackets DimHints HintsAndBrackets (String Global) (String Global)

-- the lines of a text that are not empty
abbrev pub words_in : List ℕ → List (List ℕ)
words_in text = filter (λ word. nat_lt 0 (length word)) (lines text)

-- words are completed by those of a text from now on, and all else stays
pub record CompletesWords (text : List ℕ) (old new : Hosted Helped) : Type 0 where
  pub words : map string_bytes new.editor.helper.completer.words.items ≡ words_in text
  pub others : new.editor.helper ≡ record old.editor.helper { completer = new.editor.helper.completer }
  pub left : new ≡ with_editor (record old.editor { helper = new.editor.helper }) old

-- the same, unless it is no text or memory runs out
pub record SetsWords (text : List ℕ) (old new : Hosted Helped) (came : Status) : Type 0 where
  pub completes : came ≡ status.Done → CompletesWords text old new
  pub kept : came ≢ status.Done → new ≡ old
  pub answers : IsUtf8 text → IsDoneOrMemory came
  pub no_text : ¬ (IsUtf8 text) → came ≡ status.NotText

-- what answers for a line of a session: hints come from the history, a line is judged by its brackets and their matches are lit, each where it is
-- switched on; and words complete
abbrev pub answers_by : Helped → List (List ℕ) → Environment
answers_by helper newest = record {
  hint_at = λ shown. if helper.hinter.hints then option_map suggested (history_hint shown) else None;
  verdict_at = Some (λ text. if helper.validator.brackets then bracket_verdict text else valid None);
  lights = λ text cursor kind. helper.highlighter.lights_brackets && is_some (remembered text cursor kind);
  completion_at = λ shown. completed_among (map string_bytes helper.completer.words.items) shown.text shown.cursor;
  updated = λ written start elected. put_to_cursor written start elected;
  lines = newest;
}
