-- What a handler is shown of the moment in which its key was read.
use Rattle.std.specs.Prelude.{ℕ, Bool, List, Option, is_some, option_map, option_and_then}
use Rattle.line_config.specs.declared.config.EditMode.{EditMode}
use Rattle.line_keys.specs.Model.Draft.{Draft}
use Rattle.line_keys.specs.declared.refresher.InputMode.{InputMode}
use Rattle.line_input.specs.Input.{Input}
use Rattle.line_input.specs.declared.binding.EventContext.{EventContext}

-- the edit mode, the input mode, the hint, the text and the cursor
pub record Moment : Type 0 where
  pub style : EditMode
  pub mode : InputMode
  pub has_hint : Bool
  pub hint_text : Option (List ℕ)
  pub text : List ℕ
  pub cursor : ℕ

-- the moment that a context shows
abbrev pub moment_of : EventContext → Moment
moment_of ctx = record {
  style = ctx.mode;
  mode = ctx.input_mode;
  has_hint = ctx.has_hint;
  hint_text = option_map (λ s. s.now) ctx.hint_text;
  text = ctx.line.now;
  cursor = ctx.pos;
}

-- the moment of a draft and an input
abbrev pub moment_in : Draft → Input → Moment
moment_in draft input = record {
  style = input.style;
  mode = input.mode;
  has_hint = is_some draft.hint;
  hint_text = option_and_then (λ hint. hint.completion) draft.hint;
  text = draft.line.text;
  cursor = draft.line.cursor;
}
