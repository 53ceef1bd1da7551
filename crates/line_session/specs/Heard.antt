-- What is heard of the terminal, and what is left by a call that begins a line or reads what is heard.
use Rattle.std.specs.Prelude.{◌≡◌, ◌++◌, List, Some, None, Result, IfOk, OnOk, OnErr, ℕ}
use Rattle.line_config.specs.Error.{FaultsOnly}
use Rattle.line_config.specs.declared.error.ReadlineError.{ReadlineError}
use Rattle.line_keys.specs.Item.{Item}
use Rattle.line_parts.specs.Environment.{Environment}
use Rattle.line_screen.specs.KeyQueue.{Queued}
use Rattle.line_editor.specs.Binding.{Bound}
use Rattle.line_term.specs.Decoder.{DecoderTurn, finished, flushed, read}
use Rattle.line_term.specs.Decoder as decoding
use Rattle.line_session.specs.Sitting.{BeginsOrStays, BegunLine, Came, CameBegun, Keeps, LosesNothing, Sitting, with_turn}
use Rattle.line_session.specs.declared.editor.Fed.{Fed}
use Rattle.line_session.specs.declared.editor.Fed.TheVariants as fed
use Rattle.line_session.specs.declared.editor.Heard.{Heard}
use Rattle.line_session.specs.declared.editor.Heard.TheVariants as heard

-- what bytes, a pause and the end of all bytes lead to
abbrev pub turn_of : Heard → decoding.DecoderState → DecoderTurn
turn_of (heard.Bytes bytes) standing = read standing bytes.now
turn_of heard.Pause standing = flushed standing
turn_of heard.End standing = finished standing

-- items stand behind those that were queued, and nothing else has changed of the queue
pub record AddsItems (before after : Queued) : Type 0 where
  pub given : List Item
  pub items : after ≡ record before { rest = before.rest ++ given }

module _ {H : Type 0} (answers : H → List (List ℕ) → Environment) (bound : Bound) where
  -- a call began a line after a prompt, with these texts before and after the cursor, and took turns of it. After a fault the line has begun,
  -- or all stays but that the line before may be drawn anew
  pub record BeginsReading (prompt left right : List ℕ) (old new : Sitting H) (result : Result Fed ReadlineError) : Type 0 where
    pub came : IfOk result (CameBegun answers bound prompt left right old new)
    pub keeps : OnOk result (Keeps answers (record old { prompt = prompt }) new)
    pub left_so : OnErr result (BeginsOrStays answers prompt left right old new)
    pub faults : FaultsOnly result

  -- a call read this of the terminal, and took turns: of the line that had begun, if one had; after a fault nothing is lost
  pub record Feeds (turn : DecoderTurn) (old new : Sitting H) (result : Result Fed ReadlineError) : Type 0 where
    pub came : (begun : BegunLine) → old.line ≡ Some begun → IfOk result (Came answers bound (with_turn turn old) begun new)
    pub keeps : OnOk result (Keeps answers (with_turn turn old) new)
    pub idle : old.line ≡ None → IfOk result (λ f. (f ≡ fed.More) × (new ≡ with_turn turn old))
    pub left : OnErr result (LosesNothing old new)
    pub faults : FaultsOnly result
