-- A line that is read from an input, piece by piece.
use Rattle.std.specs.Prelude.{◌≡◌, ◌<◌, ◌≤◌, ◌⊎◌, ◌++◌, ℕ, Bool, true, false, List, [], length, Option, Some, None, Result, Ok, Err}
use Rattle.std.specs.Io.KnownBytes.{Consumes, IsAtEnd}
use Rattle.std.specs.declared.alloc.Global.{Global}
use Rattle.std.specs.declared.string.String.{String}
use Rattle.line_config.specs.Error.{is_fault}
use Rattle.line_config.specs.declared.error.ReadlineError.{ReadlineError}
use Rattle.line_config.specs.declared.error.ReadlineError.TheVariants as errors
use Rattle.line_keys.specs.Model.Display.{corner}
use Rattle.line_keys.specs.Item.{Item}
use Rattle.line_keys.specs.declared.keys.KeyEvent.{KeyEvent}
use Rattle.line_parts.specs.Environment.{Environment}
use Rattle.line_screen.specs.Measure.{measured}
use Rattle.line_editor.specs.Binding.{Bound}
use Rattle.line_editor.specs.Keymap.{KeyLooksAtNoHint}
use Rattle.line_term.specs.Decoder as decoding
use Rattle.line_session.specs.Pieces.{Waited, with_more}
use Rattle.line_session.specs.Sitting.{BeginsOrStays, BegunLine, Came, CameFrom, Keeps, LosesNothing, Sitting, first_standing, rules_at, standing_with, suspends, with_turn}
use Rattle.line_session.specs.Steps.{Rules, Standing, starting}
use Rattle.line_session.specs.declared.editor.Fed.{Fed}
use Rattle.line_session.specs.declared.editor.Fed.TheVariants as fed

-- how many bytes are read at once, at most
abbrev pub most_at_once : ℕ
most_at_once = 1024

-- one step of reading: some bytes; none, as the input pauses, or as it has ended, where a known input has none left; and while the program
-- is suspended nothing is read. It is told what the bytes before have left and whether the program is suspended, and tells what the input
-- had and has left, where that is known, whether it went on and goes on, and what the bytes lead to
pub data ReadsOnce (pauses : Bool) (before : decoding.DecoderState) : Bool → Option (List ℕ) → Option (List ℕ) → Bool → Bool → decoding.DecoderTurn → Type 0 where
  bytes : {at next : Option (List ℕ)} (piece : List ℕ) → 0 < length piece → length piece ≤ most_at_once → Consumes at next piece
      → ReadsOnce pauses before false at next true true (decoding.read before piece)
  pause : {at next : Option (List ℕ)} → pauses ≡ true → Consumes at next [] → IsAtEnd next
      → ReadsOnce pauses before false at next true true (decoding.flushed before)
  end : {at next : Option (List ℕ)} → pauses ≡ false → Consumes at next [] → IsAtEnd next
      → ReadsOnce pauses before false at next true false (decoding.finished before)
  nothing : {at : Option (List ℕ)} {goes_on : Bool} → ReadsOnce pauses before true at at goes_on goes_on (decoding.read before [])

-- after a fault this holds
abbrev pub AfterFault : {T : Type 0} → Result T ReadlineError → Type 0 → Type 0
AfterFault (Ok _) P = Unit {0}
AfterFault (Err error) P = is_fault error ≡ true → P

-- no binding looks at the hint
abbrev pub BindingsLookAtNoHint : Bound → Type 0
BindingsLookAtNoHint bound = (typed : KeyEvent) → KeyLooksAtNoHint bound typed

-- what a line is answered with: itself, where it was submitted; that the person interrupted; or that the input ended, by a key or while the
-- line goes on
abbrev pub readline_answer : Fed → Result (String Global) ReadlineError
readline_answer (fed.Submitted text) = Ok text
readline_answer fed.Interrupted = Err errors.Interrupted
readline_answer _ = Err errors.Eof

module _ {H : Type 0} where
  -- the line goes on after all these items: they arrived in pieces, and more are awaited
  pub record GoesOnOver (by : Rules) (start : Standing) (items : List Item) (now : Sitting H) : Type 0 where
    pub left : BegunLine
    pub line : now.line ≡ Some left
    pub drawn : Bool
    pub waited : Waited by start items (standing_with left.kept.draft left.input left.mode now.items now.kills) drawn
    pub draws : left.draws ≡ true → drawn ≡ true
    pub column : left.kept.drawing.prompt_end.col ≡ by.ruler.prompt_column

  -- what became of a line over all these items: it goes on; or it has ended. Then, if no binding looks at the hint, it has ended as it does
  -- with all of them at once, and else nothing is said
  abbrev pub CameOver : Rules → Standing → List Item → Sitting H → Sitting H → Fed → Type 0
  CameOver by start items old now fed.More = GoesOnOver by start items now × (now.lines ≡ old.lines)
  CameOver by start items old now ended = BindingsLookAtNoHint by.keymap.bound → CameFrom by true (with_more items start) old now ended

  -- a line was read piece by piece: it began, and each time that it went on over all items so far, the input was read once more. These are all
  -- items, and this is what became of the line, what the input has left, where that is known, and whether it goes on
  pub data ReadsUpTo (by : Rules) (start : Standing) (pauses : Bool) (input : Option (List ℕ)) (old : Sitting H) : Option (List ℕ) → Bool → List Item → Sitting H → Fed → Type 0 where
    begins : {now : Sitting H} {came : Fed} → now.decoder ≡ old.decoder → CameOver by start [] old now came
        → ReadsUpTo by start pauses input old input true [] now came
    more : {at next : Option (List ℕ)} {went_on goes_on : Bool} {items : List Item} {before now : Sitting H} {came : Fed} {turn : decoding.DecoderTurn}
        → ReadsUpTo by start pauses input old at went_on items before fed.More
        → ReadsOnce pauses before.decoder (suspends before) at next went_on goes_on turn → now.decoder ≡ turn.after
        → CameOver by start (items ++ turn.items) old now came
        → ReadsUpTo by start pauses input old next goes_on (items ++ turn.items) now came

  module _ (answers : H → List (List ℕ) → Environment) (bound : Bound) (pauses : Bool) where
    -- what became of a line that began after a prompt, with these texts before and after the cursor, over all that was read of the input, and
    -- whether the input goes on
    pub record ReadsInput (input input' : Option (List ℕ)) (goes_on : Bool) (prompt left right : List ℕ) (old now : Sitting H) (came : Fed) : Type 0 where
      pub items : List Item
      pub reads : ReadsUpTo (rules_at answers bound old (measured old.columns prompt corner).col)
          (starting (answers old.helper old.lines) true (first_standing left right old)) pauses input old input' goes_on items now came
      pub keeps : Keeps answers (record old { prompt = prompt; decoder = now.decoder }) now

    -- a line was read of the input, and this is answered: the line; that the person interrupted; or the end of the input, by a key or as it
    -- has ended while the line goes on, and nothing is left after Suspend. No line goes on then
    pub record ReadsLine (input input' : Option (List ℕ)) (prompt left right : List ℕ) (old new : Sitting H) (result : Result (String Global) ReadlineError) : Type 0 where
      pub came : Fed
      pub last : Sitting H
      pub goes_on : Bool
      pub told : result ≡ readline_answer came
      pub reads : ReadsInput input input' goes_on prompt left right old last came
      pub ended : came ≡ fed.More → (goes_on ≡ false) × (suspends last ≡ false)
      pub gone : new ≡ record last { line = None }

    -- a line had been read up to here and went on, and what came next failed: nothing is lost
    pub record FailsLater (input : Option (List ℕ)) (prompt left right : List ℕ) (old new : Sitting H) : Type 0 where
      pub at : Option (List ℕ)
      pub goes_on : Bool
      pub before : Sitting H
      pub reads : ReadsInput input at goes_on prompt left right old before fed.More
      pub left_so : LosesNothing before new

    -- the input was read once, and this became of the line that had begun
    pub record HearsOnce (input input' : Option (List ℕ)) (went_on goes_on : Bool) (old : Sitting H) (begun : BegunLine) (new : Sitting H) (told : Fed) : Type 0 where
      pub turn : decoding.DecoderTurn
      pub reads : ReadsOnce pauses old.decoder (suspends old) input input' went_on goes_on turn
      pub came : Came answers bound (with_turn turn old) begun new told
      pub keeps : Keeps answers (with_turn turn old) new

    -- reading a line failed, as where one cannot begin; or it had gone on until then, and nothing is lost
    abbrev pub FailsToRead : Option (List ℕ) → List ℕ → List ℕ → List ℕ → Sitting H → Sitting H → Type 0
    FailsToRead input prompt left right old new = BeginsOrStays answers prompt left right old new ⊎ FailsLater input prompt left right old new
