-- What becomes of an editor whose history is loaded or saved.
use Rattle.std.specs.Prelude.{◌≡◌, Bool, ℕ, List, Option, Some, None, Result, Ok, Err}
use Rattle.line_parts.specs.History.{FiledHistory}
use Rattle.line_parts.specs.HistoryText.{FilesSome, LoadsFirst, LoadsWhole}
use Rattle.line_session.specs.Sitting.{Sitting}

-- the history of an editor, with a count of its new lines, was changed so; all else stays
pub record Files {H : Type 0} (Changes : FiledHistory → FiledHistory → Type 0) (old new : Sitting H) : Type 0 where
  pub had : FiledHistory
  pub has : FiledHistory
  pub changes : Changes had has
  pub lines : had.lines ≡ old.lines
  pub takes : had.rules ≡ old.takes
  pub left : new ≡ record old { lines = has.lines; takes = has.rules }

-- a text was loaded into a history, or the first of its lines before the load failed
abbrev pub LoadsText : {E : Type 0} → Result (Option Bool) E → Option (List ℕ) → FiledHistory → FiledHistory → Type 0
LoadsText {E} (Ok (Some taken)) text old new = LoadsWhole {E = E} (Ok taken) text old new × FilesSome {T = Bool} {E = E} (Ok taken) old new
LoadsText (Ok None) text old new = ⊥
LoadsText {E} (Err error) text old new = LoadsFirst {E = E} (Err error) text old new × FilesSome {T = Bool} {E = E} (Err error) old new
