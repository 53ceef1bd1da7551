-- How a run ended, and the status that the program ends with.
use Rattle.std.specs.Prelude.{◌≡◌, ℕ, Result, Ok, Err}
use Rattle.line_config.specs.declared.error.ReadlineError.{ReadlineError}
use Rattle.line_config.specs.declared.error.ReadlineError.TheVariants as errors
use Rattle.line_keys.specs.declared.editor_state.EditorState.{Ghosts}
use Rattle.line_script.specs.declared.report.Report.{Report}
use Rattle.line_script.specs.declared.report.Ending.{Ending}
use Rattle.line_script.specs.declared.report.Ending.TheVariants.{Ran, BadScript}
use Rattle.line_script.specs.declared.report.Outcome.{Outcome}
use Rattle.line_script.specs.declared.report.Outcome.TheVariants.{Submitted, Eof, Interrupted, Fault}

-- the end of a run that had this answer
abbrev pub outcome_of : Result (Unit {0}) ReadlineError → Outcome
outcome_of (Ok _) = Submitted
outcome_of (Err errors.Eof) = Eof
outcome_of (Err errors.Interrupted) = Interrupted
outcome_of (Err (errors.Io _)) = Fault
outcome_of (Err errors.Memory) = Fault

-- the status that the program ends with; an error is a fault of memory, or of one of its own streams
abbrev pub status_of : Result Ending ReadlineError → ℕ
status_of (Ok (Ran Submitted)) = 0
status_of (Ok (Ran Eof)) = 1
status_of (Ok (Ran Interrupted)) = 2
status_of (Ok (Ran Fault)) = 3
status_of (Ok BadScript) = 4
status_of (Err _) = 3

-- what is reported of a state: its line with the cursor, its history index, the kept cursor, and the full redraws
pub record ReportsState {X : Type 0} (e : Ghosts X) (state : X) (report : Report) : Type 0 where
  pub line : report.line.now ≡ (e.draft state).line.text
  pub cursor : report.cursor ≡ (e.draft state).line.cursor
  pub place : report.place ≡ (e.draft state).index
  pub at : report.at ≡ (e.display state).layout.cursor
  pub redraws : report.redraws ≡ e.redraws state
