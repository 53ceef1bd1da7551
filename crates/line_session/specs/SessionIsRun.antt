-- Lines of a session and runs of the abstract editor.
use Rattle.std.specs.Prelude.{◌≡◌, ◌≢◌, ◌↔◌, Bool, List, None}
use Rattle.line_keys.specs.Item.{Item}
use Rattle.line_parts.specs.Environment.{Environment}
use Rattle.line_editor.specs.Editor.{Editor, Ruler, proceeds}
use Rattle.line_editor.specs.Input.{Input}
use Rattle.line_editor.specs.Keymap.{Keymap}
use Rattle.line_editor.specs.Deferred.{deferred_by}
use Rattle.line_editor.specs.Run as runs
use Rattle.line_editor.specs.Run.{End, Run, dry, stopped}
use Rattle.line_session.specs.Steps as steps
use Rattle.line_session.specs.Steps.{StepsEnd, Rules, Standing, Steps, Waits}
use Rattle.line_session.specs.declared.mode.Mode.TheVariants.{Editing}

-- no command of a run that proceeds is one of those that are left to the program
abbrev pub RunLeavesNone : {keymap : Keymap} {ruler : Ruler} {environment : Environment} {editor last : Editor} {input input' : Input} {items : List Item} {end : End}
    → Run keymap ruler environment editor input items last input' end → Type 0
RunLeavesNone (runs.goes_on turn run) = (deferred_by turn.read.command ≡ None) × RunLeavesNone run
RunLeavesNone (runs.ends turn stops) = Unit {0}
RunLeavesNone (runs.runs_dry begins cut) = Unit {0}

-- the steps of a line are turns alone, and none of their commands is one of those that are left to the program
abbrev pub StepsLeaveNone : {by : Rules} {over_calls : Bool} {start found : Standing} → Steps by over_calls start found → Type 0
StepsLeaveNone steps.none = Unit {0}
StepsLeaveNone (steps.turn before turn) = StepsLeaveNone before × (deferred_by turn.read.command ≡ None)
StepsLeaveNone (steps.item before taken) = ⊥
StepsLeaveNone (steps.resume over before goes_on) = ⊥

-- where commands are read, with an editor, an input and the items that are left
abbrev pub reading_commands : Editor → Input → List Item → Standing
reading_commands editor input items = record { editor = editor; input = input; items = items; mode = Editing }

-- the abstract editor has a run from a start to this end, in which nothing is left to the program
abbrev pub RunsPlainly : Rules → Standing → Editor → Input → End → Type 0
RunsPlainly by start last input end =
    (run : Run by.keymap by.ruler by.environment start.editor start.input start.items last input end) × RunLeavesNone run

-- a line comes from a start to this end, in a call or over several, with nothing left to the program: its last turn does not proceed, or
-- more items are awaited
abbrev pub SessionPlainly : Rules → Bool → Standing → Editor → Input → End → Type 0
SessionPlainly by over_calls start last input (stopped answer rest) =
    (answer ≢ proceeds) × ((ended : StepsEnd by over_calls start (reading_commands last input rest) answer) × StepsLeaveNone ended.steps)
SessionPlainly by over_calls start last input (dry items) =
    (waits : Waits by start (reading_commands last input items)) × StepsLeaveNone waits.steps

-- from where commands are read, with none of those among them that are left to the program and no item taken by itself, what a line comes
-- to, in a call or over several, is a run of the abstract editor: the one has this end just where the other has it
abbrev pub SessionIsRun : Type 0
SessionIsRun = (by : Rules) (over_calls : Bool) (start : Standing) (last : Editor) (input : Input) (end : End) → start.mode ≡ Editing
    → RunsPlainly by start last input end ↔ SessionPlainly by over_calls start last input end
