-- A line of which nothing is left to the program is a run.
use Rattle.std.proofs.Common.{◌≡◌, ◌≢◌, ◌∙◌, Bool, true, false, List, None, refl, sym, ap, subst}
use Rattle.line_keys.specs.Command.{Command}
use Rattle.line_keys.specs.Item.{Item}
use Rattle.line_editor.specs.Editor.{Answer, Editor, Leaves, ended, interrupted, proceeds, submitted}
use Rattle.line_editor.specs.Input.{Input}
use Rattle.line_editor.specs.Deferred.{deferred_by}
use Rattle.line_editor.specs.Run as runs
use Rattle.line_editor.specs.Run.{End, Run, Turn, dry, ready, stopped}
use Rattle.line_editor.specs.Step.{step}
use Rattle.line_session.specs.SessionIsRun.{RunLeavesNone, RunsPlainly, SessionIsRun, SessionPlainly, StepsLeaveNone, reading_commands}
use Rattle.line_session.specs.Steps as steps
use Rattle.line_session.specs.Steps.{AnswersTurn, DoesInMode, ExecutesAndAnswers, Rules, Standing, Steps, TurnFrom, WaitsIn, reads_no_command}
use Rattle.line_session.specs.declared.mode.Mode.{Mode}
use Rattle.line_session.specs.declared.mode.Mode.TheVariants.{Editing}

-- a turn of this answer from where commands are read is a turn of a run, and commands are read after it
record Turns (by : Rules) (from to : Standing) (answer : Answer) (turn : TurnFrom by from to answer) : Type 0 where
  taken : Turn by.keymap by.ruler by.environment from.editor from.input from.items to.editor to.input to.items answer
  same : taken.read ≡ turn.read
  mode : to.mode ≡ Editing

same_editor : (one other : Editor) → one.draft ≡ other.draft → one.kills ≡ other.kills → one ≡ other
same_editor one other draft kills = ap (λ d. record one { draft = d }) draft ∙ ap (λ k. record { draft = other.draft; kills = k }) kills

-- with nothing left to the program nothing is answered
answered : (by : Rules) (answer : Answer) (command : Command) (executed new : Editor) (next : Mode) → (answer ≡ proceeds → deferred_by command ≡ None)
    → AnswersTurn by answer (deferred_by command) Editing executed new next → (new ≡ executed) × (next ≡ Editing)
answered by proceeds command executed new next none answers =
    let told = subst (λ left. AnswersTurn by proceeds left Editing executed new next) (none refl) answers in
    (same_editor new executed told.0.0 told.1, told.0.1)
answered by submitted command executed new next none answers = answers
answered by ended command executed new next none answers = answers
answered by interrupted command executed new next none answers = answers

turns : (by : Rules) (from to : Standing) (answer : Answer) (turn : TurnFrom by from to answer) → from.mode ≡ Editing
    → (answer ≡ proceeds → deferred_by turn.read.command ≡ None) → Turns by from to answer turn
turns by from to answer turn mode none =
    let does : ExecutesAndAnswers by Editing turn.read.command turn.read.input (ready turn.read.command turn.read.draft from.editor.kills) to.editor to.mode answer =
    subst (λ m. DoesInMode by m turn.read.command turn.read.input (ready turn.read.command turn.read.draft from.editor.kills) to.editor to.mode answer) mode turn.does in
    let told = answered by answer turn.read.command does.executed to.editor to.mode none does.answers in
    record {
      taken = record {
        phrase = turn.phrase;
        read = turn.read;
        cut = turn.cut;
        reads = turn.comes;
        input_left = turn.input_left;
        leaves = subst (λ editor. Leaves (step by.ruler by.environment turn.read.input (ready turn.read.command turn.read.draft from.editor.kills) turn.read.command) editor answer) (sym told.0) does.leaves;
      };
      same = refl;
      mode = told.1;
    }

-- after steps in which nothing is left to the program commands are read
mode_behind : (by : Rules) (over_calls : Bool) (start found : Standing) → start.mode ≡ Editing → (taken : Steps by over_calls start found) → StepsLeaveNone taken → found.mode ≡ Editing
mode_behind by over_calls start found mode steps.none none = mode
mode_behind by over_calls start found mode (steps.turn {found = before} to turn) none = (turns by before found proceeds turn (mode_behind by over_calls start before mode to none.0) (λ _. none.1)).mode
mode_behind by over_calls start found mode (steps.item to taken) none = absurd none
mode_behind by over_calls start found mode (steps.resume over to goes_on) none = absurd none

-- a run from where such steps lead is one from their start
run_on : (by : Rules) (over_calls : Bool) (start found : Standing) (last : Editor) (input : Input) (end : End) → start.mode ≡ Editing → (taken : Steps by over_calls start found) → StepsLeaveNone taken
    → RunsPlainly by found last input end → RunsPlainly by start last input end
run_on by over_calls start found last input end mode steps.none none run = run
run_on by over_calls start found last input end mode (steps.turn {found = before} to turn) none run =
    let made = turns by before found proceeds turn (mode_behind by over_calls start before mode to none.0) (λ _. none.1) in
    run_on by over_calls start before last input end mode to none.0 (runs.goes_on made.taken run.0, (ap (λ r. deferred_by r.command) made.same ∙ none.1, run.1))
run_on by over_calls start found last input end mode (steps.item to taken) none run = absurd none
run_on by over_calls start found last input end mode (steps.resume over to goes_on) none run = absurd none

abbrev is_yes : Bool → Type 0
is_yes true = Unit {0}
is_yes false = ⊥

true_false : true ≡ false → ⊥
true_false same = subst is_yes same tt

-- what a line comes to is a run
session_runs : (by : Rules) (over_calls : Bool) (start : Standing) (last : Editor) (input : Input) (end : End) → start.mode ≡ Editing → SessionPlainly by over_calls start last input end → RunsPlainly by start last input end
session_runs by over_calls start last input (stopped answer rest) mode session =
    let found = session.1.0.found in
    let stops : answer ≢ proceeds = session.0 in
    let made = turns by found (reading_commands last input rest) answer session.1.0.last (mode_behind by over_calls start found mode session.1.0.steps session.1.1) (λ goes. absurd (stops goes)) in
    run_on by over_calls start found last input (stopped answer rest) mode session.1.0.steps session.1.1 (runs.ends made.taken stops, tt)
session_runs by over_calls start last input (dry items) mode session =
    let waits = session.0 in
    run_on by false start waits.found last input (dry items) mode waits.steps session.1 (dries waits.shown waits.waits)
  where
    dries : (shown : _) → WaitsIn by session.0.found last shown → RunsPlainly by session.0.found last input (dry items)
    dries shown (steps.phrase reads begins cut) =
        subst (λ i. RunsPlainly by session.0.found last i (dry items)) (sym session.0.input)
        (subst (λ i. RunsPlainly by session.0.found last session.0.found.input (dry i)) (sym session.0.items) (runs.runs_dry begins cut, tt))
    dries shown (steps.alone reads none same) =
        absurd (true_false (sym reads ∙ ap reads_no_command (mode_behind by false start session.0.found mode session.0.steps session.1)))

-- a turn of a run is a turn from where commands are read
turn_from : (by : Rules) (editor middle : Editor) (input input' : Input) (items more : List Item) (answer : Answer)
    (turn : Turn by.keymap by.ruler by.environment editor input items middle input' more answer) → (answer ≡ proceeds → deferred_by turn.read.command ≡ None)
    → TurnFrom by (reading_commands editor input items) (reading_commands middle input' more) answer
turn_from by editor middle input input' items more answer turn none = record {
  reads = refl;
  phrase = turn.phrase;
  read = turn.read;
  cut = turn.cut;
  comes = turn.reads;
  input_left = turn.input_left;
  does = record { executed = middle; leaves = turn.leaves; answers = stays answer none };
}
  where
    stays : (a : Answer) → (a ≡ proceeds → deferred_by turn.read.command ≡ None) → AnswersTurn by a (deferred_by turn.read.command) Editing middle middle Editing
    stays proceeds left = subst (λ l. AnswersTurn by proceeds l Editing middle middle Editing) (sym (left refl)) ((refl, refl), refl)
    stays submitted left = (refl, refl)
    stays ended left = (refl, refl)
    stays interrupted left = (refl, refl)

-- steps of a call with nothing left to the program are steps over several calls too
as_many : (by : Rules) (over_calls : Bool) (start found : Standing) (taken : Steps by false start found) → StepsLeaveNone taken
    → (same : Steps by over_calls start found) × StepsLeaveNone same
as_many by over_calls start found steps.none none = (steps.none, tt)
as_many by over_calls start found (steps.turn {found = before} to turn) none =
    let same = as_many by over_calls start before to none.0 in
    (steps.turn same.0 turn, (same.1, none.1))
as_many by over_calls start found (steps.item to taken) none = absurd none
as_many by over_calls start found (steps.resume over to goes_on) none = absurd none

-- a run from where steps lead is what a line comes to from their start
run_back : (by : Rules) (over_calls : Bool) (start : Standing) (editor last : Editor) (input input' : Input) (items : List Item) (end : End)
    (taken : Steps by false start (reading_commands editor input items)) → StepsLeaveNone taken
    → (run : Run by.keymap by.ruler by.environment editor input items last input' end) → RunLeavesNone run → SessionPlainly by over_calls start last input' end
unfolding turn_from
run_back by over_calls start editor last input input' items end taken none (runs.goes_on {middle = middle} {input' = between} {more = more} turn run) left =
    run_back by over_calls start middle last between input' more end (steps.turn taken (turn_from by editor middle input between items more proceeds turn (λ _. left.0))) (none, left.0) run left.1
run_back by over_calls start editor last input input' items end taken none (runs.ends {rest = rest} {answer = answer} turn stops) left =
    let same = as_many by over_calls start (reading_commands editor input items) taken none in
    (stops, (record { found = reading_commands editor input items; steps = same.0; last = turn_from by editor last input input' items rest answer turn (λ goes. absurd (stops goes)) }, same.1))
run_back by over_calls start editor last input input' items end taken none (runs.runs_dry begins cut) left =
    (record { found = reading_commands editor input items; steps = taken; shown = begins.shown; waits = steps.phrase refl begins cut; input = refl; items = refl; mode = refl }, none)

pub session-is-run : SessionIsRun
session-is-run by over_calls start last input end mode =
    let begins = reading_commands start.editor start.input start.items in (
      subst (λ s. RunsPlainly by s last input end → SessionPlainly by over_calls s last input end)
          (sym (ap (λ m. record { editor = start.editor; input = start.input; items = start.items; mode = m }) mode))
          (λ run. run_back by over_calls begins start.editor last start.input input start.items end steps.none tt run.0 run.1),
      session_runs by over_calls start last input end mode,
    )
