-- The answers of the tests' handlers.
use Rattle.std.specs.Prelude.{Bool, true, false, ◌==◌, ◌&&◌, if◌then◌else◌, length, [], Option, None, Some, unwrap_or, codes}
use Rattle.line_config.specs.declared.config.EditMode.{EditMode}
use Rattle.line_config.specs.declared.config.EditMode.TheVariants.{Emacs, Vi}
use Rattle.line_keys.specs.Command.{Command, insert, noop}
use Rattle.line_keys.specs.declared.refresher.InputMode.{InputMode}
use Rattle.line_keys.specs.declared.refresher.InputMode.TheVariants.{Insert}
use Rattle.line_editor.specs.Asked.{Asked}
use Rattle.line_editor.specs.Event.{event_keys}
use Rattle.tests_steps.specs.declared.watcher.Watcher.{Watcher}
use Rattle.tests_steps.specs.declared.watcher.Watcher.TheVariants.{At, Fails, ForCount, Nothing, Sees}

-- whether two answers of yes and no are the same
abbrev pub same_bool : Bool → Bool → Bool
same_bool true true = true
same_bool false false = true
same_bool _ _ = false

-- whether an edit mode is that of Emacs
abbrev pub is_emacs : EditMode → Bool
is_emacs Emacs = true
is_emacs Vi = false

-- whether a mode is that of inserting
abbrev pub is_inserting : InputMode → Bool
is_inserting Insert = true
is_inserting _ = false

-- what a handler answers
abbrev pub watched : Watcher → Asked → Option Command
watched Nothing asked = None
watched (ForCount n positive) asked =
    if (asked.count.n == n) && same_bool asked.count.positive positive then Some (insert 1 (codes "k")) else Some noop
watched (At count len pos hinted) asked =
    if (length (event_keys asked.event) == count) && (length asked.moment.text == len) && (asked.moment.cursor == pos) && same_bool asked.moment.has_hint hinted
    then Some (insert 1 (codes "k")) else None
watched (Sees emacs inserting len) asked =
    if same_bool (is_emacs asked.moment.style) emacs && same_bool (is_inserting asked.moment.mode) inserting && (length (unwrap_or asked.moment.hint_text []) == len)
    then Some (insert 1 (codes "k")) else None
watched Fails asked = None

-- whether it never fails
abbrev pub never_fails : Watcher → Bool
never_fails Fails = false
never_fails _ = true
