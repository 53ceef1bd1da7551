-- Laws of the commands that go to the matching bracket.
use Rattle.std.specs.Prelude.{◌≡◌, ℕ, ◌<◌, false, [], ◌∷◌, Some}
use Rattle.line_buffer.specs.ClusterStart.{cluster_start}
use Rattle.line_buffer.specs.KillRing.{is_kill}
use Rattle.line_buffer.specs.Laws.{IsRing}
use Rattle.line_keys.specs.Command.{kill_to_bracket, move_to_bracket, yank}
use Rattle.line_keys.specs.declared.cmd.Anchor.TheVariants.{Before}
use Rattle.line_parts.specs.BracketMatch.{matching_bracket}
use Rattle.line_parts.specs.Environment.{Environment}
use Rattle.line_editor.specs.Editor.{Editor}
use Rattle.line_input.specs.Ruler.{Ruler}
use Rattle.line_input.specs.Input.{Input}
use Rattle.line_editor.specs.Laws.{after_commands}

-- where the bracket at the cursor and its match begin their clusters, moving to the match and again to its match leads back
abbrev pub GoingToTheMatchTwice : Type 0
GoingToTheMatchTwice = (ruler : Ruler) (environment : Environment) (editor : Editor) (input other : Input) (match : ℕ) →
    let line = editor.draft.line in
    matching_bracket line.text line.cursor ≡ Some match
    → cluster_start line.text line.cursor ≡ line.cursor
    → cluster_start line.text match ≡ match
    → (after_commands ruler environment editor ((input, move_to_bracket) ∷ (other, move_to_bracket) ∷ [])).draft ≡ editor.draft

-- where the bracket at the cursor has a match, the ring has a slot at least and the last action was no kill, what is killed to the
-- match and yanked before the cursor restores the text
abbrev pub KilledToTheMatchComesBack : Type 0
KilledToTheMatchComesBack = (ruler : Ruler) (environment : Environment) (editor : Editor) (input other : Input) (match : ℕ) →
    let line = editor.draft.line in
    matching_bracket line.text line.cursor ≡ Some match
    → IsRing editor.kills → 0 < editor.kills.size → is_kill editor.kills.last ≡ false
    → (after_commands ruler environment editor ((input, kill_to_bracket) ∷ (other, yank 1 Before) ∷ [])).draft.line.text ≡ line.text
