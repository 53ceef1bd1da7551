-- Commands that are done again.
use Rattle.std.specs.Prelude.{ℕ, ◌==◌, Bool, true, false, not, if◌then◌else◌, min, List, length, Option, Some, None, unwrap_or, option_map}
use Rattle.line_buffer.specs.declared.movement.Movement.{Movement}
use Rattle.line_buffer.specs.declared.movement.Movement.TheVariants.{BackwardChar, BackwardWord, ForwardChar, ForwardWord, LineDown, LineUp, ViCharSearch}
use Rattle.line_keys.specs.Command.{Command, dedent, indent, insert, kill, move, replace, replace_char, self_insert, vi_yank_to, yank, move_to_bracket, kill_to_bracket, replace_to_bracket, yank_to_bracket}
use Rattle.line_keys.specs.declared.refresher.InputMode.{InputMode}

-- the commands that change the line or copy from it, and can be done again
abbrev pub is_repeatable_change : Command → Bool
is_repeatable_change (dedent _) = true
is_repeatable_change (indent _) = true
is_repeatable_change (insert _ _) = true
is_repeatable_change (kill _) = true
is_repeatable_change (replace_char _ _) = true
is_repeatable_change (replace _ _) = true
is_repeatable_change (self_insert _ _) = true
is_repeatable_change (vi_yank_to _) = true
is_repeatable_change (yank _ _) = true
is_repeatable_change kill_to_bracket = true
is_repeatable_change (replace_to_bracket _) = true
is_repeatable_change yank_to_bracket = true
is_repeatable_change _ = false

-- the commands that can be done again: these changes, and moves
abbrev pub is_repeatable : Command → Bool
is_repeatable (move _) = true
is_repeatable move_to_bracket = true
is_repeatable command = is_repeatable_change command

-- a last change after which typed characters belong to it: a replacement, or a typed character
abbrev pub is_typed_on : Option Command → Bool
is_typed_on (Some (replace _ _)) = true
is_typed_on (Some (replace_to_bracket _)) = true
is_typed_on (Some (self_insert _ _)) = true
is_typed_on _ = false

-- Vi's insert and replace mode: whether a command becomes the last change, which is this so far. A repeatable change does, but
-- not a typed character that belongs to the last change.
abbrev pub becomes_change_typed : Option Command → Command → Bool
becomes_change_typed last (self_insert _ _) = not (is_typed_on last)
becomes_change_typed last command = is_repeatable_change command

-- whether a command becomes Vi's last change, by the mode that its key is read in, and the last change so far
abbrev pub becomes_change : InputMode → Option Command → Command → Bool
becomes_change InputMode.Command last command = is_repeatable_change command
becomes_change _ last command = becomes_change_typed last command

-- a movement with another count, where the movement has a count
abbrev pub counted_anew : Movement → ℕ → Movement
counted_anew (BackwardWord _ word) n = BackwardWord n word
counted_anew (ForwardWord _ at word) n = ForwardWord n at word
counted_anew (ViCharSearch _ search) n = ViCharSearch n search
counted_anew (BackwardChar _) n = BackwardChar n
counted_anew (ForwardChar _) n = ForwardChar n
counted_anew (LineUp _) n = LineUp n
counted_anew (LineDown _) n = LineDown n
counted_anew movement n = movement

-- a movement with a new count, if there is one
abbrev pub with_count : Option ℕ → Movement → Movement
with_count None movement = movement
with_count (Some n) movement = counted_anew movement n

-- as many clusters on as a text has bytes, none where there is no text
abbrev pub over_text : Option (List ℕ) → Movement
over_text text = ForwardChar (min 65535 (unwrap_or (option_map (λ t. length t) text) 0))

-- what is replaced again by the text that was inserted last: by a replacement of no clusters, as in replace mode, as many as it has bytes
abbrev pub replaced_again : Option ℕ → Option (List ℕ) → Movement → Movement
replaced_again new last (ForwardChar n) = if n == 0 then over_text last else with_count new (ForwardChar n)
replaced_again new last movement = with_count new movement

-- a typed character again: by the dot it is the text that was inserted last, and for a binding it stays that character
abbrev pub typed_again : Bool → ℕ → Option (List ℕ) → ℕ → Command
typed_again true n (Some text) c = insert n text
typed_again by_dot n last c = self_insert n c

-- a command again, by the dot or for a binding, with a new count if there is one; the text that was inserted last is handed in
abbrev pub redone : Bool → Option ℕ → Option (List ℕ) → Command → Command
redone by_dot new last (dedent movement) = dedent (with_count new movement)
redone by_dot new last (indent movement) = indent (with_count new movement)
redone by_dot new last (insert n text) = insert (unwrap_or new n) text
redone by_dot new last (kill movement) = kill (with_count new movement)
redone by_dot new last (move movement) = move (with_count new movement)
redone by_dot new last (replace_char n c) = replace_char (unwrap_or new n) c
redone by_dot new last (replace movement None) = replace (replaced_again new last movement) last
redone by_dot new last (replace movement (Some text)) = replace (with_count new movement) (Some text)
redone by_dot new last (self_insert n c) = typed_again by_dot (unwrap_or new n) last c
redone by_dot new last (vi_yank_to movement) = vi_yank_to (with_count new movement)
redone by_dot new last (yank n anchor) = yank (unwrap_or new n) anchor
redone by_dot new last (replace_to_bracket None) = replace_to_bracket last
redone by_dot new last command = command

-- what is done for a command that a program bound to a key: it is done again, where it can be
abbrev pub bound_anew : Option ℕ → Option (List ℕ) → Command → Command
bound_anew new last command = if is_repeatable command then redone false new last command else command
