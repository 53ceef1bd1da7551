-- Commands that are done again by the dot.
use Rattle.std.proofs.Common.{◌≡◌, refl, ℕ, true, List, Option, Some, None}
use Rattle.line_keys.specs.Command.{command_of}
use Rattle.line_keys.specs.Redo.{bound_anew, redone}
use Rattle.line_keys.specs.declared.cmd.Cmd.{Cmd}

-- a command but a typed character is done again by the dot as it is for a key that a program bound to it
pub by_dot_as_bound : (new : Option ℕ) (last : Option (List ℕ)) (command : Cmd) → ((n c : ℕ) → command ≡ Cmd.SelfInsert n c → ⊥)
    → bound_anew new last (command_of command) ≡ redone true new last (command_of command)
by_dot_as_bound new last (Cmd.SelfInsert n c) other = absurd (other n c refl)
by_dot_as_bound new last (Cmd.Replace movement None) other = refl
by_dot_as_bound new last (Cmd.Replace movement (Some text)) other = refl
by_dot_as_bound new last _ other = refl
