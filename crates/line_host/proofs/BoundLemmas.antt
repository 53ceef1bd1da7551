-- Facts on commands that are bound to keys.
use Rattle.std.proofs.Common.{◌≡◌, List, [], ◌∷◌, ◌++◌, Option, Some, None, refl, sym, subst, ◌∙◌, ap, map}
use Rattle.std.proofs.lemmas.List.{map-append}
use Rattle.line_keys.specs.Command.{Command}
use Rattle.line_keys.specs.declared.keys.KeyEvent.{KeyEvent}
use Rattle.line_editor.specs.Binding.{Rebinds, answers, bound_of, bound_to, handled}
use Rattle.line_editor.specs.Event.{Chord, each_key, keys, mouse}
use Rattle.line_input.specs.declared.binding.ConditionalEventHandler as handlers
use Rattle.line_input.specs.declared.binding.EventHandler.{EventHandler}
use Rattle.line_input.specs.declared.binding.EventHandler.TheVariants.{Conditional, Simple}
use Rattle.line_input.specs.declared.binding.NoHandler.{NoHandler}
use Rattle.line_input.specs.declared.bindings.Bindings.{Bindings}
use Rattle.line_host.specs.Bound.{BoundCommands, bound, command_at, command_in, bound_commands}

-- commands that are bound as nothing are none
pub none_bound : (commands : BoundCommands) → bound commands ≡ [] → commands ≡ []
none_bound [] none = refl
none_bound (pair ∷ pairs) none = absurd (cc)

module _ (g : handlers.Ghosts NoHandler) (no_command : (handler : NoHandler) → handled g (Conditional handler) ≡ answers None) where
  handled_is : (handler : EventHandler NoHandler) → handled g handler ≡ answers (command_in handler)
  handled_is (Simple command) = refl
  handled_is (Conditional handler) = no_command handler

  at_is : (chord : Chord) (handler : Option (EventHandler NoHandler)) → bound_to (handled g) chord handler ≡ bound (command_at chord handler)
  at_is chord None = refl
  at_is chord (Some handler) = ap (λ h. (chord, h) ∷ []) (handled_is handler)

  sequences_are : (entries : List (List KeyEvent × EventHandler NoHandler))
      → map (λ entry. (keys entry.0, handled g entry.1)) entries ≡ bound (map (λ entry. (keys entry.0, command_in entry.1)) entries)
  sequences_are [] = refl
  sequences_are (entry ∷ entries) =
      ap (λ h. (keys entry.0, h) ∷ map (λ (e : List KeyEvent × EventHandler NoHandler). (keys e.0, handled g e.1)) entries) (handled_is entry.1)
      ∙ ap (λ bs. (keys entry.0, answers (command_in entry.1)) ∷ bs) (sequences_are entries)

  bound_parts : (one two three : BoundCommands) → bound (one ++ two ++ three) ≡ bound one ++ bound two ++ bound three
  bound_parts one two three = map-append _ (one ++ two) three ∙ ap (λ bs. bs ++ bound three) (map-append _ one two)

  -- bindings of commands alone are those of their commands
  pub commands_bound : (bindings : Bindings NoHandler) → bound_of g bindings ≡ bound (bound_commands bindings)
  commands_bound bindings =
      ap (λ bs. bs ++ bound_to (handled g) mouse bindings.mouse ++ map (λ (e : List KeyEvent × EventHandler NoHandler). (keys e.0, handled g e.1)) bindings.sequences)
      (at_is each_key bindings.any)
      ∙ ap (λ bs. bound (command_at each_key bindings.any) ++ bs ++ map (λ (e : List KeyEvent × EventHandler NoHandler). (keys e.0, handled g e.1)) bindings.sequences)
      (at_is mouse bindings.mouse)
      ∙ ap (λ bs. bound (command_at each_key bindings.any) ++ bound (command_at mouse bindings.mouse) ++ bs) (sequences_are bindings.sequences)
      ∙ sym (bound_parts (command_at each_key bindings.any) (command_at mouse bindings.mouse) (map (λ entry. (keys entry.0, command_in entry.1)) bindings.sequences))

  -- what was bound anew in bindings was bound anew in their commands
  pub rebinds_commands : (old new : Bindings NoHandler) (before : BoundCommands) (chord : Chord) (handler : EventHandler NoHandler) (command : Command)
      → bound_commands old ≡ before → handled g handler ≡ answers (Some command) → Rebinds (bound_of g old) (bound_of g new) chord (handled g handler)
      → Rebinds (bound before) (bound (bound_commands new)) chord (answers (Some command))
  rebinds_commands old new before chord handler command was is rebinds =
      subst (λ b. Rebinds b (bound (bound_commands new)) chord (answers (Some command))) (commands_bound old ∙ ap bound was)
      (subst (λ b. Rebinds (bound_of g old) b chord (answers (Some command))) (commands_bound new)
      (subst (λ h. Rebinds (bound_of g old) (bound_of g new) chord h) is rebinds))
