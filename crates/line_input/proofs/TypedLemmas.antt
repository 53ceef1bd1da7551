-- Facts on characters that are typed.
use Rattle.std.proofs.Common.{◌≡◌, ℕ, true, false, not, if◌then◌else◌, List, [], ◌∷◌, length, Option, Some, None, is_some, option_and_then, option_map, Ok, Err, refl, sym, ◌∙◌, ap, subst, arith}
use Rattle.line_buffer.specs.Changes.{last_insert_of}
use Rattle.line_buffer.specs.declared.movement.CharSearch.{CharSearch}
use Rattle.line_config.specs.Error.{is_fault}
use Rattle.line_config.specs.Failures.{CountsFailures}
use Rattle.line_config.specs.declared.config.EditMode.{EditMode}
use Rattle.line_config.specs.declared.config.EditMode.TheVariants.{Emacs, Vi}
use Rattle.line_config.specs.declared.error.ReadlineError.{ReadlineError}
use Rattle.line_config.specs.declared.error.ReadlineError.TheVariants.{Eof, Interrupted, Io, Memory}
use Rattle.line_keys.specs.Command.{Command, command_of, self_insert}
use Rattle.line_keys.specs.Count.{begins_count}
use Rattle.line_keys.specs.Model.Draft.{Draft}
use Rattle.line_keys.specs.Item.{Item, ReadFault, key}
use Rattle.line_keys.specs.Key.{event}
use Rattle.line_keys.specs.Redo.{bound_anew}
use Rattle.line_keys.specs.Table.{KeyEntry, gives, row_of, stands_for, stays}
use Rattle.line_keys.specs.declared.cmd.Cmd.TheVariants as commands
use Rattle.line_keys.specs.declared.editor_state.EditorState as editors
use Rattle.line_keys.specs.declared.keys.KeyCode.TheVariants.{Char}
use Rattle.line_keys.specs.declared.keys.KeyEvent.{KeyEvent}
use Rattle.line_keys.specs.declared.keys.TheConstants.Modifiers.{NONE}
use Rattle.line_keys.specs.declared.raw_reader.RawReader as readers
use Rattle.line_keys.specs.declared.refresher.InputMode.{InputMode}
use Rattle.line_input.specs.Ruler.{grouped}
use Rattle.line_input.specs.Event.{keys}
use Rattle.line_input.specs.Input.{Input}
use Rattle.line_input.specs.Keymap.{KeyState, Keymap, bound_command, handed, key_handler, keymap_of, new_count, on_line}
use Rattle.line_input.specs.Moment.{moment_in}
use Rattle.line_input.specs.Phrase.{Keyed, Phrase, Spelled, TypesChar, listed, of_mode, remembered_behind, types_by, types_chars}
use Rattle.line_input.specs.Read.{Read, quiet_read, read_behind}
use Rattle.line_input.specs.Reading.{ReadsCommand, TookKey}
use Rattle.line_input.specs.Tail.{alone}
use Rattle.line_input.proofs.PhraseLemmas.{row-read}
use Rattle.line_input.proofs.PhraseReadLemmas.{command_failed, none_part, plain-phrase}
use Rattle.line_input.proofs.ReadingLemmas.{frame_stays}

-- the key of a plain character
abbrev pub plain_key : ℕ → KeyEvent
plain_key c = event (Char c) NONE

-- where the mode takes characters, the tables say that it types the character
typed-entry : (style : EditMode) (mode : InputMode) (last : Option Command) (c : ℕ) (draft : Draft) → types_by style mode last ≡ true
    → (row_of style mode (plain_key c) draft).entry None ≡ stays (gives (self_insert 1 c))
typed-entry Emacs mode last c draft types = refl
typed-entry Vi InputMode.Insert last c draft types = refl
typed-entry Vi InputMode.Command last c draft types = absurd (cc)
typed-entry Vi InputMode.Replace last c draft types = absurd (cc)

typed-begins : (style : EditMode) (mode : InputMode) (last : Option Command) (c : ℕ) → types_by style mode last ≡ true → begins_count style mode (plain_key c) ≡ false
typed-begins Emacs mode last c types = refl
typed-begins Vi InputMode.Insert last c types = refl
typed-begins Vi InputMode.Command last c types = absurd (cc)
typed-begins Vi InputMode.Replace last c types = absurd (cc)

typed-stands : (style : EditMode) (mode : InputMode) (last : Option Command) (c : ℕ) → types_by style mode last ≡ true → stands_for style mode (plain_key c) ≡ None
typed-stands Emacs mode last c types = refl
typed-stands Vi InputMode.Insert last c types = refl
typed-stands Vi InputMode.Command last c types = absurd (cc)
typed-stands Vi InputMode.Replace last c types = absurd (cc)

-- nothing is remembered of it
typed-input : (style : EditMode) (mode : InputMode) (last : Option Command) (search : Option CharSearch) (c : ℕ) → types_by style mode last ≡ true
    → remembered_behind style None (record { style = style; mode = mode; last_change = last; last_search = search }) (self_insert 1 c) search
    ≡ record { style = style; mode = mode; last_change = last; last_search = search }
typed-input Emacs mode last search c types = refl
typed-input Vi InputMode.Insert last search c types =
    ap (λ b. record { style = Vi; mode = InputMode.Insert; last_change = if not b then Some (self_insert 1 c) else last; last_search = search }) types
typed-input Vi InputMode.Command last search c types = absurd (cc)
typed-input Vi InputMode.Replace last search c types = absurd (cc)

none-on-line : (text : List ℕ) → on_line text None ≡ None
none-on-line [] = refl
none-on-line (x ∷ more) = refl

-- where a look-up found nothing, there is nothing
pub found-nothing : {A B : Type 0} (value : A → B) (found : Option A) (there : Option B) → option_map value found ≡ there → is_some found ≡ false → there ≡ None
found-nothing value None there is none = sym is
found-nothing value (Some a) there is none = absurd (cc)

-- a plain character that is not bound is a phrase by itself
pub typed-alone : (keymap : Keymap) (input : Input) (c : ℕ) → key_handler keymap.bound (plain_key c) ≡ None → keymap.own (plain_key c) ≡ None
    → types_chars input ≡ true → TypesChar keymap input (plain_key c) c
typed-alone keymap input c unbound unowned types environment draft =
    let k : KeyEvent = plain_key c in
    let entry : KeyEntry = stays (gives (self_insert 1 c)) in
    let read : Read = quiet_read draft input [] (self_insert 1 c) in
    let no_binding : bound_command keymap draft input None k ≡ None =
    ap (λ h. option_map (bound_anew (new_count input.style None) (last_insert_of draft.changes.entries))
    (option_and_then (λ handler. handler.answer (record { event = keys (k ∷ []); count = handed input.style input.mode None; moment = moment_in draft input })) h)) unbound in
    let no_own : on_line draft.line.text (keymap.own k) ≡ None = ap (on_line draft.line.text) unowned ∙ none-on-line draft.line.text in
    let keyed : Keyed keymap environment draft input None k [] (listed entry input read) =
    row-read keymap environment draft input None k entry [] read (sym no_binding) (sym no_own) (sym (typed-stands input.style input.mode input.last_change c types))
    (sym (typed-entry input.style input.mode input.last_change c draft types)) (alone (self_insert 1 c)) in
    let same : listed entry input read ≡ read =
    ap (λ i. record read { input = i }) (typed-input input.style input.mode input.last_change input.last_search c types) in
    of_mode (subst (λ x. Spelled keymap environment draft input (key k ∷ []) (read_behind [] x)) same
    (plain-phrase keymap environment draft input k (typed-begins input.style input.mode input.last_change c types) [] (listed entry input read) keyed))

-- a reader that gave a key was not dry
pub was_read : {Y A : Type 0} (r : readers.Ghosts Y) (k : KeyEvent) (reader reader' : Y) → r.rest reader ≡ key k ∷ r.rest reader' → r.rest reader ≡ [] → A
was_read r k reader reader' took none = absurd (cc)

module _ {X Y : Type 0} (e : editors.Ghosts X) (r : readers.Ghosts Y) (editor : X) (keys : KeyState) (reader : Y) where
  -- a key that types a character is the command that types it
  pub typed_read : (reader' : Y) (k : KeyEvent) (c : ℕ) → TookKey r k reader reader' → TypesChar (keymap_of keys (r.own_binding (r.kept reader'))) keys.input k c
      → ReadsCommand e r grouped (Ok (commands.SelfInsert 1 c)) editor keys reader editor keys reader'
  typed_read reader' k c took types = record {
    phrase = record {
      read = record {
        items = key k ∷ [];
        read = quiet_read (e.draft editor) keys.input (key k ∷ []) (self_insert 1 c);
        cut = took.took;
        comes = subst (λ kept. Phrase (keymap_of keys (r.own_binding kept)) (e.environment editor) (e.draft editor) keys.input (key k ∷ [])
            (quiet_read (e.draft editor) keys.input (key k ∷ []) (self_insert 1 c))) took.own (types (e.environment editor) (e.draft editor));
        command_read = refl;
        input_read = refl;
        begun_there = refl;
        drew = record { display = refl; redraws = refl };
        hint = λ none. refl;
      };
      within = tt;
      fault = tt;
      line = record { line = refl; saved = refl; index = refl };
      start = refl;
      redraws = λ below. (omega arith, omega arith);
      fewer = let one = ap length took.took in omega (arith, one);
      keeps = record { frame = frame_stays e editor; own = took.own; counts = let same = took.stays in omega (arith, same) };
      fails = record { io = tt; quiet = (took.stays, refl) };
    };
    dry = was_read r k reader reader' took.took;
    remembers = tt;
    bound = refl;
  }

  -- where no key could be read, no command was
  pub none_read : (begun : Command → Draft → Draft) (reader' : Y) (f : ReadlineError) → ReadFault f (r.rest reader) → r.rest reader' ≡ r.rest reader
      → r.kept reader' ≡ r.kept reader → CountsFailures {T = KeyEvent} (Err f) (r.failures reader) (r.failures reader')
      → ReadsCommand e r begun (Err f) editor keys reader editor keys reader'
  none_read begun reader' f fault stays own counts =
      command_failed e r begun command_of (λ _. keys.input) f editor keys reader editor reader' (λ none. (refl, record { display = refl; redraws = refl }))
      (none_part e r command_of (λ _. keys.input) editor keys reader reader' f fault stays own counts)

-- an error of reading that is not the end of the items is a fault
pub reading_faults : (f : ReadlineError) (rest : List Item) → ReadFault f rest → (f ≡ Eof → ⊥) → is_fault f ≡ true
reading_faults Eof rest fault not_end = absurd (not_end refl)
reading_faults Interrupted rest fault not_end = absurd fault
reading_faults (Io cause) rest fault not_end = refl
reading_faults Memory rest fault not_end = refl
