-- Facts on motions that are read.
use Rattle.std.proofs.Common.{◌≡◌, ℕ, true, false, List, [], ◌∷◌, Result, Ok, Err, refl, sym, ◌∙◌, ap, subst}
use Rattle.std.specs.Prelude.{OnErr}
use Rattle.line_config.specs.Failures.{CountsFailures}
use Rattle.line_config.specs.declared.config.EditMode.TheVariants.{Vi}
use Rattle.line_config.specs.declared.error.ReadlineError.{ReadlineError}
use Rattle.line_keys.specs.Command.{command_of}
use Rattle.line_keys.specs.Count.{begins_count}
use Rattle.line_keys.specs.Model.Draft.{Draft}
use Rattle.line_keys.specs.Item.{Item, ReadFault, key}
use Rattle.line_keys.specs.Motion.{Motion, motion_of, multiplied}
use Rattle.line_keys.specs.declared.count.Count.{Count}
use Rattle.line_keys.specs.declared.editor_state.EditorState as editors
use Rattle.line_keys.specs.declared.keys.KeyEvent.{KeyEvent}
use Rattle.line_keys.specs.declared.raw_reader.RawReader as readers
use Rattle.line_keys.specs.declared.refresher.InputMode.TheVariants as modes
use Rattle.line_keys.specs.declared.tables.Operator.{Operator}
use Rattle.line_input.specs.Input.{Input}
use Rattle.line_input.specs.InputState.{behind_input}
use Rattle.line_input.specs.Keymap.{KeyState}
use Rattle.line_input.specs.Operation.{Operated, Reaches, motion_behind}
use Rattle.line_input.specs.Read.{Read}
use Rattle.line_input.specs.Reading.{EndsQuietly, GivesQuietly, OnRead, ReadsCount, ReadsPart, StopsWithin, TakesItems}
use Rattle.line_input.specs.declared.input_state.phrases.Read as phrases
use Rattle.line_input.proofs.BeginLemmas.{operation-begins, reach-begins}
use Rattle.line_input.proofs.KeyFitLemmas.{enter, enter-ends, is-count, is-no-count}
use Rattle.line_input.proofs.OperationLemmas.{enter-ends-motion}
use Rattle.line_input.proofs.ReadingLemmas.{count_goes_wrong, counted, key_fails, key_taken, on_err_then, plainly, quiet_part}

-- what belongs to the key of a motion could not be read
reach_stops : {X Y : Type 0} (e : editors.Ghosts X) (r : readers.Ghosts Y) (editor : X) (i : Input) (operator : Operator) (reader reader' : Y) (motion : Motion) (result : Result phrases.Read ReadlineError)
    → OnErr result (r.rest reader' ≡ r.rest reader) → OnErr result (StopsWithin r (λ items read. Reaches (e.draft editor) i operator motion items read) [] reader reader')
reach_stops e r editor i operator reader reader' motion result kept =
    on_err_then result (λ same. record { items = []; cut = sym same; begins = reach-begins (e.draft editor) i operator motion }) kept

module _ {X Y : Type 0} (e : editors.Ghosts X) (r : readers.Ghosts Y) (editor : X) (keys : KeyState) (reader : Y) (i : Input) (operator : Operator) (n : ℕ) where
  -- what the motion of an operator comes to that is read here
  abbrev pub MotionHere : List Item → Read → Type 0
  MotionHere items read = Operated (e.environment editor) (e.draft editor) i operator n items read

  -- how what is read of it is told
  abbrev pub MotionPart : List Item → (result : Result phrases.Read ReadlineError) → Y → X → Y → Type 0
  MotionPart front result reader editor' reader' =
      ReadsPart e r MotionHere front (e.draft editor) (λ c d. d) (λ (b : phrases.Read). command_of b.command) (λ b. behind_input b i) result editor keys reader editor' reader'

  -- a key without a count
  pub motion_plain : (k : KeyEvent) (motion : Motion) (result : Result phrases.Read ReadlineError) (reader' : Y) → begins_count Vi modes.Command k ≡ false → motion ≡ motion_behind operator n [] k
      → OnRead result (λ (b : phrases.Read). GivesQuietly r (Reaches (e.draft editor) i operator motion) (e.draft editor) (behind_input b i) (command_of b.command) reader reader')
      (EndsQuietly r (Reaches (e.draft editor) i operator motion) reader reader')
      → TakesItems r keys.bound result reader reader' → OnErr result (r.rest reader' ≡ r.rest reader)
      → MotionPart (key k ∷ []) result reader editor reader'
  motion_plain k motion result reader' begins is behind takes kept =
      let Behind : List Item → Read → Type 0 = λ items read. Reaches (e.draft editor) i operator motion items read in
      plainly e r MotionHere Behind (λ c d. d) (λ b. command_of b.command) (λ b. behind_input b i) editor keys reader k Vi (e.draft editor) editor reader' result
      (λ items read reaches. record {
        typed = [];
        last = k;
        tail = items;
        cut = refl;
        counted = is-no-count Vi modes.Command k begins;
        behind = read;
        reaches = subst (λ m. Reaches (e.draft editor) i operator m items read) is reaches;
        told = refl;
      })
      (quiet_part e r Behind editor keys reader reader' (λ b. command_of b.command) (λ b. behind_input b i) result takes behind
      (reach_stops e r editor i operator reader reader' motion result kept))

  -- a count and the key that ends it
  pub motion_counted : (k : KeyEvent) (count : Count) (last : KeyEvent) (editor1 : X) (reader1 : Y) → ReadsCount e r Vi k (Ok (count, last)) editor reader editor1 reader1
      → begins_count Vi modes.Command k ≡ true
      → (motion : Motion) (m : ℕ) (result : Result phrases.Read ReadlineError) (reader' : Y) → m ≡ multiplied n count.n → motion ≡ motion_of operator last m
      → OnRead result (λ (b : phrases.Read). GivesQuietly r (Reaches (e.draft editor1) i operator motion) (e.draft editor1) (behind_input b i) (command_of b.command) reader1 reader')
      (EndsQuietly r (Reaches (e.draft editor1) i operator motion) reader1 reader')
      → TakesItems r keys.bound result reader1 reader' → OnErr result (r.rest reader' ≡ r.rest reader1)
      → MotionPart (key k ∷ []) result reader editor1 reader'
  motion_counted k count last editor1 reader1 read begins motion m result reader' product is behind takes kept =
      let Behind : List Item → Read → Type 0 = λ items read. Reaches (e.draft editor1) i operator motion items read in
      let more = read.read.ends.more in
      let there : motion ≡ motion_behind operator n (k ∷ more) last =
      is ∙ ap (λ x. motion_of operator last x) product ∙ ap (λ (c : Count). motion_of operator last (multiplied n c.n)) read.read.counted in
      counted e r MotionHere Behind (λ c d. d) (λ b. command_of b.command) (λ b. behind_input b i) editor keys reader k Vi count last editor1 reader1 read editor1 reader' result
      (λ items read' reaches.
      let P : Draft → Type 0 = λ d. Reaches d i operator (motion_behind operator n (k ∷ more) last) items read' in
      let Q : Motion → Type 0 = λ x. Reaches (e.draft editor1) i operator x items read' in
      record {
        typed = k ∷ more;
        last = last;
        tail = items;
        cut = refl;
        counted = is-count Vi modes.Command k more last begins read.read.ends.continue read.read.ends.ends;
        behind = read';
        reaches = subst P read.draft (subst Q there reaches);
        told = refl;
      })
      (quiet_part e r Behind editor1 keys reader1 reader' (λ b. command_of b.command) (λ b. behind_input b i) result takes behind
      (reach_stops e r editor1 i operator reader1 reader' motion result kept))

  -- the items ended in the count, or reading it went wrong
  pub motion_count : (k : KeyEvent) (f : ReadlineError) (editor' : X) (reader' : Y) → begins_count Vi modes.Command k ≡ true
      → ReadsCount e r Vi k (Err f) editor reader editor' reader'
      → MotionPart (key k ∷ []) (Err f) reader editor' reader'
  motion_count k f editor' reader' begins count =
      count_goes_wrong e r MotionHere MotionHere (λ c d. d) (λ b. command_of b.command) (λ b. behind_input b i) editor keys reader k Vi f editor' reader' count
      (λ more all. enter-ends-motion (e.environment editor) (e.draft editor) i operator n (k ∷ more) (is-count Vi modes.Command k more enter begins all (enter-ends Vi)))
      (λ last ends. operation-begins (e.environment editor) (e.draft editor) i operator n (k ∷ ends.more) last
      (is-count Vi modes.Command k ends.more last begins ends.continue ends.ends))

  -- the first key and the rest
  pub motion_part : (mid : Y) (k : KeyEvent) (editor' : X) (reader' : Y) (result : Result phrases.Read ReadlineError)
      → r.rest reader ≡ key k ∷ r.rest mid → r.kept mid ≡ r.kept reader → r.failures mid ≡ r.failures reader
      → MotionPart (key k ∷ []) result mid editor' reader' → MotionPart [] result reader editor' reader'
  motion_part mid k editor' reader' result took own quiet part =
      key_taken e r MotionHere (e.draft editor) (λ c d. d) (λ b. command_of b.command) (λ b. behind_input b i) editor keys reader mid editor' reader' k took own quiet result part

  -- the first key could not be read
  pub motion_none : {S : Type 0} (mid : Y) (f : ReadlineError) → ReadFault f (r.rest reader) → r.rest mid ≡ r.rest reader → r.kept mid ≡ r.kept reader
      → CountsFailures {T = S} (Err f) (r.failures reader) (r.failures mid)
      → MotionPart [] (Err f) reader editor mid
  motion_none mid f fault stays own counts =
      let ended = enter-ends-motion (e.environment editor) (e.draft editor) i operator n [] refl in
      key_fails e r MotionHere (e.draft editor) (λ c d. d) (λ b. command_of b.command) (λ b. behind_input b i) editor keys reader mid f fault stays own counts (λ dry. refl)
      (key enter ∷ [], ended.0, (λ empty. cc), ended.2)
