-- Reading a command from the items that a reader has left.
use Rattle.std.specs.Prelude.{◌≡◌, ◌⊎◌, ℕ, ◌+◌, ◌-◌, ◌<◌, ◌≤◌, ◌++◌, [], ◌∷◌, true, false, List, length, map, Option, Some, None, slice_get, Result, Ok, Err, OnErr, IsErrOf}
use Rattle.std.specs.List.{list_all}
use Rattle.line_config.specs.Error.{IoOnlyIf, Rose, UnlessFault, is_fault, max_count}
use Rattle.line_config.specs.Failures.{UnlessIo}
use Rattle.line_config.specs.declared.config.EditMode.{EditMode}
use Rattle.line_config.specs.declared.error.ReadlineError.{ReadlineError}
use Rattle.line_config.specs.declared.error.ReadlineError.TheVariants.{Eof, Interrupted}
use Rattle.line_parts.specs.Asks.{Asks, for_hint, is_sure}
use Rattle.line_parts.specs.Environment.{Environment}
use Rattle.line_keys.specs.Command.{Command, command_of}
use Rattle.line_keys.specs.Count.{IsCountOf, continues_count, count_of, count_prompt}
use Rattle.line_keys.specs.Model.Draft.{Draft, KeepsLine, KeepsText, hinted, start_text}
use Rattle.line_keys.specs.Model.Drawing.{Drew, DrewNothing, behind_prompt, with_hint}
use Rattle.line_keys.specs.Model.Fault.{IoLeaves}
use Rattle.line_keys.specs.Model.Frame.{Frame}
use Rattle.line_keys.specs.Model.ShownLine.{Redraws}
use Rattle.line_keys.specs.declared.cmd.Cmd.{Cmd}
use Rattle.line_keys.specs.Item.{Item, key}
use Rattle.line_keys.specs.declared.editor_state.EditorState as editors
use Rattle.line_keys.specs.declared.raw_reader.RawReader as readers
use Rattle.line_keys.specs.declared.count.Count.{Count}
use Rattle.line_keys.specs.declared.count.TypedCount.{TypedCount}
use Rattle.line_keys.specs.declared.keys.KeyEvent.{KeyEvent}
use Rattle.line_input.specs.Input.{Input}
use Rattle.line_input.specs.Binding.{Bound, all_sure}
use Rattle.line_input.specs.Keymap.{KeyState, keymap_of}
use Rattle.line_input.specs.Phrase.{Phrase, entered}
use Rattle.line_input.specs.Read.{Begins, Lacks, Read, quiet_read}
use Rattle.line_input.specs.Sequence.{IsReadOn, Sequenced, Sequences, sequence_command}
use Rattle.line_input.specs.ItemShown.{DrewCounts, DrewSoFar, any_drawn, asked_behind, none_shown}
use Rattle.line_input.specs.declared.input_state.sequences.Sequence.{Sequence}

-- the failures of the one or of the other rose, where both counts can rise
abbrev pub EitherRose : ℕ → ℕ → ℕ → ℕ → Type 0
EitherRose one other one' other' = one < max_count → other < max_count → one + other < one' + other'

module _ {Y : Type 0} (r : readers.Ghosts Y) where
  -- a key was taken from a reader
  pub record TookKey (taken : KeyEvent) (reader reader' : Y) : Type 0 where
    pub took : r.rest reader ≡ key taken ∷ r.rest reader'
    pub own : r.kept reader' ≡ r.kept reader
    pub stays : r.failures reader' ≡ r.failures reader

  -- this holds of each reader from which taking this key leaves that one
  abbrev pub BeforeKey : KeyEvent → Y → (Y → Type 0) → Type 0
  BeforeKey taken reader' Holds = (reader : Y) → TookKey taken reader reader' → Holds reader

  -- what a call leaves that takes items from a reader, and asks the handlers of bindings
  pub record TakesItems {T : Type 0} (bindings : Bound) (result : Result T ReadlineError) (reader reader' : Y) : Type 0 where
    pub own : r.kept reader' ≡ r.kept reader
    pub counts : r.failures reader ≤ r.failures reader'
    pub fewer : length (r.rest reader') ≤ length (r.rest reader)
    pub not_interrupted : IsErrOf result Interrupted → ⊥
    pub io : IoOnlyIf result (all_sure bindings ≡ true → Rose (r.failures reader) (r.failures reader'))
    pub quiet : UnlessIo result (r.failures reader' ≡ r.failures reader)

  -- the keys that were read after a first one are answered with a command
  pub record IsAnswered (reader reader' : Y) (sequences : Sequences) (first : KeyEvent) (command : Command) : Type 0 where
    pub more : List KeyEvent
    pub cut : r.rest reader ≡ map key more ++ r.rest reader'
    pub sequenced : Sequenced sequences first more (Some command)

  -- they were read in vain, and the second of all is this one, if one was read
  pub record IsInVain (reader reader' : Y) (sequences : Sequences) (first : KeyEvent) (second : Option KeyEvent) : Type 0 where
    pub more : List KeyEvent
    pub cut : r.rest reader ≡ map key more ++ r.rest reader'
    pub sequenced : Sequenced sequences first more None
    pub told : second ≡ slice_get more 0

  -- what was found of a sequence
  abbrev pub FindsSequence : Y → Y → Sequences → KeyEvent → Sequence → Type 0
  FindsSequence reader reader' sequences first (Sequence.Command command) = IsAnswered reader reader' sequences first (command_of command)
  FindsSequence reader reader' sequences first (Sequence.InVain second) = IsInVain reader reader' sequences first second

  -- reading a sequence that began with a key stopped: keys were read of which each shorter beginning leads on and has no command
  pub record StopsInSequence (reader reader' : Y) (sequences : Sequences) (first : KeyEvent) : Type 0 where
    pub more : List KeyEvent
    pub cut : r.rest reader ≡ map key more ++ r.rest reader'
    pub read_on : IsReadOn sequences first more

  -- all items that were left are keys after which a sequence can go on
  pub record EndsInSequence (reader reader' : Y) (sequences : Sequences) (first : KeyEvent) : Type 0 where
    pub stopped : StopsInSequence reader reader' sequences first
    pub empty : r.rest reader' ≡ []
    pub leads : sequences.leads (first ∷ stopped.more) ≡ true
    pub unanswered : sequence_command sequences first stopped.more ≡ None

  -- items were read, with nothing drawn, that lead to a command and an input
  pub record GivesQuietly (Comes : List Item → Read → Type 0) (draft : Draft) (input : Input) (command : Command) (reader reader' : Y) : Type 0 where
    pub items : List Item
    pub cut : r.rest reader ≡ items ++ r.rest reader'
    pub comes : Comes items (quiet_read draft input items command)

  -- all items that were left are read, with nothing drawn, and more are to be read
  pub record EndsQuietly (Comes : List Item → Read → Type 0) (reader reader' : Y) : Type 0 where
    pub lacks : Lacks Comes (r.rest reader)
    pub empty : r.rest reader' ≡ []
    pub undrawn : lacks.shown ≡ none_shown (r.rest reader)

  -- keys were read that go on with a count, or none
  pub record GoesOnWithCount (style : EditMode) (reader reader' : Y) : Type 0 where
    pub more : List KeyEvent
    pub cut : r.rest reader ≡ map key more ++ r.rest reader'
    pub continue : list_all (continues_count style) more ≡ true

  -- all items that were left are keys that go on with a count
  pub record InsideCount (style : EditMode) (reader reader' : Y) : Type 0 where
    pub goes_on : GoesOnWithCount style reader reader'
    pub empty : r.rest reader' ≡ []

  -- keys were read that go on with a count, up to one that ends it
  pub record EndsCount (style : EditMode) (reader reader' : Y) (last : KeyEvent) : Type 0 where
    pub more : List KeyEvent
    pub cut : r.rest reader ≡ map key more ++ (key last ∷ r.rest reader')
    pub continue : list_all (continues_count style) more ≡ true
    pub ends : continues_count style last ≡ false

  -- reading a count stopped: keys were read that go on with it, or also the one that ends it
  abbrev pub StopsInCount : EditMode → Y → Y → Type 0
  StopsInCount style reader reader' = GoesOnWithCount style reader reader' ⊎ ((last : KeyEvent) × EndsCount style reader reader' last)

  -- reading stopped: the items that were taken, after those in front, are a prefix of something, or all of it
  pub record StopsWithin (Comes : List Item → Read → Type 0) (front : List Item) (reader reader' : Y) : Type 0 where
    pub items : List Item
    pub cut : r.rest reader ≡ items ++ r.rest reader'
    pub begins : Begins Comes (front ++ items)

  -- no item is left, before the call and after it
  pub record IsDry (reader reader' : Y) : Type 0 where
    pub before : r.rest reader ≡ []
    pub behind : r.rest reader' ≡ []

-- reading that was cut short leaves the draft, with its hint as it was or asked again
abbrev pub LeftByCut : Environment → Draft → Draft → Type 0
LeftByCut environment draft draft' = (draft' ≡ draft) ⊎ (draft' ≡ hinted environment draft)

-- what holds of a value that was read, or else where the items ran out; there is no interrupt
abbrev pub OnRead : {T : Type 0} → Result T ReadlineError → (T → Type 0) → Type 0 → Type 0
OnRead (Ok value) Read Dry = Read value
OnRead (Err error) Read Dry = is_fault error ≡ false → (error ≡ Eof) × Dry

module _ {X : Type 0} (e : editors.Ghosts X) where
  -- what is drawn while a count is read: the line after its prompt, once for each of its keys
  abbrev pub DrewCounting : List KeyEvent → X → X → Type 0
  DrewCounting keys old new = Drew e (length keys) (behind_prompt (count_prompt keys)) old new

  -- what is drawn of a count: nothing where none is typed; else the line once for each of its keys, and then after the own prompt
  abbrev pub DrewCount : List KeyEvent → X → X → Type 0
  DrewCount [] old new = DrewNothing e old new
  DrewCount (first ∷ more) old new = Drew e (length (first ∷ more) + 1) with_hint old new

module _ {X Y : Type 0} (e : editors.Ghosts X) (r : readers.Ghosts Y) where
  -- items were read, after those in front that were read before; they lead to a command, which begins its group, and to an input
  pub record Gives (Comes : List Item → Read → Type 0) (front : List Item) (begun : Command → Draft → Draft) (command : Command) (input : Input) (editor : X) (reader : Y) (editor' : X) (reader' : Y) : Type 0 where
    pub items : List Item
    pub read : Read
    pub cut : front ++ r.rest reader ≡ items ++ r.rest reader'
    pub comes : Comes items read
    pub command_read : read.command ≡ command
    pub input_read : read.input ≡ input
    pub begun_there : e.draft editor' ≡ begun command read.draft
    pub drew : DrewCounts e read.shown editor editor'
    pub hint : any_drawn read.shown ≡ false → (e.draft editor').hint ≡ (e.draft editor).hint

  -- all items that were left are read, and more are to be read: of a draft at most the hint changes, where the line was drawn
  pub record Ends (Comes : List Item → Read → Type 0) (front : List Item) (from : Draft) (editor : X) (reader : Y) (editor' : X) (reader' : Y) : Type 0 where
    pub lacks : Lacks Comes (front ++ r.rest reader)
    pub empty : r.rest reader' ≡ []
    pub draft : e.draft editor' ≡ asked_behind (e.environment editor) lacks.shown from
    pub drew : DrewSoFar e lacks.shown editor editor'

  -- what phrases that are read from here lead to
  abbrev pub PhraseHere : X → KeyState → Y → List Item → Read → Type 0
  PhraseHere editor keys reader items read =
      Phrase (keymap_of keys (r.own_binding (r.kept reader))) (e.environment editor) (e.draft editor) keys.input items read

  -- the draft that a phrase is read on from, once its first key was read
  abbrev pub entered_here : X → KeyState → Y → Draft
  entered_here editor keys reader = entered (keymap_of keys (r.own_binding (r.kept reader))) (e.draft editor) keys.input (r.rest reader)

  -- the items end before a phrase or inside of one
  abbrev pub OutOfItems : X → KeyState → Y → X → Y → Type 0
  OutOfItems editor keys reader editor' reader' =
      Ends (PhraseHere editor keys reader) [] (entered_here editor keys reader) editor reader editor' reader'

  -- how a call may fail that reads and draws: where those who are asked are sure, an error of input or output occurs only where the reader or
  -- the renderer failed; without such an error no failure is counted
  pub record Fails {T : Type 0} (sure : Type 0) (result : Result T ReadlineError) (editor : X) (reader : Y) (editor' : X) (reader' : Y) : Type 0 where
    pub io : IoOnlyIf result (sure → EitherRose (r.failures reader) (e.failures editor) (r.failures reader') (e.failures editor'))
    pub quiet : UnlessIo result ((r.failures reader' ≡ r.failures reader) × (e.failures editor' ≡ e.failures editor))

  -- those who are asked are sure, and so are the handlers of the bindings
  abbrev pub AreSure : Asks → X → KeyState → Type 0
  AreSure asks editor keys = (is_sure (e.sure editor) asks ≡ true) × (all_sure keys.bound ≡ true)

  -- how a call may fail that reads keys by the bindings and asks the helper or the history for this
  abbrev pub FailsByReading : {T : Type 0} → Asks → Result T ReadlineError → X → KeyState → Y → X → Y → Type 0
  FailsByReading asks result editor keys reader editor' reader' = Fails (AreSure asks editor keys) result editor reader editor' reader'

  -- what stays of the editor and of the reader's own bindings
  pub record KeepsBoth (editor : X) (reader : Y) (editor' : X) (reader' : Y) : Type 0 where
    pub frame : Frame e editor editor'
    pub own : r.kept reader' ≡ r.kept reader
    pub counts : r.failures reader ≤ r.failures reader'

  -- a step in reading a count: the count is shown, once, and a key is read; after an error none is taken
  pub record ReadsUnderCount (typed : TypedCount) (result : Result KeyEvent ReadlineError) (editor : X) (reader : Y) (editor' : X) (reader' : Y) : Type 0 where
    pub took : OnRead result (λ k. r.rest reader ≡ key k ∷ r.rest reader') (IsDry r reader reader')
    pub kept : OnErr result (r.rest reader' ≡ r.rest reader)
    pub draft : UnlessFault result (e.draft editor' ≡ hinted (e.environment editor) (e.draft editor))
    pub left : LeftByCut (e.environment editor) (e.draft editor) (e.draft editor')
    pub text : KeepsText (e.draft editor) (e.draft editor')
    pub drew : (keys : List KeyEvent) → IsCountOf typed keys
        → UnlessFault result (Drew e 1 (behind_prompt (count_prompt keys)) editor editor')
    pub keeps : KeepsBoth editor reader editor' reader'
    pub fails : Fails (is_sure (e.sure editor) for_hint ≡ true) result editor reader editor' reader'

  -- the items ended in a count that began with a key, and it is shown
  pub record CutInCount (style : EditMode) (first : KeyEvent) (editor : X) (reader : Y) (editor' : X) (reader' : Y) : Type 0 where
    pub inside : InsideCount r style reader reader'
    pub drew : DrewCounting e (first ∷ inside.goes_on.more) editor editor'

  -- a count that began with a key was read, and the key that ends it, and the line was drawn
  pub record CountRead (style : EditMode) (first : KeyEvent) (editor : X) (reader : Y) (editor' : X) (reader' : Y) (count : Count) (last : KeyEvent) : Type 0 where
    pub ends : EndsCount r style reader reader' last
    pub counted : count ≡ count_of (first ∷ ends.more)
    pub drew : DrewCount e (first ∷ ends.more) editor editor'

  -- the rest of a count that began with a key was read, and the key that ends it; the line is drawn once for each key of the count,
  -- and at last again with its hint; after an error at most these keys were taken
  pub record ReadsCount (style : EditMode) (first : KeyEvent) (result : Result (Count × KeyEvent) ReadlineError) (editor : X) (reader : Y) (editor' : X) (reader' : Y) : Type 0 where
    pub read : OnRead result (λ ended. CountRead style first editor reader editor' reader' ended.0 ended.1) (CutInCount style first editor reader editor' reader')
    pub within : OnErr result (StopsInCount r style reader reader')
    pub draft : UnlessFault result (e.draft editor' ≡ hinted (e.environment editor) (e.draft editor))
    pub left : LeftByCut (e.environment editor) (e.draft editor) (e.draft editor')
    pub text : KeepsText (e.draft editor) (e.draft editor')
    pub keeps : KeepsBoth editor reader editor' reader'
    pub fails : Fails (is_sure (e.sure editor) for_hint ≡ true) result editor reader editor' reader'

  -- what stays of the editor, the reader and the bindings while commands are read and executed
  pub record KeepsReading (editor : X) (keys : KeyState) (reader : Y) (editor' : X) (keys' : KeyState) (reader' : Y) : Type 0 where
    pub both : KeepsBoth editor reader editor' reader'
    pub bound : keys'.bound ≡ keys.bound

  -- what a call leaves that reads items, after those in front: what they lead to, or the items ran out; at most one full redraw is
  -- made for each item, unless it fails. After an error of input or output the draft is the one from before, or the one to read on from, but for its
  -- hint. After any error the items that were taken, after those in front, are a prefix of something, or all of it
  pub record ReadsPart {T : Type 0} (Comes : List Item → Read → Type 0) (front : List Item) (from : Draft) (begun : Command → Draft → Draft) (command : T → Command) (input : T → Input) (result : Result T ReadlineError) (editor : X) (keys : KeyState) (reader : Y) (editor' : X) (reader' : Y) : Type 0 where
    pub read : OnRead result (λ x. Gives Comes front begun (command x) (input x) editor reader editor' reader') (Ends Comes front from editor reader editor' reader')
    pub within : OnErr result (StopsWithin r Comes front reader reader')
    pub fault : IoLeaves result (e.environment editor) (e.draft editor) from (e.draft editor')
    pub line : KeepsLine (e.draft editor) (e.draft editor')
    pub start : UnlessFault result (start_text (e.draft editor') ≡ start_text (e.draft editor))
    pub redraws : UnlessFault result (Redraws e 0 (length front + length (r.rest reader) - length (r.rest reader')) editor editor')
    pub fewer : UnlessFault result (length (r.rest reader') ≤ length (r.rest reader))
    pub keeps : KeepsBoth editor reader editor' reader'
    pub fails : FailsByReading for_hint result editor keys reader editor' reader'

  -- what a call leaves that reads a command: its phrase, or the items ran out; where none was left the draft and what is drawn stay;
  -- after an error the input value stays
  pub record ReadsCommand (begun : Command → Draft → Draft) (result : Result Cmd ReadlineError) (editor : X) (keys : KeyState) (reader : Y) (editor' : X) (keys' : KeyState) (reader' : Y) : Type 0 where
    pub phrase : ReadsPart (PhraseHere editor keys reader) [] (entered_here editor keys reader) begun command_of (λ _. keys'.input) result editor keys reader editor' reader'
    pub dry : r.rest reader ≡ [] → (e.draft editor' ≡ e.draft editor) × DrewNothing e editor editor'
    pub remembers : OnErr result (keys'.input ≡ keys.input)
    pub bound : keys'.bound ≡ keys.bound
