-- Facts on one turn.
use Rattle.std.proofs.Common.{◌≡◌, ◌∙◌, ◌<◌, ◌⊎◌, inl, inr, Bool, true, false, cond, List, length, Option, None, Ok, Err, refl, sym, ap, subst}
use Rattle.line_buffer.specs.KillRing.{Ring}
use Rattle.line_buffer.specs.Line.{Line}
use Rattle.line_buffer.specs.declared.layout.GraphemeClusterMode.{GraphemeClusterMode}
use Rattle.line_buffer.specs.declared.layout.Position.{Position}
use Rattle.line_config.specs.Settings.{Settings}
use Rattle.line_config.specs.declared.error.ReadlineError.{ReadlineError}
use Rattle.line_config.specs.declared.error.ReadlineError.TheVariants.{Eof}
use Rattle.line_keys.specs.Command.{Command, command_of}
use Rattle.line_keys.specs.Model.Display.{Display, IsRight, Surface}
use Rattle.line_keys.specs.Model.Draft.{Draft, hint_shown, hinted}
use Rattle.line_keys.specs.Model.Drawing.{Drew, DrewLine}
use Rattle.line_keys.specs.Model.Frame.{Frame}
use Rattle.line_keys.specs.Item.{Item}
use Rattle.line_keys.specs.declared.cmd.Cmd.{Cmd}
use Rattle.line_keys.specs.declared.editor_state.EditorState as editors
use Rattle.line_keys.specs.declared.raw_reader.RawReader as readers
use Rattle.line_parts.specs.Environment.{Environment}
use Rattle.line_parts.specs.declared.highlight.CmdKind.TheVariants.{Other}
use Rattle.line_editor.specs.Editor.{Answer, Editor, Leaves, Ruler, ended, grouped, interrupted, own_ruler, proceeds, ruler_of, submitted}
use Rattle.line_editor.specs.Input.{Input}
use Rattle.line_editor.specs.ItemShown.{ItemShown, any_drawn, drawing_shown, kept, last_drawn, ruler_behind, shows_count, shows_line, times_drawn}
use Rattle.line_editor.specs.Keymap.{KeyState, Keymap, keymap_of}
use Rattle.line_editor.specs.Deferred.{deferred_by}
use Rattle.line_editor.specs.Outcomes.{Advances, AnswersAs, Executed, NeedsMoreItems, Session, TakesTurn, TellsDeferred, editor_of, session}
use Rattle.line_editor.specs.Phrase.{entered}
use Rattle.line_editor.specs.Reading.{ReadsCommand}
use Rattle.line_editor.specs.Run.{kills_before, ready}
use Rattle.line_editor.specs.Step.{step}
use Rattle.line_editor.specs.declared.deferred.Deferred.{Deferred}
use Rattle.line_editor.specs.declared.run.Turned.{Turned}
use Rattle.line_editor.specs.declared.run.Turned.TheVariants as turned
use Rattle.line_editor.proofs.DrawnLemmas.{hint_trails, line_stays}
use Rattle.line_input.proofs.ShownLemmas.{none-last}
use Rattle.line_editor.proofs.TurnLemmas.{needs_more}
use Rattle.line_input.proofs.PhraseReadLemmas.{has_item}
use Rattle.line_session.specs.Searching.{Search, search_cmd, search_value}
use Rattle.line_session.specs.Steps.{AnswersCommand, AnswersTurn, DoesInMode, DoesInSearch, ExecutesAndAnswers, Rules, TurnFrom, once_drawn, reads_no_command}
use Rattle.line_session.specs.Steps as steps
use Rattle.line_session.specs.Taken.{DrawnBehind, IsLineShown, TakesOne, rules_by, session_rules, standing_of}
use Rattle.line_session.specs.declared.mode.Mode.{Mode}
use Rattle.line_session.specs.declared.mode.Mode.TheVariants as modes
use Rattle.line_session.specs.declared.searching.SearchCmd.{SearchCmd}
use Rattle.line_session.specs.declared.searching.Searching.{Searching}
use Rattle.line_session.proofs.DrawLemmas.{line_by, same_hint, same_line, shown_by}
use Rattle.line_session.proofs.ModeLemmas.{shown_waiting_in}

-- outside of a search and a list a command is executed
does_in : (by : Rules) (m : Mode) (command : Command) (input : Input) (found new : Editor) (next : Mode) (answer : Answer) → steps.shows_line m ≡ true
    → ExecutesAndAnswers by m command input found new next answer → DoesInMode by m command input found new next answer
does_in by modes.Editing command input found new next answer edits executes = executes
does_in by modes.Quoting command input found new next answer edits executes = executes
does_in by (modes.Completing going) command input found new next answer edits executes = executes
does_in by (modes.Offering candidates) command input found new next answer edits executes = executes
does_in by (modes.Listing listing) command input found new next answer edits executes = absurd (let two : false ≡ true = edits in cc)
does_in by (modes.Searching searching) command input found new next answer edits executes = absurd (let two : false ≡ true = edits in cc)
does_in by modes.Suspended command input found new next answer edits executes = absurd (let two : false ≡ true = edits in cc)

module _ {X : Type 0} (e : editors.Ghosts X) (state : X) (settings : Settings) where
  -- behind the own prompt the ruler is the own one
  pub own_there : IsLineShown e state → ruler_of (e.display state) settings.indent_size ≡ own_ruler (e.display state) settings.indent_size
  own_there shown =
      let column : Position → Ruler = λ p. record { prompt_column = p.col; cluster_mode = (e.display state).layout.grapheme_cluster_mode; indent_size = settings.indent_size } in
      let mode : GraphemeClusterMode → Ruler = λ m. record { prompt_column = (e.display state).prompt_end.col; cluster_mode = m; indent_size = settings.indent_size } in
      ap column shown.right.drawn.prompt ∙ ap mode shown.right.drawn.mode

  -- whether a count is typed or not
  own_behind : IsLineShown e state → (shown : List ItemShown) (ruler : Ruler) → ruler ≡ ruler_behind shown (e.display state) settings.indent_size → ruler ≡ own_ruler (e.display state) settings.indent_size
  own_behind right_here shown ruler measured = measured ∙ by_any (any_drawn shown)
    where
      by_any : (b : Bool) → cond b (own_ruler (e.display state) settings.indent_size) (ruler_of (e.display state) settings.indent_size) ≡ own_ruler (e.display state) settings.indent_size
      by_any true = refl
      by_any false = own_there right_here

-- what commands are executed by is the same by what stays of a state
pub rules_stay : {X : Type 0} (e : editors.Ghosts X) (keymap : Keymap) (settings : Settings) (old new : X) → Frame e old new
    → rules_by e keymap settings new ≡ rules_by e keymap settings old
rules_stay e keymap settings old new frame =
    let column : Position → Rules = λ p. record { keymap = keymap; ruler = record { prompt_column = p.col; cluster_mode = (e.display new).surface.mode; indent_size = settings.indent_size }; environment = e.environment new; settings = settings } in
    let mode : Surface → Rules = λ s. record { keymap = keymap; ruler = record { prompt_column = (e.display old).prompt_end.col; cluster_mode = s.mode; indent_size = settings.indent_size }; environment = e.environment new; settings = settings } in
    let asked : Environment → Rules = λ w. record { keymap = keymap; ruler = own_ruler (e.display old) settings.indent_size; environment = w; settings = settings } in
    ap column frame.prompt_end ∙ ap mode frame.surface ∙ ap asked frame.environment

module _ {X Y : Type 0} (e : editors.Ghosts X) (r : readers.Ghosts Y) (settings : Settings) (mode : Mode) (now next : Session X Y) where
  module _ (reads : reads_no_command mode ≡ false) (edits : steps.shows_line mode ≡ true) (shown : IsLineShown e now.state) where
    -- a turn that was made, and what was done about what it left
    turn_here : (answer : Answer) (then_ : Mode) (last : Editor) → (turn : TakesTurn e r settings.indent_size now next answer)
        → AnswersTurn (session_rules e r settings now) answer (deferred_by turn.turn.read.command) mode (editor_of e next.state next.kills) last then_
        → TurnFrom (session_rules e r settings now) (standing_of e r mode now) (record (standing_of e r then_ next) { editor = last }) answer
    turn_here answer then_ last turn answers = record {
      reads = reads;
      phrase = turn.turn.phrase;
      read = turn.turn.read;
      cut = turn.turn.cut;
      comes = turn.turn.reads;
      input_left = turn.turn.input_left;
      does = does_in (session_rules e r settings now) mode turn.turn.read.command turn.turn.read.input
          (ready turn.turn.read.command turn.turn.read.draft now.kills) last then_ answer edits (record {
            executed = editor_of e next.state next.kills;
            leaves =
                let own = own_behind e now.state settings shown turn.turn.read.shown turn.ruler turn.measured in
                subst (λ u. Leaves (step u (e.environment now.state) turn.turn.read.input (ready turn.turn.read.command turn.turn.read.draft now.kills) turn.turn.read.command) (editor_of e next.state next.kills) answer) own turn.turn.leaves;
            answers = answers;
          });
    }

    -- behind a turn that proceeds the line is shown
    pub shown_on : Advances e r settings.indent_size (Ok turned.Proceeds) now next → IsLineShown e next.state
    shown_on advances =
        let turn : TakesTurn e r settings.indent_size now next proceeds = advances.turned in
        shown_by e next.state (turn.drawn.right shown.right) (turn.drawn.line (line_by e now.state shown))

    -- a turn that proceeds, and what was done about what it left
    pub proceeds_so : (left : Option Deferred) (then_ : Mode) (state : X) → Advances e r settings.indent_size (Ok turned.Proceeds) now next
        → TellsDeferred e r (Ok (turned.Proceeds, left)) now next → AnswersCommand settings (e.environment next.state) left mode (e.draft next.state) (e.draft state) then_
        → TakesOne e r settings mode now turned.Proceeds then_ (session state next.keys next.reader next.kills)
    proceeds_so left then_ state advances tells answers =
        let turn : TakesTurn e r settings.indent_size now next proceeds = advances.turned in
        let D : Option Deferred → Environment → Type 0 = λ l w. AnswersCommand settings w l mode (e.draft next.state) (e.draft state) then_ in
        let there = subst (λ l. D l (e.environment now.state)) (tells.told left refl turn.ruler turn.turn) (subst (D left) advances.stays.keeps.both.frame.environment answers) in
        turn_here proceeds then_ (editor_of e state next.kills) turn (there, refl)

    -- turns that end otherwise
    pub stops_so : (done : Turned) → (done ≡ turned.Proceeds → ⊥) → (done ≡ turned.NeedsMore → ⊥)
        → Advances e r settings.indent_size (Ok done) now next → TakesOne e r settings mode now done modes.Editing next
    stops_so turned.Proceeds goes more advances = absurd (goes refl)
    stops_so turned.Submitted goes more advances = (turn_here submitted modes.Editing (editor_of e next.state next.kills) advances.turned (refl, refl), refl)
    stops_so turned.Ended goes more advances = (turn_here ended modes.Editing (editor_of e next.state next.kills) advances.turned (refl, refl), refl)
    stops_so turned.Interrupted goes more advances = (turn_here interrupted modes.Editing (editor_of e next.state next.kills) advances.turned (refl, refl), refl)
    stops_so turned.NeedsMore goes more advances = absurd (more refl)

    -- and what is drawn then
    pub stops_drawn : (done : Turned) → (done ≡ turned.Proceeds → ⊥) → (done ≡ turned.NeedsMore → ⊥)
        → Advances e r settings.indent_size (Ok done) now next → DrawnBehind e (r.rest now.reader) modes.Editing done next.state
    stops_drawn turned.Proceeds goes more advances = absurd (goes refl)
    stops_drawn turned.Submitted goes more advances = (advances.turned.drawn.right shown.right, advances.turned.drawn.no_hint (line_by e now.state shown))
    stops_drawn turned.Ended goes more advances = (advances.turned.drawn.right shown.right, advances.turned.drawn.no_hint (line_by e now.state shown))
    stops_drawn turned.Interrupted goes more advances =
        (advances.turned.drawn.at_end, advances.turned.drawn.in_place shown.right.drawn.position, advances.turned.drawn.ends (line_by e now.state shown))
    stops_drawn turned.NeedsMore goes more advances = absurd (more refl)

    abbrev keymap : Keymap
    keymap = keymap_of now.keys (r.own_binding (r.kept now.reader))

    abbrev from : Draft
    from = entered keymap (e.draft now.state) now.keys.input (r.rest now.reader)

    -- where the items are no phrase yet the line is shown, unless another prompt is
    shown_alone : Frame e now.state next.state → NeedsMoreItems e r now next → (e.display next.state).layout.default_prompt ≡ true → IsLineShown e next.state
    shown_alone frame dry_up own_prompt =
        by_last (last_drawn dry_up.out.lacks.shown) refl dry_up.out.drew
      where
        by_last : (last : ItemShown) → last_drawn dry_up.out.lacks.shown ≡ last
            → Drew e (times_drawn dry_up.out.lacks.shown) (drawing_shown last) now.state next.state → IsLineShown e next.state
        by_last shows_line is drew = shown_by e next.state drew.right (hint_trails e next.state drew.shows)
        by_last (shows_count keys) is drew = absurd (let other = drew.other in cc)
        by_last kept is drew =
            let left : e.draft next.state ≡ from =
            dry_up.out.draft ∙ ap (λ b. cond b (hinted (e.environment now.state) from) from) (none-last dry_up.out.lacks.shown is).any in
            let line : (e.draft next.state).line ≡ (e.draft now.state).line = ap (λ (d : Draft). d.line) left ∙ same_line keymap (e.draft now.state) now.keys.input (r.rest now.reader) in
            let hint : (e.draft next.state).hint ≡ (e.draft now.state).hint = ap (λ (d : Draft). d.hint) left ∙ same_hint keymap (e.draft now.state) now.keys.input (r.rest now.reader) in
            let P : Display → Type 0 = λ d. IsRight d (e.draft now.state).line in
            let Q : Line → Type 0 = λ l. IsRight (e.display next.state) l in
            shown_by e next.state (subst Q (sym line) (subst P (sym drew.display) shown.right))
            (line_stays e now.state next.state frame.environment (ap (λ (l : Line). l.text) line) hint drew line (line_by e now.state shown))

    -- and that is so in the mode
    pub shown_waiting : Frame e now.state next.state → NeedsMoreItems e r now next → DrawnBehind e (r.rest now.reader) mode turned.NeedsMore next.state
    shown_waiting frame dry_up = shown_waiting_in (e.environment next.state) (e.display next.state) (e.draft next.state) mode (r.rest now.reader) edits (shown_alone frame dry_up)

-- a command that ends a search is executed, once the line was drawn behind its own prompt
module _ {X : Type 0} (e : editors.Ghosts X) (settings : Settings) (keymap : Keymap) (search : Search) (says : Option SearchCmd) (command : Command) (input : Input) (old mid new last : X) (kills kills' : Ring)
    (none : says ≡ None) (frame : Frame e old mid) (draft : e.draft mid ≡ hinted (e.environment old) (e.draft old)) (drew : DrewLine e 1 (hint_shown (e.draft mid)) Other old mid) where
  abbrev by : Rules
  by = rules_by e keymap settings old

  pub leaves_so : (next : Mode) (answer : Answer) → Executed e mid input settings.indent_size kills command new kills' answer
      → AnswersTurn by answer (deferred_by command) modes.Editing (editor_of e new kills') (editor_of e last kills') next
      → DoesInSearch by search says command input (editor_of e old kills) (editor_of e last kills') next answer
  leaves_so next answer done answers =
      let shown = shown_by e mid drew.right (hint_trails e mid drew.shows) in
      let L : Ruler → Environment → Draft → Type 0 = λ u w d. Leaves (step u w input (record { draft = d; kills = kills }) command) (editor_of e new kills') answer in
      let ruler : ruler_of (e.display mid) settings.indent_size ≡ by.ruler =
      own_there e mid settings shown ∙ ap (λ (r : Rules). r.ruler) (rules_stay e keymap settings old mid frame) in
      let there : ExecutesAndAnswers by modes.Editing command input (once_drawn by.environment (editor_of e old kills)) (editor_of e last kills') next answer = record {
        executed = editor_of e new kills';
        leaves =
            subst (λ d. L by.ruler (e.environment old) d) draft
            (subst (λ w. L by.ruler w (e.draft mid)) frame.environment
            (subst (λ u. L u (e.environment mid) (e.draft mid)) ruler done.steps));
        answers = answers;
      } in
      subst (λ s. DoesInSearch by search s command input (editor_of e old kills) (editor_of e last kills') next answer) (sym none) there

  pub proceeds_out : (left : Option Deferred) (next : Mode) → left ≡ deferred_by command → e.environment new ≡ e.environment mid → Executed e mid input settings.indent_size kills command new kills' proceeds
      → AnswersCommand settings (e.environment new) left modes.Editing (e.draft new) (e.draft last) next
      → DoesInSearch by search says command input (editor_of e old kills) (editor_of e last kills') next proceeds
  proceeds_out left next is same done answers =
      let A : Environment → Option Deferred → Type 0 = λ w l. AnswersCommand settings w l modes.Editing (e.draft new) (e.draft last) next in
      leaves_so next proceeds done (subst (λ l. A (e.environment old) l) is (subst (λ w. A w left) (same ∙ frame.environment) answers), refl)

-- one that does not proceed leaves nothing to be answered
pub leaves_all : {X : Type 0} (e : editors.Ghosts X) (settings : Settings) (keymap : Keymap) (search : Search) (says : Option SearchCmd) (command : Command) (input : Input) (old mid new : X) (kills kills' : Ring)
    → says ≡ None → Frame e old mid → e.draft mid ≡ hinted (e.environment old) (e.draft old) → DrewLine e 1 (hint_shown (e.draft mid)) Other old mid
    → (done : Turned) → (done ≡ turned.Proceeds → ⊥) → AnswersAs done (Executed e mid input settings.indent_size kills command new kills')
    → AnswersAs done (DoesInSearch (rules_by e keymap settings old) search says command input (editor_of e old kills) (editor_of e new kills') modes.Editing)
leaves_all e settings read_by search says command input old mid new kills kills' none frame draft drew turned.Proceeds stops done = absurd (stops refl)
leaves_all e settings read_by search says command input old mid new kills kills' none frame draft drew turned.Submitted stops done =
    leaves_so e settings read_by search says command input old mid new new kills kills' none frame draft drew modes.Editing submitted done (refl, refl)
leaves_all e settings read_by search says command input old mid new kills kills' none frame draft drew turned.Ended stops done =
    leaves_so e settings read_by search says command input old mid new new kills kills' none frame draft drew modes.Editing ended done (refl, refl)
leaves_all e settings read_by search says command input old mid new kills kills' none frame draft drew turned.Interrupted stops done =
    leaves_so e settings read_by search says command input old mid new new kills kills' none frame draft drew modes.Editing interrupted done (refl, refl)
leaves_all e settings read_by search says command input old mid new kills kills' none frame draft drew turned.NeedsMore stops done = absurd done

-- and what is drawn is drawn for the last time
pub drawn_all : {X : Type 0} (e : editors.Ghosts X) (settings : Settings) (command : Command) (input : Input) (old mid new : X) (kills kills' : Ring) (items : List Item)
    → DrewLine e 1 (hint_shown (e.draft mid)) Other old mid → (done : Turned) → (done ≡ turned.Proceeds → ⊥)
    → AnswersAs done (Executed e mid input settings.indent_size kills command new kills') → DrawnBehind e items modes.Editing done new
drawn_all e settings command input old mid new kills kills' items drew turned.Proceeds stops done = absurd (stops refl)
drawn_all e settings command input old mid new kills kills' items drew turned.Submitted stops done = (done.drawn.right drew.right, done.drawn.no_hint (hint_trails e mid drew.shows))
drawn_all e settings command input old mid new kills kills' items drew turned.Ended stops done = (done.drawn.right drew.right, done.drawn.no_hint (hint_trails e mid drew.shows))
drawn_all e settings command input old mid new kills kills' items drew turned.Interrupted stops done =
    (done.drawn.at_end, done.drawn.in_place drew.shows.in_full.position, done.drawn.ends (hint_trails e mid drew.shows))
drawn_all e settings command input old mid new kills kills' items drew turned.NeedsMore stops done = absurd done

-- in a search a command was read, and what it says was done: that is a turn
module _ {X Y : Type 0} (e : editors.Ghosts X) (r : readers.Ghosts Y) (settings : Settings) (searching : Searching) (old middle new : X) (keys keys' : KeyState)
    (reader reader' : Y) (kills reset kills' : Ring) (c : Cmd) (all : ReadsCommand e r grouped (Ok c) old keys reader middle keys' reader')
    (was_reset : reset ≡ kills_before (command_of c) kills) where
  search_so : (next : Mode) (answer : Answer)
      → DoesInSearch (rules_by e (keymap_of keys (r.own_binding (r.kept reader))) settings middle) (search_value searching) (search_cmd (command_of c)) (command_of c) keys'.input
      (editor_of e middle reset) (editor_of e new kills') next answer
      → TurnFrom (session_rules e r settings (session old keys reader kills)) (standing_of e r (modes.Searching searching) (session old keys reader kills))
      (standing_of e r next (session new keys' reader' kills')) answer
  search_so next answer does =
      let was = all.phrase.read in
      let D : Rules → Command → Input → Editor → Type 0 = λ by command input found. DoesInMode by (modes.Searching searching) command input found (editor_of e new kills') next answer in
      let by = session_rules e r settings (session old keys reader kills) in
      let found : editor_of e middle reset ≡ ready was.read.command was.read.draft kills =
      ap (λ d. record { draft = d; kills = reset }) was.begun_there
      ∙ ap (λ k. record { draft = grouped (command_of c) was.read.draft; kills = k }) was_reset
      ∙ ap (λ command. ready command was.read.draft kills) (sym was.command_read) in
      record {
        reads = refl;
        phrase = was.items;
        read = was.read;
        cut = was.cut;
        comes = was.comes;
        input_left = sym was.input_read;
        does =
            subst (λ f. D by was.read.command was.read.input f) found
            (subst (λ i. D by was.read.command i (editor_of e middle reset)) (sym was.input_read)
            (subst (λ command. D by command keys'.input (editor_of e middle reset)) (sym was.command_read)
            (subst (λ rules. D rules (command_of c) keys'.input (editor_of e middle reset))
            (rules_stay e (keymap_of keys (r.own_binding (r.kept reader))) settings old middle all.phrase.keeps.frame) does)));
      }

  pub searched_so : (done : Turned) (next : Mode)
      → ((keymap : Keymap) → AnswersAs done (DoesInSearch (rules_by e keymap settings middle) (search_value searching) (search_cmd (command_of c)) (command_of c) keys'.input
      (editor_of e middle reset) (editor_of e new kills') next))
      → (done ≡ turned.Proceeds) ⊎ (next ≡ modes.Editing)
      → TakesOne e r settings (modes.Searching searching) (session old keys reader kills) done next (session new keys' reader' kills')
  searched_so turned.Proceeds next does mode = search_so next proceeds (does (keymap_of keys (r.own_binding (r.kept reader))))
  searched_so turned.Submitted next does mode = (search_so next submitted (does (keymap_of keys (r.own_binding (r.kept reader)))), elim mode [ inl goes ↦ absurd (cc) | inr is ↦ is ])
  searched_so turned.Ended next does mode = (search_so next ended (does (keymap_of keys (r.own_binding (r.kept reader)))), elim mode [ inl goes ↦ absurd (cc) | inr is ↦ is ])
  searched_so turned.Interrupted next does mode = (search_so next interrupted (does (keymap_of keys (r.own_binding (r.kept reader)))), elim mode [ inl goes ↦ absurd (cc) | inr is ↦ is ])
  searched_so turned.NeedsMore next does mode = absurd (does (keymap_of keys (r.own_binding (r.kept reader))))

-- a command that was read has taken an item
pub fewer_read : {X Y : Type 0} (e : editors.Ghosts X) (r : readers.Ghosts Y) (old middle : X) (keys keys' : KeyState) (reader reader' : Y) (c : Cmd)
    → ReadsCommand e r grouped (Ok c) old keys reader middle keys' reader' → length (r.rest reader') < length (r.rest reader)
fewer_read e r old middle keys keys' reader reader' c all =
    let was = all.phrase.read in
    has_item e r _ _ _ _ reader reader' was.items was.read was.cut was.comes

-- the items ran out in a search
pub dries_up : {X Y : Type 0} (e : editors.Ghosts X) (r : readers.Ghosts Y) (settings : Settings) (searching : Searching) (old new : X) (keys keys' : KeyState) (reader reader' : Y) (kills : Ring) (f : ReadlineError)
    → ReadsCommand e r grouped (Err f) old keys reader new keys' reader' → f ≡ Eof
    → TakesOne e r settings (modes.Searching searching) (session old keys reader kills) turned.NeedsMore (modes.Searching searching) (session new keys' reader' kills)
dries_up e r settings searching old new keys keys' reader reader' kills f read eof =
    let done = needs_more e r old new keys keys' settings.indent_size reader reader' kills f read eof in
    (done.turned, refl)
