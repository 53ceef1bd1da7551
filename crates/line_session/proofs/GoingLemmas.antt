-- Facts on turns that are taken one after another.
use Rattle.std.proofs.Common.{◌≡◌, ◌∙◌, inl, inr, ℕ, true, false, List, [], ◌∷◌, Option, Some, None, refl, sym, ap, subst, arith}
use Rattle.line_buffer.specs.KillRing.{Ring, with_last}
use Rattle.line_buffer.specs.KillRing as rings
use Rattle.line_config.specs.Settings.{Settings}
use Rattle.line_keys.specs.Command.{Command}
use Rattle.line_keys.specs.Model.Display.{Display}
use Rattle.line_keys.specs.Model.Draft.{Draft}
use Rattle.line_keys.specs.Model.Drawing.{Drew}
use Rattle.line_keys.specs.Model.Frame.{Frame}
use Rattle.line_keys.specs.Item.{Item, key, paste}
use Rattle.line_keys.specs.declared.editor_state.EditorState as editors
use Rattle.line_keys.specs.declared.raw_reader.RawReader as readers
use Rattle.line_parts.specs.Environment.{Environment}
use Rattle.line_editor.specs.Editor.{Answer, Editor, Ruler, ended, interrupted, own_ruler, proceeds, ruler_of, submitted}
use Rattle.line_editor.specs.Input.{Input}
use Rattle.line_editor.specs.ItemShown.{any_drawn, drawing_shown, kept, last_drawn, times_drawn}
use Rattle.line_editor.specs.Keymap.{keymap_of}
use Rattle.line_editor.specs.Outcomes.{DrawnAfter, Executed, NeedsMoreItems, Session, editor_of, session}
use Rattle.line_editor.specs.Phrase.{IsBeginning}
use Rattle.line_editor.specs.Reading.{KeepsReading}
use Rattle.line_editor.specs.Run.{CutShort, ready}
use Rattle.line_editor.specs.Step.{step}
use Rattle.line_editor.specs.declared.run.Turned.{Turned}
use Rattle.line_editor.specs.declared.run.Turned.TheVariants as turned
use Rattle.line_input.proofs.DrawnTwiceLemmas.{frame_then}
use Rattle.line_session.specs.Steps.{DoesItem, StepsEnd, ItemTaken, NoneComesIn, Rules, Steps, TurnFrom, as_it_is, character_of, comes_in, reads_no_command, typing}
use Rattle.line_session.specs.Steps as steps
use Rattle.line_session.specs.Taken.{TurnsComeTo, DrawnBehind, DrawnOnce, IsLineShown, IsShownIn, IsShownWith, KeepsRules, PutsIn, TakesItem, TakesOne, WaitsBehind, is_settled, rules_by, session_rules, standing_of}
use Rattle.line_session.specs.declared.mode.Mode.{Mode}
use Rattle.line_session.specs.declared.mode.Mode.TheVariants as modes
use Rattle.line_session.proofs.DrawLemmas.{drawn_or_kept, line_by, shown_by}
use Rattle.line_session.proofs.ModeLemmas.{settled_by, shown_with}
use Rattle.line_session.proofs.TurnLemmas.{own_there, rules_stay}

-- the command that puts an item in proceeds, opens no group, and a kill joins none of those before
typing_ready : (typed : Option ℕ) (draft : Draft) (kills : Ring) → ready (typing typed) draft kills ≡ record { draft = draft; kills = with_last kills rings.other }
typing_ready (Some c) draft kills = refl
typing_ready None draft kills = refl

as_it_is_ready : (item : Item) (draft : Draft) (kills : Ring) → ready (as_it_is item) draft kills ≡ record { draft = draft; kills = with_last kills rings.other }
as_it_is_ready (key typed) draft kills = typing_ready (character_of typed) draft kills
as_it_is_ready (paste text) draft kills = refl

typing_proceeds : (typed : Option ℕ) (ruler : Ruler) (environment : Environment) (input : Input) (editor : Editor) → (step ruler environment input editor (typing typed)).answer ≡ proceeds
typing_proceeds (Some c) ruler environment input editor = refl
typing_proceeds None ruler environment input editor = refl

as_it_is_proceeds : (item : Item) (ruler : Ruler) (environment : Environment) (input : Input) (editor : Editor) → (step ruler environment input editor (as_it_is item)).answer ≡ proceeds
as_it_is_proceeds (key typed) ruler environment input editor = typing_proceeds (character_of typed) ruler environment input editor
as_it_is_proceeds (paste text) ruler environment input editor = refl

module _ {X : Type 0} (e : editors.Ghosts X) (old new : X) (input : Input) (settings : Settings) (kills reset kills' : Ring) (item : Item) (command : Command) (answer : Answer)
    (is : command ≡ as_it_is item) (was_reset : reset ≡ with_last kills rings.other) (shown : IsLineShown e old) (done : Executed e old input settings.indent_size reset command new kills' answer) where
  proceeded : answer ≡ proceeds
  proceeded = sym done.steps.answered
      ∙ ap (λ c. (step (ruler_of (e.display old) settings.indent_size) (e.environment old) input (record { draft = e.draft old; kills = reset }) c).answer) is
      ∙ as_it_is_proceeds item (ruler_of (e.display old) settings.indent_size) (e.environment old) input (record { draft = e.draft old; kills = reset })

  -- an item was put in: its command was executed
  pub puts_so : PutsIn e settings input item old (e.draft old) kills new kills'
  puts_so = record {
    editor = done.steps.editor
        ∙ ap (λ c. (step (ruler_of (e.display old) settings.indent_size) (e.environment old) input (record { draft = e.draft old; kills = reset }) c).editor) is
        ∙ ap (λ k. (step (ruler_of (e.display old) settings.indent_size) (e.environment old) input (record { draft = e.draft old; kills = k }) (as_it_is item)).editor) was_reset
        ∙ ap (λ r. (step r (e.environment old) input (record { draft = e.draft old; kills = with_last kills rings.other }) (as_it_is item)).editor) (own_there e old settings shown)
        ∙ ap (λ ed. (step (own_ruler (e.display old) settings.indent_size) (e.environment old) input ed (as_it_is item)).editor) (sym (as_it_is_ready item (e.draft old) kills));
    answered = as_it_is_proceeds item (own_ruler (e.display old) settings.indent_size) (e.environment old) input (ready (as_it_is item) (e.draft old) kills);
  }

  -- and the line is shown
  pub shows_so : IsLineShown e new
  shows_so =
      let drawn : DrawnAfter e proceeds old new = subst (λ a. DrawnAfter e a old new) proceeded done.drawn in
      shown_by e new (drawn.right shown.right) (drawn.line (line_by e old shown))

module _ {X Y : Type 0} (e : editors.Ghosts X) (r : readers.Ghosts Y) (settings : Settings) where
  module _ (first : Mode) (start : Session X Y) where
    -- turns are being taken: steps lead here, and the line is shown
    pub record Going (mode : Mode) (now : Session X Y) : Type 0 where
      pub steps : Steps (session_rules e r settings start) false (standing_of e r first start) (standing_of e r mode now)
      pub keeps : KeepsRules e r start now
      pub shown : IsShownWith e mode (r.rest now.reader) now.state

    -- they begin where the line is shown
    pub begins_shown : IsShownWith e first (r.rest start.reader) start.state → Going first start
    begins_shown shown = record {
      steps = steps.none;
      keeps = record {
        frame = record { environment = refl; loan = refl; surface = refl; prompt = refl; prompt_end = refl; sure = refl; failures = omega arith };
        own = refl;
        bound = refl;
      };
      shown = shown;
    }

    module _ (mode : Mode) (now : Session X Y) (going : Going mode now) where
      -- commands are read and executed by the same all the way
      same_rules : session_rules e r settings now ≡ session_rules e r settings start
      same_rules =
          ap (λ b. rules_by e (record { bound = b; own = r.own_binding (r.kept now.reader) }) settings now.state) going.keeps.bound
          ∙ ap (λ o. rules_by e (record { bound = start.keys.bound; own = o }) settings now.state) going.keeps.own
          ∙ rules_stay e (keymap_of start.keys (r.own_binding (r.kept start.reader))) settings start.state now.state going.keeps.frame

      -- the reader stands elsewhere, with the same items before it
      pub marked : (reader : Y) → r.rest reader ≡ r.rest now.reader → r.own_binding (r.kept reader) ≡ r.own_binding (r.kept now.reader)
          → Going mode (session now.state now.keys reader now.kills)
      marked reader rest own =
          let P : List Item → Type 0 = λ items. Steps (session_rules e r settings start) false (standing_of e r first start)
          (record { editor = editor_of e now.state now.kills; input = now.keys.input; items = items; mode = mode }) in
          record {
            steps = subst P (sym rest) going.steps;
            keeps = record { frame = going.keeps.frame; own = own ∙ going.keeps.own; bound = going.keeps.bound };
            shown = subst (λ items. IsShownWith e mode items now.state) (sym rest) going.shown;
          }

      -- an item was taken by itself
      pub takes_on : (next : Mode) (item : Item) (state : X) (reader : Y) (kills : Ring) → TakesItem e settings now.keys.input mode item now.state now.kills state kills next
          → IsShownIn e next state → Frame e now.state state → r.rest now.reader ≡ item ∷ r.rest reader → comes_in mode item ≡ true
          → r.own_binding (r.kept reader) ≡ r.own_binding (r.kept now.reader)
          → Going next (session state now.keys reader kills)
      takes_on next item state reader kills takes shown frame cut comes own =
          let P : Rules → Type 0 = λ by. ItemTaken by (standing_of e r mode now) (standing_of e r next (session state now.keys reader kills)) in
          let here : P (session_rules e r settings now) = record { item = item; comes = comes; cut = cut; input = refl; does = does_item mode takes } in
          record {
            steps = steps.item going.steps (subst P same_rules here);
            keeps = record {
              frame = frame_then e start.state now.state state going.keeps.frame frame;
              own = own ∙ going.keeps.own;
              bound = going.keeps.bound;
            };
            shown = shown_with (e.environment state) (e.display state) (e.draft state) next (r.rest reader) shown;
          }
        where
          does_item : (m : Mode) → TakesItem e settings now.keys.input m item now.state now.kills state kills next
              → DoesItem (session_rules e r settings now) now.keys.input m item (editor_of e now.state now.kills) (editor_of e state kills) next
          does_item modes.Editing takes = takes
          does_item modes.Quoting takes = takes
          does_item (modes.Completing going) takes = takes
          does_item (modes.Offering candidates) takes = takes
          does_item (modes.Listing listing) takes = takes
          does_item (modes.Searching searching) takes = takes
          does_item modes.Suspended takes = takes

      settled : is_settled mode (e.display now.state).layout.default_prompt ≡ true
      settled = settled_by (e.environment now.state) (e.display now.state) (e.draft now.state) mode (r.rest now.reader) going.shown

      -- no item is read as part of a command, and none is taken by itself
      pub waits_alone : reads_no_command mode ≡ true → NoneComesIn mode (r.rest now.reader)
          → WaitsBehind (is_settled mode (e.display now.state).layout.default_prompt) (session_rules e r settings start) (standing_of e r first start) (standing_of e r mode now)
      waits_alone takes none = record {
        waits = record {
          found = standing_of e r mode now;
          steps = going.steps;
          shown = [];
          waits = steps.alone takes none refl;
          input = refl;
          items = refl;
          mode = refl;
        };
        drawn = λ other. absurd (let two : true ≡ false = sym settled ∙ other in cc);
      }

      module _ (next : Session X Y) where
        -- what stays to here and in a turn stays
        pub keeps_on : KeepsReading e r now.state now.keys now.reader next.state next.keys next.reader → KeepsRules e r start next
        keeps_on k = record {
          frame = frame_then e start.state now.state next.state going.keeps.frame k.both.frame;
          own = ap r.own_binding k.both.own ∙ going.keeps.own;
          bound = k.bound ∙ going.keeps.bound;
        }

        -- a turn that proceeds
        pub turns_on : (then_ : Mode) → TakesOne e r settings mode now turned.Proceeds then_ next → IsShownIn e then_ next.state
            → KeepsReading e r now.state now.keys now.reader next.state next.keys next.reader → Going then_ next
        turns_on then_ turn drawn keeps = record {
          steps = steps.turn going.steps (subst (λ by. TurnFrom by (standing_of e r mode now) (standing_of e r then_ next) proceeds) same_rules turn);
          keeps = keeps_on keeps;
          shown = shown_with (e.environment next.state) (e.display next.state) (e.draft next.state) then_ (r.rest next.reader) drawn;
        }

        -- the items are no phrase yet, and are to be read again
        waits_in : (reader : Y) → reads_no_command mode ≡ false → r.rest reader ≡ r.rest now.reader → NeedsMoreItems e r now next
            → WaitsBehind (is_settled mode (e.display next.state).layout.default_prompt) (session_rules e r settings start) (standing_of e r first start)
            (standing_of e r mode (session next.state next.keys reader next.kills))
        waits_in reader reads again dry_up =
            let Q : Rules → Type 0 = λ by.
            (begins : IsBeginning by.keymap by.environment (e.draft now.state) now.keys.input (r.rest now.reader))
            × CutShort by.keymap by.environment now.keys.input (r.rest now.reader) begins.shown (editor_of e now.state now.kills) (editor_of e next.state next.kills)
            × (is_settled mode (e.display next.state).layout.default_prompt ≡ false → any_drawn begins.shown ≡ true) in
            let here : Q (session_rules e r settings now) = (dry_up.out.lacks, record { draft = dry_up.out.draft; kills = dry_up.kills_left }, other_then mode going.shown) in
            let there = subst Q same_rules here in
            record {
              waits = record {
                found = standing_of e r mode now;
                steps = going.steps;
                shown = there.0.shown;
                waits = steps.phrase reads there.0 there.1;
                input = dry_up.input_left;
                items = again;
                mode = refl;
              };
              drawn = there.2;
            }
          where
            still : IsLineShown e now.state → last_drawn dry_up.out.lacks.shown ≡ kept
                → Drew e (times_drawn dry_up.out.lacks.shown) (drawing_shown (last_drawn dry_up.out.lacks.shown)) now.state next.state
                → (e.display next.state).layout.default_prompt ≡ false → any_drawn dry_up.out.lacks.shown ≡ true
            still here last drew other =
                let same = subst (λ l. Drew e (times_drawn dry_up.out.lacks.shown) (drawing_shown l) now.state next.state) last drew in
                let own = ap (λ (d : Display). d.layout.default_prompt) same.display ∙ here.own_prompt in
                absurd (let two : true ≡ false = sym own ∙ other in cc)

            other_prompt : IsLineShown e now.state → (e.display next.state).layout.default_prompt ≡ false → any_drawn dry_up.out.lacks.shown ≡ true
            other_prompt here other = elim (drawn_or_kept dry_up.out.lacks.shown) [
              | inl drawn ↦ drawn
              | inr last ↦ still here last dry_up.out.drew other
            ]

            other_then : (m : Mode) → IsShownWith e m (r.rest now.reader) now.state → is_settled m (e.display next.state).layout.default_prompt ≡ false → any_drawn dry_up.out.lacks.shown ≡ true
            other_then modes.Editing shown unsettled = other_prompt shown unsettled
            other_then modes.Quoting shown unsettled = other_prompt shown unsettled
            other_then (modes.Completing going) shown unsettled = other_prompt shown unsettled
            other_then (modes.Offering candidates) shown unsettled = other_prompt shown unsettled
            other_then (modes.Listing listing) shown unsettled = absurd (let two : true ≡ false = unsettled in cc)
            other_then (modes.Searching searching) shown unsettled = absurd (let two : true ≡ false = unsettled in cc)
            other_then modes.Suspended shown unsettled = absurd (let two : true ≡ false = unsettled in cc)

        -- the same in a mode that is equal
        pub waits : (then_ : Mode) (reader : Y) → reads_no_command mode ≡ false → r.rest reader ≡ r.rest now.reader → TakesOne e r settings mode now turned.NeedsMore then_ next
            → WaitsBehind (is_settled then_ (e.display next.state).layout.default_prompt) (session_rules e r settings start) (standing_of e r first start)
            (standing_of e r then_ (session next.state next.keys reader next.kills))
        waits then_ reader reads again turn =
            subst (λ m. WaitsBehind (is_settled m (e.display next.state).layout.default_prompt) (session_rules e r settings start) (standing_of e r first start)
            (standing_of e r m (session next.state next.keys reader next.kills))) (sym turn.1) (waits_in reader reads again turn.0)

        -- and this is drawn then
        pub waits_drawn : (then_ : Mode) (reader : Y) → r.rest reader ≡ r.rest now.reader → DrawnBehind e (r.rest now.reader) then_ turned.NeedsMore next.state
            → DrawnOnce e then_ (r.rest reader) turned.NeedsMore next.state
        waits_drawn then_ reader again drawn = subst (λ items. DrawnOnce e then_ items turned.NeedsMore next.state) (sym again) drawn

        ends_in : (answer : Answer) (then_ : Mode) → TurnFrom (session_rules e r settings now) (standing_of e r mode now) (standing_of e r then_ next) answer
            → StepsEnd (session_rules e r settings start) false (standing_of e r first start) (standing_of e r then_ next) answer
        ends_in answer then_ turn = record {
          found = standing_of e r mode now;
          steps = going.steps;
          last = subst (λ by. TurnFrom by (standing_of e r mode now) (standing_of e r then_ next) answer) same_rules turn;
        }

        -- turns that end otherwise: how they end
        pub stops : (done : Turned) (then_ : Mode) → (done ≡ turned.Proceeds → ⊥) → (done ≡ turned.NeedsMore → ⊥)
            → TakesOne e r settings mode now done then_ next
            → TurnsComeTo (is_settled then_ (e.display next.state).layout.default_prompt) (session_rules e r settings start) (standing_of e r first start) (standing_of e r then_ next) done
        stops turned.Proceeds then_ goes more turn = absurd (goes refl)
        stops turned.Submitted then_ goes more turn = ends_in submitted then_ turn.0
        stops turned.Ended then_ goes more turn = ends_in ended then_ turn.0
        stops turned.Interrupted then_ goes more turn = ends_in interrupted then_ turn.0
        stops turned.NeedsMore then_ goes more turn = absurd (more refl)

-- what is drawn where turns end otherwise
pub stops_drawn : {X : Type 0} (e : editors.Ghosts X) (items items' : List Item) (done : Turned) (then_ : Mode) (state : X) → (done ≡ turned.Proceeds → ⊥) → (done ≡ turned.NeedsMore → ⊥)
    → DrawnBehind e items then_ done state → DrawnOnce e then_ items' done state
stops_drawn e items items' turned.Proceeds then_ state goes more drawn = absurd (goes refl)
stops_drawn e items items' turned.Submitted then_ state goes more drawn = drawn
stops_drawn e items items' turned.Ended then_ state goes more drawn = drawn
stops_drawn e items items' turned.Interrupted then_ state goes more drawn = drawn
stops_drawn e items items' turned.NeedsMore then_ state goes more drawn = absurd (more refl)
