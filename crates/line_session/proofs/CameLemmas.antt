-- Facts on what comes of a line.
use Rattle.std.proofs.Common.{◌≡◌, ◌∙◌, ℕ, Bool, true, false, not, cond, List, ◌++◌, Option, Some, None, is_some, Result, Ok, Err, IfOk, OnErr, OnOk, inr, refl, sym, ap, subst, option_map, string_bytes, if◌then◌else◌}
use Rattle.line_buffer.specs.KillRing.{other, with_last}
use Rattle.line_buffer.specs.declared.layout.GraphemeClusterMode.TheVariants.{Unicode}
use Rattle.line_buffer.specs.declared.layout.Position.{Position}
use Rattle.line_config.specs.Settings.{Settings}
use Rattle.line_config.specs.Error.{FaultsOnly}
use Rattle.line_config.specs.declared.error.ReadlineError.{ReadlineError}
use Rattle.line_keys.specs.Command.{Command}
use Rattle.line_keys.specs.Model.Display.{corner}
use Rattle.line_keys.specs.declared.keys.KeyEvent.{KeyEvent}
use Rattle.line_parts.specs.Environment.{Environment}
use Rattle.line_parts.specs.History.{added}
use Rattle.line_screen.specs.KeyQueue.{Queued, queue_binding}
use Rattle.line_screen.specs.Measure.{measured}
use Rattle.line_editor.specs.Binding.{Bound}
use Rattle.line_editor.specs.Editor.{ended, interrupted, submitted}
use Rattle.line_editor.specs.Input.{first_input}
use Rattle.line_editor.specs.declared.run.Turned.{Turned}
use Rattle.line_editor.specs.declared.run.Turned.TheVariants as turned
use Rattle.line_term.specs.Decoder as decoding
use Rattle.line_term.specs.Decoder.{Enqueues}
use Rattle.line_session.specs.Heard.{Feeds}
use Rattle.line_session.specs.Sitting.{BeginsOrStays, BegunLine, Came, CameBegun, CameFrom, LineEndsAs, Keeps, LosesNothing, Sitting, StartsWith, begun_with, line_goes_on, rules_at, rules_for, standing_with, with_turn}
use Rattle.line_session.specs.Steps.{StepsEnd, Rules, Standing, starting}
use Rattle.line_session.specs.Taken.{TurnsComeTo}
use Rattle.line_session.specs.declared.editor.Fed.{Fed}
use Rattle.line_session.specs.declared.editor.Fed.TheVariants as fed
use Rattle.line_session.specs.declared.mode.Mode.TheVariants.{Editing}

module _ {H : Type 0} where
  -- what came of a line, by what is equal
  pub came_alike : (by by' : Rules) (over_calls : Bool) (start start' : Standing) (old old' new : Sitting H) → by ≡ by' → start ≡ start'
      → old.lines ≡ old'.lines → old.takes ≡ old'.takes → old.settings ≡ old'.settings
      → (f : Fed) → CameFrom by over_calls start old new f → CameFrom by' over_calls start' old' new f
  came_alike by by' over_calls start start' old old' new same_rules same_start same_lines same_takes same_settings f came =
      let P : Rules → Type 0 = λ b. CameFrom b over_calls start' old' new f in
      let Q : Standing → Type 0 = λ s. CameFrom by over_calls s old' new f in
      subst P same_rules (subst Q same_start (by_fed f came))
    where
      by_fed : (f : Fed) → CameFrom by over_calls start old new f → CameFrom by over_calls start old' new f
      by_fed fed.More came = (came.0, came.1 ∙ same_lines)
      by_fed (fed.Submitted text) came = record {
        ends = came.ends;
        text_left = came.text_left;
        lines = came.lines
            ∙ ap (λ s. cond s.auto_add_history (added old.takes old.lines (string_bytes text)) old.lines) same_settings
            ∙ ap (λ t. cond old'.settings.auto_add_history (added t old.lines (string_bytes text)) old.lines) same_takes
            ∙ ap (λ l. cond old'.settings.auto_add_history (added old'.takes l (string_bytes text)) l) same_lines;
      }
      by_fed fed.Ended came = (came.0, came.1 ∙ same_lines)
      by_fed fed.Interrupted came = (came.0, came.1 ∙ same_lines)

  -- what came of a line whose last command is known, and which ended as it says
  pub came_of : (by : Rules) (start : Standing) (old mid new : Sitting H) (left : BegunLine) (done : Result Turned ReadlineError) (f : Fed)
      → mid.line ≡ Some left → left.kept.drawing.prompt_end.col ≡ by.ruler.prompt_column → mid.lines ≡ old.lines → mid.takes ≡ old.takes → mid.settings ≡ old.settings
      → IfOk done (TurnsComeTo (not left.draws) by start (standing_with left.kept.draft left.input left.mode mid.items mid.kills)) → LineEndsAs done mid new f
      → CameFrom by false start old new f
  came_of by start old mid new left done f line column lines takes settings comes ends =
      came_alike by by false start start mid old new refl refl lines takes settings f (by_fed f done comes ends)
    where
      Comes : Result Turned ReadlineError → Type 0
      Comes done = IfOk done (TurnsComeTo (not left.draws) by start (standing_with left.kept.draft left.input left.mode mid.items mid.kills))

      goes : (done : Result Turned ReadlineError) → Comes done → line_goes_on done ≡ true → CameFrom by false start mid mid fed.More
      goes (Ok turned.Proceeds) comes on = absurd comes
      goes (Ok turned.NeedsMore) comes on =
          (record { left = left; line = line; waits = comes.waits; drawn = λ yes. comes.drawn (ap (λ b. not b) yes); column = column }, refl)
      goes (Ok turned.Submitted) comes on = absurd (cc)
      goes (Ok turned.Ended) comes on = absurd (cc)
      goes (Ok turned.Interrupted) comes on = absurd (cc)
      goes (Err error) comes on = absurd (cc)

      by_fed : (f : Fed) (done : Result Turned ReadlineError) → Comes done → LineEndsAs done mid new f → CameFrom by false start mid new f
      by_fed fed.More done comes ends = subst (λ n. CameFrom by false start mid n fed.More) (sym ends.1) (goes done comes ends.0)
      by_fed (fed.Submitted text) done comes ends =
          let P : Sitting H → Type 0 = λ n. CameFrom by false start mid n (fed.Submitted text) in
          let there : StepsEnd by false start (standing_with left.kept.draft left.input left.mode mid.items mid.kills) submitted = subst (λ d. Comes d) ends.0 comes in
          let texts : Some (string_bytes text) ≡ Some left.kept.draft.line.text = ends.1 ∙ ap (λ o. option_map (λ (b : BegunLine). b.kept.draft.line.text) o) line in
          let here : P (record mid {
            line = None;
            lines = if mid.settings.auto_add_history then added mid.takes mid.lines (string_bytes text) else mid.lines;
          }) = record {
            ends = record { end = standing_with left.kept.draft left.input left.mode mid.items mid.kills; ends = there; gone = refl; kills = refl; items = refl };
            text_left = (let same = texts in cc);
            lines = refl;
          } in
          subst P (sym ends.2) here
      by_fed fed.Ended done comes ends =
          let P : Sitting H → Type 0 = λ n. CameFrom by false start mid n fed.Ended in
          let there : StepsEnd by false start (standing_with left.kept.draft left.input left.mode mid.items mid.kills) ended = subst (λ d. Comes d) ends.0 comes in
          let here : P (record mid { line = None }) =
          (record { end = standing_with left.kept.draft left.input left.mode mid.items mid.kills; ends = there; gone = refl; kills = refl; items = refl }, refl) in
          subst P (sym ends.1) here
      by_fed fed.Interrupted done comes ends =
          let P : Sitting H → Type 0 = λ n. CameFrom by false start mid n fed.Interrupted in
          let there : StepsEnd by false start (standing_with left.kept.draft left.input left.mode mid.items mid.kills) interrupted = subst (λ d. Comes d) ends.0 comes in
          let here : P (record mid { line = None }) =
          (record { end = standing_with left.kept.draft left.input left.mode mid.items mid.kills; ends = there; gone = refl; kills = refl; items = refl }, refl) in
          subst P (sym ends.1) here

  module _ (answers : H → List (List ℕ) → Environment) where
    -- what stays, and then stays
    pub keeps_then : (old mid new : Sitting H) → Keeps answers old mid → Keeps answers mid new → Keeps answers old new
    keeps_then old mid new first next = record {
      prompt = next.prompt ∙ first.prompt;
      answers_alike = λ lines. next.answers_alike lines ∙ first.answers_alike lines;
      takes = next.takes ∙ first.takes;
      own = next.own ∙ first.own;
      decoder = next.decoder ∙ first.decoder;
      settings = next.settings ∙ first.settings;
      columns = next.columns ∙ first.columns;
      rows = next.rows ∙ first.rows;
    }

    -- a line that was begun and then failed
    pub began_so : (prompt left right : List ℕ) (old mid new : Sitting H) (result : Result Fed ReadlineError) → StartsWith answers prompt left right old mid
        → OnErr result (LosesNothing mid new) → OnErr result (BeginsOrStays answers prompt left right old new)
    began_so prompt left right old mid new (Ok f) starts lost = tt
    began_so prompt left right old mid new (Err error) starts lost = inr (mid, starts, lost)

    -- what came of a line that was begun
    pub came_begun : (bound : Bound) (prompt left right : List ℕ) (old mid new : Sitting H) (f : Fed) (starts : StartsWith answers prompt left right old mid)
        → Came answers bound mid starts.begun new f → CameBegun answers bound prompt left right old new f
    came_begun bound prompt left right old mid new f starts came =
        let asked : answers mid.helper mid.lines ≡ answers old.helper old.lines = starts.keeps.answers_alike mid.lines ∙ ap (λ l. answers old.helper l) starts.lines in
        let own_to : (KeyEvent → Option Command) → Rules = λ o. record { keymap = record { bound = bound; own = o }; ruler = record { prompt_column = starts.begun.kept.drawing.prompt_end.col; cluster_mode = Unicode; indent_size = mid.settings.indent_size }; environment = answers mid.helper mid.lines; settings = mid.settings } in
        let same_rules : rules_at answers bound mid starts.begun.kept.drawing.prompt_end.col ≡ rules_at answers bound old (measured old.columns prompt corner).col =
        ap own_to starts.keeps.own
        ∙ ap (λ (s : Settings). rules_for bound old.binds s starts.begun.kept.drawing.prompt_end.col (answers mid.helper mid.lines)) starts.keeps.settings
        ∙ ap (λ (p : Position). rules_for bound old.binds old.settings p.col (answers mid.helper mid.lines)) starts.prompt_end
        ∙ ap (λ w. rules_for bound old.binds old.settings (measured old.columns prompt corner).col w) asked in
        let same_start = ap (λ w. starting w starts.begun.draws (standing_with starts.begun.kept.draft starts.begun.input starts.begun.mode mid.items mid.kills)) asked
        ∙ ap (λ b. starting (answers old.helper old.lines) b (standing_with starts.begun.kept.draft starts.begun.input starts.begun.mode mid.items mid.kills)) starts.draws
        ∙ ap (λ d. starting (answers old.helper old.lines) true (standing_with d starts.begun.input starts.begun.mode mid.items mid.kills)) starts.draft
        ∙ ap (λ i. starting (answers old.helper old.lines) true (standing_with (begun_with left right old.lines) i starts.begun.mode mid.items mid.kills)) starts.input
        ∙ ap (λ m. starting (answers old.helper old.lines) true (standing_with (begun_with left right old.lines) (first_input old.settings.edit_mode) m mid.items mid.kills)) starts.mode
        ∙ ap (λ i. starting (answers old.helper old.lines) true (standing_with (begun_with left right old.lines) (first_input old.settings.edit_mode) Editing i mid.kills)) starts.items
        ∙ ap (λ k. starting (answers old.helper old.lines) true (standing_with (begun_with left right old.lines) (first_input old.settings.edit_mode) Editing old.items k)) starts.kills in
        came_alike _ _ false _ _ mid old new same_rules same_start starts.lines starts.keeps.takes starts.keeps.settings f came

    -- what came of the line that had begun, of which this is left before it ends
    pub came_so : (bound : Bound) (old mid new : Sitting H) (begun left : BegunLine) (done : Result Turned ReadlineError) (result : Result Fed ReadlineError)
        → IfOk result (LineEndsAs done mid new)
        → mid.line ≡ Some left → left.kept.drawing.prompt_end ≡ begun.kept.drawing.prompt_end → mid.lines ≡ old.lines → mid.takes ≡ old.takes → mid.settings ≡ old.settings
        → IfOk done (TurnsComeTo (not left.draws) (rules_at answers bound old begun.kept.drawing.prompt_end.col)
        (starting (answers old.helper old.lines) begun.draws (standing_with begun.kept.draft begun.input begun.mode old.items old.kills))
        (standing_with left.kept.draft left.input left.mode mid.items mid.kills))
        → IfOk result (Came answers bound old begun new)
    came_so bound old mid new begun left done (Ok f) ends line prompt lines takes settings comes =
        came_of _ _ old mid new left done f line (ap (λ (p : Position). p.col) prompt) lines takes settings comes ends
    came_so bound old mid new begun left done (Err error) ends line prompt lines takes settings comes = tt

    -- what stays where a line ends
    pub keeps_so : (old mid new : Sitting H) → new ≡ record mid { line = new.line; lines = new.lines } → mid.prompt ≡ old.prompt → ((lines : List (List ℕ)) → answers mid.helper lines ≡ answers old.helper lines)
        → mid.takes ≡ old.takes → queue_binding mid.binds ≡ queue_binding old.binds → mid.decoder ≡ old.decoder → mid.settings ≡ old.settings → mid.columns ≡ old.columns → mid.rows ≡ old.rows
        → Keeps answers old new
    keeps_so old mid new stays prompt alike takes own decoder settings columns rows = record {
      prompt = ap (λ (s : Sitting H). s.prompt) stays ∙ prompt;
      answers_alike = λ lines. ap (λ (s : Sitting H). answers s.helper lines) stays ∙ alike lines;
      takes = ap (λ (s : Sitting H). s.takes) stays ∙ takes;
      own = ap (λ (s : Sitting H). queue_binding s.binds) stays ∙ own;
      decoder = ap (λ (s : Sitting H). s.decoder) stays ∙ decoder;
      settings = ap (λ (s : Sitting H). s.settings) stays ∙ settings;
      columns = ap (λ (s : Sitting H). s.columns) stays ∙ columns;
      rows = ap (λ (s : Sitting H). s.rows) stays ∙ rows;
    }

    -- a line that begins, where another had begun or none
    pub starts_so : (prompt left right raw : List ℕ) (old mid new : Sitting H) (begun : BegunLine) → mid ≡ old → new.line ≡ Some begun
        → begun.kept.draft ≡ begun_with left right mid.lines → begun.input ≡ first_input mid.settings.edit_mode → begun.mode ≡ Editing → begun.draws ≡ true
        → begun.kept.drawing.prompt_end ≡ measured mid.columns raw corner → raw ≡ prompt
        → new ≡ record mid { line = new.line; prompt = new.prompt; helper = new.helper; columns = new.columns; rows = new.rows; kills = new.kills } → new.prompt ≡ raw → new.kills ≡ with_last mid.kills other → new.columns ≡ mid.columns → new.rows ≡ mid.rows
        → ((lines : List (List ℕ)) → answers new.helper lines ≡ answers mid.helper lines) → StartsWith answers prompt left right old new
    starts_so prompt left right raw old mid new begun same line draft input mode draws prompt_end text stays copied reset columns rows alike =
        subst (λ o. StartsWith answers prompt left right o new) same (record {
          begun = begun;
          line = line;
          draft = draft;
          input = input;
          mode = mode;
          draws = draws;
          prompt_end = prompt_end ∙ ap (λ r. measured mid.columns r corner) text;
          lines = ap (λ (s : Sitting H). s.lines) stays;
          kills = reset;
          items = ap (λ (s : Sitting H). s.items) stays;
          keeps = record {
            prompt = copied ∙ text;
            answers_alike = alike;
            takes = ap (λ (s : Sitting H). s.takes) stays;
            own = ap (λ (s : Sitting H). queue_binding s.binds) stays;
            decoder = ap (λ (s : Sitting H). s.decoder) stays;
            settings = ap (λ (s : Sitting H). s.settings) stays;
            columns = columns;
            rows = rows;
          };
        })

    -- what came of a line that began, and then of its turns
    pub begun_so : (bound : Bound) (prompt left right : List ℕ) (old mid new : Sitting H) (result : Result Fed ReadlineError)
        (starts : StartsWith answers prompt left right old mid) → IfOk result (Came answers bound mid starts.begun new)
        → IfOk result (CameBegun answers bound prompt left right old new)
    begun_so bound prompt left right old mid new (Ok f) starts came = came_begun bound prompt left right old mid new f starts came
    begun_so bound prompt left right old mid new (Err error) starts came = tt

    pub kept_so : (old mid new : Sitting H) (result : Result Fed ReadlineError) → Keeps answers old mid → Keeps answers mid new → OnOk result (Keeps answers old new)
    kept_so old mid new (Ok f) first next = keeps_then old mid new first next
    kept_so old mid new (Err error) first next = tt

    -- what came of them
    fed_so : (bound : Bound) (old mid new : Sitting H) (turn : decoding.DecoderTurn) (result : Result Fed ReadlineError) → mid ≡ with_turn turn old
        → ((begun : BegunLine) → mid.line ≡ Some begun → IfOk result (Came answers bound mid begun new))
        → (begun : BegunLine) → old.line ≡ Some begun → IfOk result (Came answers bound (with_turn turn old) begun new)
    fed_so bound old mid new turn result same came =
        subst (λ (m : Sitting H). (begun : BegunLine) → m.line ≡ Some begun → IfOk result (Came answers bound m begun new)) same came

    fed_kept : (old mid new : Sitting H) (turn : decoding.DecoderTurn) (result : Result Fed ReadlineError) → mid ≡ with_turn turn old → Keeps answers mid new
        → OnOk result (Keeps answers (with_turn turn old) new)
    fed_kept old mid new turn (Ok f) same keeps = subst (λ m. Keeps answers m new) same keeps
    fed_kept old mid new turn (Err error) same keeps = tt

-- nothing comes of a turn of the bytes where no line has begun
fed_idle : {H : Type 0} (old mid new : Sitting H) (turn : decoding.DecoderTurn) (result : Result Fed ReadlineError) → mid ≡ with_turn turn old
    → (mid.line ≡ None → IfOk result (λ f. (f ≡ fed.More) × (new ≡ mid)))
    → old.line ≡ None → IfOk result (λ f. (f ≡ fed.More) × (new ≡ with_turn turn old))
fed_idle {H} old mid new turn result same idle =
    subst (λ (m : Sitting H). m.line ≡ None → IfOk result (λ f. (f ≡ fed.More) × (new ≡ m))) same idle

-- and nothing is lost after a fault
fed_left : {H : Type 0} (old mid new : Sitting H) (turn : decoding.DecoderTurn) (result : Result Fed ReadlineError) → mid ≡ with_turn turn old
    → OnErr result (LosesNothing mid new) → OnErr result (LosesNothing old new)
fed_left old mid new turn (Ok f) same left = tt
fed_left {H} old mid new turn (Err error) same left = record {
  line = left.line ∙ ap (λ (m : Sitting H). is_some m.line) same;
  lines = left.lines ∙ ap (λ (m : Sitting H). m.lines) same;
}

-- what a call leaves that reads the terminal, by the turns that it takes
pub feeds_so : {H : Type 0} (answers : H → List (List ℕ) → Environment) (bound : Bound) (old mid new : Sitting H) (turn : decoding.DecoderTurn) (result : Result Fed ReadlineError)
    → mid ≡ with_turn turn old → ((begun : BegunLine) → mid.line ≡ Some begun → IfOk result (Came answers bound mid begun new)) → Keeps answers mid new
    → (mid.line ≡ None → IfOk result (λ f. (f ≡ fed.More) × (new ≡ mid))) → OnErr result (LosesNothing mid new) → FaultsOnly result
    → Feeds answers bound turn old new result
feeds_so answers bound old mid new turn result same came keeps idle left faults = record {
  came = fed_so answers bound old mid new turn result same came;
  keeps = fed_kept answers old mid new turn result same keeps;
  idle = fed_idle old mid new turn result same idle;
  left = fed_left old mid new turn result same left;
  faults = faults;
}

-- the items of a turn were appended to those of a line
pub turn_so : {H : Type 0} (old mid : Sitting H) (turn : decoding.DecoderTurn) (left : decoding.DecoderState) (before after : Queued) (result : Result (Unit {0}) ReadlineError) → OnOk result (Enqueues turn left before after)
    → mid ≡ record old { items = after.rest; binds = after.binds; decoder = left } → old.items ≡ before.rest → old.binds ≡ before.binds
    → OnOk result (mid ≡ with_turn turn old)
turn_so old mid turn left before after (Ok done) gives is items binds =
    is ∙ ap (λ (q : Queued). record old { items = q.rest; binds = q.binds; decoder = left }) gives.items
    ∙ ap (λ d. record old { items = before.rest ++ turn.items; binds = before.binds; decoder = d }) gives.left
    ∙ ap (λ b. record old { items = before.rest ++ turn.items; binds = b; decoder = turn.after }) (sym binds)
    ∙ ap (λ i. record old { items = i ++ turn.items; decoder = turn.after }) (sym items)
turn_so old mid turn left before after (Err error) gives is items binds = tt
