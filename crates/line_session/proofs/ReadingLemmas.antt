-- Facts on a line that is read piece by piece.
use Rattle.std.proofs.Common.{◌≡◌, ◌∙◌, inl, inr, is_some, option_map, ℕ, Bool, true, false, List, [], ◌++◌, Option, refl, sym, ap, subst, None, Some, Result, Ok, Err}
use Rattle.std.proofs.lemmas.List.{append-nil}
use Rattle.line_buffer.specs.declared.layout.GraphemeClusterMode.TheVariants.{Unicode}
use Rattle.std.specs.declared.alloc.Global.{Global}
use Rattle.std.specs.declared.string.String.{String}
use Rattle.line_config.specs.Error.{UnlessFault}
use Rattle.line_config.specs.Settings.{Settings}
use Rattle.line_config.specs.declared.error.ReadlineError.{ReadlineError}
use Rattle.line_keys.specs.Command.{Command}
use Rattle.line_keys.specs.Model.Display.{corner}
use Rattle.line_keys.specs.Item.{Item}
use Rattle.line_keys.specs.declared.keys.KeyEvent.{KeyEvent}
use Rattle.line_parts.specs.Environment.{Environment}
use Rattle.line_screen.specs.Measure.{measured}
use Rattle.line_editor.specs.Binding.{Bound}
use Rattle.line_editor.specs.Editor.{Answer, ended, interrupted, submitted}
use Rattle.line_editor.specs.ItemShown.{any_drawn}
use Rattle.line_term.specs.Decoder as decoding
use Rattle.line_session.specs.Pieces.{GoesOnFrom, drawn_anew, with_more}
use Rattle.line_session.specs.Pieces as pieces
use Rattle.line_session.specs.Reading.{AfterFault, BindingsLookAtNoHint, CameOver, FailsToRead, GoesOnOver, HearsOnce, ReadsInput, ReadsLine, ReadsOnce, ReadsUpTo, readline_answer}
use Rattle.line_session.specs.Reading as reading
use Rattle.line_session.specs.Sitting.{BegunLine, CameBegun, CameFrom, LineHasEnded, Keeps, LosesNothing, Sitting, first_standing, rules_at, rules_for, standing_with, suspends, to_be_drawn, with_turn}
use Rattle.line_session.specs.Steps.{Rules, Standing, starting}
use Rattle.line_session.specs.declared.editor.Fed.{Fed}
use Rattle.line_session.specs.declared.editor.Fed.TheVariants as fed
use Rattle.line_session.proofs.CameLemmas.{came_alike}
use Rattle.line_session.proofs.StepLemmas.{ends_over, starts_more}
use Rattle.line_session.proofs.WholeLaws.{ends-same}

-- a line that has ended in a call has ended over several
abbrev line_over : {H : Type 0} (by : Rules) (start : Standing) (new : Sitting H) (answer : Answer) → LineHasEnded by false start new answer → LineHasEnded by true start new answer
line_over by start new answer ends = record {
  end = ends.end;
  ends = ends_over by start ends.end answer ends.ends;
  gone = ends.gone;
  kills = ends.kills;
  items = ends.items;
}

-- what became of a line over all that was read
pub over_of : {H : Type 0} (by : Rules) (start : Standing) (pauses : Bool) (input : Option (List ℕ)) (old : Sitting H) (at : Option (List ℕ)) (goes_on : Bool) (items : List Item) (now : Sitting H) (came : Fed)
    → ReadsUpTo by start pauses input old at goes_on items now came → CameOver by start items old now came
over_of by start pauses input old at goes_on items now came (reading.begins decoder over) = over
over_of by start pauses input old at goes_on items now came (reading.more before once decoder over) = over

module _ {H : Type 0} (answers : H → List (List ℕ) → Environment) (bound : Bound) (pauses : Bool) (input : Option (List ℕ)) (prompt before behind : List ℕ) (old : Sitting H) where
  abbrev by : Rules
  by = rules_at answers bound old (measured old.columns prompt corner).col

  abbrev start : Standing
  start = starting (answers old.helper old.lines) true (first_standing before behind old)

  -- the line has begun
  pub reads_begun : (now : Sitting H) (came : Fed) → CameBegun answers bound prompt before behind old now came → Keeps answers (record old { prompt = prompt }) now
      → ReadsInput answers bound pauses input input true prompt before behind old now came
  reads_begun now came begun keeps = record {
    items = [];
    reads = reading.begins keeps.decoder (by_fed came begun);
    keeps = record {
      prompt = keeps.prompt;
      answers_alike = keeps.answers_alike;
      takes = keeps.takes;
      own = keeps.own;
      decoder = refl;
      settings = keeps.settings;
      columns = keeps.columns;
      rows = keeps.rows;
    };
  }
    where
      whole : start ≡ with_more [] start
      whole = ap (λ i. record start { items = i }) (sym (append-nil start.items))

      by_fed : (came : Fed) → CameFrom by false start old now came → CameOver by start [] old now came
      by_fed fed.More begun = (
        record {
          left = begun.0.left;
          line = begun.0.line;
          drawn = any_drawn begun.0.waits.shown;
          waited = pieces.first begun.0.waits;
          draws = begun.0.drawn;
          column = begun.0.column;
        },
        begun.1,
      )
      by_fed (fed.Submitted text) begun = λ _. subst (λ s. CameFrom by true s old now (fed.Submitted text)) whole
          (record { ends = line_over by start now submitted begun.ends; text_left = begun.text_left; lines = begun.lines })
      by_fed fed.Ended begun = λ _. subst (λ s. CameFrom by true s old now fed.Ended) whole (line_over by start now ended begun.0, begun.1)
      by_fed fed.Interrupted begun = λ _. subst (λ s. CameFrom by true s old now fed.Interrupted) whole (line_over by start now interrupted begun.0, begun.1)

  module _ (now : Sitting H) (at : Option (List ℕ)) (went_on : Bool) (reads : ReadsInput answers bound pauses input at went_on prompt before behind old now fed.More) where
    -- the line goes on
    pub goes_on_over : GoesOnOver by start reads.items now × (now.lines ≡ old.lines)
    goes_on_over = over_of by start pauses input old at went_on reads.items now fed.More reads.reads

    abbrev left : BegunLine
    left = goes_on_over.0.left

    abbrev waiting : Standing
    waiting = standing_with left.kept.draft left.input left.mode now.items now.kills

    -- those who answer, answer as they did
    asked : answers now.helper now.lines ≡ answers old.helper old.lines
    asked = reads.keeps.answers_alike now.lines ∙ ap (λ l. answers old.helper l) goes_on_over.1

    -- where reading goes on
    record GoesOnAt (piece : List Item) : Type 0 where
      next : Standing
      goes : GoesOnFrom by waiting goes_on_over.0.drawn next
      is : starting (answers now.helper now.lines) left.draws (standing_with left.kept.draft left.input left.mode (now.items ++ piece) now.kills) ≡ with_more piece next

    goes_on_at : (piece : List Item) → GoesOnAt piece
    goes_on_at piece = by_draws left.draws refl
      where
        by_draws : (draws : Bool) → left.draws ≡ draws → GoesOnAt piece
        by_draws false is = record {
          next = starting by.environment false waiting;
          goes = inl refl;
          is = ap (λ b. starting (answers now.helper now.lines) b (with_more piece waiting)) is
              ∙ ap (λ w. starting w false (with_more piece waiting)) asked ∙ starts_more by.environment false piece waiting;
        }
        by_draws true is = record {
          next = drawn_anew by waiting;
          goes = inr (goes_on_over.0.draws is, refl);
          is = ap (λ b. starting (answers now.helper now.lines) b (with_more piece waiting)) is
              ∙ ap (λ w. starting w true (with_more piece waiting)) asked ∙ starts_more by.environment true piece waiting;
        }

    -- more was heard, and this came of it
    pub reads_on : (new : Sitting H) (later : Option (List ℕ)) (goes_on : Bool) (came : Fed) → HearsOnce answers bound pauses at later went_on goes_on now left new came
        → ReadsInput answers bound pauses input later goes_on prompt before behind old new came
    reads_on new later goes_on came hears =
        let turn = hears.turn in
        let here = goes_on_at turn.items in
        let own_to : (KeyEvent → Option Command) → Rules = λ o. record { keymap = record { bound = bound; own = o }; ruler = record { prompt_column = left.kept.drawing.prompt_end.col; cluster_mode = Unicode; indent_size = now.settings.indent_size }; environment = answers now.helper now.lines; settings = now.settings } in
        let same_rules : rules_at answers bound (with_turn turn now) left.kept.drawing.prompt_end.col ≡ by =
        ap own_to reads.keeps.own
        ∙ ap (λ (s : Settings). rules_for bound old.binds s left.kept.drawing.prompt_end.col (answers now.helper now.lines)) reads.keeps.settings
        ∙ ap (λ c. rules_for bound old.binds old.settings c (answers now.helper now.lines)) goes_on_over.0.column
        ∙ ap (λ w. rules_for bound old.binds old.settings (measured old.columns prompt corner).col w) asked in
        let came_here : CameFrom by false (with_more turn.items here.next) old new came =
        came_alike _ _ false _ _ (with_turn turn now) old new same_rules here.is goes_on_over.1 reads.keeps.takes reads.keeps.settings came hears.came in
        record {
          items = reads.items ++ turn.items;
          reads = reading.more reads.reads hears.reads hears.keeps.decoder (by_fed turn.items here came came_here);
          keeps = record {
            prompt = hears.keeps.prompt ∙ reads.keeps.prompt;
            answers_alike = λ lines. hears.keeps.answers_alike lines ∙ reads.keeps.answers_alike lines;
            takes = hears.keeps.takes ∙ reads.keeps.takes;
            own = hears.keeps.own ∙ reads.keeps.own;
            decoder = refl;
            settings = hears.keeps.settings ∙ reads.keeps.settings;
            columns = hears.keeps.columns ∙ reads.keeps.columns;
            rows = hears.keeps.rows ∙ reads.keeps.rows;
          };
        }
      where
        line_whole : BindingsLookAtNoHint bound → (piece : List Item) (here : GoesOnAt piece) (answer : Answer) → LineHasEnded by false (with_more piece here.next) new answer
            → LineHasEnded by true (with_more (reads.items ++ piece) start) new answer
        line_whole no_hint piece here answer ends = record {
          end = ends.end;
          ends = ends-same by start waiting here.next ends.end reads.items piece goes_on_over.0.drawn answer no_hint goes_on_over.0.waited here.goes ends.ends;
          gone = ends.gone;
          kills = ends.kills;
          items = ends.items;
        }

        by_fed : (piece : List Item) (here : GoesOnAt piece) (came : Fed) → CameFrom by false (with_more piece here.next) old new came
            → CameOver by start (reads.items ++ piece) old new came
        by_fed piece here fed.More came = (
          record {
            left = came.0.left;
            line = came.0.line;
            drawn = any_drawn came.0.waits.shown;
            waited = pieces.again piece goes_on_over.0.waited here.goes came.0.waits;
            draws = came.0.drawn;
            column = came.0.column;
          },
          came.1,
        )
        by_fed piece here (fed.Submitted text) came = λ no_hint. record {
          ends = line_whole no_hint piece here submitted came.ends;
          text_left = came.text_left;
          lines = came.lines;
        }
        by_fed piece here fed.Ended came = λ no_hint. (line_whole no_hint piece here ended came.0, came.1)
        by_fed piece here fed.Interrupted came = λ no_hint. (line_whole no_hint piece here interrupted came.0, came.1)

-- what was read, once it is known that the program is not suspended and that the input went on
pub reads_running : (pauses : Bool) (before : decoding.DecoderState) (suspended went_on goes_on : Bool) (at next : Option (List ℕ)) (turn : decoding.DecoderTurn) → suspended ≡ false → went_on ≡ true
    → ReadsOnce pauses before false at next true goes_on turn → ReadsOnce pauses before suspended at next went_on goes_on turn
reads_running pauses before suspended went_on goes_on at next turn running on reads =
    subst (λ s. ReadsOnce pauses before s at next went_on goes_on turn) (sym running)
    (subst (λ w. ReadsOnce pauses before false at next w goes_on turn) (sym on) reads)

-- nothing is read where it is known that the program is suspended
pub reads_stopped : (pauses : Bool) (before : decoding.DecoderState) (suspended goes_on : Bool) (at : Option (List ℕ)) → suspended ≡ true
    → ReadsOnce pauses before suspended at at goes_on goes_on (decoding.read before [])
reads_stopped pauses before suspended goes_on at stopped =
    subst (λ s. ReadsOnce pauses before s at at goes_on goes_on (decoding.read before [])) (sym stopped) reading.nothing

-- a line that is to be drawn is not lost
pub drawing_loses_nothing : {H : Type 0} (old : Sitting H) → LosesNothing old (to_be_drawn old)
drawing_loses_nothing old = record { line = by_line old.line; lines = refl }
  where
    by_line : (line : Option BegunLine) → is_some (option_map (λ (begun : BegunLine). record begun { draws = true }) line) ≡ is_some line
    by_line None = refl
    by_line (Some begun) = refl

-- what holds, holds after a fault
pub after_fault : {T P : Type 0} (result : Result T ReadlineError) → P → AfterFault result P
after_fault (Ok value) holds = tt
after_fault (Err error) holds = λ fault. holds

-- a line that was read could not be ended: it goes on, and is drawn anew
pub fails_at_end : {H : Type 0} (answers : H → List (List ℕ) → Environment) (bound : Bound) (pauses : Bool) (input input' : Option (List ℕ)) (goes_on : Bool) (prompt before behind : List ℕ) (old last new : Sitting H) (came : Fed)
    (result : Result (String Global) ReadlineError) → ReadsInput answers bound pauses input input' goes_on prompt before behind old last came
    → AfterFault result ((came ≡ fed.More) × (new ≡ to_be_drawn last)) → AfterFault result (FailsToRead answers bound pauses input prompt before behind old new)
fails_at_end answers bound pauses input input' goes_on prompt before behind old last new came (Ok text) reads drawn = tt
fails_at_end answers bound pauses input input' goes_on prompt before behind old last new came (Err error) reads drawn_so = λ fault.
    let drawn = drawn_so fault in
    inr (record {
      at = input';
      goes_on = goes_on;
      before = last;
      reads = subst (λ c. ReadsInput answers bound pauses input input' goes_on prompt before behind old last c) drawn.0 reads;
      left_so = subst (λ s. LosesNothing last s) (sym drawn.1) (drawing_loses_nothing last);
    })

-- what is answered of a line that was read, once no line goes on
pub answers_line : {H : Type 0} (answers : H → List (List ℕ) → Environment) (bound : Bound) (pauses : Bool) (input input' : Option (List ℕ)) (goes_on : Bool) (prompt before behind : List ℕ) (old last new : Sitting H) (came : Fed)
    (result : Result (String Global) ReadlineError) → ReadsInput answers bound pauses input input' goes_on prompt before behind old last came → (came ≡ fed.More → (goes_on ≡ false) × (suspends last ≡ false))
    → UnlessFault result ((result ≡ readline_answer came) × (new ≡ record last { line = None }))
    → UnlessFault result (ReadsLine answers bound pauses input input' prompt before behind old new result)
answers_line answers bound pauses input input' goes_on prompt before behind old last new came (Ok text) reads at_end told =
    record { came = came; last = last; goes_on = goes_on; told = told.0; reads = reads; ended = at_end; gone = told.1 }
answers_line answers bound pauses input input' goes_on prompt before behind old last new came (Err error) reads at_end told = λ no_fault.
    record { came = came; last = last; goes_on = goes_on; told = (told no_fault).0; reads = reads; ended = at_end; gone = (told no_fault).1 }
