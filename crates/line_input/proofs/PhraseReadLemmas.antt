-- Facts on phrases that are read.
use Rattle.std.proofs.Common.{◌≡◌, ◌<◌, true, false, ◌++◌, List, [], ◌∷◌, length, map, Option, Some, None, Result, Ok, Err, refl, sym, ◌∙◌, ap, subst, arith}
use Rattle.std.proofs.lemmas.List.{length-append}
use Rattle.std.specs.Prelude.{IfOk, OnErr, OnOk}
use Rattle.line_config.specs.Error.{MemoryOnly, is_memory}
use Rattle.line_config.specs.Failures.{CountsFailures}
use Rattle.line_config.specs.declared.error.ReadlineError.{ReadlineError}
use Rattle.line_keys.specs.Command.{Command, command_of}
use Rattle.line_keys.specs.Count.{begins_count, count_of}
use Rattle.line_keys.specs.Model.Draft.{Draft, KeepsLine, out_of_group, start_text}
use Rattle.line_keys.specs.Model.Drawing.{DrewNothing, Undrawn}
use Rattle.line_keys.specs.Item.{Item, ReadFault, key}
use Rattle.line_keys.specs.Table.{KeyEntry, count_or_one, row_of, stands_for}
use Rattle.line_keys.specs.declared.cmd.Cmd.{Cmd}
use Rattle.line_keys.specs.declared.count.Count.{Count}
use Rattle.line_keys.specs.declared.editor_state.EditorState as editors
use Rattle.line_keys.specs.declared.keys.KeyEvent.{KeyEvent}
use Rattle.line_keys.specs.declared.raw_reader.RawReader as readers
use Rattle.line_keys.specs.declared.refresher.InputMode.TheVariants as modes
use Rattle.line_parts.specs.Asks.{for_hint, is_sure}
use Rattle.line_parts.specs.Environment.{Environment}
use Rattle.line_input.specs.Ruler.{grouped}
use Rattle.line_input.specs.Input.{Input, in_mode}
use Rattle.line_input.specs.InputState.{behind_input}
use Rattle.line_input.specs.Keymap.{KeyState, Keymap, bound_command, by_phrase, keymap_of, on_line, source_of}
use Rattle.line_input.specs.Phrase.{Keyed, Phrase, Spelled, behind_alt, behind_key, changed_by, entered, entered_by, listed, of_mode, remembered_behind, with_group}
use Rattle.line_input.specs.Read.{Read, after_count, quiet_read, read_behind}
use Rattle.line_input.specs.Reading.{PhraseHere, ReadsCommand, ReadsCount, ReadsPart, entered_here}
use Rattle.line_input.specs.Sequence.{sequences_of}
use Rattle.line_input.specs.ItemShown.{asked_behind}
use Rattle.line_input.specs.Tail.{Tailed}
use Rattle.line_input.specs.declared.input_state.phrases.Read as phrases
use Rattle.line_input.proofs.BeginLemmas.{counted-begins}
use Rattle.line_input.proofs.CountLemmas.{rises_stays, stays_then}
use Rattle.line_input.proofs.DrawnTwiceLemmas.{frame_then}
use Rattle.line_input.proofs.GroupLemmas.{start_ended}
use Rattle.line_input.proofs.KeyFitLemmas.{is-count, is-no-count}
use Rattle.line_input.proofs.PartLemmas.{at_once_part, failure_retold, part_grouped, part_mapped, part_retold, part_then_memory}
use Rattle.line_input.proofs.PhraseLemmas.{inside-begins, none-counts, nothing-begins, row-read}
use Rattle.line_input.proofs.DraftLemmas.{io_ended}
use Rattle.line_input.proofs.ReadingLemmas.{count_goes_wrong, counted, frame_stays, key_fails, key_taken, plainly}
use Rattle.line_input.proofs.ShownLemmas.{counts_after, counts_kept, so_far_after}

-- a key without a count, and what belongs to it, is a phrase of its mode
pub plain-phrase : (keymap : Keymap) (environment : Environment) (draft : Draft) (input : Input) (k : KeyEvent) → begins_count input.style input.mode k ≡ false
    → (items : List Item) (read : Read) → Keyed keymap environment draft input None k items read → Spelled keymap environment draft input (key k ∷ items) (read_behind [] read)
plain-phrase keymap environment draft input k begins items read keyed = record {
  typed = [];
  last = k;
  tail = items;
  cut = refl;
  counted = is-no-count input.style input.mode k begins;
  behind = read;
  keyed = keyed;
  told = refl;
}

module _ {X Y : Type 0} (e : editors.Ghosts X) (r : readers.Ghosts Y) {T : Type 0} (command : T → Command) (input : T → Input) (editor : X) (keys : KeyState) (reader : Y) (i : Input) (k : KeyEvent) where
  -- what a phrase of a mode comes to that begins here
  abbrev pub SpelledHere : List Item → Read → Type 0
  SpelledHere items read = Spelled (keymap_of keys (r.own_binding (r.kept reader))) (e.environment editor) (e.draft editor) i items read

  -- what a key comes to here, with what belongs to it
  abbrev pub KeyedHere : X → Y → Option Count → KeyEvent → List Item → Read → Type 0
  KeyedHere editor reader typed last items read = Keyed (keymap_of keys (r.own_binding (r.kept reader))) (e.environment editor) (e.draft editor) i typed last items read

  pub plain_part : (result : Result T ReadlineError) (editor' : X) (reader' : Y) → begins_count i.style i.mode k ≡ false
      → ReadsPart e r (KeyedHere editor reader None k) [] (e.draft editor) (λ c d. d) command input result editor keys reader editor' reader'
      → ReadsPart e r SpelledHere (key k ∷ []) (e.draft editor) (λ c d. d) command input result editor keys reader editor' reader'
  plain_part result editor' reader' begins behind =
      plainly e r SpelledHere (KeyedHere editor reader None k) (λ c d. d) command input editor keys reader k i.style (e.draft editor) editor' reader' result
      (plain-phrase (keymap_of keys (r.own_binding (r.kept reader))) (e.environment editor) (e.draft editor) i k begins) behind

  pub counted_part : (count : Count) (last : KeyEvent) (editor1 : X) (reader1 : Y) → ReadsCount e r i.style k (Ok (count, last)) editor reader editor1 reader1
      → begins_count i.style i.mode k ≡ true
      → (result : Result T ReadlineError) (editor' : X) (reader' : Y)
      → ReadsPart e r (KeyedHere editor1 reader1 (Some count) last) [] (e.draft editor1) (λ c d. d) command input result editor1 keys reader1 editor' reader'
      → ReadsPart e r SpelledHere (key k ∷ []) (e.draft editor) (λ c d. d) command input result editor keys reader editor' reader'
  counted_part count last editor1 reader1 read begins result editor' reader' behind =
      let more = read.read.ends.more in
      counted e r SpelledHere (KeyedHere editor1 reader1 (Some count) last) (λ c d. d) command input editor keys reader k i.style count last editor1 reader1 read editor' reader' result
      (λ items read' keyed.
      let left : Draft = after_count (e.environment editor) (k ∷ more) (e.draft editor) in
      let P : r.Kept → Type 0 = λ o. Keyed (keymap_of keys (r.own_binding o)) (e.environment editor) left i (Some (count_of (k ∷ more))) last items read' in
      let Q : Count → Type 0 = λ n. Keyed (keymap_of keys (r.own_binding (r.kept reader1))) (e.environment editor) left i (Some n) last items read' in
      let R : Draft → Type 0 = λ d. Keyed (keymap_of keys (r.own_binding (r.kept reader1))) (e.environment editor) d i (Some count) last items read' in
      let S : Environment → Type 0 = λ w. Keyed (keymap_of keys (r.own_binding (r.kept reader1))) w (e.draft editor1) i (Some count) last items read' in
      record {
        typed = k ∷ more;
        last = last;
        tail = items;
        cut = refl;
        counted = is-count i.style i.mode k more last begins read.read.ends.continue read.read.ends.ends;
        behind = read';
        keyed = subst P read.keeps.own (subst Q read.read.counted (subst R read.draft (subst S read.keeps.frame.environment keyed)));
        told = refl;
      }) behind

  pub count_part : (f : ReadlineError) (editor' : X) (reader' : Y) → begins_count i.style i.mode k ≡ true
      → ReadsCount e r i.style k (Err f) editor reader editor' reader'
      → ReadsPart e r SpelledHere (key k ∷ []) (e.draft editor) (λ c d. d) command input (Err f) editor keys reader editor' reader'
  count_part f editor' reader' begins count =
      count_goes_wrong e r SpelledHere SpelledHere (λ c d. d) command input editor keys reader k i.style f editor' reader' count
      (inside-begins (keymap_of keys (r.own_binding (r.kept reader))) (e.environment editor) (e.draft editor) i k begins)
      (λ last ends. counted-begins (keymap_of keys (r.own_binding (r.kept reader))) (e.environment editor) (e.draft editor) i k ends.more last
      (is-count i.style i.mode k ends.more last begins ends.continue ends.ends))

  -- a phrase of the mode is a phrase, where its first key leaves the draft
  pub mode_part : (result : Result T ReadlineError) (editor' : X) (reader' : Y) → i ≡ keys.input
      → entered (keymap_of keys (r.own_binding (r.kept reader))) (e.draft editor) keys.input (key k ∷ []) ≡ e.draft editor
      → ReadsPart e r SpelledHere (key k ∷ []) (e.draft editor) (λ c d. d) command input result editor keys reader editor' reader'
      → ReadsPart e r (PhraseHere e r editor keys reader) (key k ∷ []) (entered (keymap_of keys (r.own_binding (r.kept reader))) (e.draft editor) keys.input (key k ∷ [])) (λ c d. d) command input result editor keys reader editor' reader'
  mode_part result editor' reader' same stays part =
      part_mapped e r SpelledHere (PhraseHere e r editor keys reader) (key k ∷ []) (e.draft editor) _ (λ c d. d) command input result editor keys reader editor' reader'
      (λ items read spelled. of_mode (subst (λ x. Spelled (keymap_of keys (r.own_binding (r.kept reader))) (e.environment editor) (e.draft editor) x items read) same spelled)) (sym stays) part

-- a key whose command is its own is a phrase
pub alone_part : {X Y : Type 0} (e : editors.Ghosts X) (r : readers.Ghosts Y) {T : Type 0} (command : T → Command) (input : T → Input) (editor : X) (keys : KeyState) (reader : Y) (k : KeyEvent) (y : T) (plain : KeyEvent)
    → stands_for keys.input.style keys.input.mode k ≡ Some plain
    → Keyed (keymap_of keys (r.own_binding (r.kept reader))) (e.environment editor) (e.draft editor) keys.input None k [] (quiet_read (e.draft editor) keys.input [] (command y))
    → input y ≡ keys.input
    → entered (keymap_of keys (r.own_binding (r.kept reader))) (e.draft editor) keys.input (key k ∷ []) ≡ e.draft editor
    → ReadsPart e r (PhraseHere e r editor keys reader) (key k ∷ []) (entered (keymap_of keys (r.own_binding (r.kept reader))) (e.draft editor) keys.input (key k ∷ [])) (λ c d. d) command input (Ok y) editor keys reader editor reader
alone_part e r command input editor keys reader k y plain stands keyed same stays =
    let Behind : List Item → Read → Type 0 = λ items read. Keyed (keymap_of keys (r.own_binding (r.kept reader))) (e.environment editor) (e.draft editor) keys.input None k items read in
    mode_part e r command input editor keys reader keys.input k (Ok y) editor reader refl stays
    (plain_part e r command input editor keys reader keys.input k (Ok y) editor reader (none-counts keys.input.style keys.input.mode k k plain stands)
    (at_once_part e r Behind (λ c d. d) command input y keys.input editor keys reader keyed same))

module _ {X Y : Type 0} (e : editors.Ghosts X) (r : readers.Ghosts Y) (editor : X) (keys : KeyState) (reader : Y) (i : Input) (k : KeyEvent) (typed : Option Count) (count : Count) (entry : KeyEntry)
    (unbound : None ≡ bound_command (keymap_of keys (r.own_binding (r.kept reader))) (e.draft editor) i typed k)
    (unowned : None ≡ on_line (e.draft editor).line.text (r.own_binding (r.kept reader) k)) (stays : None ≡ stands_for i.style i.mode k)
    (is_row : entry ≡ (row_of i.style i.mode k (e.draft editor)).entry typed) (is_count : count ≡ count_or_one typed) where
  abbrev there : Keymap
  there = keymap_of keys (r.own_binding (r.kept reader))

  abbrev TailedHere : List Item → Read → Type 0
  TailedHere items read = Tailed (sequences_of keys.bound (e.draft editor) i count) (e.environment editor) (e.draft editor) i k entry.meaning items read

  abbrev ByRow : List Item → Read → Type 0
  ByRow items read = Keyed there (e.environment editor) (e.draft editor) i typed k items read

  -- what is read by the key's meaning is read behind the key
  by_row : (items : List Item) (read : Read) → TailedHere items read → ByRow items (listed entry i read)
  by_row items read tailed =
      row-read there (e.environment editor) (e.draft editor) i typed k entry items read unbound unowned stays is_row
      (subst (λ n. Tailed (sequences_of keys.bound (e.draft editor) i n) (e.environment editor) (e.draft editor) i k entry.meaning items read) is_count tailed)

  module _ {S : Type 0} (command : S → Command) (input : S → Input) where
    -- the items ended, or reading went wrong
    pub row_fails : (f : ReadlineError) (editor' : X) (reader' : Y)
        → ReadsPart e r TailedHere [] (e.draft editor) (λ c d. d) (λ (b : phrases.Read). command_of b.command) (λ b. behind_input b i) (Err f) editor keys reader editor' reader'
        → ReadsPart e r ByRow [] (e.draft editor) (λ c d. d) command input (Err f) editor keys reader editor' reader'
    row_fails f editor' reader' part = record {
      read = λ no.
          let d = part.read no in
          let l = d.1.lacks in (
            d.0,
            record {
              lacks = record {
                rest = l.rest;
                read = listed entry i l.read;
                proper = l.proper;
                comes = by_row (r.rest reader ++ l.rest) l.read l.comes;
                shown = l.shown;
                later = l.later;
                drawn = l.drawn;
                each = l.each;
              };
              empty = d.1.empty;
              draft = d.1.draft;
              drew = d.1.drew;
            },
          );
      within = let w = part.within in record {
        items = w.items;
        cut = w.cut;
        begins = record { rest = w.begins.rest; read = listed entry i w.begins.read; comes = by_row (w.items ++ w.begins.rest) w.begins.read w.begins.comes };
      };
      fault = part.fault;
      line = part.line;
      start = part.start;
      redraws = part.redraws;
      fewer = part.fewer;
      keeps = part.keeps;
      fails = record { io = part.fails.io; quiet = part.fails.quiet };
    }

    -- memory ran out for the row's group
    pub row_memory : (f : ReadlineError) (b : phrases.Read) (mid new : X) (reader' : Y) → is_memory f ≡ true → Undrawn e mid new → KeepsLine (e.draft mid) (e.draft new)
        → ReadsPart e r TailedHere [] (e.draft editor) (λ c d. d) (λ (b : phrases.Read). command_of b.command) (λ b. behind_input b i) (Ok b) editor keys reader mid reader'
        → ReadsPart e r ByRow [] (e.draft editor) (λ c d. d) command input (Err f) editor keys reader new reader'
    row_memory f b mid new reader' memory undrawn line part =
        part_then_memory e r TailedHere ByRow (e.draft editor) (e.draft editor) (λ c d. d) (λ c d. d) (λ (b : phrases.Read). command_of b.command) (λ b. behind_input b i) command input b f editor keys reader mid new reader'
        (λ items read tailed. (listed entry i read, by_row items read tailed)) memory undrawn line part

    -- a command was read, and the row's group begins or ends
    pub row_read : (b : phrases.Read) (y : S) (mid new : X) (reader' : Y)
        → ReadsPart e r TailedHere [] (e.draft editor) (λ c d. d) (λ (b : phrases.Read). command_of b.command) (λ b. behind_input b i) (Ok b) editor keys reader mid reader'
        → e.draft new ≡ with_group entry.group (e.draft mid) → KeepsLine (e.draft mid) (e.draft new) → (e.draft new).hint ≡ (e.draft mid).hint
        → start_text (e.draft new) ≡ start_text (e.draft mid) → Undrawn e mid new
        → command y ≡ command_of b.command → input y ≡ remembered_behind i.style entry.enters i (command_of b.command) b.last_char_search
        → ReadsPart e r ByRow [] (e.draft editor) (λ c d. d) command input (Ok y) editor keys reader new reader'
    row_read b y mid new reader' part draft line hint start undrawn same_command same_input =
        let was = part.read in
        let told : remembered_behind i.style entry.enters i was.read.command was.read.input.last_search ≡ input y =
        ap (λ c. remembered_behind i.style entry.enters i c was.read.input.last_search) was.command_read
        ∙ ap (λ (x : Input). remembered_behind i.style entry.enters i (command_of b.command) x.last_search) was.input_read ∙ sym same_input in
        record {
          read = record {
            items = was.items;
            read = listed entry i was.read;
            cut = was.cut;
            comes = by_row was.items was.read was.comes;
            command_read = was.command_read ∙ sym same_command;
            input_read = told;
            begun_there = draft ∙ ap (λ d. with_group entry.group d) was.begun_there;
            drew = counts_kept e was.read.shown editor mid new line.line hint undrawn.drew was.drew;
            hint = λ none. hint ∙ was.hint none;
          };
          within = tt;
          fault = tt;
          line = record { line = line.line ∙ part.line.line; saved = line.saved ∙ part.line.saved; index = line.index ∙ part.line.index };
          start = start ∙ part.start;
          redraws = rises_stays _ _ _ _ _ part.redraws undrawn.drew.redraws;
          fewer = part.fewer;
          keeps = record { frame = frame_then e editor mid new part.keeps.frame undrawn.frame; own = part.keeps.own; counts = part.keeps.counts };
          fails = record { io = tt; quiet = (part.fails.quiet.0, undrawn.failures ∙ part.fails.quiet.1) };
        }

module _ {X Y : Type 0} (e : editors.Ghosts X) (r : readers.Ghosts Y) (editor mid : X) (keys : KeyState) (reader : Y) (first plain : KeyEvent)
    (stands : source_of (keymap_of keys (r.own_binding (r.kept reader))) (e.draft editor) keys.input None first ≡ by_phrase plain)
    (ended : e.draft mid ≡ out_of_group (e.draft editor)) (undrawn : Undrawn e editor mid) where
  abbrev commanded : Input
  commanded = in_mode modes.Command keys.input

  -- what a phrase of command mode comes to that begins behind the key
  abbrev Inside : List Item → Read → Type 0
  Inside items read = Spelled (keymap_of keys (r.own_binding (r.kept reader))) (e.environment mid) (e.draft mid) commanded items read

  -- behind the key with Alt it is a phrase
  nests : (rest : List Item) (read : Read) → Inside (key plain ∷ rest) read → PhraseHere e r editor keys reader (key first ∷ rest) (behind_alt keys.input read)
  nests rest read inside =
      let P : Environment → Type 0 = λ w. Spelled (keymap_of keys (r.own_binding (r.kept reader))) w (e.draft mid) commanded (key plain ∷ rest) read in
      let Q : Draft → Type 0 = λ d. Spelled (keymap_of keys (r.own_binding (r.kept reader))) (e.environment editor) d commanded (key plain ∷ rest) read in
      behind_key (record {
        first = first;
        plain = plain;
        rest = rest;
        cut = refl;
        stands = stands;
        within = read;
        spelled = subst Q ended (subst P undrawn.frame.environment inside);
        told = refl;
      })

  entered_is : entered (keymap_of keys (r.own_binding (r.kept reader))) (e.draft editor) keys.input (key first ∷ []) ≡ e.draft mid
  entered_is = ap (λ o. entered_by o (e.draft editor)) stands ∙ sym ended

  -- the items that were read begin with the plain key
  record Split (items : List Item) : Type 0 where
    rest : List Item
    is : items ≡ key plain ∷ rest

  split : (items behind back : List Item) (read : Read) → Inside items read → key plain ∷ behind ≡ items ++ back → Split items
  split [] behind back read inside whole = absurd (no inside.typed inside.last inside.tail inside.cut)
    where
      no : (typed : List KeyEvent) (last : KeyEvent) (tail : List Item) → [] ≡ map key typed ++ (key last ∷ tail) → ⊥
      no [] last tail cut = cc
      no (t ∷ ts) last tail cut = cc
  split (x ∷ xs) behind back read inside whole =
      let same : key plain ≡ x = cc in
      record { rest = xs; is = ap (λ i. i ∷ xs) (sym same) }

  module _ {T S : Type 0} (command : T → Command) (input : T → Input) (command' : S → Command) (input' : S → Input) (editor' : X) (reader' : Y) where
    abbrev from_key : Draft
    from_key = entered (keymap_of keys (r.own_binding (r.kept reader))) (e.draft editor) keys.input (key first ∷ [])

    kept_line : KeepsLine (e.draft editor) (e.draft mid)
    kept_line = record {
      line = ap (λ (d : Draft). d.line) ended;
      saved = ap (λ (d : Draft). d.saved) ended;
      index = ap (λ (d : Draft). d.index) ended;
    }

    pub alt_read : (x : T) (y : S) → command' y ≡ command x
        → input' y ≡ record (input x) { last_change = changed_by keys.input.mode (input x).last_change (command x) }
        → ReadsPart e r Inside (key plain ∷ []) (e.draft mid) (λ c d. d) command input (Ok x) mid keys reader editor' reader'
        → ReadsPart e r (PhraseHere e r editor keys reader) (key first ∷ []) from_key (λ c d. d) command' input' (Ok y) editor keys reader editor' reader'
    alt_read x y same_command same_input part =
        let was = part.read in
        let parted = split was.items (r.rest reader) (r.rest reader') was.read was.comes was.cut in
        let whole : key plain ∷ r.rest reader ≡ key plain ∷ (parted.rest ++ r.rest reader') = was.cut ∙ ap (λ t. t ++ r.rest reader') parted.is in
        let behind : r.rest reader ≡ parted.rest ++ r.rest reader' = cc in
        let f : Input → Command → Input = λ i c. record i { last_change = changed_by keys.input.mode i.last_change c } in
        record {
          read = record {
            items = key first ∷ parted.rest;
            read = behind_alt keys.input was.read;
            cut = ap (λ t. key first ∷ t) behind;
            comes = nests parted.rest was.read (subst (λ t. Inside t was.read) parted.is was.comes);
            command_read = was.command_read ∙ sym same_command;
            input_read = ap (λ i. f i was.read.command) was.input_read ∙ ap (λ c. f (input x) c) was.command_read ∙ sym same_input;
            begun_there = was.begun_there;
            drew = counts_after e editor mid editor' undrawn.frame undrawn.drew was.read.shown was.drew;
            hint = λ none. was.hint none ∙ ap (λ (d : Draft). d.hint) ended;
          };
          within = tt;
          fault = tt;
          line = record { line = part.line.line ∙ kept_line.line; saved = part.line.saved ∙ kept_line.saved; index = part.line.index ∙ kept_line.index };
          start = part.start ∙ ap start_text ended ∙ start_ended (e.draft editor);
          redraws = stays_then _ _ _ _ _ undrawn.drew.redraws part.redraws;
          fewer = part.fewer;
          keeps = record { frame = frame_then e editor mid editor' undrawn.frame part.keeps.frame; own = part.keeps.own; counts = part.keeps.counts };
          fails = record { io = tt; quiet = (part.fails.quiet.0, part.fails.quiet.1 ∙ undrawn.failures) };
        }

    pub alt_fails : (f : ReadlineError)
        → ReadsPart e r Inside (key plain ∷ []) (e.draft mid) (λ c d. d) command input (Err f) mid keys reader editor' reader'
        → ReadsPart e r (PhraseHere e r editor keys reader) (key first ∷ []) from_key (λ c d. d) command' input' (Err f) editor keys reader editor' reader'
    alt_fails f part = record {
      read = λ no.
          let d = part.read no in
          let l = d.1.lacks in (
            d.0,
            record {
              lacks = record {
                rest = l.rest;
                read = behind_alt keys.input l.read;
                proper = l.proper;
                comes = nests (r.rest reader ++ l.rest) l.read l.comes;
                shown = l.shown;
                later = l.later;
                drawn = l.drawn;
                each = omega (arith, l.each);
              };
              empty = d.1.empty;
              draft = d.1.draft ∙ ap (λ w. asked_behind w l.shown (e.draft mid)) undrawn.frame.environment
                  ∙ ap (λ d. asked_behind (e.environment editor) l.shown d) (sym entered_is);
              drew = so_far_after e editor mid editor' undrawn.frame undrawn.drew l.shown d.1.drew;
            },
          );
      within = let w = part.within in record {
        items = w.items;
        cut = w.cut;
        begins = record { rest = w.begins.rest; read = behind_alt keys.input w.begins.read; comes = nests (w.items ++ w.begins.rest) w.begins.read w.begins.comes };
      };
      fault = io_ended f (e.environment mid) (e.environment editor) (e.draft editor) (e.draft mid) from_key (e.draft editor') undrawn.frame.environment (sym entered_is)
          (ap (λ (d : Draft). d.hint) ended) part.fault;
      line = record { line = part.line.line ∙ kept_line.line; saved = part.line.saved ∙ kept_line.saved; index = part.line.index ∙ kept_line.index };
      start = λ no. part.start no ∙ ap start_text ended ∙ start_ended (e.draft editor);
      redraws = λ no. stays_then _ _ _ _ _ undrawn.drew.redraws (part.redraws no);
      fewer = part.fewer;
      keeps = record { frame = frame_then e editor mid editor' undrawn.frame part.keeps.frame; own = part.keeps.own; counts = part.keeps.counts };
      fails = record {
        io = λ is sure below other.
            let q = undrawn.failures in
            let more = part.fails.io is (ap (λ s. is_sure s for_hint) undrawn.frame.sure ∙ sure.0, sure.1) below (omega (arith, other, q)) in
            omega (arith, more, q);
        quiet = λ no. let q = part.fails.quiet no in (q.0, q.1 ∙ undrawn.failures);
      };
    }

module _ {X Y : Type 0} (e : editors.Ghosts X) (r : readers.Ghosts Y) where
  -- a phrase that was read has an item at least
  pub has_item : (keymap : Keymap) (environment : Environment) (draft : Draft) (input : Input) (reader reader' : Y) (items : List Item) (read : Read)
      → r.rest reader ≡ items ++ r.rest reader' → Phrase keymap environment draft input items read → length (r.rest reader') < length (r.rest reader)
  has_item keymap environment draft input reader reader' items read cut (of_mode phrase) =
      let all = ap length cut in
      let behind = length-append items (r.rest reader') in
      let whole = ap length phrase.cut in
      let parts = length-append (map key phrase.typed) (key phrase.last ∷ phrase.tail) in
      omega (arith, all, behind, whole, parts)
  has_item keymap environment draft input reader reader' items read cut (behind_key phrase) =
      let all = ap length cut in
      let behind = length-append items (r.rest reader') in
      let whole = ap length phrase.cut in
      omega (arith, all, behind, whole)

  -- the first key of a phrase was read, and the rest of it
  pub command_part : {T : Type 0} (command : T → Command) (input : T → Input) (editor : X) (keys : KeyState) (reader mid : Y) (k : KeyEvent) (editor' : X) (reader' : Y) (result : Result T ReadlineError)
      → r.rest reader ≡ key k ∷ r.rest mid → r.kept mid ≡ r.kept reader → r.failures mid ≡ r.failures reader
      → ReadsPart e r (PhraseHere e r editor keys mid) (key k ∷ []) (entered (keymap_of keys (r.own_binding (r.kept mid))) (e.draft editor) keys.input (key k ∷ [])) (λ c d. d) command input result editor keys mid editor' reader'
      → ReadsPart e r (PhraseHere e r editor keys reader) [] (entered_here e r editor keys reader) (λ c d. d) command input result editor keys reader editor' reader'
  command_part command input editor keys reader mid k editor' reader' result took own quiet part =
      let P : r.Kept → Type 0 = λ o.
      ReadsPart e r (Phrase (keymap_of keys (r.own_binding o)) (e.environment editor) (e.draft editor) keys.input) (key k ∷ []) (entered (keymap_of keys (r.own_binding o)) (e.draft editor) keys.input (key k ∷ [])) (λ c d. d) command input result editor keys mid editor' reader' in
      let Q : List Item → Type 0 = λ t.
      ReadsPart e r (PhraseHere e r editor keys reader) [] (entered (keymap_of keys (r.own_binding (r.kept reader))) (e.draft editor) keys.input t) (λ c d. d) command input result editor keys reader editor' reader' in
      subst Q (sym took)
      (key_taken e r (PhraseHere e r editor keys reader) (entered (keymap_of keys (r.own_binding (r.kept reader))) (e.draft editor) keys.input (key k ∷ [])) (λ c d. d) command input editor keys reader mid editor' reader' k took own quiet result
      (subst P own part))

  -- it could not be read
  pub none_part : {T S : Type 0} (command : T → Command) (input : T → Input) (editor : X) (keys : KeyState) (reader mid : Y) (f : ReadlineError)
      → ReadFault f (r.rest reader) → r.rest mid ≡ r.rest reader → r.kept mid ≡ r.kept reader
      → CountsFailures {T = S} (Err f) (r.failures reader) (r.failures mid)
      → ReadsPart e r (PhraseHere e r editor keys reader) [] (entered_here e r editor keys reader) (λ c d. d) command input (Err f) editor keys reader editor mid
  none_part command input editor keys reader mid f fault stays own counts =
      key_fails e r (PhraseHere e r editor keys reader) (entered_here e r editor keys reader) (λ c d. d) command input editor keys reader mid f fault stays own counts
      (λ dry. ap (λ t. entered (keymap_of keys (r.own_binding (r.kept reader))) (e.draft editor) keys.input t) dry) (nothing-begins _ _ _ _)

  -- a command that was read, and what is remembered of it
  command_remembered : {T : Type 0} (begun : Command → Draft → Draft) (command : T → Command) (input : T → Input) (t : T) (c : Cmd) (editor : X) (keys keys' : KeyState) (reader : Y) (editor' : X) (reader' : Y)
      → command_of c ≡ command t → keys' ≡ record keys { input = input t }
      → ReadsPart e r (PhraseHere e r editor keys reader) [] (entered_here e r editor keys reader) begun command input (Ok t) editor keys reader editor' reader'
      → ReadsCommand e r begun (Ok c) editor keys reader editor' keys' reader'
  command_remembered begun command input t c editor keys keys' reader editor' reader' same_command same_keys part = record {
    phrase = part_retold e r (PhraseHere e r editor keys reader) [] (entered_here e r editor keys reader) begun command input command_of (λ _. keys'.input) t c editor keys reader editor' reader'
        same_command (ap (λ (k : KeyState). k.input) same_keys) part;
    dry = λ none. absurd (
        let less = has_item _ _ _ _ reader reader' part.read.items part.read.read part.read.cut part.read.comes in
        let no = ap length none in
        omega (arith, less, no));
    remembers = tt;
    bound = ap (λ (k : KeyState). k.bound) same_keys;
  }

  -- none was read, and nothing is remembered
  pub command_failed : {T : Type 0} (begun : Command → Draft → Draft) (command : T → Command) (input : T → Input) (f : ReadlineError) (editor : X) (keys : KeyState) (reader : Y) (editor' : X) (reader' : Y)
      → (r.rest reader ≡ [] → (e.draft editor' ≡ e.draft editor) × DrewNothing e editor editor')
      → ReadsPart e r (PhraseHere e r editor keys reader) [] (entered_here e r editor keys reader) (λ c d. d) command input (Err f) editor keys reader editor' reader'
      → ReadsCommand e r begun (Err f) editor keys reader editor' keys reader'
  command_failed begun command input f editor keys reader editor' reader' dry part = record {
    phrase = failure_retold e r (PhraseHere e r editor keys reader) [] (entered_here e r editor keys reader) (λ c d. d) begun command input command_of (λ _. keys.input) f editor keys reader editor' reader' part;
    dry = dry;
    remembers = refl;
    bound = refl;
  }

  -- memory ran out for the group of a command
  pub group_fails : {T : Type 0} (begun : Command → Draft → Draft) (command : T → Command) (input : T → Input) (t : T) (f : ReadlineError) (editor mid new : X) (keys : KeyState) (reader reader' : Y)
      → is_memory f ≡ true → Undrawn e mid new → KeepsLine (e.draft mid) (e.draft new)
      → ReadsPart e r (PhraseHere e r editor keys reader) [] (entered_here e r editor keys reader) (λ c d. d) command input (Ok t) editor keys reader mid reader'
      → ReadsCommand e r begun (Err f) editor keys reader new keys reader'
  group_fails begun command input t f editor mid new keys reader reader' memory undrawn line part = record {
    phrase = part_then_memory e r (PhraseHere e r editor keys reader) (PhraseHere e r editor keys reader) (entered_here e r editor keys reader) (entered_here e r editor keys reader)
        (λ c d. d) begun command input command_of (λ _. keys.input) t f editor keys reader mid new reader' (λ items read phrase. (read, phrase)) memory undrawn line part;
    dry = λ none. absurd (
        let less = has_item _ _ _ _ reader reader' part.read.items part.read.read part.read.cut part.read.comes in
        let no = ap length none in
        omega (arith, less, no));
    remembers = refl;
    bound = refl;
  }

  -- what was read is remembered once the group of its command has begun, unless memory runs out for it
  pub remembered : {T : Type 0} (command : T → Command) (input : T → Input) (t : T) (result : Result Cmd ReadlineError) (editor mid new : X) (keys keys' : KeyState) (reader reader' : Y)
      → MemoryOnly result → IfOk result (λ c. command_of c ≡ command t) → OnOk result (keys' ≡ record keys { input = input t }) → OnErr result (keys' ≡ keys)
      → Undrawn e mid new → KeepsLine (e.draft mid) (e.draft new) → (e.draft new).hint ≡ (e.draft mid).hint
      → e.draft new ≡ grouped (command t) (e.draft mid) → start_text (e.draft new) ≡ start_text (e.draft mid)
      → ReadsPart e r (PhraseHere e r editor keys reader) [] (entered_here e r editor keys reader) (λ c d. d) command input (Ok t) editor keys reader mid reader'
      → ReadsCommand e r grouped result editor keys reader new keys' reader'
  remembered command input t (Ok c) editor mid new keys keys' reader reader' memory same_command same_keys err undrawn line hint draft start part =
      command_remembered grouped command input t c editor keys keys' reader new reader' same_command same_keys
      (part_grouped e r (PhraseHere e r editor keys reader) (entered_here e r editor keys reader) command input t editor mid new keys reader reader' part undrawn line hint draft start)
  remembered command input t (Err f) editor mid new keys keys' reader reader' memory same_command same_keys err undrawn line hint draft start part =
      subst (λ k. ReadsCommand e r grouped (Err f) editor keys reader new k reader') (sym err)
      (group_fails grouped command input t f editor mid new keys reader reader' memory undrawn line part)

  -- the same where no group begins
  pub remembered_plainly : {T : Type 0} (command : T → Command) (input : T → Input) (t : T) (result : Result Cmd ReadlineError) (editor new : X) (keys keys' : KeyState) (reader reader' : Y)
      → MemoryOnly result → IfOk result (λ c. command_of c ≡ command t) → OnOk result (keys' ≡ record keys { input = input t }) → OnErr result (keys' ≡ keys)
      → ReadsPart e r (PhraseHere e r editor keys reader) [] (entered_here e r editor keys reader) (λ c d. d) command input (Ok t) editor keys reader new reader'
      → ReadsCommand e r (λ c d. d) result editor keys reader new keys' reader'
  remembered_plainly command input t (Ok c) editor new keys keys' reader reader' memory same_command same_keys err part =
      command_remembered (λ c d. d) command input t c editor keys keys' reader new reader' same_command same_keys part
  remembered_plainly command input t (Err f) editor new keys keys' reader reader' memory same_command same_keys err part =
      subst (λ k. ReadsCommand e r (λ c d. d) (Err f) editor keys reader new k reader') (sym err)
      (group_fails (λ c d. d) command input t f editor new new keys reader reader' memory
      (record { drew = record { display = refl; redraws = refl }; failures = refl; frame = frame_stays e new }) (record { line = refl; saved = refl; index = refl }) part)
