-- Facts on phrases that are read.
use Rattle.std.proofs.Common.{◌≡◌, ◌≢◌, ℕ, Bool, cond, ◌+◌, ◌≤◌, ◌++◌, append_assoc, List, [], ◌∷◌, length, map, Result, Ok, Err, true, false, inl, inr, refl, sym, ◌∙◌, ap, subst, arith}
use Rattle.std.specs.Prelude.{OnErr, OnOk}
use Rattle.std.proofs.lemmas.Bool.{cases_lt}
use Rattle.std.proofs.lemmas.List.{length-append, length-map}
use Rattle.line_buffer.specs.declared.layout.GraphemeClusterMode.{GraphemeClusterMode}
use Rattle.line_buffer.specs.declared.layout.Position.{Position}
use Rattle.line_buffer.specs.Undo.{first_text}
use Rattle.line_config.specs.Error.{IoOnlyIf, Rose, UnlessFault, is_fault, max_count}
use Rattle.line_config.specs.Failures.{CountsFailures, UnlessIo}
use Rattle.line_config.specs.declared.config.EditMode.{EditMode}
use Rattle.line_config.specs.declared.error.ReadlineError.{ReadlineError}
use Rattle.line_config.specs.declared.error.ReadlineError.TheVariants.{Eof, Interrupted, Io, Memory}
use Rattle.line_keys.specs.Command.{Command}
use Rattle.line_keys.specs.Count.{continues_count}
use Rattle.line_parts.specs.Asks.{for_hint, is_sure}
use Rattle.line_parts.specs.Environment.{Environment}
use Rattle.std.specs.List.{list_all}
use Rattle.line_keys.specs.Model.Display.{Surface}
use Rattle.line_keys.specs.Model.Draft.{Draft, KeepsText, hinted, start_text}
use Rattle.line_keys.specs.Model.Frame.{Frame}
use Rattle.line_keys.specs.Model.ShownLine.{HasRightLayout}
use Rattle.line_keys.specs.Item.{Item, ReadFault, key}
use Rattle.line_keys.specs.declared.count.Count.{Count}
use Rattle.line_keys.specs.declared.editor_state.EditorState as editors
use Rattle.line_keys.specs.declared.keys.KeyEvent.{KeyEvent}
use Rattle.line_keys.specs.declared.raw_reader.RawReader as readers
use Rattle.line_input.specs.Ruler.{Ruler, own_ruler, ruler_of}
use Rattle.line_input.specs.Input.{Input}
use Rattle.line_input.specs.Keymap.{KeyState}
use Rattle.line_input.specs.Read.{Begins, Lacks, Read, quiet_read, read_behind}
use Rattle.line_input.specs.Reading.{EitherRose, Ends, EndsCount, EndsQuietly, Gives, GivesQuietly, OnRead, ReadsCount, ReadsPart, StopsWithin, TakesItems}
use Rattle.line_input.specs.ItemShown.{ItemShown, any_drawn, asked_behind, counting_on, kept, last_drawn, none_shown, shown_with, shows_line}
use Rattle.line_input.proofs.CountedLemmas.{all_counted}
use Rattle.line_input.proofs.DrawnTwiceLemmas.{frame_then}
use Rattle.line_input.proofs.KeyFitLemmas.{enter}
use Rattle.line_input.proofs.DraftLemmas.{io_counted, io_cut, io_stays}
use Rattle.line_input.proofs.ShownLemmas.{counting-each, counts_then, drew_none, quiet-any, quiet-last, so_far_counting, so_far_none, so_far_kept, so_far_then}

pub on_answer_then : {T E P Q : Type 0} (result : Result T E) → (P → Q) → OnOk result P → OnOk result Q
on_answer_then (Ok x) goes p = goes p
on_answer_then (Err f) goes p = tt

pub on_err : {T E P : Type 0} (result : Result T E) → P → OnErr result P
on_err (Ok x) p = tt
on_err (Err f) p = p

pub on_err_then : {T E P Q : Type 0} (result : Result T E) → (P → Q) → OnErr result P → OnErr result Q
on_err_then (Ok x) goes p = tt
on_err_then (Err f) goes p = goes p

pub unless_fault : {T P : Type 0} (result : Result T ReadlineError) → P → UnlessFault result P
unless_fault (Ok x) p = p
unless_fault (Err f) p = λ fault. p

pub unless_fault_then : {T P Q : Type 0} (result : Result T ReadlineError) → (P → Q) → UnlessFault result P → UnlessFault result Q
unless_fault_then (Ok x) goes p = goes p
unless_fault_then (Err f) goes p = λ calm. goes (p calm)

pub unless_fault_both : {T P Q R : Type 0} (result : Result T ReadlineError) → (P → Q → R) → UnlessFault result P → UnlessFault result Q → UnlessFault result R
unless_fault_both (Ok x) goes p q = goes p q
unless_fault_both (Err f) goes p q = λ calm. goes (p calm) (q calm)

pub io_only : {T P Q : Type 0} (result : Result T ReadlineError) → (P → Q) → IoOnlyIf result P → IoOnlyIf result Q
io_only (Ok x) goes io = tt
io_only (Err f) goes io = λ is. goes (io is)

pub unless_io : {T P Q : Type 0} (result : Result T ReadlineError) → (P → Q) → UnlessIo result P → UnlessIo result Q
unless_io (Ok x) goes p = goes p
unless_io (Err f) goes p = λ no. goes (p no)

pub frame_stays : {X : Type 0} (e : editors.Ghosts X) (editor : X) → Frame e editor editor
frame_stays e editor = record { environment = refl; loan = refl; surface = refl; prompt = refl; prompt_end = refl; sure = refl; failures = omega arith }

-- a reader that failed behind other failures has failed
either_rose : (read mid read' drew drew' : ℕ) → read ≤ mid → mid ≤ read' → drew ≤ drew' → Rose mid read' → EitherRose read drew read' drew'
either_rose read mid read' drew drew' first then draws rose =
    λ below others. elim (cases_lt mid max_count) [
      | inl less ↦ let s = rose less in omega (arith, s, first, draws)
      | inr more ↦ omega (arith, below, more, then, draws)
    ]

-- where all but the hint stays, all changes taken back give the same
same_start : (draft left : Draft) → KeepsText draft left → start_text left ≡ start_text draft
same_start draft left keeps = ap (λ c. first_text c left.line) keeps.changes ∙ ap (λ l. first_text draft.changes l) keeps.line

-- behind the own prompt the ruler is the own one
pub ruler_there : {X : Type 0} (e : editors.Ghosts X) (editor editor' : X) (indent : ℕ) → Frame e editor editor' → HasRightLayout e editor'
    → ruler_of (e.display editor') indent ≡ own_ruler (e.display editor) indent
ruler_there e editor editor' indent frame right =
    let f : ℕ → Ruler = λ n. record { prompt_column = n; cluster_mode = (e.display editor').layout.grapheme_cluster_mode; indent_size = indent } in
    let h : GraphemeClusterMode → Ruler = λ m. record { prompt_column = (e.display editor).prompt_end.col; cluster_mode = m; indent_size = indent } in
    ap f (ap (λ (p : Position). p.col) (right.drawn.prompt ∙ frame.prompt_end))
    ∙ ap h (right.drawn.mode ∙ ap (λ (s : Surface). s.mode) frame.surface)

-- what an error leaves of the item that was to be read
pub fault_dry : (error : ReadlineError) (rest : List Item) → ReadFault error rest → is_fault error ≡ false → (error ≡ Eof) × (rest ≡ [])
fault_dry Eof rest dry calm = (refl, dry)
fault_dry Interrupted rest dry calm = absurd dry
fault_dry (Io cause) rest dry calm = absurd (cc)
fault_dry Memory rest dry calm = absurd (cc)

module _ {X Y : Type 0} (e : editors.Ghosts X) (r : readers.Ghosts Y) where
  module _ {T : Type 0} (Comes : List Item → Read → Type 0) (from : Draft) (begun : Command → Draft → Draft) (command : T → Command) (input : T → Input)
      (editor : X) (keys : KeyState) (reader mid : Y) where
    -- a key was read first: it stands in front of what is read behind it
    module _ (editor' : X) (reader' : Y) (k : KeyEvent) (took : r.rest reader ≡ key k ∷ r.rest mid) (own : r.kept mid ≡ r.kept reader)
        (quiet : r.failures mid ≡ r.failures reader) where
      abbrev size : length (r.rest reader) ≡ length (key k ∷ r.rest mid)
      size = ap length took

      pub key_taken : (result : Result T ReadlineError)
          → ReadsPart e r Comes (key k ∷ []) from begun command input result editor keys mid editor' reader'
          → ReadsPart e r Comes [] from begun command input result editor keys reader editor' reader'
      key_taken result part = record {
        read = taken result part.read;
        within = on_err_then result (λ (w : StopsWithin r Comes (key k ∷ []) mid reader'). record {
          items = key k ∷ w.items;
          cut = took ∙ ap (λ t. key k ∷ t) w.cut;
          begins = w.begins;
        }) part.within;
        fault = part.fault;
        line = part.line;
        start = part.start;
        redraws = unless_fault_then result (λ drew below. let s = drew (omega (arith, below, size)) in (omega (arith, s.0), omega (arith, s.1, size))) part.redraws;
        fewer = unless_fault_then result (λ less. omega (arith, size, less)) part.fewer;
        keeps = record { frame = part.keeps.frame; own = part.keeps.own ∙ own; counts = omega (arith, quiet, part.keeps.counts) };
        fails = record {
          io = io_only result (λ rose sure below other. let more = rose sure (omega (arith, below, quiet)) other in omega (arith, more, quiet)) part.fails.io;
          quiet = unless_io result (λ same. (same.0 ∙ quiet, same.1)) part.fails.quiet;
        };
      }
        where
          taken : (result : Result T ReadlineError)
              → OnRead result (λ x. Gives e r Comes (key k ∷ []) begun (command x) (input x) editor mid editor' reader') (Ends e r Comes (key k ∷ []) from editor mid editor' reader')
              → OnRead result (λ x. Gives e r Comes [] begun (command x) (input x) editor reader editor' reader') (Ends e r Comes [] from editor reader editor' reader')
          taken (Ok x) gives = record {
            items = gives.items;
            read = gives.read;
            cut = took ∙ gives.cut;
            comes = gives.comes;
            command_read = gives.command_read;
            input_read = gives.input_read;
            begun_there = gives.begun_there;
            drew = gives.drew;
            hint = gives.hint;
          }
          taken (Err f) ends = λ no.
              let d = ends no in
              let lacks : Lacks Comes (r.rest reader) = subst (λ t. Lacks Comes t) (sym took) d.1.lacks in (
                d.0,
                record {
                  lacks = record {
                    rest = d.1.lacks.rest;
                    read = d.1.lacks.read;
                    proper = d.1.lacks.proper;
                    comes = subst (λ t. Comes (t ++ d.1.lacks.rest) d.1.lacks.read) (sym took) d.1.lacks.comes;
                    shown = d.1.lacks.shown;
                    later = d.1.lacks.later;
                    drawn = d.1.lacks.drawn;
                    each = d.1.lacks.each ∙ sym size;
                  };
                  empty = d.1.empty;
                  draft = d.1.draft;
                  drew = d.1.drew;
                },
              )

    -- the first key could not be read
    pub key_fails : {S : Type 0} (f : ReadlineError) → ReadFault f (r.rest reader) → r.rest mid ≡ r.rest reader → r.kept mid ≡ r.kept reader
        → CountsFailures {T = S} (Err f) (r.failures reader) (r.failures mid)
        → (r.rest reader ≡ [] → from ≡ e.draft editor)
        → ((rest : List Item) × (read : Read) × (rest ≢ []) × Comes rest read)
        → ReadsPart e r Comes [] from begun command input (Err f) editor keys reader editor mid
    key_fails f fault stays own counts same begins = record {
      read = λ calm.
          let d = fault_dry f (r.rest reader) fault calm in (
            d.0,
            record {
              lacks = record {
                rest = begins.0;
                read = begins.1;
                proper = begins.2;
                comes = subst (λ t. Comes (t ++ begins.0) begins.1) (sym d.1) begins.3;
                shown = [];
                later = begins.1.shown;
                drawn = refl;
                each = sym (ap length d.1);
              };
              empty = stays ∙ d.1;
              draft = sym (same d.1);
              drew = record { display = refl; redraws = refl };
            },
          );
      within = record { items = []; cut = sym stays; begins = record { rest = begins.0; read = begins.1; comes = begins.3 } };
      fault = io_cut f (e.environment editor) (e.draft editor) from (e.draft editor) (inl refl);
      line = record { line = refl; saved = refl; index = refl };
      start = λ calm. refl;
      redraws = λ calm below. (omega arith, omega arith);
      fewer = λ calm. omega (arith, ap length stays);
      keeps = record { frame = frame_stays e editor; own = own; counts = counts.grows };
      fails = record {
        io = λ is sure below other. let rose = counts.rose is below in omega (arith, rose);
        quiet = λ calm. (counts.stays calm, refl);
      };
    }

  module _ {T : Type 0} (Comes Behind : List Item → Read → Type 0) (begun : Command → Draft → Draft) (command : T → Command) (input : T → Input)
      (editor : X) (keys : KeyState) (mid : Y) (k : KeyEvent) (style : EditMode) where
    -- a key without a count is read with what belongs to it
    pub plainly : (from : Draft) (editor' : X) (reader' : Y) (result : Result T ReadlineError)
        → ((items : List Item) (read : Read) → Behind items read → Comes (key k ∷ items) (read_behind [] read))
        → ReadsPart e r Behind [] from begun command input result editor keys mid editor' reader'
        → ReadsPart e r Comes (key k ∷ []) from begun command input result editor keys mid editor' reader'
    plainly from editor' reader' result leads part = record {
      read = plain result part.read;
      within = on_err_then result (λ (w : StopsWithin r Behind [] mid reader'). record {
        items = w.items;
        cut = w.cut;
        begins = record {
          rest = w.begins.rest;
          read = read_behind [] w.begins.read;
          comes = leads (w.items ++ w.begins.rest) w.begins.read w.begins.comes;
        };
      }) part.within;
      fault = part.fault;
      line = part.line;
      start = part.start;
      redraws = unless_fault_then result (λ drew below. let s = drew (omega (arith, below)) in (omega (arith, s.0), omega (arith, s.1))) part.redraws;
      fewer = part.fewer;
      keeps = part.keeps;
      fails = part.fails;
    }
      where
        plain : (result : Result T ReadlineError)
            → OnRead result (λ x. Gives e r Behind [] begun (command x) (input x) editor mid editor' reader') (Ends e r Behind [] from editor mid editor' reader')
            → OnRead result (λ x. Gives e r Comes (key k ∷ []) begun (command x) (input x) editor mid editor' reader') (Ends e r Comes (key k ∷ []) from editor mid editor' reader')
        plain (Ok x) gives = record {
          items = key k ∷ gives.items;
          read = read_behind [] gives.read;
          cut = ap (λ t. key k ∷ t) gives.cut;
          comes = leads gives.items gives.read gives.comes;
          command_read = gives.command_read;
          input_read = gives.input_read;
          begun_there = gives.begun_there;
          drew = gives.drew;
          hint = gives.hint;
        }
        plain (Err f) ends = λ no.
            let d = ends no in
            let l = d.1.lacks in (
              d.0,
              record {
                lacks = record {
                  rest = l.rest;
                  read = read_behind [] l.read;
                  proper = l.proper;
                  comes = leads (r.rest mid ++ l.rest) l.read l.comes;
                  shown = kept ∷ l.shown;
                  later = l.later;
                  drawn = ap (λ s. kept ∷ s) l.drawn;
                  each = omega (arith, l.each);
                };
                empty = d.1.empty;
                draft = d.1.draft;
                drew = so_far_kept e l.shown editor editor' d.1.drew;
              },
            )

    -- a count was read, the key that ends it, and what belongs to that
    module _ (count : Count) (last : KeyEvent) (editor1 : X) (mid1 : Y) (read : ReadsCount e r style k (Ok (count, last)) editor mid editor1 mid1) where
      abbrev ends_count : EndsCount r style mid mid1 last
      ends_count = read.read.ends

      size_is : length (key k ∷ r.rest mid) ≡ length (k ∷ ends_count.more) + length (key last ∷ r.rest mid1)
      size_is =
          let whole = ap length ends_count.cut in
          let behind = length-append (map key ends_count.more) (key last ∷ r.rest mid1) in
          let same = length-map ends_count.more key in
          omega (arith, whole, behind, same)

      -- a list that goes on behind the count
      goes_behind : (items rest : List Item) → r.rest mid1 ≡ items ++ rest
          → key k ∷ r.rest mid ≡ (map key (k ∷ ends_count.more) ++ (key last ∷ items)) ++ rest
      goes_behind items rest is =
          ap (λ t. key k ∷ t) (ends_count.cut ∙ ap (λ t. map key ends_count.more ++ (key last ∷ t)) is)
          ∙ sym (append_assoc (map key (k ∷ ends_count.more)) (key last ∷ items) rest)

      asked_twice : (environment environment' : Environment) (shown : List ItemShown) (draft : Draft) → environment' ≡ environment
          → asked_behind environment' shown (hinted environment draft) ≡ hinted environment draft
      asked_twice environment environment' shown draft same =
          ap (λ w. asked_behind w shown (hinted environment draft)) same ∙ by_any (any_drawn shown)
        where
          by_any : (b : Bool) → cond b (hinted environment (hinted environment draft)) (hinted environment draft) ≡ hinted environment draft
          by_any true = refl
          by_any false = refl

      pub counted : (editor' : X) (reader' : Y) (result : Result T ReadlineError)
          → ((items : List Item) (read : Read) → Behind items read
          → Comes (map key (k ∷ ends_count.more) ++ (key last ∷ items)) (read_behind (k ∷ ends_count.more) read))
          → ReadsPart e r Behind [] (e.draft editor1) begun command input result editor1 keys mid1 editor' reader'
          → ReadsPart e r Comes (key k ∷ []) (e.draft editor) begun command input result editor keys mid editor' reader'
      counted editor' reader' result leads part =
          let q = read.fails.quiet in
          let started = same_start (e.draft editor) (e.draft editor1) read.text in
          record {
            read = behind result part.read;
            within = on_err_then result stopped part.within;
            fault = io_counted result (e.environment editor1) (e.environment editor) (e.draft editor) (e.draft editor1) (e.draft editor') read.keeps.frame.environment read.draft part.fault;
            line = record { line = part.line.line ∙ read.text.line; saved = part.line.saved ∙ read.text.saved; index = part.line.index ∙ read.text.index };
            start = unless_fault_then result (λ same. same ∙ started) part.start;
            redraws = unless_fault_both result (λ drew less below.
                let s = read.read.drew.redraws (omega (arith, below, size_is, less)) in
                let t = drew (omega (arith, below, size_is, less, s.1)) in
                (omega (arith, s.0, t.0), omega (arith, s.1, t.1, size_is, less))) part.redraws part.fewer;
            fewer = unless_fault_then result (λ less. omega (arith, size_is, less)) part.fewer;
            keeps = record {
              frame = frame_then e editor editor1 editor' read.keeps.frame part.keeps.frame;
              own = part.keeps.own ∙ read.keeps.own;
              counts = omega (arith, read.keeps.counts, part.keeps.counts);
            };
            fails = record {
              io = io_only result (λ rose sure below other.
                  let more = rose (ap (λ s. is_sure s for_hint) read.keeps.frame.sure ∙ sure.0, sure.1) (omega (arith, below, q.0)) (omega (arith, other, q.1)) in
                  omega (arith, more, q.0, q.1)) part.fails.io;
              quiet = unless_io result (λ same. (same.0 ∙ q.0, same.1 ∙ q.1)) part.fails.quiet;
            };
          }
        where
          stopped : StopsWithin r Behind [] mid1 reader' → StopsWithin r Comes (key k ∷ []) mid reader'
          stopped w = record {
            items = map key ends_count.more ++ (key last ∷ w.items);
            cut = ends_count.cut ∙ ap (λ t. map key ends_count.more ++ (key last ∷ t)) w.cut
                ∙ sym (append_assoc (map key ends_count.more) (key last ∷ w.items) (r.rest reader'));
            begins = record {
              rest = w.begins.rest;
              read = read_behind (k ∷ ends_count.more) w.begins.read;
              comes =
                  subst (λ t. Comes (key k ∷ t) (read_behind (k ∷ ends_count.more) w.begins.read))
                  (sym (append_assoc (map key ends_count.more) (key last ∷ w.items) w.begins.rest))
                  (leads (w.items ++ w.begins.rest) w.begins.read w.begins.comes);
            };
          }

          behind : (result : Result T ReadlineError)
              → OnRead result (λ x. Gives e r Behind [] begun (command x) (input x) editor1 mid1 editor' reader') (Ends e r Behind [] (e.draft editor1) editor1 mid1 editor' reader')
              → OnRead result (λ x. Gives e r Comes (key k ∷ []) begun (command x) (input x) editor mid editor' reader') (Ends e r Comes (key k ∷ []) (e.draft editor) editor mid editor' reader')
          behind (Ok x) gives = record {
            items = map key (k ∷ ends_count.more) ++ (key last ∷ gives.items);
            read = read_behind (k ∷ ends_count.more) gives.read;
            cut = goes_behind gives.items (r.rest reader') gives.cut;
            comes = leads gives.items gives.read gives.comes;
            command_read = gives.command_read;
            input_read = gives.input_read;
            begun_there = gives.begun_there;
            drew = counts_then e editor editor1 editor' read.keeps.frame k ends_count.more read.read.drew gives.read.shown part.line.line gives.hint gives.drew;
            hint = λ none. absurd (cc);
          }
          behind (Err f) ends = λ no.
              let d = ends no in
              let l = d.1.lacks in
              let whole : key k ∷ (r.rest mid ++ l.rest) ≡ map key (k ∷ ends_count.more) ++ (key last ∷ (r.rest mid1 ++ l.rest)) =
              ap (λ t. key k ∷ (t ++ l.rest)) ends_count.cut ∙ append_assoc (map key (k ∷ ends_count.more)) (key last ∷ r.rest mid1) l.rest in
              let each = counting-each [] (k ∷ ends_count.more) in
              let sizes = length-append (counting_on [] (k ∷ ends_count.more)) (shows_line ∷ l.shown) in (
                d.0,
                record {
                  lacks = record {
                    rest = l.rest;
                    read = read_behind (k ∷ ends_count.more) l.read;
                    proper = l.proper;
                    comes = subst (λ t. Comes t (read_behind (k ∷ ends_count.more) l.read)) (sym whole) (leads (r.rest mid1 ++ l.rest) l.read l.comes);
                    shown = shown_with (k ∷ ends_count.more) l.shown;
                    later = l.later;
                    drawn = ap (λ s. shown_with (k ∷ ends_count.more) s) l.drawn
                        ∙ sym (append_assoc (counting_on [] (k ∷ ends_count.more)) (shows_line ∷ l.shown) l.later);
                    each = omega (arith, size_is, each, sizes, l.each);
                  };
                  empty = d.1.empty;
                  draft = d.1.draft ∙ ap (λ d. asked_behind (e.environment editor1) l.shown d) read.draft
                      ∙ asked_twice (e.environment editor) (e.environment editor1) l.shown (e.draft editor) read.keeps.frame.environment;
                  drew =
                      so_far_then e editor editor1 editor' read.keeps.frame k ends_count.more read.read.drew l.shown part.line.line
                      (λ none. ap (λ (d : Draft). d.hint) (d.1.draft ∙ ap (λ b. cond b (hinted (e.environment editor1) (e.draft editor1)) (e.draft editor1)) none)) d.1.drew;
                },
              )

    -- reading a count went wrong, or the items ended in it
    pub count_goes_wrong : (f : ReadlineError) (editor' : X) (reader' : Y) → ReadsCount e r style k (Err f) editor mid editor' reader'
        → ((more : List KeyEvent) → list_all (continues_count style) more ≡ true
        → (read : Read) × (later : List ItemShown) × Comes (map key (k ∷ more) ++ (key enter ∷ [])) read × (read.shown ≡ counting_on [] (k ∷ more) ++ later))
        → ((last : KeyEvent) (ends : EndsCount r style mid reader' last) → Begins Comes (map key (k ∷ ends.more) ++ (key last ∷ [])))
        → ReadsPart e r Comes (key k ∷ []) (e.draft editor) begun command input (Err f) editor keys mid editor' reader'
    count_goes_wrong f editor' reader' count ended over = record {
      read = λ no.
          let cut = (count.read no).1 in
          let inside = cut.inside.goes_on in
          let w = ended inside.more inside.continue in
          let all = all_counted r style mid reader' cut.inside in
          let size = ap length all in
          let same = length-map inside.more key in
          let each = counting-each [] (k ∷ inside.more) in (
            (count.read no).0,
            record {
              lacks = record {
                rest = key enter ∷ [];
                read = w.0;
                proper = λ none. cc;
                comes = subst (λ t. Comes (key k ∷ (t ++ (key enter ∷ []))) w.0) (sym all) w.2;
                shown = counting_on [] (k ∷ inside.more);
                later = w.1;
                drawn = w.3;
                each = omega (arith, size, same, each);
              };
              empty = cut.inside.empty;
              draft = count.draft no;
              drew = so_far_counting e k inside.more editor editor' cut.drew;
            },
          );
      within = elim count.within [
        | inl inside ↦ record {
          items = map key inside.more;
          cut = inside.cut;
          begins = let w = ended inside.more inside.continue in record { rest = key enter ∷ []; read = w.0; comes = w.2 };
        }
        | inr stop ↦ record {
          items = map key stop.1.more ++ (key stop.0 ∷ []);
          cut = stop.1.cut ∙ sym (append_assoc (map key stop.1.more) (key stop.0 ∷ []) (r.rest reader'));
          begins = over stop.0 stop.1;
        }
      ];
      fault = io_cut f (e.environment editor) (e.draft editor) (e.draft editor) (e.draft editor') count.left;
      line = record { line = count.text.line; saved = count.text.saved; index = count.text.index };
      start = λ no. same_start (e.draft editor) (e.draft editor') count.text;
      redraws = λ no.
          let inside = (count.read no).1.inside in
          let size = ap length (all_counted r style mid reader' inside) in
          let same = length-map inside.goes_on.more key in
          let left : length (r.rest reader') ≡ 0 = ap length inside.empty in
          λ below.
          let s = (count.read no).1.drew.redraws (omega (arith, below, left, size, same)) in
          (omega (arith, s.0), omega (arith, s.1, left, size, same));
      fewer = λ no. let left : length (r.rest reader') ≡ 0 = ap length (count.read no).1.inside.empty in omega (arith, left);
      keeps = count.keeps;
      fails = record {
        io = λ is sure below other. count.fails.io is sure.0 below other;
        quiet = count.fails.quiet;
      };
    }

  -- what was read with nothing drawn is a part
  pub quiet_part : {T : Type 0} (Comes : List Item → Read → Type 0) (editor : X) (keys : KeyState) (reader reader' : Y) (command : T → Command) (input : T → Input) (result : Result T ReadlineError)
      → TakesItems r keys.bound result reader reader'
      → OnRead result (λ x. GivesQuietly r Comes (e.draft editor) (input x) (command x) reader reader') (EndsQuietly r Comes reader reader')
      → OnErr result (StopsWithin r Comes [] reader reader')
      → ReadsPart e r Comes [] (e.draft editor) (λ c d. d) command input result editor keys reader editor reader'
  quiet_part {T = T} Comes editor keys reader reader' command input result takes read stops = record {
    read = lifted result read;
    within = stops;
    fault = io_stays result (e.environment editor) (e.draft editor) (e.draft editor);
    line = record { line = refl; saved = refl; index = refl };
    start = unless_fault result refl;
    redraws = unless_fault result (λ below. (omega arith, omega arith));
    fewer = unless_fault result takes.fewer;
    keeps = record { frame = frame_stays e editor; own = takes.own; counts = takes.counts };
    fails = record {
      io = io_only result (λ rose sure. either_rose _ _ _ _ _ (omega arith) takes.counts (omega arith) (rose sure.1)) takes.io;
      quiet = unless_io result (λ same. (same, refl)) takes.quiet;
    };
  }
    where
      lifted : (result : Result T ReadlineError)
          → OnRead result (λ x. GivesQuietly r Comes (e.draft editor) (input x) (command x) reader reader') (EndsQuietly r Comes reader reader')
          → OnRead result (λ x. Gives e r Comes [] (λ c d. d) (command x) (input x) editor reader editor reader') (Ends e r Comes [] (e.draft editor) editor reader editor reader')
      lifted (Ok x) gives = record {
        items = gives.items;
        read = quiet_read (e.draft editor) (input x) gives.items (command x);
        cut = gives.cut;
        comes = gives.comes;
        command_read = refl;
        input_read = refl;
        begun_there = refl;
        drew = drew_none e (none_shown gives.items) editor editor (quiet-any gives.items) (record { display = refl; redraws = refl });
        hint = λ none. refl;
      }
      lifted (Err f) ends = λ no.
          let d = ends no in
          let last : last_drawn d.1.lacks.shown ≡ kept = ap last_drawn d.1.undrawn ∙ quiet-last (r.rest reader) in
          let any : any_drawn d.1.lacks.shown ≡ false = ap any_drawn d.1.undrawn ∙ quiet-any (r.rest reader) in (
            d.0,
            record {
              lacks = d.1.lacks;
              empty = d.1.empty;
              draft = sym (ap (λ b. cond b (hinted (e.environment editor) (e.draft editor)) (e.draft editor)) any);
              drew = so_far_none e d.1.lacks.shown editor editor last (record { display = refl; redraws = refl });
            },
          )
