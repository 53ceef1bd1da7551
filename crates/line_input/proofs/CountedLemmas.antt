-- Facts on counts that are read.
use Rattle.std.proofs.Common.{◌≡◌, ℕ, ◌+◌, List, [], ◌∷◌, ◌++◌, append_assoc, map, length, true, false, Ok, Err, inl, inr, refl, sym, ◌∙◌, ap, arith}
use Rattle.std.specs.Prelude.{◌&&◌}
use Rattle.std.specs.List.{list_all}
use Rattle.std.proofs.lemmas.List.{append-nil, length-append, map-append}
use Rattle.std.proofs.lemmas.List.Folds.{list_all-append}
use Rattle.line_config.specs.declared.config.EditMode.{EditMode}
use Rattle.line_config.specs.declared.error.ReadlineError.{ReadlineError}
use Rattle.line_parts.specs.Asks.{for_hint, is_sure}
use Rattle.line_parts.specs.Environment.{Environment}
use Rattle.line_parts.specs.declared.highlight.CmdKind.TheVariants.{Other}
use Rattle.line_keys.specs.Count.{IsCountOf, continues_count, count_of, count_prompt}
use Rattle.line_keys.specs.Model.Display.{Surface}
use Rattle.line_keys.specs.Model.Draft.{Draft, KeepsText, hint_shown, hinted}
use Rattle.line_keys.specs.Model.Drawing.{DrewBehind, DrewLine, Refreshes, with_hint}
use Rattle.line_keys.specs.Model.Frame.{Frame}
use Rattle.line_keys.specs.Model.ShownLine.{Redraws}
use Rattle.line_keys.specs.Item.{Item, key}
use Rattle.line_keys.specs.declared.count.Count.{Count}
use Rattle.line_keys.specs.declared.count.TypedCount.{TypedCount}
use Rattle.line_keys.specs.declared.editor_state.EditorState as editors
use Rattle.line_keys.specs.declared.keys.KeyEvent.{KeyEvent}
use Rattle.line_keys.specs.declared.raw_reader.RawReader as readers
use Rattle.line_input.specs.Reading.{GoesOnWithCount, InsideCount, LeftByCut, ReadsCount, ReadsUnderCount}
use Rattle.line_input.proofs.DrawnTwiceLemmas.{behind_then, colorless, line_then, frame_then}
use Rattle.line_input.proofs.CountLemmas.{rises_twice}

-- inside of a count, all items that were left go on with it
pub all_counted : {Y : Type 0} (r : readers.Ghosts Y) (style : EditMode) (reader reader' : Y) (inside : InsideCount r style reader reader') → r.rest reader ≡ map key inside.goes_on.more
all_counted r style reader reader' inside =
    inside.goes_on.cut ∙ ap (λ t. map key inside.goes_on.more ++ t) inside.empty ∙ append-nil (map key inside.goes_on.more)

-- a hint that is asked again after it was, is asked once
asked_again : (environment environment' : Environment) (draft left : Draft) → environment' ≡ environment → LeftByCut environment draft left
    → hinted environment' left ≡ hinted environment draft
asked_again environment environment' draft left same (inl is) = ap (λ w. hinted w left) same ∙ ap (λ d. hinted environment d) is
asked_again environment environment' draft left same (inr is) = ap (λ w. hinted w left) same ∙ ap (λ d. hinted environment d) is

-- what was left by a cut, and then by another, was left by one
left_twice : (environment environment' : Environment) (draft now next : Draft) → environment' ≡ environment
    → LeftByCut environment draft now → LeftByCut environment' now next → LeftByCut environment draft next
left_twice environment environment' draft now next same (inl first) (inl second) = inl (second ∙ first)
left_twice environment environment' draft now next same (inr first) (inl second) = inr (second ∙ first)
left_twice environment environment' draft now next same (inl first) (inr second) = inr (second ∙ asked_again environment environment' draft now same (inl first))
left_twice environment environment' draft now next same (inr first) (inr second) = inr (second ∙ asked_again environment environment' draft now same (inr first))

keeps_by : (environment : Environment) (draft left : Draft) → left ≡ hinted environment draft → KeepsText draft left
keeps_by environment draft left is = record {
  line = ap (λ (d : Draft). d.line) is;
  saved = ap (λ (d : Draft). d.saved) is;
  index = ap (λ (d : Draft). d.index) is;
  changes = ap (λ (d : Draft). d.changes) is;
}

-- all but the hint stays, over two steps
keeps_twice : (environment : Environment) (draft mid left : Draft) → LeftByCut environment draft mid → KeepsText mid left → KeepsText draft left
keeps_twice environment draft mid left (inl is) keeps = record {
  line = keeps.line ∙ ap (λ (d : Draft). d.line) is;
  saved = keeps.saved ∙ ap (λ (d : Draft). d.saved) is;
  index = keeps.index ∙ ap (λ (d : Draft). d.index) is;
  changes = keeps.changes ∙ ap (λ (d : Draft). d.changes) is;
}
keeps_twice environment draft mid left (inr is) keeps = record {
  line = keeps.line ∙ ap (λ (d : Draft). d.line) is;
  saved = keeps.saved ∙ ap (λ (d : Draft). d.saved) is;
  index = keeps.index ∙ ap (λ (d : Draft). d.index) is;
  changes = keeps.changes ∙ ap (λ (d : Draft). d.changes) is;
}

module _ {X Y : Type 0} (e : editors.Ghosts X) (r : readers.Ghosts Y) (start : X) (reader : Y) (style : EditMode) (first : KeyEvent) where
  -- a count is being read: its keys so far are read, each with one full redraw, and no failure was counted
  pub record Counting (typed : TypedCount) (now : X) (reader' : Y) : Type 0 where
    pub more : List KeyEvent
    pub cut : r.rest reader ≡ map key more ++ r.rest reader'
    pub continue : list_all (continues_count style) more ≡ true
    pub counted : IsCountOf typed (first ∷ more)
    pub left : LeftByCut (e.environment start) (e.draft start) (e.draft now)
    pub frame : Frame e start now
    pub own : r.kept reader' ≡ r.kept reader
    pub unread : r.failures reader' ≡ r.failures reader
    pub undrawn : e.failures now ≡ e.failures start
    pub lit : (e.display start).surface.colors ≡ false → (e.display now).lit ≡ (e.display start).lit
    pub redraws : Redraws e (length more) (length more) start now

  -- a count begins with its first key
  pub count_begins : (typed : TypedCount) → IsCountOf typed (first ∷ []) → Counting typed start reader
  count_begins typed counted = record {
    more = [];
    cut = refl;
    continue = refl;
    counted = counted;
    left = inl refl;
    frame = record { environment = refl; loan = refl; surface = refl; prompt = refl; prompt_end = refl; sure = refl; failures = omega arith };
    own = refl;
    unread = refl;
    undrawn = refl;
    lit = λ none. refl;
    redraws = λ below. (omega arith, omega arith);
  }

  -- a drawing behind a prompt, behind those of the keys so far
  drawn_behind : (typed : TypedCount) (now : X) (reader' : Y) (c : Counting typed now reader') (next : X) (prompt : List ℕ)
      → DrewBehind e 1 prompt now next → DrewBehind e (length (first ∷ c.more)) prompt start next
  drawn_behind typed now reader' c next prompt drew =
      let all : DrewBehind e (length c.more + 1) prompt start next = behind_then e start now next c.frame c.lit (length c.more) 1 prompt c.redraws drew in
      record { shows = all.shows; other = all.other; lit = all.lit; redraws = λ below. let s = all.redraws (omega (arith, below)) in (omega (arith, s.0), omega (arith, s.1)) }

  -- reading goes wrong, or no item was left where one more was to be read
  pub count_fails : (typed : TypedCount) (now : X) (reader' : Y) → Counting typed now reader' → (f : ReadlineError) (next : X) (reader'' : Y)
      → ReadsUnderCount e r typed (Err f) now reader' next reader'' → ReadsCount e r style first (Err f) start reader next reader''
  count_fails typed now reader' c f next reader'' read =
      let on : GoesOnWithCount r style reader reader'' = record { more = c.more; cut = c.cut ∙ ap (λ t. map key c.more ++ t) (sym read.kept); continue = c.continue } in
      record {
        read = λ no.
            let dry = read.took no in (
              dry.0,
              record {
                inside = record { goes_on = on; empty = dry.1.behind };
                drew = drawn_behind typed now reader' c next (count_prompt (first ∷ c.more)) (read.drew (first ∷ c.more) c.counted no);
              },
            );
        within = inl on;
        draft = λ no. read.draft no ∙ asked_again (e.environment start) (e.environment now) (e.draft start) (e.draft now) c.frame.environment c.left;
        left = left_twice (e.environment start) (e.environment now) (e.draft start) (e.draft now) (e.draft next) c.frame.environment c.left read.left;
        text = keeps_twice (e.environment start) (e.draft start) (e.draft now) (e.draft next) c.left read.text;
        keeps = record {
          frame = frame_then e start now next c.frame read.keeps.frame;
          own = read.keeps.own ∙ c.own;
          counts = let n = c.unread in omega (arith, n, read.keeps.counts);
        };
        fails = record {
          io = λ is sure below other.
              let m = c.unread in let n = c.undrawn in
              let rose = read.fails.io is (ap (λ s. is_sure s for_hint) c.frame.sure ∙ sure) (omega (arith, below, m)) (omega (arith, other, n)) in
              omega (arith, rose, m, n);
          quiet = λ no. let q = read.fails.quiet no in (q.0 ∙ c.unread, q.1 ∙ c.undrawn);
        };
      }

  module _ (typed : TypedCount) (now : X) (reader' : Y) (c : Counting typed now reader') (k : KeyEvent) (next : X) (reader'' : Y) (read : ReadsUnderCount e r typed (Ok k) now reader' next reader'') where
    -- one more key was read
    cut_on : r.rest reader ≡ map key (c.more ++ k ∷ []) ++ r.rest reader''
    cut_on =
        let f : List Item → List Item = λ t. map key c.more ++ t in
        c.cut ∙ ap f read.took ∙ sym (append_assoc (map key c.more) (key k ∷ []) (r.rest reader''))
        ∙ ap (λ t. t ++ r.rest reader'') (sym (map-append key c.more (k ∷ [])))

    drawn_on : Redraws e (length c.more + 1) (length c.more + 1) start next
    drawn_on =
        rises_twice (length c.more) (length c.more) 1 1 (e.redraws start) (e.redraws now) (e.redraws next) c.redraws
        (read.drew (first ∷ c.more) c.counted).redraws

    lit_on : (e.display start).surface.colors ≡ false → (e.display next).lit ≡ (e.display start).lit
    lit_on none =
        (read.drew (first ∷ c.more) c.counted).lit
        ∙ colorless e (e.environment now) (e.display now) (e.draft next).line Other (ap (λ (s : Surface). s.colors) c.frame.surface ∙ none)
        ∙ c.lit none

    -- it goes on with the count
    pub counts_on : (typed' : TypedCount) → continues_count style k ≡ true
        → ((keys : List KeyEvent) → IsCountOf typed keys → IsCountOf typed' (keys ++ k ∷ []))
        → Counting typed' next reader''
    counts_on typed' continues push = record {
      more = c.more ++ k ∷ [];
      cut = cut_on;
      continue =
          list_all-append (continues_count style) c.more (k ∷ []) ∙ ap (λ b. b && list_all (continues_count style) (k ∷ [])) c.continue
          ∙ ap (λ b. b && true) continues;
      counted = push (first ∷ c.more) c.counted;
      left = inr (read.draft ∙ asked_again (e.environment start) (e.environment now) (e.draft start) (e.draft now) c.frame.environment c.left);
      frame = frame_then e start now next c.frame read.keeps.frame;
      own = read.keeps.own ∙ c.own;
      unread = read.fails.quiet.0 ∙ c.unread;
      undrawn = read.fails.quiet.1 ∙ c.undrawn;
      lit = lit_on;
      redraws =
          let size = length-append c.more (k ∷ []) in
          λ below. let s = drawn_on (omega (arith, below, size)) in (omega (arith, s.0, size), omega (arith, s.1, size));
    }

    -- it ends the count, and the line is drawn again
    pub count_ends : (count : Count) (last : X) → continues_count style k ≡ false
        → ((keys : List KeyEvent) → IsCountOf typed keys → count ≡ count_of keys)
        → Refreshes {T = Unit {0}} e (Ok tt) next last (hinted (e.environment next) (e.draft next)) with_hint
        → ReadsCount e r style first (Ok (count, k)) start reader last reader''
    count_ends count last ends counted refreshed =
        let once : e.draft next ≡ hinted (e.environment start) (e.draft start) =
        read.draft ∙ asked_again (e.environment start) (e.environment now) (e.draft start) (e.draft now) c.frame.environment c.left in
        let frame = frame_then e start now next c.frame read.keeps.frame in
        let draft : e.draft last ≡ hinted (e.environment start) (e.draft start) =
        refreshed.draft ∙ asked_again (e.environment start) (e.environment next) (e.draft start) (e.draft next) frame.environment (inr once) in
        let whole : DrewLine e (length c.more + 1 + 1) (hint_shown (e.draft last)) Other start last =
        line_then e start next last frame lit_on (length c.more + 1) 1 (hint_shown (e.draft last)) Other drawn_on refreshed.drew in
        record {
          read = record {
            ends = record {
              more = c.more;
              cut = c.cut ∙ ap (λ t. map key c.more ++ t) read.took;
              continue = c.continue;
              ends = ends;
            };
            counted = counted (first ∷ c.more) c.counted;
            drew = record {
              shows = whole.shows;
              right = whole.right;
              lit = whole.lit;
              redraws = λ below. let s = whole.redraws (omega (arith, below)) in (omega (arith, s.0), omega (arith, s.1));
            };
          };
          within = tt;
          draft = draft;
          left = inr draft;
          text = keeps_by (e.environment start) (e.draft start) (e.draft last) draft;
          keeps = record {
            frame = frame_then e start next last frame refreshed.frame;
            own = read.keeps.own ∙ c.own;
            counts = let n = c.unread in omega (arith, n, read.keeps.counts);
          };
          fails = record { io = tt; quiet = (read.fails.quiet.0 ∙ c.unread, refreshed.fails.quiet ∙ read.fails.quiet.1 ∙ c.undrawn) };
        }

    -- drawing it again goes wrong
    pub redraw_fails : (f : ReadlineError) (last : X) → continues_count style k ≡ false
        → Refreshes {T = Unit {0}} e (Err f) next last (hinted (e.environment next) (e.draft next)) with_hint
        → ReadsCount e r style first (Err f) start reader last reader''
    redraw_fails f last ends refreshed = record {
      read = λ no. absurd (let is = refreshed.fails.faults in cc);
      within = inr (
        k,
        record {
          more = c.more;
          cut = c.cut ∙ ap (λ t. map key c.more ++ t) read.took;
          continue = c.continue;
          ends = ends;
        },
      );
      draft = λ no. absurd (let is = refreshed.fails.faults in cc);
      left = left_twice (e.environment start) (e.environment next) (e.draft start) (e.draft next) (e.draft last) (read.keeps.frame.environment ∙ c.frame.environment)
          (inr (read.draft ∙ asked_again (e.environment start) (e.environment now) (e.draft start) (e.draft now) c.frame.environment c.left)) refreshed.err;
      text = keeps_twice (e.environment start) (e.draft start) (e.draft next) (e.draft last)
          (inr (read.draft ∙ asked_again (e.environment start) (e.environment now) (e.draft start) (e.draft now) c.frame.environment c.left)) refreshed.text;
      keeps = record {
        frame = frame_then e start next last (frame_then e start now next c.frame read.keeps.frame) refreshed.frame;
        own = read.keeps.own ∙ c.own;
        counts = let n = c.unread in omega (arith, n, read.keeps.counts);
      };
      fails = record {
        io = λ is sure below other.
            let m = c.unread in let n = c.undrawn in let q = read.fails.quiet in
            let rose = refreshed.fails.io is (ap (λ s. is_sure s for_hint) (read.keeps.frame.sure ∙ c.frame.sure) ∙ sure) (omega (arith, other, n, q.1)) in
            omega (arith, rose, m, n, q.0, q.1);
        quiet = λ no. let q = read.fails.quiet in (q.0 ∙ c.unread, refreshed.fails.quiet no ∙ q.1 ∙ c.undrawn);
      };
    }
