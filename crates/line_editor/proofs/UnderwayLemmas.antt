-- Facts on a run that is underway.
use Rattle.std.proofs.Common.{◌≡◌, ◌≢◌, Bool, true, false, cond, ℕ, ◌+◌, ◌*◌, ◌≤◌, ◌<◌, List, length, Result, Ok, Err, arith, refl, sym, ◌∙◌, ap, subst, inl, inr}
use Rattle.line_buffer.specs.declared.layout.GraphemeClusterMode.{GraphemeClusterMode}
use Rattle.line_buffer.specs.declared.layout.Position.{Position}
use Rattle.line_config.specs.Error.{IoOnlyIf}
use Rattle.line_config.specs.declared.error.ReadlineError.{ReadlineError}
use Rattle.line_config.specs.declared.error.ReadlineError.TheVariants.{Eof, Interrupted}
use Rattle.line_parts.specs.Asks.{for_all, for_hint, is_sure}
use Rattle.line_parts.specs.Environment.{Environment}
use Rattle.line_keys.specs.Model.Display.{Display, IsRight, Surface}
use Rattle.line_keys.specs.Model.Draft.{Draft, hinted, start_text}
use Rattle.line_keys.specs.Model.Drawing.{Refreshes, with_hint}
use Rattle.line_keys.specs.Model.ShownLine.{Redraws}
use Rattle.line_keys.specs.declared.editor_state.EditorState as editors
use Rattle.line_keys.specs.declared.raw_reader.RawReader as readers
use Rattle.line_input.specs.Binding.{Bound, all_sure}
use Rattle.line_input.specs.Input.{Input}
use Rattle.line_input.specs.Keymap.{Keymap, keymap_of}
use Rattle.line_input.specs.Reading.{KeepsReading}
use Rattle.line_input.specs.ItemShown.{ItemShown, any_drawn, asked_behind, ruler_behind}
use Rattle.line_editor.specs.Run.{CutShort, End, Run, Turns, stopped, dry}
use Rattle.line_editor.specs.Run as runs
use Rattle.line_editor.specs.Outcomes.{Advances, HasProceeded, NeedsMoreItems, Runs, RunsTo, Session, Stays, TakesTurn, and_turn, editor_of, items_read, no_turn, session}
use Rattle.line_editor.specs.Editor.{Answer, Editor, proceeds, submitted, ended, interrupted}
use Rattle.line_input.specs.Ruler.{Ruler, own_ruler, ruler_of}
use Rattle.line_editor.specs.declared.run.Turned.{Turned}
use Rattle.line_editor.specs.declared.run.Turned.TheVariants as turned
use Rattle.line_editor.proofs.AskedLemmas.{sure_all}
use Rattle.line_input.proofs.DrawnTwiceLemmas.{frame_then}
use Rattle.line_editor.proofs.DrawnLemmas.{hint_trails, line_stays}
use Rattle.line_input.proofs.GroupLemmas.{start_there}
use Rattle.line_editor.proofs.RunLemmas.{run-goes, run-ends, run-dry, turns-on}

-- a phrase that was cut short leaves what all changes taken back give
start_of_cut : (environment : Environment) (shown : List ItemShown) (draft left : Draft) → left ≡ asked_behind environment shown draft
    → start_text left ≡ start_text draft
start_of_cut environment shown draft left is = ap start_text is ∙ by_any (any_drawn shown)
  where
    by_any : (b : Bool) → start_text (cond b (hinted environment draft) draft) ≡ start_text draft
    by_any true = refl
    by_any false = refl

-- what stays where nothing failed
stays_quiet : {X Y T : Type 0} (e : editors.Ghosts X) (r : readers.Ghosts Y) (result : Result T ReadlineError) (before after : Session X Y) → IoOnlyIf result ⊥
    → KeepsReading e r before.state before.keys before.reader after.state after.keys after.reader
    → r.failures after.reader ≡ r.failures before.reader → e.failures after.state ≡ e.failures before.state → Stays e r result before after
stays_quiet e r (Ok x) before after none keeps read drew = record { keeps = keeps; fails = record { io = tt; quiet = (read, drew) } }
stays_quiet e r (Err f) before after none keeps read drew = record { keeps = keeps; fails = record { io = λ is. absurd (none is); quiet = λ no. (read, drew) } }

module _ {X Y : Type 0} (e : editors.Ghosts X) (r : readers.Ghosts Y) (indent : ℕ) (start : Session X Y) where
  -- each run from here is the rest of a run from the start; what is drawn is right, nothing failed, and a part of the items is read
  pub record Underway (now : Session X Y) : Type 0 where
    pub goes_on : (last : Editor) (i : Input) (end : End)
        → Run (keymap_of start.keys (r.own_binding (r.kept start.reader))) (own_ruler (e.display start.state) indent) (e.environment start.state) (editor_of e now.state now.kills) now.keys.input (r.rest now.reader) last i end
        → Run (keymap_of start.keys (r.own_binding (r.kept start.reader))) (own_ruler (e.display start.state) indent) (e.environment start.state)
        (record { draft = hinted (e.environment start.state) (e.draft start.state); kills = start.kills }) start.keys.input (r.rest start.reader) last i end
    pub proceeded : HasProceeded e r indent start now
    pub unread : r.failures now.reader ≡ r.failures start.reader
    pub undrawn : e.failures now.state ≡ e.failures start.state
    pub first : start_text (e.draft now.state) ≡ start_text (e.draft start.state)
    pub redraws : Redraws e 1 (1 + 4 * items_read e r start now) start.state now.state
    pub fewer : length (r.rest now.reader) ≤ length (r.rest start.reader)

  -- a run begins with its first draw
  pub begins : (now : X) → Refreshes {T = Unit {0}} e (Ok tt) start.state now (hinted (e.environment start.state) (e.draft start.state)) with_hint
      → Underway (session now start.keys start.reader start.kills)
  begins now drew = record {
    goes_on = λ last i end run. subst (λ (d : Draft). Run (keymap_of start.keys (r.own_binding (r.kept start.reader))) (own_ruler (e.display start.state) indent) (e.environment start.state) (record { draft = d; kills = start.kills }) start.keys.input (r.rest start.reader) last i end) drew.draft run;
    proceeded =
        let P : Draft → Type 0 = λ d. Turns (keymap_of start.keys (r.own_binding (r.kept start.reader))) (own_ruler (e.display start.state) indent) (e.environment start.state)
        (record { draft = d; kills = start.kills }) start.keys.input (r.rest start.reader) (editor_of e now start.kills) start.keys.input (r.rest start.reader) in
        record {
          drawn = now;
          first = drew;
          taken = no_turn;
          turns = subst P drew.draft runs.none;
          keeps = record { both = record { frame = drew.frame; own = refl; counts = omega arith }; bound = refl };
          right = drew.drew.right;
          shown = hint_trails e now drew.drew.shows;
        };
    unread = refl;
    undrawn = drew.fails.quiet;
    first = ap start_text drew.draft;
    redraws = λ below. let s = drew.drew.redraws (omega (arith, below)) in (omega (arith, s.0), omega (arith, s.1));
    fewer = omega arith;
  }

  -- the first draw goes wrong
  pub begins_wrong : {T : Type 0} (f : ReadlineError) (now : X) → Refreshes {T = T} e (Err f) start.state now (hinted (e.environment start.state) (e.draft start.state)) with_hint
      → Runs e r {T = T} indent (Err f) start (session now start.keys start.reader start.kills)
  begins_wrong f now drew = record {
    ran = λ no. absurd (let is = drew.fails.faults in cc);
    wrong = λ fault. inl (record { draft = drew.err; keys_left = refl; unread = refl; kills_left = refl });
    stays = record {
      keeps = record { both = record { frame = drew.frame; own = refl; counts = omega arith }; bound = refl };
      fails = record {
        io = λ is sure below other. let rose = drew.fails.io is (sure_all (e.sure start.state) for_hint sure.0) other in omega (arith, rose);
        quiet = λ no. (refl, drew.fails.quiet no);
      };
    };
  }

  module _ (now : Session X Y) (u : Underway now) where
    same_keymap : keymap_of now.keys (r.own_binding (r.kept now.reader)) ≡ keymap_of start.keys (r.own_binding (r.kept start.reader))
    same_keymap =
        let f : Bound → Keymap = λ b. record { bound = b; own = r.own_binding (r.kept start.reader) } in
        ap (λ kept. keymap_of now.keys (r.own_binding kept)) u.proceeded.keeps.both.own ∙ ap f u.proceeded.keeps.bound

    -- behind the own prompt the ruler is the same all the way
    same_ruler : ruler_of (e.display now.state) indent ≡ own_ruler (e.display start.state) indent
    same_ruler =
        let f : ℕ → Ruler = λ n. record { prompt_column = n; cluster_mode = (e.display now.state).layout.grapheme_cluster_mode; indent_size = indent } in
        let h : GraphemeClusterMode → Ruler = λ m. record { prompt_column = (e.display start.state).prompt_end.col; cluster_mode = m; indent_size = indent } in
        ap f (ap (λ (p : Position). p.col) (u.proceeded.right.drawn.prompt ∙ u.proceeded.keeps.both.frame.prompt_end))
        ∙ ap h (u.proceeded.right.drawn.mode ∙ ap (λ (f : Surface). f.mode) u.proceeded.keeps.both.frame.surface)

    -- so is that of a turn, whether a count is typed or not
    turn_ruler : (shown : List ItemShown) (ruler : Ruler) → ruler ≡ ruler_behind shown (e.display now.state) indent → ruler ≡ own_ruler (e.display start.state) indent
    turn_ruler shown ruler measured = measured ∙ by_any (any_drawn shown)
      where
        by_any : (b : Bool) → cond b (own_ruler (e.display now.state) indent) (ruler_of (e.display now.state) indent) ≡ own_ruler (e.display start.state) indent
        by_any false = same_ruler
        by_any true =
            let f : ℕ → Ruler = λ n. record { prompt_column = n; cluster_mode = (e.display now.state).surface.mode; indent_size = indent } in
            let h : GraphemeClusterMode → Ruler = λ m. record { prompt_column = (e.display start.state).prompt_end.col; cluster_mode = m; indent_size = indent } in
            ap f (ap (λ (p : Position). p.col) u.proceeded.keeps.both.frame.prompt_end) ∙ ap h (ap (λ (s : Surface). s.mode) u.proceeded.keeps.both.frame.surface)

    module _ (next : Session X Y) where
      -- what stays to here and on from here stays
      keeps_on : KeepsReading e r now.state now.keys now.reader next.state next.keys next.reader
          → KeepsReading e r start.state start.keys start.reader next.state next.keys next.reader
      keeps_on k = record {
        both = record {
          frame = frame_then e start.state now.state next.state u.proceeded.keeps.both.frame k.both.frame;
          own = k.both.own ∙ u.proceeded.keeps.both.own;
          counts = omega (arith, u.proceeded.keeps.both.counts, k.both.counts);
        };
        bound = k.bound ∙ u.proceeded.keeps.bound;
      }

      -- the redraws of a turn come to those of the run: at most four for each item, where one was read
      redraws_on : length (r.rest next.reader) < length (r.rest now.reader)
          → Redraws e 0 (3 + items_read e r now next) now.state next.state
          → Redraws e 1 (1 + 4 * items_read e r start next) start.state next.state
      redraws_on less drew =
          λ below.
          let s = u.redraws (omega (arith, below, less, u.fewer)) in
          let t = drew (omega (arith, below, less, u.fewer, s.1)) in
          (omega (arith, s.0, t.0), omega (arith, s.1, t.1, less, u.fewer))

      -- a turn that proceeds
      pub proceeds_on : Advances e r indent (Ok turned.Proceeds) now next → TakesTurn e r indent now next proceeds → Underway next
      proceeds_on advances turn = record {
        goes_on = λ last i end run. u.goes_on last i end (run-goes _ _ _ _ _ _ same_keymap (turn_ruler turn.turn.read.shown turn.ruler turn.measured) u.proceeded.keeps.both.frame.environment _ _ _ _ _ _ _ _ end proceeds refl turn.turn run);
        proceeded = record {
          drawn = u.proceeded.drawn;
          first = u.proceeded.first;
          taken = and_turn u.proceeded.taken advances;
          turns = turns-on _ _ _ _ _ _ same_keymap (turn_ruler turn.turn.read.shown turn.ruler turn.measured) u.proceeded.keeps.both.frame.environment _ _ _ _ _ _ _ _ _ u.proceeded.turns turn.turn;
          keeps = keeps_on advances.stays.keeps;
          right = turn.drawn.right u.proceeded.right;
          shown = turn.drawn.line u.proceeded.shown;
        };
        unread = advances.stays.fails.quiet.0 ∙ u.unread;
        undrawn = advances.stays.fails.quiet.1 ∙ u.undrawn;
        first = turn.start ∙ u.first;
        redraws = redraws_on turn.fewer turn.redraws;
        fewer = omega (arith, u.fewer, turn.fewer);
      }

      -- a turn that goes wrong
      pub goes_wrong : {T : Type 0} (f : ReadlineError) → Advances e r indent (Err f) now next → Runs e r {T = T} indent (Err f) start next
      goes_wrong f advances = record {
        ran = λ no. absurd (let is = advances.faults in cc);
        wrong = λ fault. inr (record { found = now; underway = u.proceeded; wrong = advances.wrong });
        stays = record {
          keeps = keeps_on advances.stays.keeps;
          fails = record {
            io = λ is sure below other.
                let m = u.unread in let n = u.undrawn in
                let rose = advances.stays.fails.io is (ap (λ s. is_sure s for_all) u.proceeded.keeps.both.frame.sure ∙ sure.0, ap (λ b. all_sure b) u.proceeded.keeps.bound ∙ sure.1) (omega (arith, below, m)) (omega (arith, other, n)) in
                omega (arith, rose, m, n);
            quiet = λ no. let q = advances.stays.fails.quiet no in (q.0 ∙ u.unread, q.1 ∙ u.undrawn);
          };
        };
      }

      -- a turn that does not proceed ends the run
      stops : (answer : Answer) → answer ≢ proceeds → TakesTurn e r indent now next answer → RunsTo e r indent start next (stopped answer (r.rest next.reader))
      stops answer other turn = u.goes_on _ _ _ (run-ends _ _ _ _ _ _ same_keymap (turn_ruler turn.turn.read.shown turn.ruler turn.measured) u.proceeded.keeps.both.frame.environment _ _ _ _ _ _ answer _ refl other turn.turn)

      all_stays : {T : Type 0} (result : Result T ReadlineError) {turned : Turned} → IoOnlyIf result ⊥ → Advances e r indent (Ok turned) now next → Stays e r result start next
      all_stays result none advances =
          stays_quiet e r result start next none (keeps_on advances.stays.keeps) (advances.stays.fails.quiet.0 ∙ u.unread) (advances.stays.fails.quiet.1 ∙ u.undrawn)

      pub submits : {turned : Turned} → Advances e r indent (Ok turned) now next → TakesTurn e r indent now next submitted → Runs e r {T = Unit {0}} indent (Ok tt) start next
      submits advances turn = record {
        ran = (
          stopped submitted (r.rest next.reader),
          refl,
          record {
            run = stops submitted (λ no. cc) turn;
            found = now;
            underway = u.proceeded;
            last = turn;
            drawn = (turn.drawn.right u.proceeded.right, turn.drawn.no_hint u.proceeded.shown);
            start = turn.start ∙ u.first;
            redraws = redraws_on turn.fewer turn.redraws;
          },
        );
        wrong = tt;
        stays = all_stays (Ok tt) tt advances;
      }

      pub ends_input : {turned : Turned} → Advances e r indent (Ok turned) now next → TakesTurn e r indent now next ended → Runs e r {T = Unit {0}} indent (Err Eof) start next
      ends_input advances turn = record {
        ran = λ no. (
          stopped ended (r.rest next.reader),
          inl refl,
          record {
            run = stops ended (λ no. cc) turn;
            found = now;
            underway = u.proceeded;
            last = turn;
            drawn = (turn.drawn.right u.proceeded.right, turn.drawn.no_hint u.proceeded.shown);
            start = turn.start ∙ u.first;
            redraws = redraws_on turn.fewer turn.redraws;
          },
        );
        wrong = λ fault. absurd (cc);
        stays = all_stays (Err Eof) (λ is. cc) advances;
      }

      pub interrupts : {turned : Turned} → Advances e r indent (Ok turned) now next → TakesTurn e r indent now next interrupted → Runs e r {T = Unit {0}} indent (Err Interrupted) start next
      interrupts advances turn = record {
        ran = λ no. (
          stopped interrupted (r.rest next.reader),
          refl,
          record {
            run = stops interrupted (λ no. cc) turn;
            found = now;
            underway = u.proceeded;
            last = turn;
            drawn = (turn.drawn.at_end, turn.drawn.in_place u.proceeded.right.drawn.position, turn.drawn.ends u.proceeded.shown);
            start = turn.start ∙ u.first;
            redraws = redraws_on turn.fewer turn.redraws;
          },
        );
        wrong = λ fault. absurd (cc);
        stays = all_stays (Err Interrupted) (λ is. cc) advances;
      }

      -- items that run dry end the run
      pub dries : {turned : Turned} → Advances e r indent (Ok turned) now next → NeedsMoreItems e r now next → Runs e r {T = Unit {0}} indent (Err Eof) start next
      dries advances dry_up =
          let Q : Input → Type 0 = λ i. Run (keymap_of start.keys (r.own_binding (r.kept start.reader))) (own_ruler (e.display start.state) indent) (e.environment start.state) (editor_of e now.state now.kills) now.keys.input (r.rest now.reader) (editor_of e next.state next.kills) i (dry (r.rest now.reader)) in
          let R : Display → Type 0 = λ d. IsRight d (e.draft now.state).line in
          let S : Draft → Type 0 = λ d. IsRight (e.display next.state) d.line in
          let short : CutShort (keymap_of now.keys (r.own_binding (r.kept now.reader))) (e.environment now.state) now.keys.input (r.rest now.reader) dry_up.out.lacks.shown (editor_of e now.state now.kills) (editor_of e next.state next.kills) =
          record { draft = dry_up.out.draft; kills = dry_up.kills_left } in
          record {
            ran = λ no. (
              dry (r.rest now.reader),
              inr (r.rest now.reader, refl, dry_up.out.empty),
              record {
                run = u.goes_on _ _ _ (subst Q (sym dry_up.input_left) (run-dry _ _ _ _ _ _ same_keymap same_ruler u.proceeded.keeps.both.frame.environment _ _ _ _ dry_up.out.lacks short));
                found = now;
                underway = u.proceeded;
                last = (dry_up, refl);
                drawn = λ none.
                    let n = dry_up.nothing_read none in (
                      subst S (sym n.0) (subst R (sym n.1.display) u.proceeded.right),
                      line_stays e now.state next.state advances.stays.keeps.both.frame.environment (ap (λ (d : Draft). d.line.text) n.0) (ap (λ (d : Draft). d.hint) n.0) n.1
                          (ap (λ (d : Draft). d.line) n.0) u.proceeded.shown,
                    );
                start = start_of_cut (e.environment now.state) dry_up.out.lacks.shown _ _ dry_up.out.draft
                    ∙ start_there (keymap_of now.keys (r.own_binding (r.kept now.reader))) (e.draft now.state) now.keys.input (r.rest now.reader) ∙ u.first;
                redraws =
                    let none : length (r.rest next.reader) ≡ 0 = ap length dry_up.out.empty in
                    λ below.
                    let s = u.redraws (omega (arith, below, none, u.fewer)) in
                    let t = dry_up.redraws (omega (arith, below, none, u.fewer, s.1)) in
                    (omega (arith, s.0, t.0), omega (arith, s.1, t.1, none, u.fewer));
              },
            );
            wrong = λ fault. absurd (cc);
            stays = all_stays (Err Eof) (λ is. cc) advances;
          }
