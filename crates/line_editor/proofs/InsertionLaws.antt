-- What was typed in an insertion of Vi goes with one undo.
use Rattle.std.proofs.Common.{◌≡◌, ℕ, ◌+◌, ◌≤◌, ◌==◌, ◌||◌, nat_le, Bool, true, false, cond, List, [], ◌∷◌, ◌++◌, length, take, drop, map, Option, Some, None, refl, sym, ap, ap₂, ◌∙◌, subst, arith, inl, inr, length-append, length-drop}
use Rattle.std.proofs.lemmas.Bool.Decides.{eqb_tells}
use Rattle.std.proofs.lemmas.List.{length-take-le}
use Rattle.std.proofs.lemmas.List.Elements.{All-head, All-tail}
use Rattle.std.proofs.lemmas.Str.{IsUtf8-drop}
use Rattle.std.specs.Char.{encode_utf8}
use Rattle.std.specs.List.{All, concat, insert_slice, list_all, list_any, repeat}
use Rattle.std.specs.Str.{IsCharBoundary, IsUtf8}
use Rattle.line_buffer.proofs.ClusterLemmas.{clusters-cut}
use Rattle.line_buffer.proofs.FrontLemmas.{length-line_from, line_fits}
use Rattle.line_buffer.proofs.GroupLemmas.{closed_group}
use Rattle.line_buffer.specs.Changes.{Changes, Entry, begun, ended, with_entries, with_typed}
use Rattle.line_buffer.specs.Cluster.{clusters, place_back, place_on}
use Rattle.line_buffer.specs.declared.movement.CharSearch.{CharSearch}
use Rattle.line_buffer.specs.declared.movement.Movement.TheVariants.{BackwardChar, BeginningOfLine, EndOfLine, ForwardChar}
use Rattle.line_buffer.specs.Line.{Line, after, moved_to}
use Rattle.line_buffer.specs.Undo.{all_taken_back, is_change, newest_steps}
use Rattle.line_config.specs.declared.config.EditMode.{EditMode}
use Rattle.line_config.specs.declared.config.EditMode.TheVariants.{Emacs, Vi}
use Rattle.line_parts.specs.Environment.{Environment}
use Rattle.line_keys.specs.Command.{Command, move, noop, self_insert, undo}
use Rattle.line_keys.specs.Count.{is_count_before}
use Rattle.line_keys.specs.Model.Draft.{Draft}
use Rattle.line_keys.specs.Item.{Item, key}
use Rattle.line_keys.specs.Key.{event}
use Rattle.line_keys.specs.Table.{KeyEntry, gives, row_of, stands_for}
use Rattle.line_keys.specs.declared.keys.KeyCode.TheVariants.{Char, Esc}
use Rattle.line_keys.specs.declared.keys.KeyEvent.{KeyEvent}
use Rattle.line_keys.specs.declared.keys.TheConstants.Modifiers.{NONE}
use Rattle.line_keys.specs.declared.refresher.InputMode.{InputMode}
use Rattle.line_keys.specs.declared.refresher.InputMode.TheVariants as modes
use Rattle.line_keys.specs.declared.tables.Grouping.{Grouping}
use Rattle.line_keys.specs.declared.tables.Grouping.TheVariants as groups
use Rattle.line_state.specs.Edited.{undone}
use Rattle.line_editor.specs.Editor.{Answer, Editor, Step, edited_of, proceeds}
use Rattle.line_input.specs.Ruler.{Ruler}
use Rattle.line_input.specs.Input.{Input, is_vi_command_mode}
use Rattle.line_input.specs.Keymap.{Keymap, bound_command, on_line}
use Rattle.line_editor.specs.Laws.{InsertionIsOneStep, IsFree, insertion_and_undo, insertion_chars}
use Rattle.line_input.specs.Phrase.{listed, of_mode, remembered_behind, with_group}
use Rattle.line_input.specs.Read.{Read, quiet_read, read_behind}
use Rattle.line_editor.specs.Run.{Run, Turn, Turns, dry, first, none, ready, runs_dry}
use Rattle.line_editor.specs.Step.{step}
use Rattle.line_input.specs.Tail.{alone}
use Rattle.line_editor.proofs.EditLemmas.{moved_text}
use Rattle.line_editor.proofs.GrownLemmas.{GrownBy, TakesBack, takes-back, typed-grows}
use Rattle.line_input.proofs.PhraseLemmas.{nothing-begins, row-read}
use Rattle.line_editor.proofs.RunLaws.{runs-fit}
use Rattle.line_editor.proofs.TurnLaws.{turns-and-run}
use Rattle.line_editor.proofs.UndoLaws.{edited_line}

-- a key that is typed alone
abbrev plain : ℕ → KeyEvent
plain c = event (Char c) NONE

-- the keys behind those of the group so far
abbrev rest_of : List ℕ → List KeyEvent
rest_of chars = map plain chars ++ event Esc NONE ∷ plain 117 ∷ []

-- insert mode
abbrev inserting : Option Command → Option CharSearch → Input
inserting change search = record { style = Vi; mode = modes.Insert; last_change = change; last_search = search }

-- command mode
abbrev commanding : Option Command → Option CharSearch → Input
commanding change search = record { style = Vi; mode = modes.Command; last_change = change; last_search = search }

-- ---- the cursor stays in the text

within-on : (l : Line) → IsUtf8 l.text → IsCharBoundary l.text l.cursor → (moved_to l (place_on l 1)).cursor ≤ length l.text
within-on l is_text boundary =
    let rest = after l in
    let beyond = concat (drop 1 (clusters rest)) in
    let here = concat (take 1 (clusters rest)) in
    let cut : here ++ beyond ≡ rest = clusters-cut rest 1 (IsUtf8-drop l.text l.cursor is_text boundary) in
    by_end (nat_le (length l.text) l.cursor) (l.cursor + length here)
    (omega (arith, boundary.0, ap length cut, length-append here beyond, length-drop l.cursor l.text))
  where
    by_end : (at_end : Bool) (place : ℕ) → place ≤ length l.text → (moved_to l (cond at_end None (Some place))).cursor ≤ length l.text
    by_end true place fits = boundary.0
    by_end false place fits = fits

-- none of four tests
none-of : (p q r s : Bool) → p ≡ false → q ≡ false → r ≡ false → s ≡ false → (p || (q || (r || (s || false)))) ≡ true → ⊥
none-of true q r s a b c d is = absurd (cc)
none-of false true r s a b c d is = absurd (cc)
none-of false false true s a b c d is = absurd (cc)
none-of false false false true a b c d is = absurd (cc)
none-of false false false false a b c d is = absurd (cc)

-- ---- one key

-- no binding and no command of the reader stands before the tables
unbound : (keymap : Keymap) (draft : Draft) (input : Input) (k : KeyEvent) → IsFree keymap k → None ≡ bound_command keymap draft input None k
unbound keymap draft input k free = rw free.binding refl

unowned : (keymap : Keymap) (text : List ℕ) (k : KeyEvent) → IsFree keymap k → None ≡ on_line text (keymap.own k)
unowned keymap [] k free = rw free.own refl
unowned keymap (b ∷ bs) k free = rw free.own refl

module _ (keymap : Keymap) (ruler : Ruler) (environment : Environment) where
  -- the step of a key of the tables that gives a command
  abbrev step_of : Editor → Input → Option InputMode → Grouping → Command → Step
  step_of editor input enters group command =
      step ruler environment (remembered_behind input.style enters input command input.last_search)
      (ready command (with_group group editor.draft) editor.kills) command

  turn-of : (editor : Editor) (input : Input) (k : KeyEvent) (more : List Item) (enters : Option InputMode) (group : Grouping) (command : Command)
      → IsFree keymap k → None ≡ stands_for input.style input.mode k → is_count_before input.style input.mode [] k ≡ true
      → record { meaning = gives command; enters = enters; group = group } ≡ (row_of input.style input.mode k editor.draft).entry None
      → Turn keymap ruler environment editor input (key k ∷ more)
      (step_of editor input enters group command).editor (remembered_behind input.style enters input command input.last_search) more
      (step_of editor input enters group command).answer
  turn-of editor input k more enters group command free stays counted is =
      let entry : KeyEntry = record { meaning = gives command; enters = enters; group = group } in
      let behind : Read = listed entry input (quiet_read editor.draft input [] command) in
      record {
        phrase = key k ∷ [];
        read = read_behind [] behind;
        cut = refl;
        reads = of_mode (record {
          typed = [];
          last = k;
          tail = [];
          cut = refl;
          counted = counted;
          behind = behind;
          keyed = row-read keymap environment editor.draft input None k entry [] (quiet_read editor.draft input [] command)
              (unbound keymap editor.draft input k free) (unowned keymap editor.draft.line.text k free) stays is (alone command);
          told = refl;
        });
        input_left = refl;
        leaves = record { editor = refl; answered = refl };
      }

  -- ---- the group while it is open

  -- at least so many entries have come into a group that was begun in an editor, and taking them back gives its text
  record Grown (start editor : Editor) (n : ℕ) : Type 0 where
    inside : List Entry
    changes : editor.draft.changes ≡ record (begun start.draft.changes) { entries = inside ++ (begun start.draft.changes).entries }
    some : n ≤ length inside
    all : list_all is_change inside ≡ true
    back : TakesBack inside editor.draft.line.text start.draft.line.text
    within : editor.draft.line.cursor ≤ length editor.draft.line.text

  module _ (start : Editor) where
    -- turns over items leave the text that the group was begun with
    record TakenBack (editor : Editor) (input : Input) (items : List Item) : Type 0 where
      last : Editor
      left : Input
      turns : Turns keymap ruler environment editor input items last left []
      text : last.draft.line.text ≡ start.draft.line.text

    -- a character that is typed
    typed-on : (editor : Editor) (input : Input) (c n : ℕ) → Grown start editor n → Grown start (step_of editor input None groups.Stay (self_insert 1 c)).editor 1
    typed-on editor input c n grown =
        let p = editor.draft.line.cursor in
        let t = repeat 1 (encode_utf8 c) in
        let text = editor.draft.line.text in
        let older = start.draft.changes.entries in
        let by : GrownBy (λ es. with_typed p c 1 es) grown.inside text (insert_slice text p t) = typed-grows text p grown.within c grown.inside grown.all in
        record {
          inside = with_typed p c 1 grown.inside;
          changes = ap (λ (ch : Changes). with_entries ch (with_typed p c 1 ch.entries)) grown.changes
              ∙ ap (λ es. with_entries (begun start.draft.changes) es) (by.stands older);
          some = by.some;
          all = by.all;
          back = by.back start.draft.line.text grown.back;
          within = fits text t p grown.within;
        }
      where
        fits : (text t : List ℕ) (p : ℕ) → p ≤ length text → p + length t ≤ length (insert_slice text p t)
        fits text t p within =
            omega (arith, within, length-append (take p text ++ t) (drop p text), length-append (take p text) t, length-take-le p text within)

    -- Esc and u
    ended-and-undone : start.draft.changes.open_groups ≡ 0 → (editor : Editor) (change : Option Command) (search : Option CharSearch) → Grown start editor 1
        → All (IsFree keymap) (event Esc NONE ∷ plain 117 ∷ [])
        → TakenBack editor (inserting change search) (key (event Esc NONE) ∷ key (plain 117) ∷ [])
    ended-and-undone closed editor change search grown free =
        let there = turn-of editor (inserting change search) (event Esc NONE) (key (plain 117) ∷ []) (Some modes.Command) groups.End (move (BackwardChar 1))
        (All-head (IsFree keymap) (event Esc NONE) (plain 117 ∷ []) free) refl refl refl in
        let middle = (step_of editor (inserting change search) (Some modes.Command) groups.End (move (BackwardChar 1))).editor in
        let back = turn-of middle (commanding change search) (plain 117) [] None groups.Stay (undo 1)
        (All-head (IsFree keymap) (plain 117) [] (All-tail (IsFree keymap) (event Esc NONE) (plain 117 ∷ []) free)) refl refl refl in
        let l : Line = middle.draft.line in
        let entries : List Entry = (ended (record (begun start.draft.changes) { entries = grown.inside ++ (begun start.draft.changes).entries })).entries in
        let same : middle.draft.changes.entries ≡ entries = ap (λ (ch : Changes). (ended ch).entries) grown.changes in
        let one = closed_group start.draft.changes grown.inside l closed grown.some grown.all in
        let undone_line : all_taken_back (newest_steps 1 middle.draft.changes.entries) l ≡ all_taken_back grown.inside l =
        ap (λ es. all_taken_back (newest_steps 1 es) l) same ∙ ap (λ (s : List Entry × Line). s.1) one in
        record {
          last = (step_of middle (commanding change search) None groups.Stay (undo 1)).editor;
          left = commanding change search;
          turns = first there (first back none);
          text = ap (λ (x : Line). x.text) (edited_line environment (list_any is_change (newest_steps 1 middle.draft.changes.entries)) (undone 1 (edited_of middle.draft)) middle.draft ∙ undone_line)
              ∙ takes-back grown.inside l editor.draft.line.text start.draft.line.text (moved_text editor.draft.line (place_back editor.draft.line 1)) grown.back;
        }

    rest-undone : start.draft.changes.open_groups ≡ 0 → (chars : List ℕ) (editor : Editor) (change : Option Command) (search : Option CharSearch)
        → Grown start editor 1 → All (IsFree keymap) (rest_of chars)
        → TakenBack editor (inserting change search) (map key (rest_of chars))
    rest-undone closed [] editor change search grown free = ended-and-undone closed editor change search grown free
    rest-undone closed (c ∷ chars) editor change search grown free =
        let step = step_of editor (inserting change search) None groups.Stay (self_insert 1 c) in
        let left : Input = remembered_behind Vi None (inserting change search) (self_insert 1 c) search in
        let turn = turn-of editor (inserting change search) (plain c) (map key (rest_of chars)) None groups.Stay (self_insert 1 c)
        (All-head (IsFree keymap) (plain c) (rest_of chars) free) refl refl refl in
        let more = rest-undone closed chars step.editor left.last_change search (typed-on editor (inserting change search) c 1 grown)
        (All-tail (IsFree keymap) (plain c) (rest_of chars) free) in
        record { last = more.last; left = more.left; turns = first turn more.turns; text = more.text }

    -- from the first character on
    chars-undone : start.draft.changes.open_groups ≡ 0 → (c : ℕ) (chars : List ℕ) (editor : Editor) (change : Option Command) (search : Option CharSearch)
        → Grown start editor 0 → All (IsFree keymap) (rest_of (c ∷ chars))
        → TakenBack editor (inserting change search) (map key (rest_of (c ∷ chars)))
    chars-undone closed c chars editor change search grown free =
        let step = step_of editor (inserting change search) None groups.Stay (self_insert 1 c) in
        let left : Input = remembered_behind Vi None (inserting change search) (self_insert 1 c) search in
        let turn = turn-of editor (inserting change search) (plain c) (map key (rest_of chars)) None groups.Stay (self_insert 1 c)
        (All-head (IsFree keymap) (plain c) (rest_of chars) free) refl refl refl in
        let more = rest-undone closed chars step.editor left.last_change search (typed-on editor (inserting change search) c 0 grown)
        (All-tail (IsFree keymap) (plain c) (rest_of chars) free) in
        record { last = more.last; left = more.left; turns = first turn more.turns; text = more.text }

    -- a key that begins the group, and only moves
    begun-undone : (k c : ℕ) (chars : List ℕ) (change : Option Command) (search : Option CharSearch) (command : Command)
        → start.draft.changes.open_groups ≡ 0 → All (IsFree keymap) (plain k ∷ rest_of (c ∷ chars))
        → is_count_before Vi modes.Command [] (plain k) ≡ true
        → record { meaning = gives command; enters = Some modes.Insert; group = groups.Begin } ≡ (row_of Vi modes.Command (plain k) start.draft).entry None
        → remembered_behind Vi (Some modes.Insert) (commanding change search) command search ≡ inserting change search
        → (step_of start (commanding change search) (Some modes.Insert) groups.Begin command).answer ≡ proceeds
        → Grown start (step_of start (commanding change search) (Some modes.Insert) groups.Begin command).editor 0
        → TakenBack start (commanding change search) (map key (plain k ∷ rest_of (c ∷ chars)))
    begun-undone k c chars change search command closed free counted is left answers grown =
        let step = step_of start (commanding change search) (Some modes.Insert) groups.Begin command in
        let turn = turn-of start (commanding change search) (plain k) (map key (rest_of (c ∷ chars))) (Some modes.Insert) groups.Begin command
        (All-head (IsFree keymap) (plain k) (rest_of (c ∷ chars)) free) refl counted is in
        let more = chars-undone closed c chars step.editor change search grown (All-tail (IsFree keymap) (plain k) (rest_of (c ∷ chars)) free) in
        let P : Input → Answer → Type 0 = λ i a. Turn keymap ruler environment start (commanding change search) (map key (plain k ∷ rest_of (c ∷ chars))) step.editor i (map key (rest_of (c ∷ chars))) a in
        record {
          last = more.last;
          left = more.left;
          turns = first (subst (λ i. P i proceeds) left (subst (λ a. P (remembered_behind Vi (Some modes.Insert) (commanding change search) command search) a) answers turn)) more.turns;
          text = more.text;
        }

    -- an editor whose group was begun, with its cursor moved
    just-begun : (editor : Editor) → editor.draft.changes ≡ begun start.draft.changes → editor.draft.line.text ≡ start.draft.line.text
        → editor.draft.line.cursor ≤ length editor.draft.line.text → Grown start editor 0
    just-begun editor begins_it same within = record {
      inside = [];
      changes = begins_it;
      some = omega arith;
      all = refl;
      back = λ cursor. same;
      within = within;
    }

    module _ (c : ℕ) (chars : List ℕ) (change : Option Command) (search : Option CharSearch) (closed : start.draft.changes.open_groups ≡ 0)
        (is_text : IsUtf8 start.draft.line.text) (boundary : IsCharBoundary start.draft.line.text start.draft.line.cursor) where
      -- a key that begins an insertion, and what is behind it
      abbrev Undone : ℕ → Type 0
      Undone k = All (IsFree keymap) (plain k ∷ rest_of (c ∷ chars)) → TakenBack start (commanding change search) (map key (plain k ∷ rest_of (c ∷ chars)))

      abbrev left_by : Command → Editor
      left_by command = (step_of start (commanding change search) (Some modes.Insert) groups.Begin command).editor

      behind_char : Undone 97
      behind_char free = begun-undone 97 c chars change search (move (ForwardChar 1)) closed free refl refl refl refl
          (just-begun (left_by (move (ForwardChar 1))) refl (moved_text start.draft.line (place_on start.draft.line 1)) (subst (λ (t : List ℕ). (moved_to start.draft.line (place_on start.draft.line 1)).cursor ≤ length t) (sym (moved_text start.draft.line (place_on start.draft.line 1))) (within-on start.draft.line is_text boundary)))

      behind_line : Undone 65
      behind_line free = begun-undone 65 c chars change search (move EndOfLine) closed free refl refl refl refl
          (just-begun (left_by (move EndOfLine)) refl refl (omega (arith, line_fits start.draft.line.text start.draft.line.cursor boundary.0, length-line_from start.draft.line.text start.draft.line.cursor)))

      at_cursor : Undone 105
      at_cursor free = begun-undone 105 c chars change search noop closed free refl refl refl refl (just-begun (left_by noop) refl refl boundary.0)

      before_line : Undone 73
      before_line free = begun-undone 73 c chars change search (move BeginningOfLine) closed free refl refl refl refl
          (just-begun (left_by (move BeginningOfLine)) refl refl (omega (arith, boundary.0)))

      insertion-undone : (k : ℕ) → list_any (λ d. d == k) insertion_chars ≡ true → Undone k
      insertion-undone k begins_it =
          elim (eqb_tells 97 k) [
            | inl same ↦ subst Undone same.1 behind_char
            | inr a ↦ elim (eqb_tells 65 k) [
              | inl same ↦ subst Undone same.1 behind_line
              | inr b ↦ elim (eqb_tells 105 k) [
                | inl same ↦ subst Undone same.1 at_cursor
                | inr d ↦ elim (eqb_tells 73 k) [
                  | inl same ↦ subst Undone same.1 before_line
                  | inr e ↦ absurd (none-of (97 == k) (65 == k) (105 == k) (73 == k) a.0 b.0 d.0 e.0 begins_it)
                ]
              ]
            ]
          ]

-- an input in the command mode of Vi
is-commanding : (style : EditMode) (mode : InputMode) → is_vi_command_mode style mode ≡ true → (style ≡ Vi) × (mode ≡ modes.Command)
is-commanding Emacs mode is = absurd (cc)
is-commanding Vi modes.Command is = (refl, refl)
is-commanding Vi modes.Insert is = absurd (cc)
is-commanding Vi modes.Replace is = absurd (cc)

pub insertion-is-one-step : InsertionIsOneStep
insertion-is-one-step keymap ruler environment editor last input i k c chars end begins_it free vi closed is_text boundary run =
    let is = is-commanding input.style input.mode vi in
    let here : Input = commanding input.last_change input.last_search in
    let same : input ≡ here = ap₂ (λ (s : EditMode) (m : InputMode). record { style = s; mode = m; last_change = input.last_change; last_search = input.last_search }) is.0 is.1 in
    let items : List Item = map key (insertion_and_undo k (c ∷ chars)) in
    let back = insertion-undone keymap ruler environment editor c chars input.last_change input.last_search closed is_text boundary k begins_it free in
    let nothing = nothing-begins keymap environment back.last.draft back.left in
    let whole : Run keymap ruler environment editor here items back.last back.left (dry []) =
    turns-and-run keymap ruler environment editor back.last back.last here back.left back.left items [] (dry []) back.turns
    (runs_dry (record { rest = nothing.0; read = nothing.1; proper = nothing.2; comes = nothing.3; shown = []; later = nothing.1.shown; drawn = refl; each = refl }) (record { draft = refl; kills = refl })) in
    let run' = subst (λ (x : Input). Run keymap ruler environment editor x items last i end) same run in
    let ends_so = runs-fit keymap ruler environment editor last back.last here i back.left items end (dry []) run' whole in
    sym (ap (λ (l : Line). l.text) ends_so.text.line) ∙ back.text
