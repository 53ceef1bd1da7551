-- A run executes at most as many commands as it reads keys.
use Rattle.std.proofs.Common.{arith, ◌≡◌, ℕ, ◌+◌, ◌≤◌, cond, List, [], ◌∷◌, ◌++◌, map, ◌∙◌, ap}
use Rattle.std.proofs.lemmas.List.Sums.{sum_by-append}
use Rattle.line_parts.specs.Environment.{Environment}
use Rattle.line_keys.specs.Model.Draft.{Draft}
use Rattle.line_keys.specs.Item.{Item, key}
use Rattle.line_keys.specs.declared.editor_state.EditorState as editors
use Rattle.line_keys.specs.declared.raw_reader.RawReader as readers
use Rattle.line_editor.specs.Editor.{Editor, Answer}
use Rattle.line_input.specs.Ruler.{Ruler}
use Rattle.line_input.specs.Input.{Input}
use Rattle.line_input.specs.Keymap.{Keymap}
use Rattle.line_editor.specs.Laws.{ExecutesNoMoreThanKeys, TurnsReadKeys}
use Rattle.line_editor.specs.Outcomes.{Session, TakesTurns, and_turn, no_turn, turns_in}
use Rattle.line_input.specs.Phrase.{Phrase, behind_key, of_mode}
use Rattle.line_input.specs.Read.{Read}
use Rattle.line_editor.specs.Run.{End, Run, Turn, goes_on, ends, runs_dry, commands_in, is_key, keys_in, unread}

-- the keys of two lists, one behind the other
keys-append : (items more : List Item) → keys_in (items ++ more) ≡ keys_in items + keys_in more
keys-append items more = sum_by-append (λ item. cond (is_key item) 1 0) items more

module _ (keymap : Keymap) (ruler : Ruler) (environment : Environment) where
  -- a phrase has a key
  has-key : (draft : Draft) (input : Input) (items : List Item) (read : Read)
      → Phrase keymap environment draft input items read → 1 ≤ keys_in items
  has-key draft input items read (of_mode phrase) =
      let cut = ap keys_in phrase.cut ∙ keys-append (map key phrase.typed) (key phrase.last ∷ phrase.tail) in
      let behind = keys-append (key phrase.last ∷ []) phrase.tail in
      omega (arith, cut, behind)
  has-key draft input items read (behind_key phrase) =
      let cut = ap keys_in phrase.cut in
      let behind = keys-append (key phrase.first ∷ []) phrase.rest in
      omega (arith, cut, behind)

  -- a turn leaves fewer keys unread
  reads-key : (editor left : Editor) (input i : Input) (items more : List Item) (answer : Answer)
      → Turn keymap ruler environment editor input items left i more answer → 1 + keys_in more ≤ keys_in items
  reads-key editor left input i items more answer turn =
      let cut = ap keys_in turn.cut ∙ keys-append turn.phrase more in
      let one = has-key editor.draft input turn.phrase turn.read turn.reads in
      omega (arith, cut, one)

  no-more : (editor last : Editor) (input i : Input) (items : List Item) (end : End)
      → (run : Run keymap ruler environment editor input items last i end)
      → commands_in run + keys_in (unread end) ≤ keys_in items
  no-more editor last input i items end (goes_on {middle = middle} {input' = j} {more = more} turn run) =
      let one = reads-key editor middle input j items more _ turn in
      let rest = no-more middle last j i more end run in
      omega (arith, one, rest)
  no-more editor last input i items end (ends {rest = rest} {answer = answer} turn other) =
      reads-key editor last input i items rest answer turn
  no-more editor last input i items end (runs_dry begins short) = omega arith

-- so does each run
pub few-commands : ExecutesNoMoreThanKeys
few-commands keymap ruler environment editor last input i items end run =
    no-more keymap ruler environment editor last input i items end run

module _ {X Y : Type 0} (e : editors.Ghosts X) (r : readers.Ghosts Y) (indent : ℕ) where
  take-keys : (before after : Session X Y) (turns : TakesTurns e r indent before after)
      → turns_in e r turns + keys_in (r.rest after.reader) ≤ keys_in (r.rest before.reader)
  take-keys before after no_turn = omega arith
  take-keys before after (and_turn {found = found} turns turn) =
      let one = reads-key _ turn.turned.ruler _ _ _ _ _ _ _ _ turn.turned.turn in
      let rest = take-keys before found turns in
      omega (arith, one, rest)

-- so do turns, one after another
pub keys-taken : {X Y : Type 0} (e : editors.Ghosts X) (r : readers.Ghosts Y) → TurnsReadKeys e r
keys-taken e r indent before after turns = take-keys e r indent before after turns
