-- Facts on the motions of operators.
use Rattle.std.proofs.Common.{◌≡◌, ℕ, true, append_assoc, List, [], ◌∷◌, ◌++◌, map, option_map, refl, sym, ◌∙◌, ap, subst}
use Rattle.line_buffer.specs.declared.movement.Movement.TheVariants.{ViCharSearch}
use Rattle.line_config.specs.declared.config.EditMode.TheVariants.{Vi}
use Rattle.line_parts.specs.Environment.{Environment}
use Rattle.line_keys.specs.Command.{unknown}
use Rattle.line_keys.specs.Count.{is_count_before}
use Rattle.line_keys.specs.Model.Draft.{Draft}
use Rattle.line_keys.specs.Item.{Item, key}
use Rattle.line_keys.specs.Motion.{Motion, covers, covers_bracket, covers_last, covers_search, no_motion, operated, operated_to_bracket, search_to}
use Rattle.line_keys.specs.declared.keys.KeyEvent.{KeyEvent}
use Rattle.line_keys.specs.declared.refresher.InputMode.TheVariants as modes
use Rattle.line_keys.specs.declared.tables.Operator.{Operator}
use Rattle.line_input.specs.Input.{Input}
use Rattle.line_input.specs.Operation.{Operated, Reaches, by_movement, motion_behind, nowhere, operated_if, to_character, to_last, to_match}
use Rattle.line_input.specs.Read.{Read, after_count, quiet_read, read_behind, searched_read}
use Rattle.line_input.specs.ItemShown.{ItemShown, counting_on, shown_behind}
use Rattle.line_input.proofs.KeyFitLemmas.{enter, keys-fit}
use Rattle.line_input.proofs.ListFitLemmas.{nothing-behind, one-item, same-key}

-- the same as `Reaches`, by equations for each motion
abbrev IsReach : Draft → Input → Operator → Motion → List Item → Read → Type 0
IsReach draft input operator (covers movement) tail read = (tail ≡ []) × (read ≡ quiet_read draft input [] (operated operator movement))
IsReach draft input operator (covers_search n by) tail read =
    (second : KeyEvent) × (tail ≡ key second ∷ [])
    × (read ≡ searched_read draft input (key second ∷ []) (λ movement. operated_if operator movement) n (search_to by second))
IsReach draft input operator (covers_last n change) tail read =
    (tail ≡ []) × (read ≡ quiet_read draft input [] (operated_if operator (option_map (λ search. ViCharSearch n (change search)) input.last_search)))
IsReach draft input operator covers_bracket tail read = (tail ≡ []) × (read ≡ quiet_read draft input [] (operated_to_bracket operator))
IsReach draft input operator no_motion tail read = (tail ≡ []) × (read ≡ quiet_read draft input [] unknown)

is-reach : (d : Draft) (i : Input) (operator : Operator) (motion : Motion) (tail : List Item) (read : Read)
    → Reaches d i operator motion tail read → IsReach d i operator motion tail read
is-reach d i operator _ _ _ (by_movement movement) = (refl, refl)
is-reach d i operator _ _ _ (to_character n by second) = (second, refl, refl)
is-reach d i operator _ _ _ (to_last n change) = (refl, refl)
is-reach d i operator _ _ _ to_match = (refl, refl)
is-reach d i operator _ _ _ nowhere = (refl, refl)

IsReach-fit : (d : Draft) (i : Input) (operator : Operator) (motion : Motion) (tail more : List Item) (c c' : Read)
    → IsReach d i operator motion tail c → IsReach d i operator motion (tail ++ more) c' → (more ≡ []) × (c ≡ c')
IsReach-fit d i operator (covers movement) tail more c c' h k = (nothing-behind tail more h.0 k.0, h.1 ∙ sym k.1)
IsReach-fit d i operator (covers_search n by) tail more c c' h k =
    let one = one-item (key h.0) (key k.0) tail more h.1 k.1 in
    (one.0, h.2 ∙ ap (λ x. searched_read d i (key x ∷ []) (λ movement. operated_if operator movement) n (search_to by x)) (same-key h.0 k.0 one.1) ∙ sym k.2)
IsReach-fit d i operator (covers_last n change) tail more c c' h k = (nothing-behind tail more h.0 k.0, h.1 ∙ sym k.1)
IsReach-fit d i operator covers_bracket tail more c c' h k = (nothing-behind tail more h.0 k.0, h.1 ∙ sym k.1)
IsReach-fit d i operator no_motion tail more c c' h k = (nothing-behind tail more h.0 k.0, h.1 ∙ sym k.1)

-- no motion is a proper beginning of another, and one comes to one thing
pub Operated-fit : (environment : Environment) (d : Draft) (i : Input) (operator : Operator) (n : ℕ) (items more : List Item) (c c' : Read)
    → Operated environment d i operator n items c → Operated environment d i operator n (items ++ more) c' → (more ≡ []) × (c ≡ c')
Operated-fit environment d i operator n items more c c' p q =
    let whole : map key p.typed ++ (key p.last ∷ (p.tail ++ more)) ≡ map key q.typed ++ (key q.last ∷ q.tail) =
    sym (append_assoc (map key p.typed) (key p.last ∷ p.tail) more) ∙ sym (ap (λ x. x ++ more) p.cut) ∙ q.cut in
    let fits = keys-fit Vi modes.Command p.typed q.typed p.last q.last p.tail q.tail more whole p.counted q.counted in
    let P : List KeyEvent → Type 0 = λ t. Reaches (after_count environment t d) i operator (motion_behind operator n t q.last) q.tail q.behind in
    let Q : KeyEvent → Type 0 = λ k. Reaches (after_count environment p.typed d) i operator (motion_behind operator n p.typed k) q.tail q.behind in
    let R : List Item → Type 0 = λ t. Reaches (after_count environment p.typed d) i operator (motion_behind operator n p.typed p.last) t q.behind in
    let there = subst R (sym fits.same_tail) (subst Q (sym fits.same_last) (subst P (sym fits.same_typed) q.reaches)) in
    let left : Draft = after_count environment p.typed d in
    let motion = motion_behind operator n p.typed p.last in
    let fit = IsReach-fit left i operator motion p.tail more p.behind q.behind (is-reach left i operator motion p.tail p.behind p.reaches)
    (is-reach left i operator motion (p.tail ++ more) q.behind there) in
    (fit.0, p.told ∙ ap (λ t. read_behind t p.behind) fits.same_typed ∙ ap (λ r. read_behind q.typed r) fit.1 ∙ sym q.told)

-- Enter is no motion
enter-nowhere : (operator : Operator) (n : ℕ) (typed : List KeyEvent) → motion_behind operator n typed enter ≡ no_motion
enter-nowhere operator n [] = refl
enter-nowhere operator n (first ∷ more) = refl

-- keys of a count are a motion with Enter behind them, which is none
pub enter-ends-motion : (environment : Environment) (d : Draft) (i : Input) (operator : Operator) (n : ℕ) (typed : List KeyEvent)
    → is_count_before Vi modes.Command typed enter ≡ true
    → (read : Read) × (later : List ItemShown) × Operated environment d i operator n (map key typed ++ (key enter ∷ [])) read × (read.shown ≡ counting_on [] typed ++ later)
enter-ends-motion environment d i operator n typed counted =
    let left : Draft = after_count environment typed d in
    let behind : Read = quiet_read left i [] unknown in
    let is_operated : Operated environment d i operator n (map key typed ++ (key enter ∷ [])) (read_behind typed behind) = record {
      typed = typed;
      last = enter;
      tail = [];
      cut = refl;
      counted = counted;
      behind = behind;
      reaches = subst (λ m. Reaches left i operator m [] behind) (sym (enter-nowhere operator n typed)) nowhere;
      told = refl;
    } in
    (read_behind typed behind, shown_behind typed ∷ behind.shown, is_operated, refl)
