-- What keys that were held back come to.
use Rattle.std.proofs.Common.{◌≡◌, sym, ◌∙◌, ap, List, [], ◌∷◌, ◌++◌, map, append_assoc, Option, Some}
use Rattle.std.specs.Prelude.{option_to_list, slice_index_or}
use Rattle.std.proofs.lemmas.List.{map-append}
use Rattle.line_keys.specs.Item.{key}
use Rattle.line_keys.specs.declared.keys.KeyEvent.{KeyEvent}
use Rattle.line_screen.specs.KeyQueue.{Queued}
use Rattle.line_term.specs.Decoder.{Releases}

-- the first one was taken
pub taken : (has left : List KeyEvent) (popped : Option KeyEvent) (k : KeyEvent) → has ≡ option_to_list popped ++ left → popped ≡ Some (slice_index_or has 0 k)
    → k ≡ slice_index_or has 0 k → has ≡ k ∷ left
taken has left popped k items value first = items ∙ ap (λ o. option_to_list o ++ left) value ∙ ap (λ x. x ∷ left) (sym first)

-- one more
pub one_released : (had has left : List KeyEvent) (before between after : Queued) (k : KeyEvent) → has ≡ k ∷ left
    → after ≡ record between { rest = between.rest ++ key k ∷ [] } → Releases had has before between → Releases had left before after
one_released had has left before between after k first appended so_far = record {
  given = so_far.given ++ k ∷ [];
  parts = so_far.parts ∙ ap (λ ks. so_far.given ++ ks) first ∙ sym (append_assoc so_far.given (k ∷ []) left);
  items = appended ∙ ap {A = Queued} (λ q. record q { rest = q.rest ++ key k ∷ [] }) so_far.items
      ∙ ap {B = Queued} (λ xs. record before { rest = xs }) (append_assoc before.rest (map key so_far.given) (key k ∷ [])
      ∙ ap (λ xs. before.rest ++ xs) (sym (map-append key so_far.given (k ∷ []))));
}
