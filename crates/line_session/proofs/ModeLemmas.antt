-- Facts on a line that is shown as it is in a mode.
use Rattle.std.proofs.Common.{◌≡◌, true, false, List, refl, sym, subst}
use Rattle.line_keys.specs.Model.Display.{Display}
use Rattle.line_keys.specs.Model.Draft.{Draft}
use Rattle.line_keys.specs.Item.{Item}
use Rattle.line_parts.specs.Environment.{Environment}
use Rattle.line_session.specs.Kept.{IsShownBy, IsShownByMode, IsShownWithItems}
use Rattle.line_session.specs.Steps.{shows_line}
use Rattle.line_session.specs.Taken.{is_settled}
use Rattle.line_session.specs.declared.mode.Mode.{Mode}
use Rattle.line_session.specs.declared.mode.Mode.TheVariants as modes
use Rattle.line_session.specs.declared.searching.Searching.{Searching}

module _ (w : Environment) (d : Display) (t : Draft) where
  -- a line that is shown behind its own prompt is shown as it is in each mode but a search
  pub shown_in : (m : Mode) → ((searching : Searching) → m ≡ modes.Searching searching → ⊥) → IsShownBy w d t → IsShownByMode m w d t
  shown_in modes.Editing none shown = shown
  shown_in modes.Quoting none shown = shown
  shown_in (modes.Completing going) none shown = shown
  shown_in (modes.Offering candidates) none shown = shown
  shown_in (modes.Listing listing) none shown = tt
  shown_in (modes.Searching searching) none shown = absurd (none searching refl)
  shown_in modes.Suspended none shown = tt

  -- with whatever items
  pub shown_with : (m : Mode) (items : List Item) → IsShownByMode m w d t → IsShownWithItems m items w d t
  shown_with modes.Editing items shown = shown
  shown_with modes.Quoting items shown = shown
  shown_with (modes.Completing going) items shown = shown
  shown_with (modes.Offering candidates) items shown = shown
  shown_with (modes.Listing listing) items shown = tt
  shown_with (modes.Searching searching) items shown = λ _. shown
  shown_with modes.Suspended items shown = tt

  -- and the other way round where the mode shows the line
  pub line_shown : (m : Mode) (items : List Item) → IsShownWithItems m items w d t → shows_line m ≡ true → IsShownBy w d t
  line_shown modes.Editing items shown shows = shown
  line_shown modes.Quoting items shown shows = shown
  line_shown (modes.Completing going) items shown shows = shown
  line_shown (modes.Offering candidates) items shown shows = shown
  line_shown (modes.Listing listing) items shown shows = absurd (let two : false ≡ true = shows in cc)
  line_shown (modes.Searching searching) items shown shows = absurd (let two : false ≡ true = shows in cc)
  line_shown modes.Suspended items shown shows = absurd (let two : false ≡ true = shows in cc)

  -- nothing else is shown of items then
  pub settled_by : (m : Mode) (items : List Item) → IsShownWithItems m items w d t → is_settled m d.layout.default_prompt ≡ true
  settled_by modes.Editing items shown = shown.own_prompt
  settled_by modes.Quoting items shown = shown.own_prompt
  settled_by (modes.Completing going) items shown = shown.own_prompt
  settled_by (modes.Offering candidates) items shown = shown.own_prompt
  settled_by (modes.Listing listing) items shown = refl
  settled_by (modes.Searching searching) items shown = refl
  settled_by modes.Suspended items shown = refl

  -- where the mode shows the line it is shown with the items that are awaited, once nothing else is
  pub shown_waiting_in : (m : Mode) (items : List Item) → shows_line m ≡ true → (d.layout.default_prompt ≡ true → IsShownBy w d t)
      → is_settled m d.layout.default_prompt ≡ true → IsShownWithItems m items w d t
  shown_waiting_in modes.Editing items shows shown settled = shown settled
  shown_waiting_in modes.Quoting items shows shown settled = shown settled
  shown_waiting_in (modes.Completing going) items shows shown settled = shown settled
  shown_waiting_in (modes.Offering candidates) items shows shown settled = shown settled
  shown_waiting_in (modes.Listing listing) items shows shown settled = tt
  shown_waiting_in (modes.Searching searching) items shows shown settled = absurd (let two : false ≡ true = shows in cc)
  shown_waiting_in modes.Suspended items shows shown settled = tt

-- a line is shown by what is equal
pub shown_alike : (m : Mode) (items : List Item) (w w' : Environment) (d d' : Display) (t t' : Draft) → w ≡ w' → d ≡ d' → t ≡ t'
    → IsShownWithItems m items w' d' t' → IsShownWithItems m items w d t
shown_alike m items w w' d d' t t' same_environment same_display same_draft shown =
    subst (λ x. IsShownWithItems m items x d t) (sym same_environment)
    (subst (λ x. IsShownWithItems m items w' x t) (sym same_display) (subst (λ x. IsShownWithItems m items w' d' x) (sym same_draft) shown))
