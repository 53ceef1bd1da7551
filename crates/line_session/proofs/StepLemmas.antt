-- Facts on steps.
use Rattle.std.proofs.Common.{◌≡◌, Bool, true, false, List, refl, ap, if◌then◌else◌}
use Rattle.line_editor.specs.Editor.{Answer}
use Rattle.line_keys.specs.Item.{Item, key}
use Rattle.line_keys.specs.declared.keys.KeyEvent.{KeyEvent}
use Rattle.line_parts.specs.Environment.{Environment}
use Rattle.line_session.specs.Pieces.{with_more}
use Rattle.line_session.specs.Steps.{StepsEnd, Rules, Standing, Steps, comes_in, is_suspended, once_drawn, resumed, shows_line, starting, reads_no_command}
use Rattle.line_session.specs.Steps as steps
use Rattle.line_session.specs.declared.listing.Listing.{Listing}
use Rattle.line_session.specs.declared.mode.Mode.{Mode}
use Rattle.line_session.specs.declared.mode.Mode.TheVariants as modes
use Rattle.line_session.specs.declared.searching.Searching.{Searching}

-- steps, and then steps
pub steps_then : (by : Rules) (over_calls : Bool) (start mid to : Standing) → Steps by over_calls start mid → Steps by over_calls mid to → Steps by over_calls start to
steps_then by over_calls start mid to front steps.none = front
steps_then by over_calls start mid to front (steps.turn {found} {next} before turn) = steps.turn (steps_then by over_calls start mid found front before) turn
steps_then by over_calls start mid to front (steps.item {found} {next} before puts) = steps.item (steps_then by over_calls start mid found front before) puts
steps_then by over_calls start mid to front (steps.resume {found} {next} over before goes) =
    steps.resume over (steps_then by over_calls start mid found front before) goes

-- the steps of a call are steps over several
pub steps_over : (by : Rules) (start to : Standing) → Steps by false start to → Steps by true start to
steps_over by start to steps.none = steps.none
steps_over by start to (steps.turn {found} {next} before turn) = steps.turn (steps_over by start found before) turn
steps_over by start to (steps.item {found} {next} before puts) = steps.item (steps_over by start found before) puts
steps_over by start to (steps.resume {found} {next} over before goes) = absurd (let two : false ≡ true = over in cc)

pub ends_over : (by : Rules) (start end : Standing) (answer : Answer) → StepsEnd by false start end answer → StepsEnd by true start end answer
ends_over by start end answer ends = record { found = ends.found; steps = steps_over by start ends.found ends.steps; last = ends.last }

-- where a key is taken by itself no item is read as part of a command
pub key_alone : (m : Mode) (typed : KeyEvent) → comes_in m (key typed) ≡ true → reads_no_command m ≡ true
key_alone modes.Editing typed comes = comes
key_alone modes.Quoting typed comes = comes
key_alone (modes.Completing going) typed comes = comes
key_alone (modes.Offering candidates) typed comes = comes
key_alone (modes.Listing listing) typed comes = comes
key_alone (modes.Searching searching) typed comes = comes
key_alone modes.Suspended typed comes = absurd (let two : false ≡ true = comes in cc)

-- where an item comes in that answers no list and ends no search, the line is shown
pub shown_alone : {A : Type 0} (m : Mode) (item : Item) → comes_in m item ≡ true → ((listing : Listing) → m ≡ modes.Listing listing → ⊥) → ((searching : Searching) → m ≡ modes.Searching searching → ⊥)
    → (shows_line m ≡ true → A) → A
shown_alone modes.Editing item comes list search shown = shown refl
shown_alone modes.Quoting item comes list search shown = shown refl
shown_alone (modes.Completing going) item comes list search shown = shown refl
shown_alone (modes.Offering candidates) item comes list search shown = shown refl
shown_alone (modes.Listing listing) item comes list search shown = absurd (list listing refl)
shown_alone (modes.Searching searching) item comes list search shown = absurd (search searching refl)
shown_alone modes.Suspended item comes list search shown = absurd (let two : false ≡ true = comes in cc)

pub suspended_is : (m : Mode) → is_suspended m ≡ true → m ≡ modes.Suspended
suspended_is modes.Editing is = absurd (let two : false ≡ true = is in cc)
suspended_is modes.Quoting is = absurd (let two : false ≡ true = is in cc)
suspended_is (modes.Completing going) is = absurd (let two : false ≡ true = is in cc)
suspended_is (modes.Offering candidates) is = absurd (let two : false ≡ true = is in cc)
suspended_is (modes.Listing listing) is = absurd (let two : false ≡ true = is in cc)
suspended_is (modes.Searching searching) is = absurd (let two : false ≡ true = is in cc)
suspended_is modes.Suspended is = refl

-- where items are read as commands the program is not suspended
pub not_suspended : (m : Mode) → reads_no_command m ≡ false → is_suspended m ≡ false
not_suspended modes.Editing reads = refl
not_suspended modes.Quoting reads = refl
not_suspended (modes.Completing going) reads = refl
not_suspended (modes.Offering candidates) reads = refl
not_suspended (modes.Listing listing) reads = refl
not_suspended (modes.Searching searching) reads = refl
not_suspended modes.Suspended reads = absurd (let two : true ≡ false = reads in cc)

-- where a call begins, by whether the program was suspended
abbrev pub starts_by : Environment → Bool → Standing → Bool → Standing
starts_by w draws found suspended =
    if suspended then resumed w found else if draws then record found { editor = once_drawn w found.editor } else found

pub starts_so : (w : Environment) (draws : Bool) (found : Standing) (suspended : Bool) → is_suspended found.mode ≡ suspended
    → starting w draws found ≡ starts_by w draws found suspended
starts_so w draws found suspended is = ap (λ b. starts_by w draws found b) is

-- more items stay behind those of where a call begins
pub starts_more : (w : Environment) (draws : Bool) (more : List Item) (found : Standing) → starting w draws (with_more more found) ≡ with_more more (starting w draws found)
starts_more w draws more found = by_mode (is_suspended found.mode) draws
  where
    by_mode : (suspended draws : Bool) → starts_by w draws (with_more more found) suspended ≡ with_more more (starts_by w draws found suspended)
    by_mode true draws = refl
    by_mode false true = refl
    by_mode false false = refl
