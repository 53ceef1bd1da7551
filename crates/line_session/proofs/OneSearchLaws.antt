-- A search is one change.
use Rattle.std.proofs.Common.{◌≡◌, ◌∙◌, ℕ, ◌+◌, min, Bool, true, false, not, cond, List, [], ◌∷◌, length, drop, Option, Some, None, refl, ap, ap₂, arith, append-nil, slice_get, if◌then◌else◌, IsCharBoundary}
use Rattle.std.specs.Prelude.{◌==◌, ◌&&◌}
use Rattle.std.specs.List.{insert_slice, remove_range}
use Rattle.std.proofs.lemmas.Bool.Decides.{nat_tests}
use Rattle.line_buffer.specs.Changes.{Changes, Entry, begins, begun, deleted, ended, inserted, with_delete, with_entries, with_update}
use Rattle.line_buffer.specs.Character.{is_one_alphanumeric}
use Rattle.line_buffer.specs.Line.{Line, with_cursor}
use Rattle.line_buffer.specs.Undo.{all_taken_back, newest_steps}
use Rattle.line_buffer.proofs.GroupLemmas.{closed_group}
use Rattle.line_keys.specs.Model.Draft.{Draft, hinted}
use Rattle.line_parts.specs.Environment.{Environment}
use Rattle.line_editor.specs.Completing.{taken_back_once}
use Rattle.line_editor.specs.HistoryMoves.{at_index, boundary_or_end, is_character_boundary, is_own_line, put_alone, text_grows, text_put}
use Rattle.line_session.specs.OneSearch.{GivingUpSearchRestores, SearchIsOneChange, SearchedThrough}
use Rattle.line_session.specs.OneSearch as one_search
use Rattle.line_session.specs.Searching.{Search, ShowsSearch, back_to, before_search, found_grows, found_put, grown_by, led_to, place_put, search_value}
use Rattle.line_session.specs.declared.mode.Mode.{Mode}
use Rattle.line_session.specs.declared.searching.Place.{Place}
use Rattle.line_session.specs.declared.searching.SearchCmd.{SearchCmd}
use Rattle.line_session.specs.declared.searching.SearchCmd.TheVariants as cmds

-- what is chosen of two that are the same
same_either : {X : Type 0} (b : Bool) (x : X) → cond b x x ≡ x
same_either true x = refl
same_either false x = refl

-- nothing is left of a text without itself
drop_all : (t : List ℕ) → drop (length t) t ≡ []
drop_all [] = refl
drop_all (b ∷ t) = drop_all t

-- a text that came for another goes, and that one comes back
removed : (t : List ℕ) → remove_range t 0 (0 + length t) ≡ []
removed t = let whole : 0 + length t ≡ length t = omega arith in ap (λ n. remove_range t 0 n) whole ∙ drop_all t

put_back : (t : List ℕ) → insert_slice [] 0 t ≡ t
put_back t = append-nil t

-- a text with a first byte is not empty
some_bytes : (b : ℕ) (bs : List ℕ) → (length (b ∷ bs) == 0) ≡ false
some_bytes b bs = grind (arith, nat_tests)

-- a text that went joins no begin of a group
delete_is : (c : ℕ) (cs : List ℕ) (entries : List Entry) → with_delete 0 (c ∷ cs) (begins ∷ entries) ≡ deleted 0 (c ∷ cs) ∷ begins ∷ entries
delete_is c cs entries = same_either (is_one_alphanumeric (c ∷ cs)) (deleted 0 (c ∷ cs) ∷ begins ∷ entries)

-- the line with the newest change taken back, where these entries stand in a group of its own
abbrev back_from : Changes → (List Entry → List Entry) → Line → Line
back_from shut add line = all_taken_back (newest_steps 1 (ended (with_entries (begun shut) (add (begun shut).entries))).entries) line

-- a text that came for a whole line in a group of its own is one change, unless both are empty
update_back : (shut : Changes) (old text : List ℕ) (cursor : ℕ) → shut.open_groups ≡ 0
    → (if not (length text == 0 && length old == 0) then back_from shut (with_update old text) (record { text = text; cursor = cursor }) else record { text = text; cursor = cursor }).text ≡ old
update_back shut [] [] cursor none = refl
update_back shut [] (b ∷ bs) cursor none =
    let line : Line = record { text = b ∷ bs; cursor = cursor } in
    ap (λ c. (if not (c && true) then back_from shut (with_update [] (b ∷ bs)) line else line).text) (some_bytes b bs)
    ∙ ap (λ (s : List Entry × Line). s.1.text) (closed_group shut (inserted 0 (b ∷ bs) ∷ []) line none (omega arith) refl) ∙ removed (b ∷ bs)
update_back shut (c ∷ cs) [] cursor none =
    let line : Line = record { text = []; cursor = cursor } in
    ap (λ b. (if not (true && b) then back_from shut (with_update (c ∷ cs) []) line else line).text) (some_bytes c cs)
    ∙ ap (λ e. (all_taken_back (newest_steps 1 (ended (with_entries (begun shut) e)).entries) line).text) (delete_is c cs shut.entries)
    ∙ ap (λ (s : List Entry × Line). s.1.text) (closed_group shut (deleted 0 (c ∷ cs) ∷ []) line none (omega arith) refl) ∙ put_back (c ∷ cs)
update_back shut (c ∷ cs) (b ∷ bs) cursor none =
    let line : Line = record { text = b ∷ bs; cursor = cursor } in
    ap (λ x. (if not (x && length (c ∷ cs) == 0) then back_from shut (with_update (c ∷ cs) (b ∷ bs)) line else line).text) (some_bytes b bs)
    ∙ ap (λ e. (all_taken_back (newest_steps 1 (ended (with_entries (begun shut) (inserted 0 (b ∷ bs) ∷ e))).entries) line).text) (delete_is c cs shut.entries)
    ∙ ap (λ (s : List Entry × Line). s.1.text) (closed_group shut (inserted 0 (b ∷ bs) ∷ deleted 0 (c ∷ cs) ∷ []) line none (omega arith) refl)
    ∙ ap (λ t. insert_slice t 0 (c ∷ cs)) (removed (b ∷ bs)) ∙ put_back (c ∷ cs)

-- the draft from before a change, if there was one
abbrev without : Bool → Draft → Draft
without grown draft = if grown then taken_back_once draft else draft

line_without : (grown : Bool) (draft : Draft) → (without grown draft).line.text ≡ (if grown then (taken_back_once draft).line else draft.line).text
line_without true draft = refl
line_without false draft = refl

text_back : (environment : Environment) (text : Option (List ℕ)) (pos index : ℕ) (draft : Draft)
    → (without (text_grows text draft) (hinted environment (text_put environment text pos index draft))).line.text ≡ draft.line.text
text_back environment None pos index draft = refl
text_back environment (Some text) pos index draft = by_saved (is_own_line environment draft)
  where
    by_saved : (own : Bool) → (without (text_grows (Some text) draft) (hinted environment (at_index index (put_alone text (boundary_or_end text pos) (if own then record draft { saved = draft.line } else draft))))).line.text ≡ draft.line.text
    by_saved true =
        line_without (text_grows (Some text) draft) (hinted environment (at_index index (put_alone text (boundary_or_end text pos) (record draft { saved = draft.line }))))
        ∙ update_back (ended draft.changes) draft.line.text text (boundary_or_end text pos) refl
    by_saved false =
        line_without (text_grows (Some text) draft) (hinted environment (at_index index (put_alone text (boundary_or_end text pos) draft)))
        ∙ update_back (ended draft.changes) draft.line.text text (boundary_or_end text pos) refl

-- what a search shows, taken back
shown_back : (environment : Environment) (place : Place) (before : Draft)
    → (without (grown_by environment place before) (hinted environment (place_put environment place before))).line.text ≡ before.line.text
shown_back environment place before = by_pos place.pos
  where
    by_pos : (pos : Option ℕ) → (without (found_grows environment pos place.index before) (hinted environment (found_put environment pos place.index before))).line.text ≡ before.line.text
    by_pos None = refl
    by_pos (Some pos) = text_back environment (slice_get environment.lines place.index) pos place.index before

-- the search with the shorter term began where this one did
back_stays : (shorter : List Place) (search : Search) → ((back_to shorter search).pos ≡ search.pos) × ((back_to shorter search).index ≡ search.index)
back_stays [] search = (refl, refl)
back_stays (place ∷ shorter) search = (refl, refl)

led_stays : (environment : Environment) (says : SearchCmd) (search : Search) → ((led_to environment says search).pos ≡ search.pos) × ((led_to environment says search).index ≡ search.index)
led_stays environment (cmds.Extend c) search = (refl, refl)
led_stays environment cmds.Shorten search = back_stays search.shorter search
led_stays environment (cmds.GoOn direction) search = (refl, refl)
led_stays environment cmds.GiveUp search = (refl, refl)

-- the cursor goes to a character boundary
boundary_is : (text : List ℕ) (pos : ℕ) → IsCharBoundary text pos → is_character_boundary text pos ≡ true
boundary_is text pos at = grind (arith, nat_tests, at.0, at.1)

-- a search that began at a draft goes back to its text, cursor and history index
record Began (start : Draft) (search : Search) (draft : Draft) : Type 0 where
  text : (without search.grown draft).line.text ≡ start.line.text
  pos : search.pos ≡ start.line.cursor
  index : search.index ≡ start.index

-- the text from before is that of the start
before_text : (environment : Environment) (start draft : Draft) (search : Search) → Began start search draft → (before_search environment search draft).line.text ≡ start.line.text
before_text environment start draft search began = by_boundary (is_character_boundary (without search.grown draft).line.text search.pos) ∙ began.text
  where
    by_boundary : (b : Bool) → (if b then record (without search.grown draft) { line = with_cursor (without search.grown draft).line search.pos } else without search.grown draft).line.text
        ≡ (without search.grown draft).line.text
    by_boundary true = refl
    by_boundary false = refl

shows_so : (environment : Environment) (start before new : Draft) (search : Search) (mode : Mode) → search.pos ≡ start.line.cursor → search.index ≡ start.index
    → before.line.text ≡ start.line.text → (shows : ShowsSearch environment search before new mode) → Began start (search_value shows.searching) new
shows_so environment start before new search mode pos index text shows = record {
  text = ap (λ (s : Search). (without s.grown new).line.text) shows.next
      ∙ ap (λ d. (without (grown_by environment search.place before) d).line.text) shows.shown
      ∙ shown_back environment search.place before ∙ text;
  pos = ap (λ (s : Search). s.pos) shows.next ∙ pos;
  index = ap (λ (s : Search). s.index) shows.next ∙ index;
}

began_so : (environment : Environment) (start draft : Draft) (search : Search) → SearchedThrough environment start search draft → Began start search draft
began_so environment start draft _ (one_search.begun {mode} direction shows) = shows_so environment start start draft _ mode refl refl refl shows
began_so environment start new _ (one_search.on {search} {draft} {mode} before says goes) =
    let began = began_so environment start draft search before in
    let stays = led_stays environment says search in
    shows_so environment start (before_search environment search draft) new (led_to environment says search) mode (stays.0 ∙ began.pos) (stays.1 ∙ began.index)
    (before_text environment start draft search began) goes

pub one-search : SearchIsOneChange
one-search environment start draft search through = (began_so environment start draft search through).text

pub giving-up-search : GivingUpSearchRestores
giving-up-search environment start draft new search mode at within through gives =
    let began = began_so environment start draft search through in
    let own = without search.grown draft in
    let boundary : is_character_boundary own.line.text search.pos ≡ true =
    ap₂ (λ t p. is_character_boundary t p) began.text began.pos ∙ boundary_is start.line.text start.line.cursor at in
    let back : before_search environment search draft ≡ at_index (min search.index (length environment.lines)) (record own { line = with_cursor own.line search.pos }) =
    ap (λ b. at_index (min search.index (length environment.lines)) (if b then record own { line = with_cursor own.line search.pos } else own)) boundary in
    record {
      line = ap (λ (d : Draft). d.line) gives.0 ∙ ap (λ (d : Draft). d.line) back ∙ ap₂ (λ t c. record { text = t; cursor = c }) began.text began.pos;
      index = ap (λ (d : Draft). d.index) gives.0 ∙ ap (λ (d : Draft). d.index) back ∙ ap (λ i. min i (length environment.lines)) began.index ∙ omega (arith, within);
    }
