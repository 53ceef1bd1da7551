-- Facts on searches through the history.
use Rattle.std.proofs.Common.{◌≡◌, ◌∙◌, ◌≤◌, ℕ, ◌-◌, Bool, true, false, List, [], ◌∷◌, ◌++◌, length, take, reverse, Option, Some, None, refl, sym, ap, ap₂, subst, arith, option_map}
use Rattle.std.specs.Prelude.{◌==◌, IfNone, IfOk, IfSome, MatchBool, Result, Ok, Err, String, chars, encode_utf8, encode_utf8_all, option_and_then, string_bytes, string_len}
use Rattle.std.proofs.lemmas.Bool.Decides.{nat_tests}
use Rattle.std.proofs.lemmas.List.{length-append, reverse-append}
use Rattle.std.proofs.Math.Seq.{take-append_seam}
use Rattle.std.proofs.lemmas.Str.{IsUtf8-string_bytes, chars-nil, encodes-chars}
use Rattle.line_buffer.proofs.PartLemmas.{chars-pushed}
use Rattle.line_config.specs.declared.error.ReadlineError.{ReadlineError}
use Rattle.line_keys.specs.Model.Draft.{Draft, hinted}
use Rattle.line_parts.specs.Environment.{Environment}
use Rattle.line_parts.specs.History.{found_of, search_in}
use Rattle.line_parts.specs.Quoting.{without_last}
use Rattle.line_parts.specs.declared.history.SearchDirection.{SearchDirection}
use Rattle.line_parts.specs.declared.history.SearchResult.{SearchResult}
use Rattle.line_session.specs.Searching.{BeginsSearch, SearchGoesOn, Search, Searches, ShowsSearch, back_to, before_search, extended, first_search, gone_on, grown_by, led_to, less_one_char, next_place, next_start, place_put, search_value, shortened}
use Rattle.line_session.specs.declared.mode.Mode.{Mode}
use Rattle.line_session.specs.declared.mode.Mode.TheVariants as modes
use Rattle.line_session.specs.declared.searching.Place.{Place}
use Rattle.line_session.specs.declared.searching.SearchCmd.{SearchCmd}
use Rattle.line_session.specs.declared.searching.SearchCmd.TheVariants as cmds
use Rattle.line_session.specs.declared.searching.Searching.{Searching}

-- where a search stands, by what the history found
pub seeks_so : (lines : List (List ℕ)) (term : List ℕ) (before place : Place) (from : Option ℕ) (start : ℕ) (direction : SearchDirection) (found : Option SearchResult)
    → from ≡ Some start → option_map found_of found ≡ search_in lines term start direction → place ≡ next_place before (option_map found_of found)
    → place ≡ next_place before (option_and_then (λ start. search_in lines term start direction) from)
seeks_so lines term before place from start direction found is finds stands =
    stands ∙ ap (λ f. next_place before f) finds
    ∙ ap (λ s. next_place before (option_and_then (λ start. search_in lines term start direction) s)) (sym is)

-- what was found is shown
pub shows_it : (w w1 w2 : Environment) (searching next : Searching) (before d1 d2 d3 : Draft) (grown : Bool) → w1 ≡ w → w2 ≡ w1 → d1 ≡ before
    → d2 ≡ place_put w1 searching.place d1 → grown ≡ grown_by w1 searching.place d1 → d3 ≡ hinted w2 d2 → next ≡ record searching { grown = grown }
    → ShowsSearch w (search_value searching) before d3 (modes.Searching next)
shows_it w w1 w2 searching next before d1 d2 d3 grown same1 same2 at put grows shown is = record {
  searching = next;
  mode_is = refl;
  next = ap (λ s. search_value s) is
      ∙ ap (λ g. record (search_value searching) { grown = g }) (grows ∙ ap₂ (λ w d. grown_by w searching.place d) same1 at);
  shown = shown ∙ ap₂ (λ w d. hinted w d) (same2 ∙ same1) (put ∙ ap₂ (λ w d. place_put w searching.place d) same1 at);
}

-- a search of its parts
parts : (search : Search) (term term' : List ℕ) (place place' : Place) (shorter shorter' : List Place) → term ≡ term' → place ≡ place' → shorter ≡ shorter'
    → record search { term = term; place = place; shorter = shorter } ≡ record search { term = term'; place = place'; shorter = shorter' }
parts search term term' place place' shorter shorter' same there left =
    ap (λ t. record search { term = t; place = place; shorter = shorter }) same
    ∙ ap (λ p. record search { term = term'; place = p; shorter = shorter }) there
    ∙ ap (λ l. record search { term = term'; place = place'; shorter = l }) left

-- one more comes first where the newest come first
pub newest_first : (places more : List Place) (last : Place) → more ≡ places ++ last ∷ [] → reverse more ≡ last ∷ reverse places
newest_first places more last is = ap (λ l. reverse l) is ∙ reverse-append places (last ∷ [])

-- what stands before the last of a list
without_pushed : (cs : List ℕ) (c : ℕ) → without_last (cs ++ c ∷ []) ≡ cs
without_pushed cs c =
    let fewer : length (cs ++ c ∷ []) - 1 ≡ length cs = omega (arith, length-append cs (c ∷ [])) in
    ap (λ n. take n (cs ++ c ∷ [])) fewer ∙ take-append_seam cs (c ∷ [])

-- a text whose last character is taken off
pub less_one : {Z : Type 0} (old new : String Z) (popped : Option ℕ) → IfSome popped (λ c. string_bytes old ≡ string_bytes new ++ encode_utf8 c)
    → IfNone popped (string_len old ≡ 0) → string_len new ≤ string_len old → string_bytes new ≡ less_one_char (string_bytes old)
less_one old new None taken none fewer =
    empty (string_bytes old) (string_bytes new) (omega (arith, none, old.bytes.ok.0)) (omega (arith, none, fewer, new.bytes.ok.0))
  where
    empty : (text front : List ℕ) → length text ≡ 0 → length front ≡ 0 → front ≡ less_one_char text
    empty [] [] none none' = sym (ap (λ cs. encode_utf8_all (without_last cs)) chars-nil)
    empty [] (b ∷ bs) none none' = absurd (omega (arith, none'))
    empty (b ∷ bs) front none none' = absurd (omega (arith, none))
less_one old new (Some c) taken none fewer =
    sym (ap (λ cs. encode_utf8_all (without_last cs)) (chars-pushed (string_bytes old) (string_bytes new) c (IsUtf8-string_bytes old) (IsUtf8-string_bytes new) taken)
    ∙ ap (λ cs. encode_utf8_all cs) (without_pushed (chars (string_bytes new)) c) ∙ encodes-chars (string_bytes new) (IsUtf8-string_bytes new))

-- the term gets a character
pub extended_so : (w : Environment) (c : ℕ) (search : Search) (term : List ℕ) (place : Place) (shorter : List Place) → term ≡ search.term ++ encode_utf8 c
    → place ≡ next_place search.place (search_in w.lines term search.place.index search.direction) → shorter ≡ search.place ∷ search.shorter
    → record search { term = term; place = place; shorter = shorter } ≡ extended w c search
extended_so w c search term place shorter grown there left =
    parts search term (search.term ++ encode_utf8 c) place (next_place search.place (search_in w.lines (search.term ++ encode_utf8 c) search.place.index search.direction))
    shorter (search.place ∷ search.shorter) grown
    (there ∙ ap (λ t. next_place search.place (search_in w.lines t search.place.index search.direction)) grown) left

-- the term loses its last character
pub shortened_so : (search : Search) (term : List ℕ) (place : Place) (shorter : List Place) → search.shorter ≡ place ∷ shorter → term ≡ less_one_char search.term
    → record search { term = term; place = place; shorter = shorter } ≡ shortened search
shortened_so search term place shorter stood less =
    ap (λ t. record search { term = t; place = place; shorter = shorter }) less
    ∙ sym (ap (λ l. back_to l search) stood)

-- the search goes on in a direction
pub gone_on_so : (w : Environment) (direction : SearchDirection) (search : Search) (place : Place) (count : ℕ) (start : Option ℕ) → count ≡ length w.lines
    → start ≡ next_start direction count search.place.index
    → place ≡ next_place search.place (option_and_then (λ start. search_in w.lines search.term start direction) start)
    → record search { place = place; direction = direction } ≡ gone_on w direction search
gone_on_so w direction search place count start counted from there =
    ap (λ p. record search { place = p; direction = direction })
    (there ∙ ap (λ s. next_place search.place (option_and_then (λ start. search_in w.lines search.term start direction) s))
    (from ∙ ap (λ n. next_start direction n search.place.index) counted))

-- what a command leads to is shown in place of the same line from before
led_stays : (w : Environment) (says : SearchCmd) (search : Search) (old : Draft) → before_search w (led_to w says search) old ≡ before_search w search old
led_stays w (cmds.Extend c) search old = refl
led_stays w cmds.Shorten search old = back_stays search.shorter
  where
    back_stays : (shorter : List Place) → before_search w (back_to shorter search) old ≡ before_search w search old
    back_stays [] = refl
    back_stays (place ∷ shorter) = refl
led_stays w (cmds.GoOn direction) search old = refl
led_stays w cmds.GiveUp search old = refl

-- the search that goes on is shown
pub goes_on : (w : Environment) (says : SearchCmd) (search next : Search) (old new : Draft) (result : Result Mode ReadlineError) → (says ≡ cmds.GiveUp → ⊥) → next ≡ led_to w says search
    → IfOk result (ShowsSearch w next (before_search w next old) new) → IfOk result (Searches w search says old new)
goes_on w says search next old new (Ok mode) goes is shows =
    by_command says goes (subst (λ d. ShowsSearch w (led_to w says search) d new mode) (led_stays w says search old)
    (subst (λ s. ShowsSearch w s (before_search w s old) new mode) is shows))
  where
    by_command : (says : SearchCmd) → (says ≡ cmds.GiveUp → ⊥) → SearchGoesOn w says search old new mode → Searches w search says old new mode
    by_command (cmds.Extend c) goes on = on
    by_command cmds.Shorten goes on = on
    by_command (cmds.GoOn direction) goes on = on
    by_command cmds.GiveUp goes on = absurd (goes refl)
goes_on w says search next old new (Err e) goes is shows = tt

-- a search that began
pub begins_so : (w : Environment) (direction : SearchDirection) (old new : Draft) (searching : Searching) (count : ℕ) → count ≡ length w.lines → (count ≡ 0 → ⊥)
    → string_bytes searching.term ≡ [] → searching.place ≡ record { index = count - 1; pos = None; failed = false } → searching.shorter.items ≡ []
    → searching.direction ≡ direction → searching.pos ≡ old.line.cursor → searching.index ≡ old.index → searching.grown ≡ false → new ≡ hinted w old
    → BeginsSearch w direction old new (modes.Searching searching)
begins_so w direction old new searching count counted some empty first shorter towards pos index grown shown =
    by_lines (length w.lines == 0) refl
  where
    is : search_value searching ≡ first_search w direction old
    is =
        parts (search_value searching) (string_bytes searching.term) [] searching.place (first_search w direction old).place (reverse searching.shorter.items) [] empty
        (first ∙ ap (λ n. record { index = n - 1; pos = None; failed = false }) counted) (ap (λ l. reverse l) shorter)
        ∙ ap (λ d. record (search_value searching) { term = []; place = (first_search w direction old).place; shorter = []; direction = d }) towards
        ∙ ap (λ p. record (search_value searching) { term = []; place = (first_search w direction old).place; shorter = []; direction = direction; pos = p }) pos
        ∙ ap (λ i. record (first_search w direction old) { index = i; grown = searching.grown }) index
        ∙ ap (λ g. record (first_search w direction old) { grown = g }) grown

    by_lines : (empty : Bool) → (length w.lines == 0) ≡ empty
        → MatchBool empty ((new ≡ old) × (modes.Searching searching ≡ modes.Editing)) (ShowsSearch w (first_search w direction old) old new (modes.Searching searching))
    by_lines true none = absurd (some (counted ∙ is_zero (length w.lines) none))
      where
        is_zero : (n : ℕ) → (n == 0) ≡ true → n ≡ 0
        is_zero n none = grind (arith, nat_tests, none)
    by_lines false none = record { searching = searching; mode_is = refl; next = is; shown = shown }
