-- The match of a bracket, and how it is shown.
use Rattle.std.specs.Prelude.{ℕ, ◌+◌, ◌-◌, ◌==◌, nat_le, nat_lt, Bool, if◌then◌else◌, codes}
use Rattle.std.specs.Prelude.{List, ◌∷◌, ◌++◌, length, take, drop, reverse, slice_range}
use Rattle.std.specs.Prelude.{Option, Some, None, option_and_then, option_map}
use Rattle.std.specs.List.{count_by, slice_get}
use Rattle.std.specs.Option.{option_or}
use Rattle.line_parts.specs.Brackets.{is_bracket, is_close, is_open, partner}
use Rattle.line_parts.specs.History.{least_below}
use Rattle.line_parts.specs.declared.brackets.Seen.{Seen}
use Rattle.line_parts.specs.declared.highlight.CmdKind.{CmdKind}
use Rattle.line_parts.specs.declared.highlight.CmdKind.TheVariants.{ForcedRefresh}
use Rattle.line_parts.specs.declared.highlight.CmdKind.TheVariants.{MoveCursor, Other}

-- whether as many brackets of a kind open as close
abbrev pub is_even : ℕ → List ℕ → Bool
is_even b part = count_by (λ c. c == b) part == count_by (λ c. c == partner b) part

-- the bytes that lead away from a bracket at a place, the nearest first: those after an opening
-- one, those before a closing one
abbrev pub led_away : List ℕ → ℕ → ℕ → List ℕ
led_away text b place = if is_open b then drop (place + 1) text else reverse (take place text)

-- the place of one of these
abbrev pub place_away : ℕ → ℕ → ℕ → ℕ
place_away b place n = if is_open b then place + 1 + n else place - 1 - n

-- how many of so many bytes lead away from a bracket at a place: those after an opening one, those before a closing one
abbrev pub count_away : Bool → ℕ → ℕ → ℕ
count_away opens place count = if opens then count - (place + 1) else place

-- which of the bytes that lead away from a bracket is the first up to which its own kind is even
abbrev pub nearest_even : ℕ → List ℕ → Option ℕ
nearest_even b away = least_below (length away) (λ n. is_even b (b ∷ take (n + 1) away))

-- the place of the match of a bracket that counts as standing at a place, whatever stands there
abbrev pub match_of : List ℕ → ℕ → ℕ → Option ℕ
match_of text b place = option_map (place_away b place) (nearest_even b (led_away text b place))

-- what is remembered, if it passes
abbrev pub kept_if : (Seen → Bool) → Option Seen → Option Seen
kept_if passes seen = option_and_then (λ s. if passes s then Some s else None) seen

-- the bracket at a place, if one stands there
abbrev pub bracket_at : List ℕ → ℕ → Option Seen
bracket_at text place = kept_if (λ s. is_bracket s.bracket)
    (option_map (λ b. record { bracket = b; place = place }) (slice_get text place))

-- the place of the match of the bracket at a place, if one stands there and has a match
abbrev pub matching_bracket : List ℕ → ℕ → Option ℕ
matching_bracket text place = option_and_then (λ s. match_of text s.bracket s.place) (bracket_at text place)

-- whether anything stands where the match of a bracket would be
abbrev pub has_room : List ℕ → Seen → Bool
has_room text s = if is_open s.bracket then nat_lt (s.place + 1) (length text) else nat_lt 0 s.place

-- the bracket under the cursor, else the one before it
abbrev pub under_or_before : List ℕ → ℕ → Option Seen
under_or_before text cursor = option_or (bracket_at text cursor)
    (if nat_lt 0 cursor then bracket_at text (cursor - 1) else None)

-- the bracket that is looked at: before the text's end at the cursor, where its match has room; at
-- the end a last closing one
abbrev pub looked_at : List ℕ → ℕ → Option Seen
looked_at text cursor =
    if nat_lt cursor (length text) then kept_if (has_room text) (under_or_before text cursor)
    else kept_if (λ s. is_close s.bracket) (bracket_at text (length text - 1))

-- the bracket that is remembered, by what happened to the line
abbrev pub remembered : List ℕ → ℕ → CmdKind → Option Seen
remembered text cursor ForcedRefresh = None
remembered text cursor MoveCursor = looked_at text cursor
remembered text cursor Other = looked_at text cursor

-- a text with the byte at a place in bold blue: `ESC[1;34m`, the byte, `ESC[0m`
abbrev pub lit_at : List ℕ → ℕ → List ℕ
lit_at text place = take place text ++ 27 ∷ codes "[1;34m" ++ slice_range text place (place + 1)
    ++ 27 ∷ codes "[0m" ++ drop (place + 1) text

-- the place of the match that is shown: none where no bracket is remembered, where its place is
-- past the text, and for a text of at most one byte
abbrev pub lit_place : Option Seen → List ℕ → Option ℕ
lit_place seen text = if nat_le (length text) 1 then None
    else option_and_then (λ s. match_of text s.bracket s.place)
    (kept_if (λ s. nat_lt s.place (length text)) seen)

-- a text with that match lit, if there is one
abbrev pub with_match_lit : Option Seen → List ℕ → Option (List ℕ)
with_match_lit seen text = option_map (lit_at text) (lit_place seen text)
