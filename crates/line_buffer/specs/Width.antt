-- How many columns a text takes.
use Rattle.std.specs.Prelude.{◌≡◌, ◌≢◌, true, ℕ, ◌+◌, min, ◌==◌, Bool, false, List, [], ◌∷◌, ◌++◌, chars, take, drop, unwrap_or, IsCharBoundary}
use Rattle.std.specs.List.{sum_by, slice_split}
use Rattle.unicode_width.specs.Width.{str_width, char_width, is_indicator}
use Rattle.line_buffer.specs.Cluster.{stands_alone}
use Rattle.line_buffer.specs.declared.layout.GraphemeClusterMode.{GraphemeClusterMode}
use Rattle.line_buffer.specs.declared.layout.GraphemeClusterMode.TheVariants.{Unicode, WcWidth, NoZwj}

-- the columns of a list of characters
abbrev pub columns_as_one : List ℕ → ℕ
columns_as_one cs = str_width false cs

-- the character joins no other, and takes so many columns; it is no newline
abbrev pub IsLone : ℕ → ℕ → Type 0
IsLone c width = (stands_alone c ≡ true) × (columns_as_one (c ∷ []) ≡ width) × (c ≢ 10)

-- the columns of a character by itself; 0 for one without a width
abbrev pub columns_of_char : ℕ → ℕ
columns_of_char c = unwrap_or (char_width false c) 0

-- whether a character is the zero width joiner
abbrev pub is_joiner : ℕ → Bool
is_joiner c = c == 0x200D

-- the columns of a text: of the whole, of each character, or of each piece between zero width joiners
abbrev pub text_width : GraphemeClusterMode → List ℕ → ℕ
text_width Unicode text = columns_as_one (chars text)
text_width WcWidth text = sum_by columns_of_char (chars text)
text_width NoZwj text = sum_by columns_as_one (slice_split is_joiner (chars text))

-- the same, at most the greatest number of columns
abbrev pub unit_width : GraphemeClusterMode → List ℕ → ℕ
unit_width mode text = min (text_width mode text) 65535

-- the columns of a text are those of its two parts, however they are counted
abbrev pub AddUp : List ℕ → List ℕ → Type 0
AddUp front behind = (mode : GraphemeClusterMode) → text_width mode (front ++ behind) ≡ text_width mode front + text_width mode behind

-- a text that ends in two regional indicators
pub record EndsInFlag (text : List ℕ) : Type 0 where
  pub before : List ℕ
  pub first : ℕ
  pub second : ℕ
  pub ends : chars text ≡ before ++ first ∷ second ∷ []
  pub one : is_indicator first ≡ true
  pub two : is_indicator second ≡ true

-- columns add up before the character wherever no joiner stands there
abbrev pub BeginsAnew : ℕ → Type 0
BeginsAnew c = (front behind : List ℕ) (before : ℕ) → is_joiner before ≡ false
    → columns_as_one ((front ++ before ∷ []) ++ c ∷ behind) ≡ columns_as_one (front ++ before ∷ []) + columns_as_one (c ∷ behind)

-- columns add up between texts of which one ends in the first character and the other begins with the second
abbrev pub IsSeam : ℕ → ℕ → Type 0
IsSeam last first = (front behind before after : List ℕ) → chars (front ++ behind) ≡ chars front ++ chars behind
    → chars front ≡ before ++ last ∷ [] → chars behind ≡ first ∷ after → AddUp front behind

-- a text's columns are those before the place and those from it, with another text after it and without
pub record PartsAt (text behind : List ℕ) (place : ℕ) : Type 0 where
  pub boundary : IsCharBoundary text place
  pub whole : AddUp (take place text) (drop place text ++ behind)
  pub alone : AddUp (take place text) (drop place text)
