-- Lines of text whose backslashes and line ends are escaped.
use Rattle.std.specs.Prelude.{◌≡◌, ℕ, ◌==◌, if◌then◌else◌, List, [], ◌∷◌, ◌++◌}
use Rattle.std.specs.List.{AllZip, flat_map}
use Rattle.line_parts.specs.declared.escaped_line.Escapes.{Escapes}
use Rattle.line_parts.specs.declared.escaped_line.Escapes.TheVariants.{V2, V3}

-- the bytes that both forms escape, a backslash and a newline, each with the letter that stands for
-- it after a backslash
abbrev pub common_escapes : List (ℕ × ℕ)
common_escapes = (92, 92) ∷ (10, 110) ∷ []

-- the bytes that are escaped: in one form a carriage return too
abbrev pub escape_table : Escapes → List (ℕ × ℕ)
escape_table V2 = common_escapes
escape_table V3 = common_escapes ++ (13, 114) ∷ []

-- a byte as it is written by a table: by its first row there, or as it is
abbrev pub written_by : List (ℕ × ℕ) → ℕ → List ℕ
written_by [] b = b ∷ []
written_by (row ∷ rows) b = if b == row.0 then 92 ∷ row.1 ∷ [] else written_by rows b

-- a byte as it is written
abbrev pub escaped_byte : Escapes → ℕ → List ℕ
escaped_byte escapes b = written_by (escape_table escapes) b

-- a line as it is written
abbrev pub escaped_line : Escapes → List ℕ → List ℕ
escaped_line escapes line = flat_map (escaped_byte escapes) line

-- a piece of a line stands for a byte: as that is written, or, if it is a carriage return, as it is
pub data StandsFor (escapes : Escapes) (piece : List ℕ) (b : ℕ) : Type 0 where
  as_written : piece ≡ escaped_byte escapes b → StandsFor escapes piece b
  as_it_is : b ≡ 13 → piece ≡ b ∷ [] → StandsFor escapes piece b

-- a line is made of pieces that stand for the bytes of a text, one after another
pub record Unescapes (escapes : Escapes) (line text : List ℕ) : Type 0 where
  pub pieces : List (List ℕ)
  pub whole : line ≡ flat_map (λ piece. piece) pieces
  pub each : AllZip (StandsFor escapes) pieces text

-- no text stands in a line by these escapes
abbrev pub HasBadEscape : Escapes → List ℕ → Type 0
HasBadEscape escapes line = (text : List ℕ) → ¬ (Unescapes escapes line text)
