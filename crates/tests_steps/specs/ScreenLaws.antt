-- What the measure of the tests' screen promises.
use Rattle.std.proofs.Common.{true, ◌≡◌, ℕ, ◌+◌, ◌<◌, List, [], ◌∷◌, ◌++◌, ◌∙◌, arith}
use Rattle.std.specs.List.{fold, list_all}
use Rattle.std.proofs.lemmas.Bool.Decides.{nat_tests}
use Rattle.std.proofs.lemmas.List.Sums.{fold-append}
use Rattle.line_buffer.specs.declared.layout.Position.{Position}
use Rattle.line_buffer.specs.Printable.{is_plain, is_printable}
use Rattle.line_keys.specs.Model.Display.{next_column}
use Rattle.tests_steps.specs.Screen.{after_byte, measured_by_bytes}

after_byte-below : (columns : ℕ) (p : Position) (byte : ℕ) → 0 < columns
    → (after_byte columns p byte).col < columns
after_byte-below columns p byte some = grind (arith, nat_tests)

fold-below : (columns : ℕ) (text : List ℕ) (p : Position) → p.col < columns
    → (fold (after_byte columns) p text).col < columns
fold-below columns [] p below = below
fold-below columns (b ∷ bs) p below =
    fold-below columns bs (after_byte columns p b) (after_byte-below columns p b (omega arith))

-- from a place on a row, each text ends on a row
pub measured_by_bytes-below : (columns : ℕ) (text : List ℕ) (origin : Position) → origin.col < columns
    → (measured_by_bytes columns text origin).col < columns
unfolding measured_by_bytes
measured_by_bytes-below columns text origin below = fold-below columns text origin below

after_byte-printable : (columns : ℕ) (p : Position) (c : ℕ) → is_printable c ≡ true
    → after_byte columns p c ≡ next_column columns p
after_byte-printable columns p c print = grind (arith, nat_tests)

-- a printable ASCII character takes one column
pub measured_by_bytes-push : (columns : ℕ) (text : List ℕ) (c : ℕ) (origin : Position) → origin.col < columns
    → list_all is_plain text ≡ true → is_printable c ≡ true
    → measured_by_bytes columns (text ++ c ∷ []) origin ≡ next_column columns (measured_by_bytes columns text origin)
unfolding measured_by_bytes
measured_by_bytes-push columns text c origin below all print =
    fold-append (after_byte columns) origin text (c ∷ [])
    ∙ after_byte-printable columns (fold (after_byte columns) origin text) c print

-- from a place with room on the row, it goes one column on
pub measured_by_bytes-one : (columns c : ℕ) (place : Position) → place.col + 1 < columns → is_printable c ≡ true
    → measured_by_bytes columns (c ∷ []) place ≡ record { row = place.row; col = place.col + 1 }
unfolding measured_by_bytes
measured_by_bytes-one columns c place room print =
    after_byte-printable columns place c print ∙ grind (arith, nat_tests)
