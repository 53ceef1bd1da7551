-- Byte offsets in a text, and ranges of them, on character boundaries.
use Rattle.std.specs.Prelude.{◌≡◌, ◌≤◌, ℕ, List, Option, IfSome, IsCharBoundary}
use Rattle.line_buffer.specs.Line.{Line}

-- a result is this offset
pub record IsOffset (result : ℕ) (text : List ℕ) (offset : ℕ) : Type 0 where
  pub place : result ≡ offset
  pub boundary : IsCharBoundary text result

-- a result is this offset, or there is none
pub record IsOffsetIfAny (result : Option ℕ) (text : List ℕ) (offset : Option ℕ) : Type 0 where
  pub place : result ≡ offset
  pub boundary : IfSome result (λ p. IsCharBoundary text p)

-- the same of an offset that is not before the cursor
pub record IsOffsetOn (result : Option ℕ) (l : Line) (offset : Option ℕ) : Type 0 where
  pub place : result ≡ offset
  pub on : IfSome result (λ p. l.cursor ≤ p)
  pub boundary : IfSome result (λ p. IsCharBoundary l.text p)

-- the same of an offset that is not after the cursor
pub record IsOffsetBack (result : Option ℕ) (l : Line) (offset : Option ℕ) : Type 0 where
  pub place : result ≡ offset
  pub back : IfSome result (λ p. p ≤ l.cursor)
  pub boundary : IfSome result (λ p. IsCharBoundary l.text p)

-- a range begins before it ends, and does both on boundaries
pub record IsSpan (text : List ℕ) (from to : ℕ) : Type 0 where
  pub ordered : from ≤ to
  pub start : IsCharBoundary text from
  pub end : IsCharBoundary text to

-- a result is this range, which does not begin after the cursor, or there is none
pub record IsRangeIfAny (result : Option (ℕ × ℕ)) (l : Line) (span : Option (ℕ × ℕ)) : Type 0 where
  pub range : result ≡ span
  pub ordered : IfSome result (λ r. r.0 ≤ r.1)
  pub before : IfSome result (λ r. r.0 ≤ l.cursor)
  pub start : IfSome result (λ r. IsCharBoundary l.text r.0)
  pub end : IfSome result (λ r. IsCharBoundary l.text r.1)
