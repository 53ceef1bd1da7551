use Rattle.std.proofs.Common.{◌≡◌, ℕ, ◌+◌, Bool, true, false, cond, List, Option, Some, None, refl, sym}
use Rattle.std.specs.Option.{option_map}
use Rattle.line_buffer.specs.Word.{bytes_to}
use Rattle.line_buffer.proofs.WordPlaces.{some_same}
use Rattle.line_buffer.proofs.laws.places_are_between_clusters.Goals as goal

unless : (b : Bool) (x place : ℕ) → cond b None (Some x) ≡ Some place → x ≡ place
unless true x place e = cc
unless false x place e = cc

-- a place that is there is that of an edge, counted from the cursor
from_edge : (b : Bool) (o : Option ℕ) (cs : List (List ℕ)) (cursor place : ℕ) → cond b None (option_map (λ i. cursor + bytes_to cs i) o) ≡ Some place → (i : ℕ) × (o ≡ Some i) × (place ≡ cursor + bytes_to cs i)
from_edge true o cs cursor place e = cc
from_edge false None cs cursor place e = cc
from_edge false (Some i) cs cursor place e = (i, refl, sym (some_same e))

pub returns : goal.returns
returns c l n place = (
  λ e. sym (unless _ _ place e),
  λ e. sym (unless _ _ place e),
  λ word e. sym (unless _ _ place e),
  λ at word e. from_edge _ _ _ l.cursor place e,
)
