-- Completions, as text.
use Rattle.std.specs.Prelude.{ℕ, ◌≤◌, List, [], IsCharBoundary, string_bytes}
use Rattle.line_parts.specs.declared.completion.Candidate.{Ghosts}
use Rattle.line_parts.specs.declared.completion.pair.Pair.{Pair}

-- what a candidate displays, and the text that it puts into the line
pub record Offer : Type 0 where
  pub display : List ℕ
  pub replacement : List ℕ

-- a candidate as text
abbrev pub offer_of : {T : Type 0} → Ghosts T → T → Offer
offer_of candidate c = record {
  display = candidate.display_text c;
  replacement = candidate.replacement_text c;
}

-- a pair as text
abbrev pub pair_offer : Pair → Offer
pair_offer pair = record {
  display = string_bytes pair.display;
  replacement = string_bytes pair.replacement;
}

-- where the completed part of the line begins, and what is offered for it
pub record Completion : Type 0 where
  pub start : ℕ
  pub offers : List Offer

-- a part of a line that ends at the cursor begins on a character boundary, no further on
abbrev pub BeginsIn : List ℕ → ℕ → ℕ → Type 0
BeginsIn line cursor start = (start ≤ cursor) × IsCharBoundary line start

-- nothing is offered
abbrev pub no_completion : Completion
no_completion = record { start = 0; offers = [] }
