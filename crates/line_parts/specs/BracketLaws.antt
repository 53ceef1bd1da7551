-- Laws of the brackets of a text.
use Rattle.std.specs.Prelude.{◌≡◌, ℕ, List, Some}
use Rattle.line_parts.specs.BracketMatch.{matching_bracket}
use Rattle.line_parts.specs.Brackets.{IsVerdict}
use Rattle.line_parts.specs.BracketVerdict.{bracket_verdict}
use Rattle.line_parts.specs.Verdict.{Verdict}

-- striking out pairs leads to a validation result for every text
abbrev pub StrikingOutGivesAVerdict : Type 0
StrikingOutGivesAVerdict = (text : List ℕ) → IsVerdict text (bracket_verdict text)

-- no text has two validation results
abbrev pub VerdictIsOne : Type 0
VerdictIsOne = (text : List ℕ) (one other : Verdict) → IsVerdict text one → IsVerdict text other
    → one ≡ other

-- brackets match each other: the match of a bracket has that bracket as its match
abbrev pub MatchIsMutual : Type 0
MatchIsMutual = (text : List ℕ) (one other : ℕ) → matching_bracket text one ≡ Some other
    → matching_bracket text other ≡ Some one
