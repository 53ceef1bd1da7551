-- The clusters beside the cursor, and the places so many of them away.
use Rattle.std.specs.Prelude.{◌≡◌, ◌++◌, ℕ, ◌+◌, ◌-◌, ◌==◌, ◌||◌, ◌&&◌, nat_le, Bool, true, false, List, length, take, drop, Option, Some, None, if◌then◌else◌}
use Rattle.std.specs.List.{concat}
use Rattle.ucd_breaks.specs.GraphemeClusterBreak.{grapheme_cluster_break}
use Rattle.ucd_breaks.specs.declared.GraphemeClusterBreak.{GraphemeClusterBreak}
use Rattle.ucd_breaks.specs.declared.GraphemeClusterBreak.TheVariants.{Other, Lf}
use Rattle.ucd_derived.specs.IndicConjunctBreak.{indic_conjunct_break}
use Rattle.ucd_derived.specs.declared.IndicConjunctBreak.{IndicConjunctBreak}
use Rattle.ucd_derived.specs.declared.IndicConjunctBreak.TheVariants as InCb
use Rattle.unicode_segmentation.specs.Grapheme.{graphemes}
use Rattle.line_buffer.specs.Line.{Line, before, after}

-- the extended grapheme clusters of a text, each as its bytes
abbrev pub clusters : List ℕ → List (List ℕ)
clusters text = graphemes true text

-- the text after its first n clusters
abbrev pub behind_first : ℕ → List ℕ → List ℕ
behind_first n text = concat (drop n (clusters text))

-- the text before its last n clusters
abbrev pub before_last : ℕ → List ℕ → List ℕ
before_last n text = concat (take (length (clusters text) - n) (clusters text))

-- the place n clusters on from the cursor, or as many as there are; none for n = 0 or at the text's end
abbrev pub place_on : Line → ℕ → Option ℕ
place_on l n =
    if (n == 0) || nat_le (length l.text) l.cursor then None
    else Some (l.cursor + length (concat (take n (clusters (after l)))))

-- the place n clusters back from the cursor, or as many as there are; none for n = 0 or at the text's start
abbrev pub place_back : Line → ℕ → Option ℕ
place_back l n =
    if (n == 0) || (l.cursor == 0) then None
    else Some (length (before_last n (before l)))

-- the clusters of a text are those of its parts before and from a place
abbrev pub PartsClusters : List ℕ → ℕ → Type 0
PartsClusters text place = clusters text ≡ clusters (take place text) ++ clusters (drop place text)

-- a class of the rules on clusters that joins nothing: none, or a newline
abbrev pub is_apart : GraphemeClusterBreak → Bool
is_apart Other = true
is_apart Lf = true
is_apart _ = false

-- no part of a conjunct
abbrev pub is_no_conjunct : IndicConjunctBreak → Bool
is_no_conjunct InCb.None = true
is_no_conjunct _ = false

-- the character joins no other such one: between the two clusters part, whatever stands before and after
abbrev pub stands_alone : ℕ → Bool
stands_alone c = is_apart (grapheme_cluster_break c) && is_no_conjunct (indic_conjunct_break c)
