-- Words: longest runs of clusters of one kind, and the places of their starts and ends.
use Rattle.std.specs.Prelude.{ℕ, ◌+◌, ◌-◌, ◌==◌, ◌||◌, nat_le, Bool, true, false, List, length, map, filter, take, drop, reverse, chars, slice_index_or, Option, Some, None, unwrap_or, option_map, if◌then◌else◌}
use Rattle.std.specs.Char.{is_whitespace}
use Rattle.std.specs.List.{concat, list_all, range_with_len, slice_get}
use Rattle.line_buffer.specs.Character.{is_alphanumeric}
use Rattle.line_buffer.specs.Cluster.{clusters}
use Rattle.line_buffer.specs.Line.{Line, before, after}
use Rattle.line_buffer.specs.declared.movement.At.{At}
use Rattle.line_buffer.specs.declared.movement.At.TheVariants.{Start, BeforeEnd, AfterEnd}
use Rattle.line_buffer.specs.declared.movement.Word.TheVariants.{Big, Emacs, Vi}
use Rattle.line_buffer.specs.declared.movement.Word.{Word}
use Rattle.line_buffer.specs.declared.word_edges.Edge.TheVariants.{Begin, End}
use Rattle.line_buffer.specs.declared.word_edges.Edge.{Edge}
use Rattle.line_buffer.specs.declared.word_edges.Kind.TheVariants.{Gap, Inside, Mark}
use Rattle.line_buffer.specs.declared.word_edges.Kind.{Kind}

-- all characters of the cluster are white space
abbrev pub is_blank : List ℕ → Bool
is_blank cluster = list_all is_whitespace (chars cluster)

-- all characters of the cluster pass
abbrev pub is_made_of : (ℕ → Bool) → List ℕ → Bool
is_made_of passes cluster = list_all passes (chars cluster)

-- an alphanumeric character or an underscore
abbrev pub is_vi_letter : ℕ → Bool
is_vi_letter c = is_alphanumeric c || (c == 95)

-- what a cluster is to words: a gap between them, a part of one, or in Vi a part of one of marks
abbrev pub kind_of : Word → List ℕ → Kind
kind_of Big cluster = if is_blank cluster then Gap else Inside
kind_of Emacs cluster = if is_made_of is_alphanumeric cluster then Inside else Gap
kind_of Vi cluster = if is_blank cluster then Gap else if is_made_of is_vi_letter cluster then Inside else Mark

-- what each of a list of clusters is to words
abbrev pub kinds_of : Word → List (List ℕ) → List Kind
kinds_of word cs = map (kind_of word) cs

-- the kind at a place in a list; a gap past its end
abbrev pub kind_at : List Kind → ℕ → Kind
kind_at kinds i = slice_index_or kinds i Gap

-- a word begins between two clusters of these kinds
abbrev pub begins_word : Kind → Kind → Bool
begins_word old Gap = false
begins_word Inside Inside = false
begins_word Mark Mark = false
begins_word old new = true

-- a word ends between two clusters of these kinds
abbrev pub ends_word : Kind → Kind → Bool
ends_word old new = begins_word new old

-- the places inside a list of kinds, each counted in clusters before it, at which the kinds on both sides pass
abbrev pub edges : (Kind → Kind → Bool) → List Kind → List ℕ
edges test kinds = filter (λ i. test (kind_at kinds (i - 1)) (kind_at kinds i)) (range_with_len 1 (length kinds - 1))

-- the n-th of a list, counted from 1
abbrev pub nth : List ℕ → ℕ → Option ℕ
nth places n = slice_get places (n - 1)

-- the first, or else the second
abbrev pub or_else : {A : Type 0} → Option A → Option A → Option A
or_else None other = other
or_else (Some x) other = Some x

-- the bytes of the first i clusters
abbrev pub bytes_to : List (List ℕ) → ℕ → ℕ
bytes_to cs i = length (concat (take i cs))

-- the start of the n-th word before the cursor, or else the text's start; none for n = 0 or at the start
abbrev pub word_back : Word → Line → ℕ → Option ℕ
word_back word l n =
    let cs = clusters (before l) in
    if (n == 0) || (l.cursor == 0) then None
    else Some (bytes_to cs (unwrap_or (nth (reverse (edges begins_word (kinds_of word cs))) n) 0))

-- where there are fewer words among so many clusters: after them for Emacs, else before the last one, if that is not the first
abbrev pub past_the_words : Word → ℕ → Option ℕ
past_the_words Emacs count = Some count
past_the_words Big count = if count == 1 then None else Some (count - 1)
past_the_words Vi count = if count == 1 then None else Some (count - 1)

-- where n words lead, in clusters from the cursor on: to the n-th start after it; before the last cluster of the n-th word that ends after the cursor's cluster, for Emacs after it; to the n-th end
abbrev pub word_edge : At → Word → List (List ℕ) → ℕ → Option ℕ
word_edge Start word cs n = or_else (nth (edges begins_word (kinds_of word cs)) n) (past_the_words word (length cs))
word_edge BeforeEnd Emacs cs n = or_else (option_map (λ i. i + 1) (nth (edges ends_word (kinds_of Emacs (drop 1 cs))) n)) (past_the_words Emacs (length cs))
word_edge BeforeEnd word cs n = or_else (nth (edges ends_word (kinds_of word (drop 1 cs))) n) (past_the_words word (length cs))
word_edge AfterEnd word cs n = Some (unwrap_or (nth (edges ends_word (kinds_of word cs)) n) (length cs))

-- the place of a movement by words; none for n = 0 or at the text's end
abbrev pub word_on : At → Word → Line → ℕ → Option ℕ
word_on place word l n =
    if (n == 0) || nat_le (length l.text) l.cursor then None
    else option_map (λ i. l.cursor + bytes_to (clusters (after l)) i) (word_edge place word (clusters (after l)) n)

-- the test of an edge
abbrev pub edge_between : Edge → Kind → Kind → Bool
edge_between Begin = begins_word
edge_between End = ends_word

-- the bytes to the cluster before an edge, and to the edge
abbrev pub edge_bytes : List (List ℕ) → ℕ → ℕ × ℕ
edge_bytes cs i = (bytes_to cs (i - 1), bytes_to cs i)

-- an edge before a cluster of the new kind, where there is a cluster before it
abbrev pub edge_behind : (Kind → Kind → Bool) → Option Kind → Kind → Bool
edge_behind test None new = false
edge_behind test (Some old) new = test old new

-- an edge after a cluster of the old kind, where there is a cluster after it
abbrev pub edge_before : (Kind → Kind → Bool) → Kind → Option Kind → Bool
edge_before test old None = false
edge_before test old (Some new) = test old new

-- the same in all clusters, where the edge is counted after the first
abbrev pub edge_behind_first : List (List ℕ) → ℕ → ℕ × ℕ
edge_behind_first cs i = (bytes_to cs i, bytes_to cs (i + 1))
