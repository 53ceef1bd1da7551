-- Paths in a line, and the names that complete them.
use Rattle.std.specs.Prelude.{ℕ, ◌+◌, ◌==◌, Bool, not, if◌then◌else◌}
use Rattle.std.specs.Prelude.{List, [], ◌∷◌, ◌++◌, length, map, filter, take, drop, chars}
use Rattle.std.specs.Prelude.{Option, None, Some, encode_utf8_all, string_bytes}
use Rattle.std.specs.Ordering.{is_lt, nat_cmp}
use Rattle.std.specs.Cmp.Lexicographic.{slice_cmp}
use Rattle.std.specs.List.Sorted.{IsPermutation, IsSortedBy, IsStableBy}
use Rattle.std.specs.List.{list_all, list_any, position_or_len, range_with_len, starts_with}
use Rattle.line_parts.specs.Candidate.{Completion, Offer}
use Rattle.line_parts.specs.Escape.{escaped, offset_at, on_chars, unescaped, word_start}
use Rattle.line_parts.specs.Quoting.{backslash, open_quote}
use Rattle.line_parts.specs.declared.completion.escapes.Quote.{Quote}
use Rattle.line_parts.specs.declared.completion.escapes.Quote.TheVariants as quote
use Rattle.line_parts.specs.declared.completion.filename.Entry.{Entry}
use Rattle.line_parts.specs.declared.completion.filename.FilenameCompleter.{FilenameCompleter}

-- where words break outside quotes: space, tab, newline, " \ ' ` @ $ > < = ; | & { ( and NUL
abbrev pub breaks_word : ℕ → Bool
breaks_word c = list_any (λ b. c == b)
    (32 ∷ 9 ∷ 10 ∷ 34 ∷ 92 ∷ 39 ∷ 96 ∷ 64 ∷ 36 ∷ 62 ∷ 60 ∷ 61 ∷ 59 ∷ 124 ∷ 38 ∷ 123 ∷ 40 ∷ 0 ∷ [])

-- what is escaped in double quotes: " $ \ `
abbrev pub is_special : ℕ → Bool
is_special c = list_any (λ b. c == b) (34 ∷ 36 ∷ 92 ∷ 96 ∷ [])

-- the path before a cursor: where it begins, in characters, what it says, and in which quotes
pub record PathBefore : Type 0 where
  pub start : ℕ
  pub path : List ℕ
  pub quote : Quote

-- the path after the quote that stands open, of double quotes or of single ones, or else the word
abbrev pub path_behind : Option ℕ → Option ℕ → List ℕ → PathBefore
path_behind (Some place) _ cs = record {
  start = place + 1;
  path = unescaped (Some backslash) (drop (place + 1) cs);
  quote = quote.Double;
}
path_behind None (Some place) cs =
    record { start = place + 1; path = drop (place + 1) cs; quote = quote.Single }
path_behind None None cs = let start = word_start (Some backslash) breaks_word cs in
    record {
      start = start;
      path = unescaped (Some backslash) (drop start cs);
      quote = quote.None;
    }

-- the path before the cursor in a text that ends there
abbrev pub path_before : List ℕ → PathBefore
path_before cs = path_behind (open_quote quote.Double cs) (open_quote quote.Single cs) cs

-- where the name of a file begins in a path: the least place from which no `/` stands
abbrev pub name_start : List ℕ → ℕ
name_start path = position_or_len (λ place. list_all (λ c. not (c == 47)) (drop place path))
    (range_with_len 0 (length path))

-- a name in a folder, and whether it is a folder's
pub record Listed : Type 0 where
  pub name : List ℕ
  pub folder : Bool

-- what a lister answers, as it is listed here
abbrev pub listed_of : Entry → Listed
listed_of entry = record { name = string_bytes entry.name; folder = entry.folder }

-- the break characters of a path in quotes of a kind
abbrev pub breaks_in : Quote → ℕ → Bool
breaks_in quote.Double = is_special
breaks_in quote.Single = breaks_word
breaks_in quote.None = breaks_word

-- a name as a candidate: after the text of its folder, escaped, with a `/` after a folder
abbrev pub offered : Quote → List ℕ → Listed → Offer
offered kind folder entry = record {
  display = entry.name;
  replacement =
      on_chars (escaped (Some backslash) (breaks_in kind) kind) (folder ++ entry.name)
      ++ (if entry.folder then 47 ∷ [] else []);
}

-- the candidates among the names in a folder: those that start with the name in the path
abbrev pub offered_for : Quote → List ℕ → List ℕ → Option (List Listed) → List Offer
offered_for kind folder name None = []
offered_for kind folder name (Some entries) = map (offered kind folder)
    (filter (λ entry. starts_with (λ a b. a == b) entry.name name) entries)

-- the candidates for a path in quotes of a kind, in the lister's order; the listing says which names each folder has
abbrev pub offered_at : (List ℕ → Option (List Listed)) → Quote → List ℕ → List Offer
offered_at listing kind path =
    let place = name_start path in
    let folder = encode_utf8_all (take place path) in
    offered_for kind folder (encode_utf8_all (drop place path)) (listing folder)

-- how the path before the cursor is completed, in a text that ends there
abbrev pub path_completion : (List ℕ → Option (List Listed)) → List ℕ → Completion
path_completion listing text =
    let cs = chars text in
    let found = path_before cs in
    record { start = offset_at cs found.start; offers = offered_at listing found.quote found.path }

-- how a completer of names completes the path before a cursor; the listing says which names each folder has
abbrev pub completed_by : {L : Type 0} → (L → List ℕ → Option (List Listed)) → FilenameCompleter L → List ℕ → ℕ → Completion
completed_by listing completer text cursor = path_completion (listing completer.lister) (take cursor text)

-- whether a candidate shows a text that stands before another's, in the order of their bytes
abbrev pub is_before : Offer → Offer → Bool
is_before one other = is_lt (slice_cmp nat_cmp one.display other.display)

-- candidates in the order of what they show; those that show the same text in the order that they had
pub record InOrder (old new : List Offer) : Type 0 where
  pub same : IsPermutation old new
  pub sorted : IsSortedBy is_before new
  pub stable : IsStableBy is_before old new

-- a candidate before those that follow it
abbrev pub put_in : Offer → List Offer → List Offer
put_in offer [] = offer ∷ []
put_in offer (first ∷ more) = if is_before first offer then first ∷ put_in offer more else offer ∷ first ∷ more

-- candidates put in that order
abbrev pub in_order : List Offer → List Offer
in_order [] = []
in_order (offer ∷ more) = put_in offer (in_order more)

-- a completion with its candidates in order
abbrev pub ordered : Completion → Completion
ordered completion = record { start = completion.start; offers = in_order completion.offers }

-- the lister that a completer asks
abbrev pub lister_of : {L : Type 0} → FilenameCompleter L → L
lister_of completer = completer.lister
