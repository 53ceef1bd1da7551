-- Paths before a cursor, and the names that complete them.
use Rattle.std.proofs.Common.{◌≡◌, ◌≢◌, ℕ, suc, zero, ◌+◌, ◌-◌, ◌≤◌, ◌==◌, eqb, Bool, true, false, true≢false, not, cond, List, [], ◌∷◌, ◌++◌, length, map, filter, take, drop, Option, Some, None, refl, sym, ap, ◌∙◌, arith, length-append, append-nil, string_bytes, MatchBool}
use lib.Utf8.{scalar, scalars, encodes}
use Rattle.std.specs.List.{concat, list_all, prefix_len, range_with_len}
use Rattle.std.specs.Str.{IsCharBoundary, IsUtf8, chars}
use Rattle.std.proofs.lemmas.List.{map-append, take-append-drop}
use Rattle.std.proofs.lemmas.List.Elements.{filter-append}
use Rattle.std.proofs.lemmas.Str.Pattern.{starts_text}
use Rattle.std.specs.List.{slice_range, starts_with}
use Rattle.std.specs.Str.Pattern.{FindsTextPrefix, HasPrefixMatch}
use Rattle.std.proofs.lemmas.List.Folds.{list_all-append}
use Rattle.std.proofs.lemmas.Str.{IsCharBoundary-at_seam, chars-encodes, encodes-append, encodes-chars, encodes_same, scalars-chars}
use Rattle.std.proofs.Math.Seq.{drop-append_seam, take-append_seam, take-length}
use Rattle.line_parts.specs.Candidate.{Completion, Offer, pair_offer}
use Rattle.line_parts.specs.Completed.{Listed, PathBefore, breaks_word, listed_of, name_start, offered, offered_at, offered_for, path_before, path_behind, path_completion}
use Rattle.line_parts.specs.declared.completion.filename.Entry.{Entry}
use Rattle.line_parts.specs.declared.completion.pair.Pair.{Pair}
use Rattle.line_parts.specs.Escape.{is_word_piece, offset_at, on_chars, unescaped, word_start}
use Rattle.line_parts.specs.Pieces.{is_made_of_pieces}
use Rattle.line_parts.specs.Quoting.{OpensAt, backslash, open_quote}
use Rattle.line_parts.specs.declared.completion.escapes.Quote.{Quote}
use Rattle.line_parts.specs.declared.completion.escapes.Quote.TheVariants as quote
use Rattle.line_parts.proofs.PieceLemmas.{and, both, made_nil, made_append, made_one, made_pieces}

scalars_behind : (k : ℕ) (cs : List ℕ) → scalars cs ≡ true → scalars (drop k cs) ≡ true
scalars_behind zero [] h = h
scalars_behind zero (c ∷ cs) h = h
scalars_behind (suc k) [] h = h
scalars_behind (suc k) (c ∷ cs) h = scalars_behind k cs (both (scalar c) (scalars cs) h).1

-- a text is its characters up to a place, and those behind it
cut_at : (text : List ℕ) (k : ℕ) → IsUtf8 text → text ≡ encodes (take k (chars text)) ++ encodes (drop k (chars text))
cut_at text k utf8 =
    let cs = chars text in
    sym (encodes-chars text utf8) ∙ ap encodes (sym (take-append-drop k cs)) ∙ encodes-append (take k cs) (drop k cs)

pub text_before : (text : List ℕ) (k : ℕ) → IsUtf8 text → take (offset_at (chars text) k) text ≡ encodes (take k (chars text))
text_before text k utf8 =
    ap (take (offset_at (chars text) k)) (cut_at text k utf8) ∙ take-append_seam (encodes (take k (chars text))) (encodes (drop k (chars text)))

pub text_behind : (text : List ℕ) (k : ℕ) → IsUtf8 text → drop (offset_at (chars text) k) text ≡ encodes (drop k (chars text))
text_behind text k utf8 =
    ap (drop (offset_at (chars text) k)) (cut_at text k utf8) ∙ drop-append_seam (encodes (take k (chars text))) (encodes (drop k (chars text)))

-- words that have no escapes are made of characters that break none
no_breaks : (is_break : ℕ → Bool) (pieces : List (List ℕ)) → list_all (is_word_piece None is_break) pieces ≡ true
    → list_all (λ c. not (is_break c)) (concat pieces) ≡ true
no_breaks is_break [] h = refl
no_breaks is_break (piece ∷ pieces) h =
    let parts = both (is_word_piece None is_break piece) (list_all (is_word_piece None is_break) pieces) h in
    list_all-append (λ c. not (is_break c)) piece (concat pieces)
    ∙ and (list_all (λ c. not (is_break c)) piece) (list_all (λ c. not (is_break c)) (concat pieces)) (one piece parts.0) (no_breaks is_break pieces parts.1)
  where
    one : (p : List ℕ) → is_word_piece None is_break p ≡ true → list_all (λ c. not (is_break c)) p ≡ true
    one [] pass = absurd (true≢false (sym pass))
    one (c ∷ []) pass = and (not (is_break c)) true pass refl
    one (c ∷ d ∷ []) pass = absurd (true≢false (sym pass))
    one (c ∷ d ∷ e ∷ cs) pass = absurd (true≢false (sym pass))

made_plain : (is_break : ℕ → Bool) (cs : List ℕ) → list_all (λ c. not (is_break c)) cs ≡ true → is_made_of_pieces (is_word_piece None is_break) cs ≡ true
made_plain is_break [] h = made_nil (is_word_piece None is_break)
made_plain is_break (c ∷ cs) h =
    let parts = both (not (is_break c)) (list_all (λ d. not (is_break d)) cs) h in
    made_append (is_word_piece None is_break) (c ∷ []) cs refl (made_one (is_word_piece None is_break) (c ∷ []) refl parts.0) (made_plain is_break cs parts.1)

both_ways : (a b : Bool) → (a ≡ true → b ≡ true) → (b ≡ true → a ≡ true) → a ≡ b
both_ways true b f g = sym (f refl)
both_ways false true f g = g refl
both_ways false false f g = refl

unescaped_word : (is_break : ℕ → Bool) (cs : List ℕ) → is_made_of_pieces (is_word_piece None is_break) cs ≡ list_all (λ c. not (is_break c)) cs
unescaped_word is_break cs =
    both_ways (is_made_of_pieces (is_word_piece None is_break) cs) (list_all (λ c. not (is_break c)) cs)
    (λ made. let cut = made_pieces (is_word_piece None is_break) cs made in
    ap (list_all (λ c. not (is_break c))) (sym cut.whole) ∙ no_breaks is_break cut.pieces cut.passes)
    (made_plain is_break cs)

same_prefix : (p q : ℕ → Bool) → ((x : ℕ) → p x ≡ q x) → (xs : List ℕ) → prefix_len p xs ≡ prefix_len q xs
same_prefix p q same [] = refl
same_prefix p q same (x ∷ xs) =
    ap (λ b. cond b (1 + prefix_len p xs) 0) (same x) ∙ ap (λ n. cond (q x) (1 + n) 0) (same_prefix p q same xs)

-- the name in a path begins where its last word does, where `/` breaks words
pub name_is_word : (cs : List ℕ) → word_start None (λ c. c == 47) cs ≡ name_start cs
name_is_word cs =
    same_prefix (λ place. not (is_made_of_pieces (is_word_piece None (λ c. c == 47)) (drop place cs))) (λ place. not (list_all (λ c. not (c == 47)) (drop place cs)))
    (λ place. ap not (unescaped_word (λ c. c == 47) (drop place cs))) (range_with_len 0 (length cs))

-- a path where no quote stands open: its last word
pub path_of_word : (text word path : List ℕ) (start : ℕ) → IsUtf8 text
    → (open_quote quote.Double (chars text) ≡ None) × (open_quote quote.Single (chars text) ≡ None)
    → (start ≡ (let cs = chars (take (length text) text) in offset_at cs (word_start (Some backslash) breaks_word cs)))
    → word ≡ drop start (take (length text) text) → path ≡ on_chars (unescaped (Some backslash)) word
    → (start ≡ offset_at (chars text) (path_before (chars text)).start) × (path ≡ encodes (path_before (chars text)).path)
    × (quote.None ≡ (path_before (chars text)).quote)
path_of_word text word path start utf8 none is_start is_word is_path =
    let cs = chars text in
    let found : path_before cs ≡ path_behind None None cs =
    ap (λ o. path_behind o (open_quote quote.Single cs) cs) none.0 ∙ ap (λ o. path_behind None o cs) none.1 in
    let w = word_start (Some backslash) breaks_word cs in
    let begins : start ≡ offset_at cs w =
    is_start ∙ ap (λ l. offset_at (chars l) (word_start (Some backslash) breaks_word (chars l))) (take-length text) in
    let bytes : word ≡ encodes (drop w cs) =
    is_word ∙ ap (λ l. drop start l) (take-length text) ∙ ap (λ n. drop n text) begins ∙ text_behind text w utf8 in
    let letters : chars word ≡ drop w cs = ap chars bytes ∙ chars-encodes (drop w cs) (scalars_behind w cs (scalars-chars text utf8)) in (
      begins ∙ ap (λ (p : PathBefore). offset_at cs p.start) (sym found),
      is_path ∙ ap (λ l. encodes (unescaped (Some backslash) l)) letters ∙ ap (λ (p : PathBefore). encodes p.path) (sym found),
      ap (λ (p : PathBefore). p.quote) (sym found),
    )

-- the text up to an open quote, and what stands behind it
pub cut_behind : (text path : List ℕ) (kind : Quote) → IsUtf8 text → IsUtf8 path → (at : OpensAt (chars text) kind (chars path))
    → text ≡ encodes (take (at.place + 1) (chars text)) ++ path
cut_behind text path kind utf8 good at =
    cut_at text (at.place + 1) utf8
    ∙ ap (λ l. encodes (take (at.place + 1) (chars text)) ++ l) (ap encodes (sym at.rest) ∙ encodes-chars path good)

pub shorter_behind : (text path : List ℕ) (kind : Quote) → IsUtf8 text → IsUtf8 path → OpensAt (chars text) kind (chars path)
    → length path ≤ length text
shorter_behind text path kind utf8 good at =
    omega (arith, ap length (cut_behind text path kind utf8 good at), length-append (encodes (take (at.place + 1) (chars text))) path)

pub starts_behind_quote : (text path : List ℕ) (kind : Quote) → IsUtf8 text → IsUtf8 path → (at : OpensAt (chars text) kind (chars path))
    → length text - length path ≡ offset_at (chars text) (at.place + 1)
starts_behind_quote text path kind utf8 good at =
    omega (arith, ap length (cut_behind text path kind utf8 good at), length-append (encodes (take (at.place + 1) (chars text))) path)

pub within_behind : (text path : List ℕ) (kind : Quote) → IsUtf8 text → IsUtf8 path → OpensAt (chars text) kind (chars path)
    → (length text - length path ≤ length text) × IsCharBoundary text (length text - length path)
within_behind text path kind utf8 good at =
    let cut = cut_behind text path kind utf8 good at in
    let front = encodes (take (at.place + 1) (chars text)) in
    let start : length front ≡ length text - length path = sym (starts_behind_quote text path kind utf8 good at) in
    (omega arith, rw start at (IsCharBoundary-at_seam text front path cut good))

-- a path in double quotes that stand open
path_double : (text inside path : List ℕ) → IsUtf8 text → IsUtf8 inside → (at : OpensAt (chars text) quote.Double (chars inside))
    → path ≡ on_chars (unescaped (Some backslash)) inside
    → (length text - length inside ≡ offset_at (chars text) (path_before (chars text)).start) × (path ≡ encodes (path_before (chars text)).path)
    × (quote.Double ≡ (path_before (chars text)).quote)
path_double text inside path utf8 good at is_path =
    let cs = chars text in
    let found : path_before cs ≡ path_behind (Some at.place) (open_quote quote.Single cs) cs = ap (λ o. path_behind o (open_quote quote.Single cs) cs) at.opens in (
      starts_behind_quote text inside quote.Double utf8 good at ∙ ap (λ (p : PathBefore). offset_at cs p.start) (sym found),
      is_path ∙ ap (λ l. encodes (unescaped (Some backslash) l)) at.rest ∙ ap (λ (p : PathBefore). encodes p.path) (sym found),
      ap (λ (p : PathBefore). p.quote) (sym found),
    )

pub path_in_double : (text inside path : List ℕ) (kind : Quote) → kind ≡ quote.Double → IsUtf8 text → IsUtf8 inside → OpensAt (chars text) kind (chars inside)
    → path ≡ on_chars (unescaped (Some backslash)) inside
    → (length text - length inside ≡ offset_at (chars text) (path_before (chars text)).start) × (path ≡ encodes (path_before (chars text)).path)
    × (kind ≡ (path_before (chars text)).quote)
path_in_double text inside path quote.Double same utf8 good at is_path = path_double text inside path utf8 good at is_path
path_in_double text inside path quote.Single same utf8 good at is_path = absurd (cc)
path_in_double text inside path quote.None same utf8 good at is_path = absurd (cc)

-- a path in single quotes that stand open
path_single : (text path : List ℕ) → IsUtf8 text → IsUtf8 path → (at : OpensAt (chars text) quote.Single (chars path))
    → (length text - length path ≡ offset_at (chars text) (path_before (chars text)).start) × (path ≡ encodes (path_before (chars text)).path)
    × (quote.Single ≡ (path_before (chars text)).quote)
path_single text path utf8 good at =
    let cs = chars text in
    let found : path_before cs ≡ path_behind None (Some at.place) cs =
    ap (λ o. path_behind o (open_quote quote.Single cs) cs) (at.alone quote.Double (λ e. cc)) ∙ ap (λ o. path_behind None o cs) at.opens in (
      starts_behind_quote text path quote.Single utf8 good at ∙ ap (λ (p : PathBefore). offset_at cs p.start) (sym found),
      sym (encodes-chars path good) ∙ ap encodes at.rest ∙ ap (λ (p : PathBefore). encodes p.path) (sym found),
      ap (λ (p : PathBefore). p.quote) (sym found),
    )

pub path_in_single : (text path : List ℕ) (kind : Quote) → kind ≢ quote.Double → IsUtf8 text → IsUtf8 path → OpensAt (chars text) kind (chars path)
    → (length text - length path ≡ offset_at (chars text) (path_before (chars text)).start) × (path ≡ encodes (path_before (chars text)).path)
    × (kind ≡ (path_before (chars text)).quote)
path_in_single text path quote.Double other utf8 good at = absurd (other refl)
path_in_single text path quote.None other utf8 good at = absurd (at.quoted refl)
path_in_single text path quote.Single other utf8 good at = path_single text path utf8 good at

-- where the name in a path begins
pub begins_name : (path : List ℕ) (start : ℕ)
    → (start ≡ (let cs = chars (take (length path) path) in offset_at cs (word_start None (λ c. c == 47) cs)))
    → start ≡ offset_at (chars path) (name_start (chars path))
begins_name path start is =
    is ∙ ap (λ l. offset_at (chars l) (word_start None (λ c. c == 47) (chars l))) (take-length path)
    ∙ ap (offset_at (chars path)) (name_is_word (chars path))

-- one more name: a candidate, where it starts with the name in the path
module _ (kind : Quote) (folder name : List ℕ) where
  offers_of : (ys : List Entry) (e : Entry) → offered_for kind folder name (Some (map listed_of (ys ++ e ∷ [])))
      ≡ offered_for kind folder name (Some (map listed_of ys)) ++ map (offered kind folder) (filter (λ (l : Listed). starts_with eqb l.name name) (listed_of e ∷ []))
  offers_of ys e =
      let fits : Listed → Bool = λ l. starts_with eqb l.name name in
      ap (λ l. map (offered kind folder) (filter fits l)) (map-append listed_of ys (e ∷ []))
      ∙ ap (map (offered kind folder)) (filter-append fits (map listed_of ys) (listed_of e ∷ []))
      ∙ map-append (offered kind folder) (filter fits (map listed_of ys)) (filter fits (listed_of e ∷ []))

  pub one_more : (ys : List Entry) (e : Entry) (old new : List Pair) (pair : Pair) (text : List ℕ) (r : Bool)
      → map pair_offer old ≡ offered_for kind folder name (Some (map listed_of ys))
      → text ≡ string_bytes e.name → MatchBool r (HasPrefixMatch (FindsTextPrefix name) text) (FindsTextPrefix name text None) → r ≡ true
      → pair_offer pair ≡ offered kind folder (listed_of e) → new ≡ old ++ pair ∷ []
      → map pair_offer new ≡ offered_for kind folder name (Some (map listed_of (ys ++ e ∷ [])))
  one_more ys e old new pair text r so is cases starts offer grown =
      let fits : starts_with eqb (string_bytes e.name) name ≡ true = ap (λ t. starts_with eqb t name) (sym is) ∙ sym (starts_text r name text cases) ∙ starts in
      ap (map pair_offer) grown ∙ map-append pair_offer old (pair ∷ []) ∙ ap (λ l. l ++ pair_offer pair ∷ []) so
      ∙ ap (λ o. offered_for kind folder name (Some (map listed_of ys)) ++ o ∷ []) offer
      ∙ sym (offers_of ys e ∙ ap (λ b. offered_for kind folder name (Some (map listed_of ys)) ++ map (offered kind folder) (cond b (listed_of e ∷ []) [])) fits)

  pub none_more : (ys : List Entry) (e : Entry) (old : List Pair) (text : List ℕ) (r : Bool)
      → map pair_offer old ≡ offered_for kind folder name (Some (map listed_of ys))
      → text ≡ string_bytes e.name → MatchBool r (HasPrefixMatch (FindsTextPrefix name) text) (FindsTextPrefix name text None) → r ≡ false
      → map pair_offer old ≡ offered_for kind folder name (Some (map listed_of (ys ++ e ∷ [])))
  none_more ys e old text r so is cases differs =
      let other : starts_with eqb (string_bytes e.name) name ≡ false = ap (λ t. starts_with eqb t name) (sym is) ∙ sym (starts_text r name text cases) ∙ differs in
      so ∙ sym (offers_of ys e ∙ ap (λ b. offered_for kind folder name (Some (map listed_of ys)) ++ map (offered kind folder) (cond b (listed_of e ∷ []) [])) other
      ∙ append-nil (offered_for kind folder name (Some (map listed_of ys))))

pub range_from_start : (text : List ℕ) (n : ℕ) → slice_range text 0 n ≡ take n text
range_from_start text n =
    let same : n - 0 ≡ n = omega arith in
    ap (λ k. take k (drop 0 text)) same ∙ ap (take n) (drop_none text)
  where
    drop_none : (bs : List ℕ) → drop 0 bs ≡ bs
    drop_none [] = refl
    drop_none (b ∷ bs) = refl

-- how a path is completed
pub completes : (listing : List ℕ → Option (List Listed)) (text path : List ℕ) (start : ℕ) (kind : Quote) (offers : List Offer) → IsUtf8 path
    → (start ≡ offset_at (chars text) (path_before (chars text)).start) × (path ≡ encodes (path_before (chars text)).path)
    × (kind ≡ (path_before (chars text)).quote)
    → offers ≡ offered_at listing kind (chars path)
    → ◌≡◌ {A = Completion} (record { start = start; offers = offers }) (path_completion listing text)
completes listing text path start kind offers utf8 is so =
    let found = path_before (chars text) in
    let letters : chars path ≡ found.path = encodes_same (chars path) found.path (encodes-chars path utf8 ∙ is.1) in
    let made : ℕ → List Offer → Completion = λ s o. record { start = s; offers = o } in
    ap (λ s. made s offers) is.0
    ∙ ap (made (offset_at (chars text) found.start)) (so ∙ ap (λ k. offered_at listing k (chars path)) is.2 ∙ ap (offered_at listing found.quote) letters)
