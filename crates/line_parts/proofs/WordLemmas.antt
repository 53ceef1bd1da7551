-- Escapes, and where words begin.
use Rattle.std.proofs.Common.{◌≡◌, ◌≢◌, ℕ, ◌<◌, eqb, Bool, true, false, true≢false, ◌&&◌, if◌then◌else◌, List, [], ◌∷◌, ◌++◌, length, Option, Some, None, ⊎_elim, refl, sym, ap, ◌∙◌, arith, append_assoc, append-nil, length-append, IfSome, MatchOption, String, string_bytes}
use lib.Utf8.{scalars, scalar, encodes, encode}
use Rattle.std.specs.Char.{IsScalar}
use Rattle.std.specs.List.{flat_map}
use Rattle.std.specs.Str.{IsUtf8, NoCharPasses, NonePass, chars}
use Rattle.std.proofs.lemmas.Bool.{cases_Bool}
use Rattle.std.proofs.lemmas.Str.{IsUtf8-past_char, IsUtf8-string_bytes, len_utf8_bounds, length-encode, chars-encodes, chars-nil, chars_past_char, encodes-append, encodes-chars, encodes_same, scalars-chars}
use Rattle.line_parts.specs.Escape.{escaped, escaped_char, is_escape, on_chars, unescaped}
use Rattle.line_parts.specs.declared.completion.escapes.Quote.{Quote}
use Rattle.line_parts.specs.declared.completion.escapes.Quote.TheVariants as quote
use Rattle.line_parts.proofs.PieceLemmas.{and, both}

same_self : (n : ℕ) → eqb n n ≡ true
same_self n = grind arith

same_if : (m n : ℕ) → eqb m n ≡ true → m ≡ n
same_if m n h = grind arith

pub is_same : {m n : ℕ} → m ≡ n → eqb m n ≡ true
is_same {m} {n} h = grind arith

pub is_other : {m n : ℕ} → m ≢ n → eqb m n ≡ false
is_other {m} {n} h = grind arith

-- a character that is no escape character stays
pub unescaped_plain : (escape : Option ℕ) (c : ℕ) (cs : List ℕ) → is_escape escape c ≡ false → unescaped escape (c ∷ cs) ≡ c ∷ unescaped escape cs
unescaped_plain escape c [] other = rw other refl
unescaped_plain escape c (d ∷ cs) other = rw other refl

pub unescaped_pair : (escape : Option ℕ) (c d : ℕ) (cs : List ℕ) → is_escape escape c ≡ true → unescaped escape (c ∷ d ∷ cs) ≡ d ∷ unescaped escape cs
unescaped_pair escape c d cs same = rw same refl

pub unescaped_last : (escape : Option ℕ) (c : ℕ) → is_escape escape c ≡ true → unescaped escape (c ∷ []) ≡ []
unescaped_last escape c same = rw same refl

escaped_break : (escape : ℕ) (is_break : ℕ → Bool) (c : ℕ) → is_break c ≡ true → escaped_char escape is_break c ≡ escape ∷ c ∷ []
escaped_break escape is_break c h = rw h refl

escaped_other : (escape : ℕ) (is_break : ℕ → Bool) (c : ℕ) → is_break c ≡ false → escaped_char escape is_break c ≡ c ∷ []
escaped_other escape is_break c h = rw h refl

-- what is escaped is given back
pub given_back : (escape : ℕ) (is_break : ℕ → Bool) (cs : List ℕ) → is_break escape ≡ true → unescaped (Some escape) (flat_map (escaped_char escape is_break) cs) ≡ cs
given_back escape is_break [] breaks = refl
given_back escape is_break (c ∷ cs) breaks =
    let rest = flat_map (escaped_char escape is_break) cs in
    ⊎_elim
    (λ here. ap (λ t. unescaped (Some escape) (t ++ rest)) (escaped_break escape is_break c here)
    ∙ unescaped_pair (Some escape) escape c rest (same_self escape) ∙ ap (λ t. c ∷ t) (given_back escape is_break cs breaks))
    (λ other. ap (λ t. unescaped (Some escape) (t ++ rest)) (escaped_other escape is_break c other)
    ∙ unescaped_plain (Some escape) c rest (⊎_elim
    (λ same. absurd (true≢false (sym breaks ∙ ap is_break (sym (same_if c escape same)) ∙ other)))
    (λ differs. differs) (cases_Bool (eqb c escape)))
    ∙ ap (λ t. c ∷ t) (given_back escape is_break cs breaks))
    (cases_Bool (is_break c))

escaped_scalars : (escape : ℕ) (is_break : ℕ → Bool) (cs : List ℕ) → IsScalar escape → scalars cs ≡ true → scalars (flat_map (escaped_char escape is_break) cs) ≡ true
escaped_scalars escape is_break [] good all = refl
escaped_scalars escape is_break (c ∷ cs) good all =
    let parts = both (scalar c) (scalars cs) all in
    let more = escaped_scalars escape is_break cs good parts.1 in
    let rest = flat_map (escaped_char escape is_break) cs in
    ⊎_elim
    (λ here. ap (λ t. scalars (t ++ rest)) (escaped_break escape is_break c here)
    ∙ and (scalar escape) (scalar c && scalars rest) good (and (scalar c) (scalars rest) parts.0 more))
    (λ other. ap (λ t. scalars (t ++ rest)) (escaped_other escape is_break c other) ∙ and (scalar c) (scalars rest) parts.0 more)
    (cases_Bool (is_break c))

escaped_outside : (escape : ℕ) (is_break : ℕ → Bool) (kind : Quote) (cs : List ℕ) → kind ≢ quote.Single → escaped (Some escape) is_break kind cs ≡ flat_map (escaped_char escape is_break) cs
escaped_outside escape is_break quote.Double cs other = refl
escaped_outside escape is_break quote.Single cs other = absurd (other refl)
escaped_outside escape is_break quote.None cs other = refl

-- a text that was escaped is given back
pub text_given_back : (escape : ℕ) (is_break : ℕ → Bool) (kind : Quote) (text : List ℕ) → IsScalar escape → is_break escape ≡ true → kind ≢ quote.Single → IsUtf8 text
    → on_chars (unescaped (Some escape)) (on_chars (escaped (Some escape) is_break kind) text) ≡ text
text_given_back escape is_break kind text good breaks other utf8 =
    let cs = chars text in
    let written = flat_map (escaped_char escape is_break) cs in
    ap (λ w. on_chars (unescaped (Some escape)) (encodes w)) (escaped_outside escape is_break kind cs other)
    ∙ ap (λ w. encodes (unescaped (Some escape) w)) (chars-encodes written (escaped_scalars escape is_break cs good (scalars-chars text utf8)))
    ∙ ap encodes (given_back escape is_break cs breaks) ∙ encodes-chars text utf8

-- the text so far and what escaping makes of the rest are what it makes of the whole
pub record EscapesTo (escape : ℕ) (is_break : ℕ → Bool) (whole text rest : List ℕ) : Type 0 where
  pub utf8 : IsUtf8 rest
  pub joins : on_chars (flat_map (escaped_char escape is_break)) whole ≡ text ++ on_chars (flat_map (escaped_char escape is_break)) rest

pub record UnescapesTo (escape : ℕ) (whole text rest : List ℕ) : Type 0 where
  pub utf8 : IsUtf8 rest
  pub joins : on_chars (unescaped (Some escape)) whole ≡ text ++ on_chars (unescaped (Some escape)) rest

-- one more character of a text
pub next_char : (c : ℕ) (rest more : List ℕ) → IsUtf8 rest → rest ≡ encode c ++ more → (chars rest ≡ c ∷ chars more) × IsScalar c × IsUtf8 more
next_char c rest more utf8 is =
    let front = chars_past_char rest more c utf8 is in
    let all : scalars (c ∷ chars more) ≡ true = ap scalars (sym front) ∙ scalars-chars rest utf8 in
    (front, (both (scalar c) (scalars (chars more)) all).0, IsUtf8-past_char rest more c utf8 is)

no_chars : (rest : List ℕ) → length rest ≡ 0 → rest ≡ []
no_chars [] none = refl
no_chars (b ∷ bs) none = absurd (omega (arith, none))

pub escapes_more : (escape : ℕ) (is_break : ℕ → Bool) (whole text rest more new : List ℕ) (c : ℕ) (breaks : Bool)
    → EscapesTo escape is_break whole text rest → rest ≡ encode c ++ more → (IsScalar c → breaks ≡ is_break c)
    → new ≡ text ++ encodes (if breaks then escape ∷ c ∷ [] else c ∷ []) → EscapesTo escape is_break whole new more
escapes_more escape is_break whole text rest more new c breaks so is answers grown =
    let next = next_char c rest more so.utf8 is in
    let change : List ℕ → List ℕ = flat_map (escaped_char escape is_break) in
    let first : encodes (change (chars rest)) ≡ encodes (escaped_char escape is_break c) ++ encodes (change (chars more)) =
    ap (λ cs. encodes (change cs)) next.0 ∙ encodes-append (escaped_char escape is_break c) (change (chars more)) in
    let same : new ≡ text ++ encodes (escaped_char escape is_break c) =
    grown ∙ ap (λ b. text ++ encodes (if b then escape ∷ c ∷ [] else c ∷ [])) (answers next.1) in
    record {
      utf8 = next.2;
      joins = so.joins ∙ ap (λ t. text ++ t) first
          ∙ sym (append_assoc text (encodes (escaped_char escape is_break c)) (encodes (change (chars more))))
          ∙ ap (λ t. t ++ encodes (change (chars more))) (sym same);
    }

pub escapes_all : (escape : ℕ) (is_break : ℕ → Bool) (whole text rest : List ℕ) → EscapesTo escape is_break whole text rest → length rest ≡ 0
    → text ≡ on_chars (flat_map (escaped_char escape is_break)) whole
escapes_all escape is_break whole text rest so none =
    let ended : on_chars (flat_map (escaped_char escape is_break)) rest ≡ [] = ap (on_chars (flat_map (escaped_char escape is_break))) (no_chars rest none) ∙ none_of_none in
    sym (so.joins ∙ ap (λ t. text ++ t) ended ∙ append-nil text)
  where
    none_of_none : on_chars (flat_map (escaped_char escape is_break)) [] ≡ []
    none_of_none = ap (λ cs. encodes (flat_map (escaped_char escape is_break) cs)) chars-nil

-- the next character that unescaping keeps
pub kept_other : (escape c : ℕ) (rest more : List ℕ) → IsUtf8 rest → rest ≡ encode c ++ more → eqb c escape ≡ false
    → unescaped (Some escape) (chars rest) ≡ c ∷ unescaped (Some escape) (chars more)
kept_other escape c rest more utf8 is other =
    let next = next_char c rest more utf8 is in
    ap (unescaped (Some escape)) next.0 ∙ unescaped_plain (Some escape) c (chars more) other

pub kept_pair : (escape c d : ℕ) (rest more behind : List ℕ) → IsUtf8 rest → rest ≡ encode c ++ more → eqb c escape ≡ true → more ≡ encode d ++ behind
    → unescaped (Some escape) (chars rest) ≡ d ∷ unescaped (Some escape) (chars behind)
kept_pair escape c d rest more behind utf8 is same is_more =
    let next = next_char c rest more utf8 is in
    let last = next_char d more behind next.2 is_more in
    ap (unescaped (Some escape)) (next.0 ∙ ap (λ cs. c ∷ cs) last.0) ∙ unescaped_pair (Some escape) c d (chars behind) same

pub kept_last : (escape c : ℕ) (rest more : List ℕ) → IsUtf8 rest → rest ≡ encode c ++ more → eqb c escape ≡ true → length more ≡ 0
    → unescaped (Some escape) (chars rest) ≡ []
kept_last escape c rest more utf8 is same none =
    let next = next_char c rest more utf8 is in
    ap (unescaped (Some escape)) (next.0 ∙ ap (λ t. c ∷ chars t) (no_chars more none) ∙ ap (λ cs. c ∷ cs) chars-nil) ∙ unescaped_last (Some escape) c same

pub shorter_by : (c : ℕ) (rest more : List ℕ) → rest ≡ encode c ++ more → length more < length rest
shorter_by c rest more is = omega (arith, ap length is, length-append (encode c) more, length-encode c, len_utf8_bounds c)

stays : (escape : Option ℕ) (cs : List ℕ) → NonePass (λ c. is_escape escape c) cs → unescaped escape cs ≡ cs
stays escape [] none = refl
stays escape (c ∷ cs) none = unescaped_plain escape c cs none.0 ∙ ap (λ t. c ∷ t) (stays escape cs none.1)

nothing_passes : (cs : List ℕ) → NonePass (λ c. is_escape None c) cs
nothing_passes [] = tt
nothing_passes (c ∷ cs) = (refl, nothing_passes cs)

-- a text without the escape character stays
pub stays_as_it_is : (escape : Option ℕ) (text : List ℕ) → IsUtf8 text → NoCharPasses (is_escape escape) text → text ≡ on_chars (unescaped escape) text
stays_as_it_is escape text utf8 none =
    let cs = none.0 in
    let same : cs ≡ chars text = encodes_same cs (chars text) (none.1 ∙ sym (encodes-chars text utf8)) in
    sym (ap (λ t. encodes (unescaped escape t)) (sym same) ∙ ap encodes (stays escape cs none.2) ∙ none.1)

pub stays_without : (text : List ℕ) → IsUtf8 text → text ≡ on_chars (unescaped None) text
stays_without text utf8 = stays_as_it_is None text utf8 (chars text, encodes-chars text utf8, nothing_passes (chars text))

-- the text of a string stays
pub string_stays : {Z : Type 0} (text : String Z) → string_bytes text ≡ on_chars (λ cs. cs) (string_bytes text)
string_stays text = sym (encodes-chars (string_bytes text) (IsUtf8-string_bytes text))

-- nothing is escaped without an escape character, or in single quotes
pub stays_unescaped : {Z : Type 0} (text : String Z) (escape : Option ℕ) (is_break : ℕ → Bool) (kind : Quote) → escape ≡ None
    → string_bytes text ≡ on_chars (escaped escape is_break kind) (string_bytes text)
stays_unescaped text escape is_break kind none =
    string_stays text ∙ ap (λ e. on_chars (escaped e is_break kind) (string_bytes text)) (sym none)

pub stays_in_single : {Z : Type 0} (text : String Z) (escape : Option ℕ) (e : ℕ) (is_break : ℕ → Bool) (kind : Quote) → escape ≡ Some e → kind ≡ quote.Single
    → string_bytes text ≡ on_chars (escaped escape is_break kind) (string_bytes text)
stays_in_single text escape e is_break kind some same =
    string_stays text ∙ ap (λ k. on_chars (escaped (Some e) is_break k) (string_bytes text)) (sym same) ∙ ap (λ o. on_chars (escaped o is_break kind) (string_bytes text)) (sym some)

-- the character behind an escape character
pub kept_behind : (escape c : ℕ) (rest more behind : List ℕ) (found : Option ℕ) (T : Type 0) → IsUtf8 rest → rest ≡ encode c ++ more → eqb c escape ≡ true
    → MatchOption found ((length more ≡ 0) × T) (λ d. more ≡ encode d ++ behind)
    → MatchOption found (unescaped (Some escape) (chars rest) ≡ []) (λ d. unescaped (Some escape) (chars rest) ≡ d ∷ unescaped (Some escape) (chars behind))
kept_behind escape c rest more behind None T utf8 is same none = kept_last escape c rest more utf8 is same none.0
kept_behind escape c rest more behind (Some d) T utf8 is same is_more = kept_pair escape c d rest more behind utf8 is same is_more

pub utf8_behind : (c : ℕ) (rest more behind : List ℕ) (found : Option ℕ) (T : Type 0) → IsUtf8 rest → rest ≡ encode c ++ more
    → MatchOption found T (λ d. more ≡ encode d ++ behind) → IfSome found (λ _. IsUtf8 behind)
utf8_behind c rest more behind None T utf8 is steps = tt
utf8_behind c rest more behind (Some d) T utf8 is steps = (next_char d more behind (next_char c rest more utf8 is).2 steps).2
