-- A pasted text is the same whether it pauses or not.
use Rattle.std.proofs.Common.{◌≡◌, inl, inr, refl, sym, ◌∙◌, ap, subst, arith, ℕ, ◌+◌, ◌<◌, ◌==◌, Bool, true, false, List, [], ◌∷◌, ◌++◌, length, map, append_assoc, nat_le, nat_lt, if◌then◌else◌}
use Rattle.std.specs.Prelude.{◌⊎◌}
use Rattle.std.proofs.lemmas.Bool.Decides.{nat_tests}
use Rattle.std.proofs.lemmas.List.{append-nil, map-append}
use Rattle.line_keys.specs.Item.{Item, key, paste}
use Rattle.line_keys.specs.declared.keys.KeyEvent.{KeyEvent}
use Rattle.line_screen.specs.KeyQueue.{paste_start}
use Rattle.line_term.specs.Begun.{gives, is_next, is_paste, leads_to, paste_state, paste_step}
use Rattle.line_term.specs.Decoder.{DecoderState, DecoderTurn, with_begun, begins_no_char, cut_char, flushed, followed_by, given_pasted, given_turn, keeps, kept, leaves, longest_silence, read, read_byte, read_char, read_on, read_piece, settled_all, waited}
use Rattle.line_term.specs.DecoderLaws.{ComeToTheSame, PausesKeepPastes, all_given, byte_by_byte, is_start}
use Rattle.line_term.specs.Paste.{pasted_bytes, pasted_items}
use Rattle.line_term.specs.Utf8.{goes_on, piece_of}
use Rattle.line_term.specs.declared.begun.Begun.{Begun}
use Rattle.line_term.specs.declared.begun.Begun.TheVariants.{Nothing, Paste, Mark}
use Rattle.line_term.specs.declared.begun.Step.{Step}
use Rattle.line_term.specs.declared.begun.TheConstants.{END_MARK}
use Rattle.line_term.specs.declared.sequence.Given.TheVariants.{PasteEnd}
use Rattle.line_term.specs.declared.sequence.PastedText.{PastedText}
use Rattle.line_term.specs.declared.utf8.Piece.{Piece}
use Rattle.line_term.specs.declared.utf8.Piece.TheVariants.{Char, Broken}
use Rattle.line_term.specs.declared.utf8.Piece.TheVariants as piece
use Rattle.line_term.proofs.BackLemmas.{none_by_length}
use Rattle.line_term.proofs.SilentLemmas.{paste_lasts, paste_on}

abbrev byte : ℕ → Item
byte b = paste (b ∷ [])

-- ---- items in bytes

key_on : (start : Bool) (k : KeyEvent) (xs ys : List Item) → (if start then xs ++ ys else key k ∷ (xs ++ ys)) ≡ (if start then xs else key k ∷ xs) ++ ys
key_on true k xs ys = refl
key_on false k xs ys = refl

both_in_bytes : (xs ys : List Item) → byte_by_byte (xs ++ ys) ≡ byte_by_byte xs ++ byte_by_byte ys
both_in_bytes [] ys = refl
both_in_bytes (key k ∷ xs) ys =
    ap (λ zs. if is_start k then zs else key k ∷ zs) (both_in_bytes xs ys) ∙ key_on (is_start k) k (byte_by_byte xs) (byte_by_byte ys)
both_in_bytes (paste text ∷ xs) ys =
    ap (λ zs. map byte text ++ zs) (both_in_bytes xs ys) ∙ sym (append_assoc (map byte text) (byte_by_byte xs) (byte_by_byte ys))

text_in_bytes : (text : List ℕ) → byte_by_byte (pasted_items text) ≡ map byte text
text_in_bytes text = by_length (length text == 0) refl where
  by_length : (b : Bool) → (length text == 0) ≡ b → byte_by_byte (if b then [] else key paste_start ∷ paste text ∷ []) ≡ map byte text
  by_length true e = ap (map byte) (sym (none_by_length text e))
  by_length false e = append-nil (map byte text)

-- ---- what is kept of a pasted text makes no difference

-- so much was pasted, and so many pauses were since
abbrev with_text : DecoderState → List ℕ → ℕ → DecoderState
with_text b text n = record b { pasted = text; pauses = n }

-- more was pasted behind a text, and it goes on
record GoesOn (left : DecoderState) (more text : List ℕ) (t : DecoderTurn) : Type 0 where
  pub has : List ℕ
  pub pauses : ℕ
  pub after : t.after ≡ with_text left has pauses
  pub items : byte_by_byte t.items ++ map byte has ≡ map byte text ++ map byte more

-- it goes on, whatever was pasted
record On (b : DecoderState) (f : DecoderState → DecoderTurn) : Type 0 where
  pub left : DecoderState
  pub pastes : is_paste left.begun ≡ true
  pub more : List ℕ
  pub goes : (text : List ℕ) (n : ℕ) → GoesOn left more text (f (with_text b text n))

-- or it has ended
record Over (b : DecoderState) (f : DecoderState → DecoderTurn) : Type 0 where
  pub left : DecoderState
  pub others : List Item
  pub after : (text : List ℕ) (n : ℕ) → (f (with_text b text n)).after ≡ left
  pub items : (text : List ℕ) (n : ℕ) → byte_by_byte (f (with_text b text n)).items ≡ map byte text ++ others

abbrev Moves : DecoderState → (DecoderState → DecoderTurn) → Type 0
Moves b f = On b f ⊎ Over b f

-- two that lead to the same from here
same_moves : (b : DecoderState) (f g : DecoderState → DecoderTurn) → Moves b f → ((text : List ℕ) (n : ℕ) → g (with_text b text n) ≡ f (with_text b text n)) → Moves b g
same_moves b f g (inl on) same = inl (record {
  left = on.left;
  pastes = on.pastes;
  more = on.more;
  goes = λ text n. let P : DecoderTurn → Type 0 = λ t. GoesOn on.left on.more text t in subst P (sym (same text n)) (on.goes text n);
})
same_moves b f g (inr over) same = inr (record {
  left = over.left;
  others = over.others;
  after = λ text n. ap (λ t. t.after) (same text n) ∙ over.after text n;
  items = λ text n. ap (λ t. byte_by_byte t.items) (same text n) ∙ over.items text n;
})

-- it stays as it is, but for what is not the text
stays_on : (left : DecoderState) (text : List ℕ) (n : ℕ) → GoesOn left [] text (leaves (with_text left text n))
stays_on left text n = record { has = text; pauses = n; after = refl; items = sym (append-nil (map byte text)) }

moved : (i j : List Item) (first second text more others : List ℕ) → byte_by_byte i ++ map byte first ≡ map byte text ++ map byte more
    → byte_by_byte j ++ map byte second ≡ map byte first ++ map byte others
    → byte_by_byte (i ++ j) ++ map byte second ≡ map byte text ++ map byte (more ++ others)
moved i j first second text more others one other =
    ap (λ xs. xs ++ map byte second) (both_in_bytes i j) ∙ append_assoc (byte_by_byte i) (byte_by_byte j) (map byte second)
    ∙ ap (λ xs. byte_by_byte i ++ xs) other ∙ sym (append_assoc (byte_by_byte i) (map byte first) (map byte others))
    ∙ ap (λ xs. xs ++ map byte others) one ∙ append_assoc (map byte text) (map byte more) (map byte others)
    ∙ ap (λ xs. map byte text ++ xs) (sym (map-append byte more others))

moved_over : (i j others : List Item) (first text more : List ℕ) → byte_by_byte i ++ map byte first ≡ map byte text ++ map byte more
    → byte_by_byte j ≡ map byte first ++ others → byte_by_byte (i ++ j) ≡ map byte text ++ (map byte more ++ others)
moved_over i j others first text more one other =
    both_in_bytes i j ∙ ap (λ xs. byte_by_byte i ++ xs) other ∙ sym (append_assoc (byte_by_byte i) (map byte first) others)
    ∙ ap (λ xs. xs ++ others) one ∙ append_assoc (map byte text) (map byte more) others

-- one turn and then another
composed : (b : DecoderState) (f g : DecoderState → DecoderTurn) → Moves b f → ((left : DecoderState) → is_paste left.begun ≡ true → Moves left g)
    → Moves b (λ s. followed_by (f s) g)
composed b f g (inl on) next = by_next (next on.left on.pastes) where
  by_next : Moves on.left g → Moves b (λ s. followed_by (f s) g)
  by_next (inl other) = inl (record {
    left = other.left;
    pastes = other.pastes;
    more = on.more ++ other.more;
    goes = λ text n.
        let first = on.goes text n in
        let second = other.goes first.has first.pauses in
        record {
          has = second.has;
          pauses = second.pauses;
          after = ap (λ s. (g s).after) first.after ∙ second.after;
          items = ap (λ s. byte_by_byte ((f (with_text b text n)).items ++ (g s).items) ++ map byte second.has) first.after
              ∙ moved (f (with_text b text n)).items (g (with_text on.left first.has first.pauses)).items first.has second.has text on.more other.more first.items second.items;
        };
  })
  by_next (inr over) = inr (record {
    left = over.left;
    others = map byte on.more ++ over.others;
    after = λ text n. let first = on.goes text n in ap (λ s. (g s).after) first.after ∙ over.after first.has first.pauses;
    items = λ text n.
        let first = on.goes text n in
        ap (λ s. byte_by_byte ((f (with_text b text n)).items ++ (g s).items)) first.after
        ∙ moved_over (f (with_text b text n)).items (g (with_text on.left first.has first.pauses)).items over.others first.has text on.more first.items
        (over.items first.has first.pauses);
  })
composed b f g (inr over) next = inr (record {
  left = (g over.left).after;
  others = over.others ++ byte_by_byte (g over.left).items;
  after = λ text n. ap (λ s. (g s).after) (over.after text n);
  items = λ text n.
      ap (λ s. byte_by_byte ((f (with_text b text n)).items ++ (g s).items)) (over.after text n)
      ∙ both_in_bytes (f (with_text b text n)).items (g over.left).items ∙ ap (λ xs. xs ++ byte_by_byte (g over.left).items) (over.items text n)
      ∙ append_assoc (map byte text) over.others (byte_by_byte (g over.left).items);
})

-- ---- characters and bytes

kept_on : (b : DecoderState) (more : PastedText) (next : Begun) (text : List ℕ) (n : ℕ)
    → GoesOn (record b { begun = next; pending = [] }) (pasted_bytes more) text (begins_no_char (with_begun next (kept more (with_text b text n))))
kept_on b more next text n = by_room (nat_le b.bound (length text)) where
  by_room : (full : Bool) → GoesOn (record b { begun = next; pending = [] }) (pasted_bytes more) text
      (begins_no_char (with_begun next (if full then followed_by (given_pasted (with_text b text n)) (keeps more) else keeps more (with_text b text n))))
  by_room true = record {
    has = pasted_bytes more;
    pauses = 0;
    after = refl;
    items = ap (λ xs. byte_by_byte xs ++ map byte (pasted_bytes more)) (append-nil (pasted_items text)) ∙ ap (λ xs. xs ++ map byte (pasted_bytes more)) (text_in_bytes text);
  }
  by_room false = record { has = text ++ pasted_bytes more; pauses = 0; after = refl; items = map-append byte text (pasted_bytes more) }

abbrev char_by : Step → DecoderState → DecoderTurn
char_by t s = begins_no_char (given_turn t s)

mark_moves : (b : DecoderState) (m c : ℕ) (next last : Bool) → Moves (record b { begun = Mark m })
    (char_by (if next then (if last then gives Nothing PasteEnd else leads_to (Mark (m + 1))) else paste_step false m c))
mark_moves b m c true true = inr (record {
  left = record b { begun = Nothing; pasted = []; pending = []; pauses = 0 };
  others = [];
  after = λ text n. refl;
  items = λ text n. text_in_bytes text ∙ sym (append-nil (map byte text));
})
mark_moves b m c true false = inl (record {
  left = record b { begun = Mark (m + 1); pending = [] };
  pastes = refl;
  more = [];
  goes = λ text n. stays_on (record b { begun = Mark (m + 1); pending = [] }) text 0;
})
mark_moves b m c false last = inl (record {
  left = record b { begun = paste_state c; pending = [] };
  pastes = paste_on c (c == 27);
  more = pasted_bytes (record { held = m; c = c; returned = false });
  goes = λ text n. kept_on (record b { begun = Mark m }) (record { held = m; c = c; returned = false }) (paste_state c) text n;
})

char_by_begun : (b : DecoderState) (x : Begun) (c : ℕ) → is_paste x ≡ true → Moves (record b { begun = x }) (λ s. begins_no_char (read_char c s))
char_by_begun b (Paste r) c is = inl (record {
  left = record b { begun = paste_state c; pending = [] };
  pastes = paste_on c (c == 27);
  more = pasted_bytes (record { held = 0; c = c; returned = r });
  goes = λ text n. kept_on (record b { begun = Paste r }) (record { held = 0; c = c; returned = r }) (paste_state c) text n;
})
char_by_begun b (Mark m) c is = same_moves (record b { begun = Mark m }) _ _ (mark_moves b m c (is_next m c) (m + 1 == length END_MARK)) (λ text n. refl)
char_by_begun b _ c is = absurd (cc)

char_moves : (b : DecoderState) (c : ℕ) → is_paste b.begun ≡ true → Moves b (λ s. begins_no_char (read_char c s))
char_moves b c is = char_by_begun b b.begun c is

cut_moves : (b : DecoderState) → is_paste b.begun ≡ true → Moves b cut_char
cut_moves b is = same_moves b _ _ (by_length (length b.pending == 0)) (λ text n. refl) where
  by_length : (none : Bool) → Moves b (λ s. if none then leaves s else begins_no_char (read_char 0xFFFD s))
  by_length true = inl (record { left = b; pastes = is; more = []; goes = λ text n. stays_on b text n })
  by_length false = char_moves b 0xFFFD is

on_moves : (b : DecoderState) (c : ℕ) → is_paste b.begun ≡ true → Moves b (read_on c)
on_moves b c is = same_moves b _ _ (by_piece (piece_of (b.pending ++ c ∷ []))) (λ text n. refl) where
  by_piece : (x : Piece) → Moves b (λ s. read_piece x c s)
  by_piece (Char d) = char_moves b d is
  by_piece piece.Begun = inl (record {
    left = record b { pending = b.pending ++ c ∷ [] };
    pastes = is;
    more = [];
    goes = λ text n. stays_on (record b { pending = b.pending ++ c ∷ [] }) text 0;
  })
  by_piece Broken = char_moves b 0xFFFD is

byte_moves : (b : DecoderState) (c : ℕ) → is_paste b.begun ≡ true → Moves b (read_byte c)
byte_moves b c is = same_moves b _ _ (by_goes (goes_on b.pending c)) (λ text n. refl) where
  by_goes : (goes : Bool) → Moves b (λ s. if goes then read_on c s else followed_by (cut_char s) (read_on c))
  by_goes true = on_moves b c is
  by_goes false = composed b cut_char (read_on c) (cut_moves b is) (λ left pastes. on_moves left c pastes)

read_moves : (bytes : List ℕ) (b : DecoderState) → is_paste b.begun ≡ true → Moves b (λ s. read s bytes)
unfolding read
read_moves [] b is = inl (record { left = b; pastes = is; more = []; goes = λ text n. stays_on b text n })
read_moves (c ∷ bytes) b is = composed b (read_byte c) (λ s. read s bytes) (byte_moves b c is) (λ left pastes. read_moves bytes left pastes)

-- ---- with a pause and without

-- all that is given, and the text so far
all_on : (left : DecoderState) (more text : List ℕ) (t : DecoderTurn) → GoesOn left more text t → byte_by_byte (all_given t) ≡ map byte text ++ map byte more
all_on left more text t goes =
    both_in_bytes t.items (pasted_items t.after.pasted)
    ∙ ap (λ xs. byte_by_byte t.items ++ xs) (ap (λ s. byte_by_byte (pasted_items s.pasted)) goes.after ∙ text_in_bytes goes.has) ∙ goes.items

all_over : (text : List ℕ) (others : List Item) (left : DecoderState) (t : DecoderTurn) → t.after ≡ left → byte_by_byte t.items ≡ map byte text ++ others
    → byte_by_byte (all_given t) ≡ map byte text ++ (others ++ byte_by_byte (pasted_items left.pasted))
all_over text others left t after items =
    both_in_bytes t.items (pasted_items t.after.pasted) ∙ ap (λ xs. xs ++ byte_by_byte (pasted_items t.after.pasted)) items
    ∙ append_assoc (map byte text) others (byte_by_byte (pasted_items t.after.pasted))
    ∙ ap (λ (s : DecoderState). map byte text ++ (others ++ byte_by_byte (pasted_items s.pasted))) after

-- the text so far is given, and then what is read
given_first : (text : List ℕ) (t : DecoderTurn) (others : List Item) → byte_by_byte (all_given t) ≡ others
    → byte_by_byte (((pasted_items text ++ []) ++ t.items) ++ pasted_items t.after.pasted) ≡ map byte text ++ others
given_first text t others all =
    ap byte_by_byte (append_assoc (pasted_items text ++ []) t.items (pasted_items t.after.pasted))
    ∙ both_in_bytes (pasted_items text ++ []) (t.items ++ pasted_items t.after.pasted)
    ∙ ap (λ xs. xs ++ byte_by_byte (all_given t)) (ap byte_by_byte (append-nil (pasted_items text)) ∙ text_in_bytes text)
    ∙ ap (λ xs. map byte text ++ xs) all

pausing : (s : DecoderState) (f : DecoderState → DecoderTurn) → Moves s f
    → ComeToTheSame (followed_by (record { items = pasted_items s.pasted ++ []; after = with_text s [] (s.pauses + 1) }) f) (f s)
pausing s f (inl on) =
    let whole = on.goes s.pasted s.pauses in
    let part = on.goes [] (s.pauses + 1) in
    record {
      items = given_first s.pasted (f (with_text s [] (s.pauses + 1))) (map byte on.more) (all_on on.left on.more [] (f (with_text s [] (s.pauses + 1))) part)
          ∙ sym (all_on on.left on.more s.pasted (f s) whole);
      begun = ap (λ v. v.begun) part.after ∙ sym (ap (λ v. v.begun) whole.after);
      bytes = ap (λ v. v.pending) part.after ∙ sym (ap (λ v. v.pending) whole.after);
    }
pausing s f (inr over) =
    let whole = over.after s.pasted s.pauses in
    let part = over.after [] (s.pauses + 1) in
    record {
      items = given_first s.pasted (f (with_text s [] (s.pauses + 1))) (over.others ++ byte_by_byte (pasted_items over.left.pasted))
          (all_over [] over.others over.left (f (with_text s [] (s.pauses + 1))) part (over.items [] (s.pauses + 1)))
          ∙ sym (all_over s.pasted over.others over.left (f s) whole (over.items s.pasted s.pauses));
      begun = ap (λ v. v.begun) (part ∙ sym whole);
      bytes = ap (λ v. v.pending) (part ∙ sym whole);
    }

pause_in_paste : (s : DecoderState) → is_paste s.begun ≡ true → s.pauses + 1 < longest_silence
    → flushed s ≡ record { items = pasted_items s.pasted ++ []; after = with_text s [] (s.pauses + 1) }
pause_in_paste s is few =
    let count : nat_lt (s.pauses + 1) longest_silence ≡ true = grind (arith, nat_tests) in
    ap (λ b. if b then waited s else settled_all s) (paste_lasts s.begun is)
    ∙ ap (λ b. record {
      items = pasted_items s.pasted ++ [];
      after = if b then with_text s [] (s.pauses + 1) else record s { pasted = []; pending = []; begun = Nothing; pauses = 0 };
    }) count

pub pauses_keep_pastes : PausesKeepPastes
pauses_keep_pastes s bytes is few =
    let P : DecoderTurn → Type 0 = λ t. ComeToTheSame (followed_by t (λ v. read v bytes)) (read s bytes) in
    subst P (sym (pause_in_paste s is few)) (pausing s (λ v. read v bytes) (read_moves bytes s is))
