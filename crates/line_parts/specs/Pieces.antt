-- Texts that are made of pieces, as lists of characters.
use Rattle.std.specs.Prelude.{ℕ, Bool, List, [], ◌∷◌}
use Rattle.std.specs.List.{flat_map, list_all, list_any}

-- the ways to put a character before a text that is cut into pieces: as a piece of its own, or in
-- front of the first piece
abbrev pub put_before : ℕ → List (List ℕ) → List (List (List ℕ))
put_before c [] = ((c ∷ []) ∷ []) ∷ []
put_before c (piece ∷ pieces) = ((c ∷ []) ∷ piece ∷ pieces) ∷ ((c ∷ piece) ∷ pieces) ∷ []

-- all ways to cut a text into pieces of at least one character
abbrev pub cuts : List ℕ → List (List (List ℕ))
cuts [] = [] ∷ []
cuts (c ∷ cs) = flat_map (put_before c) (cuts cs)

-- whether a text can be cut into pieces that all pass
unfoldable pub is_made_of_pieces : (List ℕ → Bool) → List ℕ → Bool
is_made_of_pieces is_piece text = list_any (list_all is_piece) (cuts text)
