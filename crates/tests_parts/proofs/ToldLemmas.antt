-- No changes tell of any line.
use Rattle.std.specs.Prelude.{List, ℕ, ◌≡◌}
use Rattle.std.proofs.Common.{subst, sym, refl}
use Rattle.line_buffer.specs.Changes.{Changes, no_changes}
use Rattle.line_buffer.specs.Undo.{Tells}

-- no changes tell of any text
pub none_tell : (changes : Changes) (text : List ℕ) → changes ≡ no_changes → Tells changes.entries text
none_tell changes text is = subst (λ (c : Changes). Tells c.entries text) (sym is) (record { start = text; told = refl })
