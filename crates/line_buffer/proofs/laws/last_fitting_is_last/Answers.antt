use Rattle.std.proofs.Common.{◌≡◌, ℕ, ◌<◌, ◌≤◌, zero, suc, Bool, true, false, cond, refl, sym, ap, ◌∙◌, inl, inr, arith}
use Rattle.std.proofs.lemmas.Bool.Decides.{eqb_tells}
use Rattle.line_buffer.specs.Lines.{last_fitting}
use Rattle.line_buffer.proofs.laws.last_fitting_is_last.Goals as goal

-- the next number passes, or those below it tell
one_more : (passes : ℕ → Bool) (m : ℕ) (b : Bool) → passes (suc m) ≡ b
    → (last_fitting passes m ≤ m) × ((i : ℕ) → i ≤ m → passes i ≡ true → i ≤ last_fitting passes m) × (0 < last_fitting passes m → passes (last_fitting passes m) ≡ true)
    → (cond b (suc m) (last_fitting passes m) ≤ suc m) × ((i : ℕ) → i ≤ suc m → passes i ≡ true → i ≤ cond b (suc m) (last_fitting passes m))
    × (0 < cond b (suc m) (last_fitting passes m) → passes (cond b (suc m) (last_fitting passes m)) ≡ true)
one_more passes m true e h = (omega arith, λ i low p. low, λ some. e)
one_more passes m false e h = (
  omega (arith, h.0),
  λ i low p. elim (eqb_tells i (suc m)) [
    | inl same ↦ absurd (let clash : true ≡ false = sym p ∙ ap passes same.1 ∙ e in (cc))
    | inr other ↦ h.1 i (omega (arith, other.1)) p
  ],
  h.2,
)

pub returns : goal.returns
returns c passes zero = (omega arith, λ i low p. low, λ some. absurd (omega arith))
returns c passes (suc m) = one_more passes m (passes (suc m)) refl (returns c passes m)
