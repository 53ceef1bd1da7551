-- The two cases of what a handle owns: nothing, at null, or else a box, whose pointer may be compared with null.
use Rattle.std.proofs.Common.{◌≡◌, ℕ, List, ◌∷◌, refl}
use seplogic.Ra.Ura.{Ura}
use base.Logic.{never, via, fst∗, snd∗, guard_i}
use mir.Raw.{raw as bare}
use types.Logic.{Logic, sem}
use types.Kit.{Item, Goal, Seq, ‵, given, ◌$◌, use1, learn, feq_l}
use contract.Monad.{fact_use}
use denote.RattleType.{RattleType}
use denote.Memory.{lone}
use denote.RawPtr.{Ptr, block_ptr, null_ptr, Testable, in_a_block}
use Rattle.std.specs.Prelude.{Option, None, Some}
use Rattle.std.specs.Ptr.{points_to}
use Rattle.std.specs.declared.alloc.Global.{Global}
use Rattle.std.specs.contracts.impls.GlobalAllocator.TheImpl.{ghosts}
use Rattle.std.proofs.GlobalToken.{dealloc_token-Testable}
use Rattle.std_alloc.specs.Box.Ownership.{box_owns}
use Rattle.line_c.specs.Handle.{owned}

module _ {M : Type 1} {𝓤 : Ura M} {𝓛 : Logic 𝓤} {K : Type 0} {Γ : List (Item 𝓤)} {G : Goal 𝓤 𝓛.H} (R : RattleType)
    (alloc : Global) where
  pub by_session : K → (at : Ptr) (session : Option R.Denot)
      → (at ≡ null_ptr → session ≡ None → Seq K 𝓛 Γ G)
      → ((b o : ℕ) (x : R.Denot) → at ≡ block_ptr b o → session ≡ Some x → Testable (block_ptr b o)
      → Seq K 𝓛 (‵ (box_owns (ghosts.dealloc_token alloc) R (block_ptr b o) x) ∷ Γ) G)
      → Seq K 𝓛 (‵ (owned R alloc at session) ∷ Γ) G
  by_session t at None empty full = feq_l t (λ null. empty null refl)
  by_session t at (Some x) empty full =
      let frees = ghosts.dealloc_token alloc in
      let τ = bare (lone R.mir) in
      in_a_block t at (λ p. box_owns frees R p x) (fst∗ 𝓤 (never 𝓤) (sem 𝓛 (frees τ null_ptr))) (λ b o block.
      let p = block_ptr b o in
      let box = box_owns frees R p x in
      use1 𝓛 (given (Testable p) (‵ box)) (fact_use 𝓤 (Testable p)
      (via 𝓤 _ (snd∗ 𝓤 (sem 𝓛 (points_to R p x)) (sem 𝓛 (frees τ p))) (dealloc_token-Testable 𝓛 alloc τ p))
      (guard_i 𝓤 (Testable p) (sem 𝓛 box))) $ learn t (λ testable. full b o x block refl testable))
