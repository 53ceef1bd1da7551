-- A struct of a pointer and of a value that is one machine value: so are a box, a loose value and a handle.
use Rattle.std.proofs.Common.{◌≡◌, List, [], ◌∷◌, ◌++◌, refl, ◌∙◌, subst, lit<}
use mathlib.Core.Bool.{Bool, true, false, ◌&&◌}
use seplogic.Ra.Ura.{Ura}
use lib.Dec.{T}
use mir.Syntax.{Ty, ty_struct, ty_ptr, tcons, tnil}
use mir.Val.{Val, vstruct, vcons, vnil, of_list, has_ty}
use types.Logic.{Logic}
use types.Kit.{Item, Goal, Seq, Step, step, ‵, ◌$◌, move, drop, rewrite, fsplit, fjoin, fpick, fpack, feq_i, feq_l}
use denote.RattleType.{RattleType, Valss}
use denote.Builtin.{RawPtr}
use denote.Laws.{Is, Typed, shows}
use denote.RawPtr.{Ptr, block_ptr, null_ptr, ptr_val}
use denote.Param.{layout}
use denote.Param.Laws.{Laws}
use denote.Steps.{nothing, peeks}
use denote.Struct.Struct.{Shape, Struct, within}
use Rattle.core.proofs.cell.Inside.{Good, one}

-- the machine value of the struct
abbrev pub pair : Ptr → Val → Val
pair p w = vstruct (vcons (ptr_val p) (vcons w vnil))

and_true : (b : Bool) → T b → T (b && true)
and_true true t = t
and_true false t = absurd t

pub pointer_fits : (p : Ptr) → Good ty_ptr (ptr_val p)
pointer_fits null_ptr = (tt, record { fits = lit< tt })
pointer_fits (block_ptr b o) = (tt, tt)

pub pair_fits : (p : Ptr) (τ : Ty) (w : Val) → Good τ w → Good (ty_struct [] (tcons ty_ptr (tcons τ tnil))) (pair p w)
pair_fits null_ptr τ w fits = (and_true (has_ty τ w) fits.0, ((pointer_fits null_ptr).1, (fits.1, tt)))
pair_fits (block_ptr b o) τ w fits = (and_true (has_ty τ w) fits.0, ((pointer_fits (block_ptr b o)).1, (fits.1, tt)))

abbrev fields : RattleType → Shape
fields P = record { name = []; args = []; types = []; fields = RawPtr ∷ P ∷ [] }

abbrev pub Pair : RattleType → RattleType
Pair P = Struct (fields P)

module _ (P : RattleType) (L : Laws P) {M : Type 1} {𝓤 : Ura M} {𝓛 : Logic 𝓤} {K : Type 0} {Γ : List (Item 𝓤)} {G : Goal 𝓤 𝓛.H} (p : Ptr)
    (x : P.Denot) where
  -- what the struct owns is what the value beside the pointer owns
  pub opens_pair : K → (vs : List Val)
      → ((w : Val) → vs ≡ pair p w ∷ [] → Good (layout P) w → Seq K 𝓛 (‵ (P.own_val x (w ∷ [])) ∷ Γ) G)
      → Seq K 𝓛 (‵ ((Pair P).own_val (p, (x, tt)) vs) ∷ Γ) G
  opens_pair t vs goes_on =
      fpick t (λ parts. fsplit t $ feq_l t (λ made. fsplit t $ feq_l t (λ pointer. fsplit t $ move t (1 ∷ []) $ drop t $
      peeks t P (Is P) (shows 𝓛 P) x parts.1.0 (λ is.
      let typed = subst (λ (τs : List Ty). Typed τs parts.1.0) L.one ((L.lawful 𝓛).typed x parts.1.0 is) in
      let word = one (layout P) parts.1.0 typed in
      rewrite t 0 (λ (us : List Val). ‵ (P.own_val x us)) word.1 refl $
      goes_on word.0 (made ∙ (λ i. vstruct (of_list (pointer i ++ (word.1 i ++ []))) ∷ [])) word.2))))

  pub makes_pair : K → (w : Val)
      → Step K 𝓛 (‵ ((Pair P).own_val (p, (x, tt)) (pair p w ∷ [])) ∷ Γ) G (‵ (P.own_val x (w ∷ [])) ∷ Γ) G
  makes_pair t w = step (λ s.
      nothing t $ move t (1 ∷ 0 ∷ []) $ fjoin t $ feq_i t (List Val) (ptr_val p ∷ []) (ptr_val p ∷ []) refl $ fjoin t $
      feq_i t (List Val) (pair p w ∷ []) (pair p w ∷ []) refl $ fjoin t $
      fpack t (Valss (RawPtr ∷ P ∷ [])) (within (fields P) (p, (x, tt)) (pair p w ∷ [])) (ptr_val p ∷ [], (w ∷ [], tt)) $ s)
