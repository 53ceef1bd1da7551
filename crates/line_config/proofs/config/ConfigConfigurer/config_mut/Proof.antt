-- `config_mut` hands its reference on under the same ghost name, so the settings end as the last value behind it.
use Rattle.std.proofs.Common.{[], ◌∷◌, refl}
use Rattle.std.proofs.raw_atomic.Walks.{proved}
use seplogic.Ra.Ura.{Ura}
use base.Logic.{ent, emp, wand}
use base.Fml.{Fml, GName, ftrue, flft, fres, fauth, fsep, feq, fex}
use mir.Syntax.{named}
use mir.Val.{vptr}
use types.Logic.{Logic, sem}
use types.Kit.{‵, ◌⊛◌, ◌$◌, ◌∵◌, !, qed, done, move, keep, split, join, fjoin, feq_i, fpack, each, assume, use0, suffices, frame, group}
use types.Run.{enter, addr, stop, returns}
use types.ByLocal.{alloc_all, pass_all, free_all, look_at, through, sets}
use denote.Exit.{no}
use denote.Builtin.{RefMutOf}
use denote.Follow.{follows}
use denote.Ref.{MutRef, mut_vals, mut_Tells}
use denote.Signature.{plain}
use denote.Steps.{nothing}
use denote.Triple.Walked.{Stays, walk_of, says, stay_dropped, Goes-spent_ref, ends_at}
use Rattle.line_config.specs.contracts.config.Config.{the_row as R}
use Rattle.line_config.specs.contracts.config.ConfigConfigurer.config_mut as f
use Rattle.line_config.proofs.config.ConfigConfigurer.config_mut.Statement.{statement}
use Rattle.line_config.proofs.config.ConfigConfigurer.config_mut.Code as code

abbrev stayed : Stays f.ended.signature.params f.ended.kept
stayed = (stay_dropped (RefMutOf (0 ∷ []) tt (plain (λ _. R)) (λ _. tt)) no, tt)

module _ {M : Type 1} {𝓤 : Ura M} (𝓛 : Logic 𝓤) (γ : GName) where
  open 𝓛 use {A}

  -- what is behind a name follows that name
  follows_itself : ent 𝓤 (emp 𝓤) (sem 𝓛 (follows R R γ γ (λ w. w)))
  follows_itself =
      let From : R.Denot → R.Denot → Fml = λ z w. fsep (feq R.Denot z w) (fauth γ (R.coded.code w)) in
      let said = qed 𝓛 [] ∵ each ! (λ (w : R.Denot). wand 𝓤 (A.res γ (R.coded.code w)) (A.res γ (R.coded.code w))) (λ w. assume ! (‵ (fres γ (R.coded.code w))) $ done !) in
      let back = qed 𝓛 [] ∵ each ! (λ (z : R.Denot). wand 𝓤 (A.auth γ (R.coded.code z)) (sem 𝓛 (fex R.Denot (From z)))) (λ z. assume ! (‵ (fauth γ (R.coded.code z))) $
      feq_i ! R.Denot z z refl $ fjoin ! $ fpack ! R.Denot (From z) z $ done !) in
      record { apply = λ a p. (said.apply a p, back.apply a p) }

pub config_mut_spec : {M : Type 1} → statement M
config_mut_spec 𝓤 𝓛 𝓜 𝓡 wired =
    let c = f.clauses 𝓛 𝓜.mem 𝓡.returns in
    let W = walk_of 𝓛 f.ended stayed c in
    proved 𝓛 f.ended stayed c 𝓜 𝓡 (Goes-spent_ref 𝓛 1 (0 ∷ []) tt (plain (λ _. R)), tt)
    f.Key.name code.function (code.unfolded 𝓤 𝓛.H 𝓜 𝓡 wired)
    (λ κs. (mut_vals, tt)) (λ κs. (mut_Tells (named 0) κs.0 R, tt)) (λ κs qs bounds a _ are.
    let vs = mut_vals a.0 in
    let y : W.Ghost = ((κs, qs, bounds, a, (vs, tt)), tt) in
    qed 𝓛 (((‵ (flft κs.0 qs.0) ⊛ ‵ ftrue) ⊛ ‵ ((MutRef (named 0) κs.0 R).own_val a.0 vs) ⊛ ‵ ftrue) ∷ ‵ ftrue ∷ []) ∵
    split ! $ split ! $ move ! (2 ∷ []) $ split ! $ keep ! (0 ∷ 2 ∷ []) $
    enter ! _ _ _ _ _ $ alloc_all ! (λ l. pass_all ! refl ((tt, tt), tt) $
    sets ! (addr ! (through ! refl (stop !))) refl (tt, tt) $
    returns ! (look_at ! 0 refl) $ free_all ! refl $
    suffices ! _ (ends_at 𝓛 f.ended stayed c y (vptr a.0.ref_ptr.0 a.0.ref_ptr.1) a.0 (tt, tt) (tt, tt)) $
    -- [the reference; the token]
    use0 𝓛 (‵ (follows R R a.0.ghost_name a.0.ghost_name (λ w. w))) (follows_itself 𝓛 a.0.ghost_name) $
    nothing ! $ move ! (3 ∷ 0 ∷ []) $ join ! $ nothing ! $ nothing ! $ fjoin ! $
    -- [what is left of `self`; the tokens; what follows; the reference]
    move ! (1 ∷ 0 ∷ 3 ∷ []) $ group ! 3 $ frame ! $ says ! refl $ done !))
