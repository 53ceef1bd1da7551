-- `of` keeps the pointer and the allocator: a handle of a session owns what a loose session owns.
use Rattle.line_c.proofs.Steps.{[], ◌∷◌, refl, id⊢, ftrue, ‵, ◌⊛◌, ◌$◌, ◌∵◌, !, qed, done, move, keep, use1, split, join, suffices, nothing}
use Rattle.line_c.proofs.Steps.{enter, stop, fld, whole, sub, of_opd, and_then, no_more, agg, returns, alloc_all, pass_all, free_all}
use Rattle.line_c.proofs.Steps.{look_at, get, get_in, sets}
use Rattle.line_c.proofs.Steps.{proved, yes, plain, Stays, walk_of, says, stay_dropped, Goes-dropped, ends_at}
use Rattle.line_c.proofs.Pair.{pointer_fits}
use Rattle.line_c.proofs.Rows.{Handle, LooseSession, heap_fits, word, word_fits, loose_tells}
use Rattle.std.specs.Prelude.{Some}
use Rattle.line_c.specs.contracts.handle.Handle.of as f
use Rattle.line_c.proofs.handle.Handle.of.Statement.{statement}
use Rattle.line_c.proofs.handle.Handle.of.Code as code

abbrev stayed : Stays f.ended.signature.params f.ended.kept
stayed = (stay_dropped (plain (λ _. LooseSession)) yes, tt)

pub of_spec : {M : Type 1} → statement M
of_spec 𝓤 𝓛 𝓜 𝓡 wired =
    let clauses = f.clauses 𝓛 𝓜.mem 𝓡.returns in
    proved 𝓛 f.ended stayed clauses 𝓜 𝓡 (Goes-dropped 𝓛 0 (plain (λ _. LooseSession)) yes (λ κs x w. refl), tt)
    f.Key.name code.function (code.unfolded 𝓤 𝓛.H 𝓜 𝓡 wired)
    (λ κs. ((λ l. word l.at l.alloc ∷ []), tt)) (λ κs. (loose_tells, tt)) (λ κs qs bounds args g are.
    let loose = args.0 in
    let owner : Handle.Denot = record { at = loose.at; alloc = loose.alloc; session = Some loose.value } in
    let both = word loose.at loose.alloc in
    let start : (walk_of 𝓛 f.ended stayed clauses).Ghost = ((κs, qs, bounds, args, (both ∷ [], tt)), tt) in
    qed 𝓛 ((‵ ftrue ⊛ ‵ (LooseSession.own_val loose (both ∷ [])) ⊛ ‵ ftrue) ∷ ‵ ftrue ∷ []) ∵
    split ! $ move ! (1 ∷ []) $ split ! $ keep ! (0 ∷ []) $ use1 𝓛 (‵ (Handle.own_val owner (both ∷ []))) (id⊢ 𝓤 _) $
    -- the code
    enter ! _ _ _ _ _ $ alloc_all ! (λ places. pass_all ! refl (word_fits loose.at loose.alloc, tt) $
    sets ! (of_opd ! (get_in ! (fld ! refl (stop !)) (sub ! 0 refl (whole !)))) refl (pointer_fits loose.at) $
    sets ! (of_opd ! (get_in ! (fld ! refl (stop !)) (sub ! 1 refl (whole !)))) refl (heap_fits loose.alloc) $
    sets ! (of_opd ! (get ! refl)) refl (pointer_fits loose.at) $
    sets ! (agg ! (and_then ! (get ! refl) (and_then ! (get ! refl) (no_more !)))) refl (word_fits loose.at loose.alloc) $
    returns ! (look_at ! 0 refl) $ free_all ! refl $
    -- the end
    suffices ! _ (ends_at 𝓛 f.ended stayed clauses start both owner (tt, tt) (tt, tt)) $ says ! refl $
    nothing ! $ nothing ! $ join ! $ nothing ! $ done !))
