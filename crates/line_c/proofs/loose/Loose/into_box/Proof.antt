-- `into_box` hands the pointer and the allocator to `Box::from_raw`.
use Rattle.line_c.proofs.Steps.{◌≡◌, List, [], ◌∷◌, ◌++◌, refl, id⊢, ftrue, flft, fact}
use Rattle.line_c.proofs.Steps.{‵, raw, ◌⊛◌, some, later, prop, at_ret, ◌$◌, ◌∵◌, !, qed, done, move, drop, use1, split, split3, join}
use Rattle.line_c.proofs.Steps.{fsplit, fjoin, feq_i, pick, await, suffices, regoal, nothing, heard, peeks}
use Rattle.line_c.proofs.Steps.{Val, enter, stop, fld, whole, sub, of_opd, and_then, no_more, first, blocks, exec, returns, env}
use Rattle.line_c.proofs.Steps.{alloc_all, pass_all, free_all, look_at, get, get_in, sets, lands_last, calls_at_last}
use Rattle.line_c.proofs.Steps.{Lasts, lasts, triple_of, framed, proved_at, tables, no, ptr_val, plain, Stays, walk_of, says, stay_dropped, Goes-blank, ends_at}
use mir.Syntax.{a_type, dcons, dnil}
use mir.MapTy.{inst_fn}
use prog.Wp.{WpFn}
use contract.BorrowLft.{◌⊑◌}
use denote.Laws.{Is, shows}
use denote.Param.{param, layout, bounded}
use denote.Param.Laws.{param_laws}
use Rattle.std.proofs.VecSteps.Shapes.{after}
use Rattle.std_alloc.specs.contracts.boxed.Box as boxed
use Rattle.std_alloc.proofs.boxed.Box.TheLaws as boxed_laws
use Rattle.std_alloc.specs.contracts.boxed.Box.from_raw as callee
use Rattle.std_alloc.proofs.boxed.Box.from_raw.Met.{met}
use Rattle.line_c.proofs.Pair.{pointer_fits, pair_fits, opens_pair}
use Rattle.line_c.specs.contracts.loose.Loose as loose
use Rattle.line_c.specs.contracts.loose.Loose.into_box as f
use Rattle.line_c.proofs.loose.Loose.into_box.Statement.{statement}
use Rattle.line_c.proofs.loose.Loose.into_box.Code as code

pub into_box_spec : {M : Type 1} → statement M
into_box_spec 𝓤 𝓛 𝓜 𝓡 wired T A L LA owns d value_drops heap_drops allocator value_glue heap_glue =
    -- the element and the allocator as rows, and this function at them
    let Item = param 0 T in
    let Heap = param 1 A in
    let heap_laws = param_laws 1 A LA in
    let Boxed = boxed.the_row Item Heap owns in
    let Loose = loose.the_row Item Heap owns in
    let signed = f.ended T A owns d value_drops heap_drops in
    let clauses = f.clauses T A owns d value_drops heap_drops 𝓛 𝓜.mem 𝓡.returns in
    let 𝓣 = tables 𝓤 𝓛.H 𝓜 𝓡 𝓡.env in
    let args = bounded (a_type ∷ a_type ∷ []) (T, (A, tt)) (dcons d (dcons value_drops (dcons heap_drops dnil))) in
    let function = inst_fn args code.function in
    let stayed : Stays signed.signature.params signed.kept = (stay_dropped (plain (λ _. Loose)) no, tt) in
    proved_at 𝓛 signed stayed clauses 𝓜 𝓡 (Goes-blank 𝓛 2 (plain (λ _. Loose)) no (λ κs x w. tt), tt)
    (f.Key.name args) function (code.unfolded 𝓤 𝓛.H 𝓜 𝓡 wired (T, (A, tt)) d value_drops heap_drops) (λ start are.
    let κs = start.0.0 in
    let qs = start.0.1 in
    let loose = start.0.3.0 in
    let vs = start.0.4.0 in
    let tokens = ‵ (flft κs.0 qs.0) ⊛ ‵ (flft κs.1.0 qs.1.0) ⊛ ‵ ftrue in
    let post = (walk_of 𝓛 signed stayed clauses).post start in
    let asked = raw (fact 𝓤 (κs.0 ⊑ T.lives)) ⊛ raw (fact 𝓤 (κs.1.0 ⊑ A.lives)) ⊛ ‵ ftrue in
    qed 𝓛 ((tokens ⊛ ‵ (Loose.own_val loose vs) ⊛ ‵ ftrue) ∷ asked ∷ []) ∵
    split ! $ move ! (1 ∷ []) $ split ! $ fsplit ! $ opens_pair Heap heap_laws loose.at loose.alloc ! vs (λ w made fits.
    -- [the allocator; the block; nothing; the tokens; what is required]: the two arguments, and then what is required of them
    let contract = triple_of 𝓛 (callee.signature T A owns d heap_drops) (callee.spec T A owns d heap_drops 𝓛 𝓜.mem 𝓡.returns) in
    let ended = callee.ended T A owns d heap_drops in
    let pointer = ptr_val loose.at in
    let passed : contract.Ghost = ((κs, qs, tt, (loose.alloc, (loose.at, tt)), (w ∷ [], (pointer ∷ [], tt))), loose.value) in
    move ! (2 ∷ []) $ feq_i ! (List Val) (pointer ∷ []) (pointer ∷ []) refl $ fjoin ! $
    move ! (1 ∷ 0 ∷ []) $ fjoin ! $ move ! (2 ∷ 0 ∷ []) $ join ! $ move ! (2 ∷ []) $ split3 ! $ move ! (2 ∷ []) $ drop ! $
    move ! (1 ∷ 3 ∷ []) $ join ! $ move ! (1 ∷ 0 ∷ []) $ join ! $ move ! (1 ∷ 0 ∷ []) $ join ! $
    use1 𝓛 (raw (contract.pre passed)) (id⊢ 𝓤 _) $
    regoal ! (λ (us : List Val). prop (WpFn 𝓤 𝓛.H 𝓣.C 𝓣.Λ function (us ++ []) post)) made refl $
    enter ! _ _ _ _ _ $ alloc_all ! (λ places. pass_all ! refl (pair_fits loose.at (layout A) w fits, tt) $
    sets ! (of_opd ! (get_in ! (fld ! refl (stop !)) (sub ! 0 refl (whole !)))) refl (pointer_fits loose.at) $
    sets ! (of_opd ! (get_in ! (fld ! refl (stop !)) (sub ! 1 refl (whole !)))) refl fits $
    first ! $ blocks ! $ sets ! (of_opd ! (get ! refl)) refl fits $
    calls_at_last ! (framed 𝓤 𝓛.H 𝓜 𝓣) contract
    (met 𝓤 𝓛 𝓜 𝓡 (code.calls-std_alloc::boxed::Box::from_raw 𝓡.env wired) T A L LA owns d heap_drops allocator heap_glue)
    passed (and_then ! (get ! refl) (and_then ! (get ! refl) (no_more !))) (λ u.
    -- the call answers a box of the same value
    use1 𝓛 (later (some (λ (r : Boxed.Denot). (tokens ⊛ ‵ (Boxed.own_val r (u ∷ []))) ⊛
    some (λ (ls : Lasts ended κs passed.0.3). ‵ (lasts ended κs passed.0.3 ls) ⊛
    raw (fact 𝓤 (r.value ≡ loose.value)) ⊛ raw (fact 𝓤 (r.alloc ≡ loose.alloc)))))) (id⊢ 𝓤 (contract.post passed u)) $
    await ! tt $ pick ! (λ r. split ! $ split ! $ move ! (2 ∷ []) $ pick ! (λ _. split3 ! $ drop ! $ heard ! _ (λ same. drop ! $
    -- [the tokens; the box]
    move ! (1 ∷ []) $ peeks ! Boxed (Is Boxed) (shows 𝓛 Boxed) r (u ∷ []) (λ is.
    let laws = boxed_laws.the_field_loose Item Heap owns (param_laws 0 T L) heap_laws in
    let box_fits = ((laws.lawful 𝓛).typed r (u ∷ []) is).0 in
    lands_last ! refl box_fits $ exec ! 𝓣.C 𝓣.Λ (env function.locals places) (after 3 function.body) (at_ret _ post) $
    sets ! (of_opd ! (get ! refl)) refl box_fits $ returns ! (look_at ! 0 refl) $ free_all ! refl $
    -- the end
    suffices ! _ (ends_at 𝓛 signed stayed clauses start u r ((tt, (tt, tt)), tt) (tt, tt)) $ says ! same $
    nothing ! $ nothing ! $ fjoin ! $ move ! (2 ∷ 0 ∷ []) $ done !))))))))
