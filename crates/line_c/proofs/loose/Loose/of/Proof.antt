-- `of`: `Box::into_raw_with_allocator` answers a pointer and an allocator, which own together what the box did.
use Rattle.line_c.proofs.Steps.{◌≡◌, List, [], ◌∷◌, ◌++◌, refl, sym, ap, id⊢, ftrue, flft, fact}
use Rattle.line_c.proofs.Steps.{‵, raw, ◌⊛◌, some, later, prop, ◌$◌, ◌∵◌, !, qed, done, move, drop, use1, split, split3, join}
use Rattle.line_c.proofs.Steps.{fsplit, fjoin, rewrite, pick, await, suffices, regoal, nothing, heard, only}
use Rattle.line_c.proofs.Steps.{Val, enter, stop, fld, whole, sub, of_opd, and_then, no_more, agg, returns, alloc_all, pass_all, free_all}
use Rattle.line_c.proofs.Steps.{look_at, get, get_in, sets, lands_as, calls_at, Lasts, lasts, triple_of, framed}
use Rattle.line_c.proofs.Steps.{proved_at, tables, no, RawPtr, Ptr, plain, Stays, walk_of, says, stay_dropped, Goes-blank, ends_at}
use mir.Syntax.{a_type, dcons, dnil}
use mir.MapTy.{inst_fn}
use prog.Wp.{WpFn}
use denote.Param.{param, layout, bounded}
use denote.Param.Laws.{param_laws}
use denote.Struct.Tuple.{Tuple}
use Rattle.std_alloc.specs.Box.Ownership.{box_owns}
use Rattle.std_alloc.specs.contracts.boxed.Box as boxed
use Rattle.std_alloc.specs.contracts.boxed.Box.into_raw_with_allocator as callee
use Rattle.std_alloc.proofs.boxed.Box.into_raw_with_allocator.Met.{met}
use Rattle.line_c.proofs.Pair.{pair, pointer_fits, pair_fits, opens_pair, makes_pair}
use Rattle.line_c.specs.contracts.loose.Loose as loose
use Rattle.line_c.specs.contracts.loose.Loose.of as f
use Rattle.line_c.proofs.loose.Loose.of.Statement.{statement}
use Rattle.line_c.proofs.loose.Loose.of.Code as code

pub of_spec : {M : Type 1} → statement M
of_spec 𝓤 𝓛 𝓜 𝓡 wired T A L LA owns d value_drops heap_drops allocator value_glue heap_glue =
    -- the element and the allocator as rows, and this function at them
    let Item = param 0 T in
    let Heap = param 1 A in
    let heap_laws = param_laws 1 A LA in
    let Boxed = boxed.the_row Item Heap owns in
    let Loose = loose.the_row Item Heap owns in
    let signed = f.ended T A owns d value_drops heap_drops in
    let clauses = f.clauses T A owns d value_drops heap_drops 𝓛 𝓜.mem 𝓡.returns in
    let 𝓣 = tables 𝓤 𝓛.H 𝓜 𝓡 𝓡.env in
    let args = bounded (a_type ∷ a_type ∷ []) (T, (A, tt)) (dcons d (dcons value_drops (dcons heap_drops dnil))) in
    let function = inst_fn args code.function in
    let stayed : Stays signed.signature.params signed.kept = (stay_dropped (plain (λ _. Boxed)) no, tt) in
    proved_at 𝓛 signed stayed clauses 𝓜 𝓡 (Goes-blank 𝓛 2 (plain (λ _. Boxed)) no (λ κs x w. tt), tt)
    (f.Key.name args) function (code.unfolded 𝓤 𝓛.H 𝓜 𝓡 wired (T, (A, tt)) d value_drops heap_drops) (λ start are.
    let κs = start.0.0 in
    let qs = start.0.1 in
    let box = start.0.3.0 in
    let vs = start.0.4.0 in
    let tokens = ‵ (flft κs.0 qs.0) ⊛ ‵ (flft κs.1.0 qs.1.0) ⊛ ‵ ftrue in
    let post = (walk_of 𝓛 signed stayed clauses).post start in
    let frees = owns.dealloc_token in
    qed 𝓛 ((tokens ⊛ ‵ (Boxed.own_val box vs) ⊛ ‵ ftrue) ∷ raw ((clauses κs start.0.3).requires start.1) ∷ []) ∵
    split ! $ move ! (1 ∷ []) $ split ! $ fsplit ! $ opens_pair Heap heap_laws box.ptr box.alloc ! vs (λ w made fits.
    -- [the allocator; the block; nothing; the tokens; what is required]: all is passed on
    let contract = triple_of 𝓛 (callee.signature T A owns d heap_drops value_drops)
    (callee.spec T A owns d heap_drops value_drops 𝓛 𝓜.mem 𝓡.returns) in
    let ended = callee.ended T A owns d heap_drops value_drops in
    let passed : contract.Ghost = ((κs, qs, tt, (box, tt), (pair box.ptr w ∷ [], tt)), tt) in
    let box_fits = pair_fits box.ptr (layout A) w fits in
    makes_pair Heap heap_laws box.ptr box.alloc ! w $ fjoin ! $ join ! $ move ! (1 ∷ 0 ∷ []) $ join ! $ join ! $
    use1 𝓛 (raw (contract.pre passed)) (id⊢ 𝓤 _) $
    regoal ! (λ (us : List Val). prop (WpFn 𝓤 𝓛.H 𝓣.C 𝓣.Λ function (us ++ []) post)) made refl $
    enter ! _ _ _ _ _ $ alloc_all ! (λ places. pass_all ! refl (box_fits, tt) $ sets ! (of_opd ! (get ! refl)) refl box_fits $
    calls_at ! (framed 𝓤 𝓛.H 𝓜 𝓣) contract
    (met 𝓤 𝓛 𝓜 𝓡 (code.calls-std_alloc::boxed::Box::into_raw_with_allocator 𝓡.env wired)
    T A L LA owns d heap_drops value_drops allocator heap_glue value_glue) passed (and_then ! (get ! refl) (no_more !)) (λ u.
    -- the call answers a pointer and an allocator
    use1 𝓛 (later (some (λ (r : Ptr × A.Denot). (tokens ⊛ ‵ ((Tuple (RawPtr ∷ Heap ∷ [])).own_val r (u ∷ []))) ⊛
    some (λ (ls : Lasts ended κs passed.0.3). ‵ (lasts ended κs passed.0.3 ls) ⊛
    raw (fact 𝓤 (r.1 ≡ box.alloc)) ⊛ ‵ (box_owns (frees box.alloc) Item r.0 box.value))))) (id⊢ 𝓤 (contract.post passed u)) $
    await ! tt $ pick ! (λ r. split ! $ split ! $ move ! (2 ∷ []) $ pick ! (λ _. split3 ! $ drop ! $ heard ! _ (λ same.
    -- [the block; the tokens; the answer]
    rewrite ! 0 (λ (alloc : A.Denot). ‵ (box_owns (frees alloc) Item r.0 box.value)) (sym same) refl $
    move ! (2 ∷ []) $ opens_pair Heap heap_laws r.0 r.1 ! (u ∷ []) (λ w' answered fits'.
    let result : Loose.Denot = record { at = r.0; alloc = r.1; value = box.value } in
    let result_fits = pair_fits r.0 (layout A) w' fits' in
    makes_pair Heap heap_laws r.0 r.1 ! w' $ fjoin ! $ lands_as ! (ap only answered) refl result_fits $
    sets ! (of_opd ! (get_in ! (fld ! refl (stop !)) (sub ! 0 refl (whole !)))) refl (pointer_fits r.0) $
    sets ! (of_opd ! (get_in ! (fld ! refl (stop !)) (sub ! 1 refl (whole !)))) refl fits' $ sets ! (of_opd ! (get ! refl)) refl fits' $
    sets ! (agg ! (and_then ! (get ! refl) (and_then ! (get ! refl) (no_more !)))) refl result_fits $
    returns ! (look_at ! 0 refl) $ free_all ! refl $
    -- the end
    suffices ! _ (ends_at 𝓛 signed stayed clauses start (pair r.0 w') result ((tt, (tt, tt)), tt) (tt, tt)) $ says ! refl $
    nothing ! $ nothing ! $ fjoin ! $ move ! (2 ∷ 0 ∷ []) $ done !))))))))
