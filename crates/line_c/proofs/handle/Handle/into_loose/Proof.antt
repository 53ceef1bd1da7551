-- `into_loose` tells by the pointer whether there is a session: a loose session owns what the handle of one owns.
use Rattle.line_c.proofs.Steps.{[], ◌∷◌, refl, ap, lit<, ftrue, ‵, ◌⊛◌, at_ret, ◌$◌, ◌∵◌, !, qed, done}
use Rattle.line_c.proofs.Steps.{move, keep, use0, use1, split, join, fsplit, fjoin, rewrite, suffices, nothing}
use Rattle.line_c.proofs.Steps.{vcons, vnil, enter, stop, fld, whole, sub, of_opd, lit, bin, and_then, no_more, agg, first, branches}
use Rattle.line_c.proofs.Steps.{exec, returns, alloc_all, pass_all, free_all, look_at, get, get_in, is, sets, sets_last, env}
use Rattle.line_c.proofs.Steps.{proved, tables, yes, RattleType, Ptr, block_ptr, null_ptr, ptr_val, tests_null}
use Rattle.line_c.proofs.Steps.{plain, Stays, walk_of, says, stay_dropped, Goes-dropped, ends_at}
use types.Match.{live}
use Rattle.core.proofs.option.Made.{Some-of, none_of}
use Rattle.core.specs.contracts.option.Option as option
use Rattle.line_host.specs.contracts.session.Session as session
use Rattle.std.specs.Prelude.{Some, None}
use Rattle.std.specs.contracts.alloc.Global as heap
use Rattle.line_c.proofs.Holding.{by_session}
use Rattle.line_c.proofs.Pair.{Pair, pointer_fits}
use Rattle.line_c.proofs.Rows.{Handle, LooseSession, heap_fits, word, word_fits, handle_tells}
use Rattle.line_c.specs.contracts.handle.Handle.into_loose as f
use Rattle.line_c.proofs.handle.Handle.into_loose.Statement.{statement}
use Rattle.line_c.proofs.handle.Handle.into_loose.Code as code

abbrev stayed : Stays f.ended.signature.params f.ended.kept
stayed = (stay_dropped (plain (λ _. Handle)) yes, tt)

abbrev Result : RattleType
Result = option.the_row LooseSession

pub into_loose_spec : {M : Type 1} → statement M
into_loose_spec 𝓤 𝓛 𝓜 𝓡 wired =
    let clauses = f.clauses 𝓛 𝓜.mem 𝓡.returns in
    let 𝓣 = tables 𝓤 𝓛.H 𝓜 𝓡 𝓡.env in
    proved 𝓛 f.ended stayed clauses 𝓜 𝓡 (Goes-dropped 𝓛 0 (plain (λ _. Handle)) yes (λ κs x w. refl), tt)
    f.Key.name code.function (code.unfolded 𝓤 𝓛.H 𝓜 𝓡 wired)
    (λ κs. ((λ h. word h.at h.alloc ∷ []), tt)) (λ κs. (handle_tells, tt)) (λ κs qs bounds args g are.
    let h = args.0 in
    let both = word h.at h.alloc in
    let start : (walk_of 𝓛 f.ended stayed clauses).Ghost = ((κs, qs, bounds, args, (both ∷ [], tt)), tt) in
    let post = (walk_of 𝓛 f.ended stayed clauses).post start in
    qed 𝓛 ((‵ ftrue ⊛ ‵ (Handle.own_val h (both ∷ [])) ⊛ ‵ ftrue) ∷ ‵ ftrue ∷ []) ∵
    split ! $ move ! (1 ∷ []) $ split ! $ keep ! (0 ∷ []) $ fsplit ! $ move ! (1 ∷ []) $
    by_session session.the_row h.alloc ! h.at h.session
    -- at null nothing is handed out
    (λ null none.
    keep ! [] $ use0 𝓛 (‵ (Result.own_val None (live 0 vnil ∷ []))) (none_of 𝓛 LooseSession) $
    enter ! _ _ _ _ _ $ alloc_all ! (λ places. pass_all ! refl (word_fits h.at h.alloc, tt) $
    sets ! (is ! (of_opd ! (get_in ! (fld ! refl (stop !)) (sub ! 0 refl (whole !)))) (ap ptr_val null)) refl (pointer_fits null_ptr) $
    sets ! (of_opd ! (get_in ! (fld ! refl (stop !)) (sub ! 1 refl (whole !)))) refl (heap_fits h.alloc) $
    sets ! (bin ! (get ! refl) (lit ! tt) tt) refl (tt, tt) $
    first ! $ branches ! (get ! refl) (λ _.
    sets_last ! (agg ! (and_then ! (lit ! tt) (no_more !))) refl (tt, (record { fits = lit< tt }, tt)) $
    exec ! 𝓣.C 𝓣.Λ (env code.Mir.locals places) code.Mir.t-5 (at_ret _ post) $
    sets ! (of_opd ! (get ! refl)) refl (tt, (record { fits = lit< tt }, tt)) $ returns ! (look_at ! 0 refl) $ free_all ! refl $
    suffices ! _ (ends_at 𝓛 f.ended stayed clauses start (live 0 vnil) None (tt, tt) (tt, tt)) $ says ! none $
    nothing ! $ nothing ! $ join ! $ nothing ! $ done !) (λ wrong. absurd wrong)))
    -- elsewhere the block is handed out with its owner
    (λ b o value block some testable.
    let p = block_ptr b o in
    let loose : LooseSession.Denot = record { at = p; alloc = h.alloc; value = value } in
    let result = live 1 (vcons (word p h.alloc) vnil) in
    rewrite ! 1 (λ (at : Ptr). ‵ ((Pair heap.the_row).own_val (at, (h.alloc, tt)) (word at h.alloc ∷ []))) block refl $
    move ! (1 ∷ 0 ∷ []) $ fjoin ! $
    use1 𝓛 (‵ (Result.own_val (Some loose) (result ∷ []))) (Some-of 𝓛 LooseSession loose (word p h.alloc)) $
    enter ! _ _ _ _ _ $ alloc_all ! (λ places. pass_all ! refl (word_fits h.at h.alloc, tt) $
    sets ! (is ! (of_opd ! (get_in ! (fld ! refl (stop !)) (sub ! 0 refl (whole !)))) (ap ptr_val block)) refl (pointer_fits p) $
    sets ! (of_opd ! (get_in ! (fld ! refl (stop !)) (sub ! 1 refl (whole !)))) refl (heap_fits h.alloc) $
    sets ! (bin ! (get ! refl) (lit ! tt) (tests_null p testable)) refl (tt, tt) $
    first ! $ branches ! (get ! refl) (λ wrong. absurd wrong) (λ _.
    sets ! (of_opd ! (get ! refl)) refl (pointer_fits p) $
    sets ! (agg ! (and_then ! (get ! refl) (and_then ! (get ! refl) (no_more !)))) refl (word_fits p h.alloc) $
    sets_last ! (agg ! (and_then ! (lit ! tt) (and_then ! (get ! refl) (no_more !)))) refl
    (tt, (record { fits = lit< tt }, ((word_fits p h.alloc).1, tt))) $
    exec ! 𝓣.C 𝓣.Λ (env code.Mir.locals places) code.Mir.t-5 (at_ret _ post) $
    sets ! (of_opd ! (get ! refl)) refl (tt, (record { fits = lit< tt }, ((word_fits p h.alloc).1, tt))) $
    returns ! (look_at ! 0 refl) $ free_all ! refl $
    suffices ! _ (ends_at 𝓛 f.ended stayed clauses start result (Some loose) (tt, tt) (tt, tt)) $ says ! some $
    nothing ! $ nothing ! $ join ! $ nothing ! $ done !))))
