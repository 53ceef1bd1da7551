-- `empty` puts null beside the allocator, and a handle owns nothing at null.
use Rattle.line_c.proofs.Steps.{[], ◌∷◌, refl, id⊢, ftrue, ‵, ◌⊛◌, ◌$◌, ◌∵◌, !, qed, done}
use Rattle.line_c.proofs.Steps.{move, keep, use1, split, join, fjoin, feq_i, suffices, nothing}
use Rattle.line_c.proofs.Steps.{enter, lit, and_then, no_more, agg, returns, alloc_all, pass_all, free_all, look_at, get, sets}
use Rattle.line_c.proofs.Steps.{proved, yes, Ptr, null_ptr, plain, Stays, walk_of, says, stay_dropped, Goes-dropped, ends_at}
use Rattle.line_c.proofs.Pair.{makes_pair}
use Rattle.line_c.proofs.Rows.{Handle, heap_word, heap_fits, word, word_fits}
use Rattle.std.specs.Prelude.{None}
use Rattle.std.specs.contracts.alloc.Global as heap
use Rattle.std.proofs.alloc.Global.TheLaws as heap_laws
use Rattle.line_c.specs.contracts.handle.Handle.empty as f
use Rattle.line_c.proofs.handle.Handle.empty.Statement.{statement}
use Rattle.line_c.proofs.handle.Handle.empty.Code as code

abbrev stayed : Stays f.ended.signature.params f.ended.kept
stayed = (stay_dropped (plain (λ _. heap.the_row)) yes, tt)

pub empty_spec : {M : Type 1} → statement M
empty_spec 𝓤 𝓛 𝓜 𝓡 wired =
    let clauses = f.clauses 𝓛 𝓜.mem 𝓡.returns in
    proved 𝓛 f.ended stayed clauses 𝓜 𝓡 (Goes-dropped 𝓛 0 (plain (λ _. heap.the_row)) yes (λ κs x w. refl), tt)
    f.Key.name code.function (code.unfolded 𝓤 𝓛.H 𝓜 𝓡 wired)
    (λ κs. ((λ alloc. heap_word alloc ∷ []), tt)) (λ κs. (heap_laws.lowers.val_is, tt)) (λ κs qs bounds args g are.
    let alloc = args.0 in
    let owner : Handle.Denot = record { at = null_ptr; alloc = alloc; session = None } in
    let result = word null_ptr alloc in
    let start : (walk_of 𝓛 f.ended stayed clauses).Ghost = ((κs, qs, bounds, args, (heap_word alloc ∷ [], tt)), tt) in
    qed 𝓛 ((‵ ftrue ⊛ ‵ (heap.the_row.own_val alloc (heap_word alloc ∷ [])) ⊛ ‵ ftrue) ∷ ‵ ftrue ∷ []) ∵
    -- what the handle owns: its two fields, and nothing at null
    split ! $ move ! (1 ∷ []) $ split ! $ keep ! (0 ∷ []) $
    makes_pair heap.the_row heap_laws.the_row_laws null_ptr alloc ! (heap_word alloc) $
    feq_i ! Ptr null_ptr null_ptr refl $ move ! (1 ∷ 0 ∷ []) $ fjoin ! $
    use1 𝓛 (‵ (Handle.own_val owner (result ∷ []))) (id⊢ 𝓤 _) $
    -- the code
    enter ! _ _ _ _ _ $ alloc_all ! (λ places. pass_all ! refl (heap_fits alloc, tt) $
    sets ! (agg ! (and_then ! (lit ! tt) (and_then ! (get ! refl) (no_more !)))) refl (word_fits null_ptr alloc) $
    returns ! (look_at ! 0 refl) $ free_all ! refl $
    -- the end
    suffices ! _ (ends_at 𝓛 f.ended stayed clauses start result owner (tt, tt) (tt, tt)) $ says ! refl $
    nothing ! $ nothing ! $ join ! $ nothing ! $ done !))
