use Rattle.std.proofs.Common.{rules, ◌≡◌, [], ◌∷◌, ◌++◌, ap, refl, sym, ◌∙◌, option_map}
use Rattle.std.specs.Prelude.{slice_get}
use Rattle.std.proofs.lemmas.Result.{err_from_is_err_and}
use Rattle.line_keys.specs.Command.{command_of}
use Rattle.line_input.proofs.ReadingLemmas.{fault_dry, on_err}
use Rattle.line_input.proofs.SequenceReadLemmas.{answered, ends_inside, in_vain, leads_further, stops_first, stops_further, stops_inside}
use Rattle.line_input.proofs.input_state.InputState.custom_seq_binding.Goals as goal

pub returns-in-Some-clause-reads : goal.returns-in-Some-clause-reads
returns-in-Some-clause-reads g c =
    let some = ap (λ o. option_map command_of o) (sym c.in-Some.is) ∙ c.in_ok-command.ensures.command in
    answered _ _ _ _ _ _ _ _ c.keys.invariant c.in_ok-next_key.ensures.took _ (rw (← c.in_ok-push-2.ensures.items, ← c.as_slice.ensures.value) some)

pub returns-then-not-leads_on-2-clause-reads : goal.returns-then-not-leads_on-2-clause-reads
returns-then-not-leads_on-2-clause-reads g c =
    let pushed = c.in_ok-push-2.ensures.items in
    let none = ap (λ o. option_map command_of o) (sym c.in-None.is) ∙ c.in_ok-command.ensures.command in
    let told = in_vain _ _ _ _ _ _ _ _ c.keys.invariant c.in_ok-next_key.ensures.took (rw (← pushed, ← c.as_slice.ensures.value) none)
    (rw (← pushed, ← c.as_slice-in-keys.ensures.value) c.if-not-leads_on-2.ensures) in
    let second : slice_get (c.keys.keys.items ++ (c.in_ok-next_key.field-0 ∷ [])) 1 ≡ c.copied.result = rw (← pushed) (search rules) in
    rw (← second) told

pub keys-preserved : goal.keys-preserved
keys-preserved g c =
    let pushed = c.in_ok-push-2.ensures.items in
    let key = c.in_ok-next_key.ensures in
    let none = ap (λ o. option_map command_of o) (sym c.in-None.is) ∙ c.in_ok-command.ensures.command in
    rw pushed (leads_further _ _ _ _ _ _ _ _ c.keys.invariant key.took key.stays key.counts.stays (rw (← pushed, ← c.as_slice.ensures.value) none)
    (rw (← pushed, ← c.as_slice-in-keys.ensures.value) c.if-not-leads_on-2.ensures))

pub returns-in_err-next_key-clause-reads : goal.returns-in_err-next_key-clause-reads
returns-in_err-next_key-clause-reads g c =
    let p = err_from_is_err_and c.from_residual-in_err-next_key.result c.from_residual-in_err-next_key.ensures.1 in
    rw (p.1, p.2) (λ no.
    let dry = fault_dry _ _ c.in_err-next_key.ensures.fault no in
    (dry.0, ends_inside _ _ _ _ _ _ _ c.keys.invariant dry.1 (c.in_err-next_key.ensures.kept ∙ dry.1)))

pub returns-in_err-push-clause-within : goal.returns-in_err-push-clause-within
returns-in_err-push-clause-within g c = on_err c.from_residual.result (stops_first _ _ _ _ c.args.rdr.now refl)

pub returns-in_err-next_key-clause-within : goal.returns-in_err-next_key-clause-within
returns-in_err-next_key-clause-within g c = on_err c.from_residual-in_err-next_key.result (stops_inside _ _ _ _ _ _ _ c.keys.invariant c.in_err-next_key.ensures.kept)

pub returns-in_err-push-2-clause-within : goal.returns-in_err-push-2-clause-within
returns-in_err-push-2-clause-within g c = on_err c.from_residual-in_err-push-2.result (stops_further _ _ _ _ _ _ _ _ c.keys.invariant c.in_ok-next_key.ensures.took)

pub returns-in_err-command-clause-within : goal.returns-in_err-command-clause-within
returns-in_err-command-clause-within g c = on_err c.from_residual-in_err-command.result (stops_further _ _ _ _ _ _ _ _ c.keys.invariant c.in_ok-next_key.ensures.took)
