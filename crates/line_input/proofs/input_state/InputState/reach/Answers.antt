use Rattle.std.proofs.Common.{sym, ◌∙◌, ap}
use Rattle.std.specs.Option.{option_or}
use Rattle.std.proofs.lemmas.Result.{err_from_is_err_and}
use Rattle.line_buffer.specs.Search.{opposite}
use Rattle.line_input.specs.Operation.{by_movement, nowhere, to_match}
use Rattle.line_input.proofs.ReadingLemmas.{fault_dry}
use Rattle.line_input.proofs.TailLemmas.{changed_place, last_reached, motion_ends, motion_read, reached}
use Rattle.line_input.proofs.input_state.InputState.reach.Goals as goal

pub returns-in_err-next_key-in-Search-clause-reads : goal.returns-in_err-next_key-in-Search-clause-reads
returns-in_err-next_key-in-Search-clause-reads g c = λ draft i same.
    let p = err_from_is_err_and c.from_residual.result c.from_residual.ensures.1 in
    rw (p.1, p.2) (λ no.
    let dry = fault_dry _ _ c.in_err-next_key-in-Search.ensures.fault no in
    (dry.0, rw c.in-Search.is (motion_ends _ _ _ _ _ _ _ _ dry.1 c.in_err-next_key-in-Search.ensures.kept)))

pub returns-in-Covers-clause-reads : goal.returns-in-Covers-clause-reads
returns-in-Covers-clause-reads g c = λ draft i same.
    rw c.in-Covers.is (reached _ _ _ _ c.args.rdr.now c.args.rdr.now _ _ _ _ (c.behind.ensures.search ∙ sym same) (c.behind.ensures.command ∙ c.over.ensures) (by_movement _))

pub returns-in_ok-next_key-in-Search-clause-reads : goal.returns-in_ok-next_key-in-Search-clause-reads
returns-in_ok-next_key-in-Search-clause-reads g c = λ draft i same.
    rw c.in-Search.is (motion_read _ _ _ _ _ _ _ _ c.in_ok-next_key-in-Search.field-0 _ _ _ _ c.in_ok-next_key-in-Search.ensures.took c.of_key-found.ensures c.place_of.ensures (c.behind-in-Search.ensures.command ∙ c.over_if.ensures)
    (c.or.ensures ∙ ap (λ x. option_or c.of_key-found.result x) (sym same)))

pub returns-in-SearchAgain-clause-reads : goal.returns-in-SearchAgain-clause-reads
returns-in-SearchAgain-clause-reads g c = λ draft i same.
    rw c.in-SearchAgain.is (last_reached _ _ _ _ c.args.rdr.now c.args.rdr.now _ (λ search. search) _ _ _ _ same c.behind-in-SearchAgain.ensures.search c.place_of-in-SearchAgain.ensures
    (c.behind-in-SearchAgain.ensures.command ∙ c.over_if-in-SearchAgain.ensures))

pub returns-in-SearchBack-clause-reads : goal.returns-in-SearchBack-clause-reads
returns-in-SearchBack-clause-reads g c = λ draft i same.
    let place = changed_place _ (λ search. opposite search) _ _ _ c.place_of-in-SearchBack.ensures c.opposite_of.ensures in
    rw c.in-SearchBack.is (last_reached _ _ _ _ c.args.rdr.now c.args.rdr.now _ (λ search. opposite search) _ _ _ _ same c.behind-in-SearchBack.ensures.search place
    (c.behind-in-SearchBack.ensures.command ∙ c.over_if-in-SearchBack.ensures))

pub returns-in-Bracket-clause-reads : goal.returns-in-Bracket-clause-reads
returns-in-Bracket-clause-reads g c = λ draft i same.
    rw c.in-Bracket.is (reached _ _ _ _ c.args.rdr.now c.args.rdr.now _ _ _ _ (c.behind-in-Bracket.ensures.search ∙ sym same)
    (c.behind-in-Bracket.ensures.command ∙ c.to_bracket.ensures) to_match)

pub returns-in-None-clause-reads : goal.returns-in-None-clause-reads
returns-in-None-clause-reads g c = λ draft i same.
    rw c.in-None.is (reached _ _ _ _ c.args.rdr.now c.args.rdr.now _ _ _ _ (c.behind-in-None.ensures.search ∙ sym same) c.behind-in-None.ensures.command nowhere)
