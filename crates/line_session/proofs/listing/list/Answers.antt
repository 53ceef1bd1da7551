use Rattle.std.proofs.Common.{ap, arith, length}
use Rattle.line_session.proofs.CompletingLemmas.{lists_asked, lists_begun, map_ok}
use Rattle.line_session.proofs.listing.list.Goals as goal

pub returns-then-asks-clause-lists : goal.returns-then-asks-clause-lists
returns-then-asks-clause-lists g c =
    let same = ap (λ l. length l) c.as_slice.ensures.value in
    map_ok c.ask.result _ _
    (λ mode told. lists_asked _ _ c.new-listing.result c.args.candidates _ _ mode c.new-listing.ensures.candidates c.new-listing.ensures.next
    (omega (arith, c.if-asks.true, c.completion_prompt_limit.ensures, same)) told.1 told.0)
    c.ask.ensures.asks

pub returns-clause-lists : goal.returns-clause-lists
returns-clause-lists g c =
    let same = ap (λ l. length l) c.as_slice.ensures.value in
    map_ok c.list_page.result _ _
    (λ mode page. lists_begun _ _ c.new-listing.result c.args.candidates _ _ mode c.new-listing.ensures.candidates c.new-listing.ensures.next
    (λ more. omega (arith, more, c.if-asks.false, c.completion_prompt_limit.ensures, same)) page)
    c.list_page.ensures.lists
