use Rattle.std.proofs.Common.{refl}
use Rattle.line_session.proofs.SearchingLemmas.{begins_so}
use Rattle.line_session.proofs.searching.search.Goals as goal

pub returns-clause-begins : goal.returns-clause-begins
returns-clause-begins g c =
    begins_so _ _ _ _ _ c.history_len-count.result c.history_len-count.ensures c.if-count-eq0.false c.new.ensures.bytes refl c.new-2.ensures.items refl c.pos.ensures.value c.place.ensures refl c.in_ok-draw.ensures.draft
