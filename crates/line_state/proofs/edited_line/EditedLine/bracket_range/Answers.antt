use Rattle.std.proofs.Common.{arith}
use Rattle.line_state.proofs.BracketLemmas.{range_back, range_on}
use Rattle.line_state.proofs.edited_line.EditedLine.bracket_range.Goals as goal

pub returns-then-pos-at : goal.returns-then-pos-at
returns-then-pos-at c =
    let text = c.as_str.ensures.value in
    let pos = c.pos-pos.ensures.value in
    rw (← c.self.view_is, pos)
    (range_on c.self.inside.line c.in_ok-at.at (rw text at c.as_str.utf8) (rw (text, pos) at c.in_ok-at.ensures.here) (rw text at c.in_ok-at.ensures.there)
    (rw (text, pos) at c.in_ok-at.ensures.place) (omega (arith, pos, c.if-pos-at.true)))

pub returns : goal.returns
returns c =
    let text = c.as_str.ensures.value in
    let pos = c.pos-pos.ensures.value in
    rw (← c.self.view_is, pos)
    (range_back c.self.inside.line c.in_ok-at.at (rw text at c.as_str.utf8) (rw (text, pos) at c.in_ok-at.ensures.here) (rw text at c.in_ok-at.ensures.there)
    (rw (text, pos) at c.in_ok-at.ensures.place) (omega (arith, pos, c.if-pos-at.false)))
