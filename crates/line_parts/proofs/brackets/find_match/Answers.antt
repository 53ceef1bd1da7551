use Rattle.std.proofs.Common.{◌<◌, sym, ◌∙◌, length}
use Rattle.line_parts.proofs.MatchLemmas.{counts_other, counts_own, counts_partner, counts_start, led_byte, led_length, match_found, no_match, partner_small}
use Rattle.line_parts.specs.BracketMatch.{led_away}
use Rattle.line_parts.proofs.brackets.find_match.Goals as goal
use Rattle.line_parts.proofs.brackets.find_match.Goals.{then-line-at, else-line-at+then-line-at-2+else-unmatched-eq0, else-line-at+else-line-at-2}

pub loop-distance-init : goal.loop-distance-init
loop-distance-init c = counts_start c.args.seen.bracket (led_away c.args.line.now c.args.seen.bracket c.args.seen.place) c.requires.bracket

pub returns-then-unmatched-eq0-clause-place : goal.returns-then-unmatched-eq0-clause-place
returns-then-unmatched-eq0-clause-place c =
    let len = led_length c.args.line.now c.args.seen.bracket c.args.seen.place c.count_away-distance-end.result c.requires.within
    (rw c.is_open-opens.ensures at c.count_away-distance-end.ensures) in
    let near : c.loop-distance.distance < length (led_away c.args.line.now c.args.seen.bracket c.args.seen.place) = rw len c.loop-distance-test.true in
    let place = rw c.is_open-opens.ensures at c.away-at.ensures.place in
    let byte = led_byte c.args.line.now c.args.seen.bracket c.args.seen.place c.loop-distance.distance c.away-at.result c.requires.within near place in
    match_found c.args.line.now c.args.seen.bracket c.args.seen.place c.loop-distance.distance c.loop-distance.unmatched c.away-at.result c.requires.bracket near
    (byte ∙ c.if-line-at-2.true ∙ c.partner-other.ensures) c.if-unmatched-eq0.true c.loop-distance.invariant place

pub returns-then-unmatched-eq0-clause-single : goal.returns-then-unmatched-eq0-clause-single
returns-then-unmatched-eq0-clause-single c = rw (c.if-line-at-2.true ∙ c.partner-other.ensures) (partner_small c.args.seen.bracket c.requires.bracket)

pub loop-distance-preserved : goal.loop-distance-preserved
loop-distance-preserved c =
    let len = led_length c.args.line.now c.args.seen.bracket c.args.seen.place c.count_away-distance-end.result c.requires.within
    (rw c.is_open-opens.ensures at c.count_away-distance-end.ensures) in
    let near : c.loop-distance.distance < length (led_away c.args.line.now c.args.seen.bracket c.args.seen.place) = rw len c.loop-distance-test.true in
    let place = rw c.is_open-opens.ensures at c.away-at.ensures.place in
    let byte = led_byte c.args.line.now c.args.seen.bracket c.args.seen.place c.loop-distance.distance c.away-at.result c.requires.within near place in
    elim c.if-line-at.branch [
      | then-line-at w ↦ rw w.unmatched-is (counts_own c.args.seen.bracket _ c.loop-distance.distance c.loop-distance.unmatched c.requires.bracket near
          (byte ∙ w.if-line-at.true) c.loop-distance.invariant)
      | else-line-at+then-line-at-2+else-unmatched-eq0 w ↦
          rw w.unmatched-is (counts_partner c.args.seen.bracket _ c.loop-distance.distance c.loop-distance.unmatched c.requires.bracket near
          (byte ∙ w.if-line-at-2.true ∙ c.partner-other.ensures) w.if-unmatched-eq0.false c.loop-distance.invariant)
      | else-line-at+else-line-at-2 w ↦
          rw w.unmatched-is (counts_other c.args.seen.bracket _ c.loop-distance.distance c.loop-distance.unmatched near
          (λ e. w.if-line-at.false (sym byte ∙ e)) (λ e. w.if-line-at-2.false (sym byte ∙ e ∙ sym c.partner-other.ensures)) c.loop-distance.invariant)
    ]

pub returns-clause-place : goal.returns-clause-place
returns-clause-place c =
    let len = led_length c.args.line.now c.args.seen.bracket c.args.seen.place c.count_away-distance-end.result c.requires.within
    (rw c.is_open-opens.ensures at c.count_away-distance-end.ensures) in
    no_match c.args.line.now c.args.seen.bracket c.args.seen.place c.loop-distance.distance c.loop-distance.unmatched
    (rw len c.loop-distance-test.false) c.loop-distance.invariant
