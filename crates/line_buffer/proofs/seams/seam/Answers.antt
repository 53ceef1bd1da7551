use Rattle.std.proofs.Common.{refl, sym}
use Rattle.line_buffer.proofs.FlagLemmas.{parts_behind_flag}
use Rattle.line_buffer.proofs.PartLemmas.{searched-start, searched-next, searched-found, parts-start}
use Rattle.line_buffer.proofs.seams.seam.Goals as goal

pub returns-then-is_of_indicators : goal.returns-then-is_of_indicators
returns-then-is_of_indicators c =
    parts_behind_flag c.args.front.now c.args.behind.now c.utf8.front (c.if-ends_in_flag.ensures refl) (sym c.if-is_of_indicators.ensures)

pub returns-in_default : goal.returns-in_default
returns-in_default c = parts-start c.args.front.now c.args.behind.now c.utf8.front

pub loop-before-init : goal.loop-before-init
loop-before-init c = (c.utf8.front, searched-start c.args.front.now c.args.behind.now c.in-Some.first c.in-Some.ensures)

pub returns-then-is_seam : goal.returns-then-is_seam
returns-then-is_seam c =
    searched-found c.args.front.now c.args.behind.now c.loop-before.rest.now c.in-Some-split_last.shorter.now c.loop-before.first c.in-Some-split_last.before
    c.utf8.front c.loop-before.invariant.0 c.loop-before.invariant.1 c.in-Some-split_last.ensures.chars (c.if-is_seam.ensures refl)

pub loop-before-preserved : goal.loop-before-preserved
loop-before-preserved c = (
  c.in-Some-split_last.ensures.text,
  searched-next c.args.front.now c.args.behind.now c.loop-before.rest.now c.in-Some-split_last.shorter.now c.loop-before.first c.in-Some-split_last.before
      c.utf8.front c.utf8.behind c.in-Some-split_last.ensures.text c.loop-before.invariant.1 c.in-Some-split_last.ensures.bytes,
)

pub returns : goal.returns
returns c = parts-start c.args.front.now c.args.behind.now c.utf8.front
