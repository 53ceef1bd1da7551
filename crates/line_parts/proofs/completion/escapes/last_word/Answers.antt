use Rattle.std.proofs.Common.{lt_trans}
use Rattle.std.proofs.lemmas.Str.{IsCharBoundary-start}
use Rattle.line_parts.proofs.WordStartLemmas.{back_over, back_pair, back_start, boundary_behind, shorter_back, word_behind, word_whole}
use Rattle.line_parts.proofs.completion.escapes.last_word.Goals as goal

pub loop-before-init : goal.loop-before-init
loop-before-init g c = back_start _ _ _ c.args.text.now c.utf8.text

pub loop-before-smaller-then-not-is_break_char : goal.loop-before-smaller-then-not-is_break_char
loop-before-smaller-then-not-is_break_char g c = shorter_back c.in-Some.c _ _ c.in-Some.ensures.last

pub loop-before-preserved-then-not-is_break_char :
    goal.loop-before-preserved-then-not-is_break_char
loop-before-preserved-then-not-is_break_char g c =
    back_over _ _ _ _ c.in-Some.c _ c.is_break_char.result c.loop-before.invariant c.in-Some.ensures.utf8 c.in-Some.ensures.last
    (λ is_break answers good. answers c.in-Some.c c.is_break_char.result good c.is_break_char.ensures) c.if-not-is_break_char.true

pub loop-before-smaller : goal.loop-before-smaller
loop-before-smaller g c =
    lt_trans (shorter_back c.in-Some-strip_escape.ensures.stripped.0 _ _ c.in-Some-strip_escape.ensures.stripped.1)
    (shorter_back c.in-Some.c _ _ c.in-Some.ensures.last)

pub loop-before-preserved : goal.loop-before-preserved
loop-before-preserved g c =
    back_pair _ _ _ _ c.in-Some.c c.in-Some-strip_escape.ensures.stripped.0 _ _ c.is_break_char.result c.loop-before.invariant
    c.in-Some.ensures.utf8 c.in-Some.ensures.last
    (λ is_break answers good. answers c.in-Some.c c.is_break_char.result good c.is_break_char.ensures) c.if-not-is_break_char.false
    c.in-Some-strip_escape.ensures.utf8 c.in-Some-strip_escape.ensures.stripped.1 c.in-Some-strip_escape.ensures.stripped.2

pub returns-in-None-clause-boundary : goal.returns-in-None-clause-boundary
returns-in-None-clause-boundary g c = boundary_behind _ _ _ _ c.loop-before.invariant

pub returns-in-None-clause-start : goal.returns-in-None-clause-start
returns-in-None-clause-start g c = λ is_break known.
    word_behind _ _ _ _ c.in-Some.c _ c.is_break_char.result c.loop-before.invariant c.in-Some.ensures.utf8 c.in-Some.ensures.last
    (λ test answers good. answers c.in-Some.c c.is_break_char.result good c.is_break_char.ensures) c.if-not-is_break_char.false
    c.in-None.ensures.stripped is_break known

pub returns-clause-boundary : goal.returns-clause-boundary
returns-clause-boundary g c = IsCharBoundary-start c.args.text.now c.utf8.text

pub returns-clause-start : goal.returns-clause-start
returns-clause-start g c = λ is_break known. word_whole _ _ _ _ c.loop-before.invariant c.in_default.ensures.last is_break known
