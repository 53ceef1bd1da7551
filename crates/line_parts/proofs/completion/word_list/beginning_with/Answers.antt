use Rattle.line_parts.proofs.WordListLemmas.{none_more, one_more}
use Rattle.line_parts.proofs.completion.word_list.beginning_with.Goals as goal
use Rattle.line_parts.proofs.completion.word_list.beginning_with.Goals.{then-starts_with+in_ok-clone+in_ok-push, else-starts_with}

pub loop-word-preserved : goal.loop-word-preserved
loop-word-preserved c = elim c.if-starts_with.branch [
  | then-starts_with+in_ok-clone+in_ok-push w ↦
      rw w.found-is (one_more c.args.start.now c.args.words.now c.loop-word.word-index _ _ _ w.in_ok-clone.field-0 _ c.starts_with.result c.loop-word-test.true c.word-item.is
      c.loop-word.invariant c.deref.ensures c.starts_with.ensures.cases w.if-starts_with.true w.in_ok-clone.ensures.cases w.in_ok-push.ensures.items)
  | else-starts_with w ↦
      rw w.found-is (none_more c.args.start.now c.args.words.now c.loop-word.word-index _ _ _ c.starts_with.result c.loop-word-test.true c.word-item.is
      c.loop-word.invariant c.deref.ensures c.starts_with.ensures.cases w.if-starts_with.false)
]
