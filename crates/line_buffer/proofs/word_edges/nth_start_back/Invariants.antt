use Rattle.std.proofs.Common.{length}
use Rattle.unicode_segmentation.specs.Iter.{graphemes_left}
use Rattle.line_buffer.specs.Cluster.{clusters}
use Rattle.line_buffer.specs.Word.{kinds_of, begins_word}
use Rattle.line_buffer.proofs.WordBackLemmas.{ReadBack}
use Rattle.line_buffer.proofs.word_edges.nth_start_back.Given as goal

abbrev pub invariant-loop-cluster : goal.invariant-loop-cluster
invariant-loop-cluster l =
    ReadBack (clusters l.fn.text) (kinds_of l.fn.word (clusters l.fn.text)) begins_word l.fn.n (graphemes_left l.rest) l.next l.place l.left

abbrev pub decreases-loop-cluster : goal.decreases-loop-cluster
decreases-loop-cluster l = length (graphemes_left l.rest)
