use Rattle.unicode_segmentation.specs.Iter.{graphemes_left}
use Rattle.line_buffer.specs.Word.{kinds_of, edge_between}
use Rattle.line_buffer.proofs.WordLemmas.{Read}
use Rattle.line_buffer.proofs.word_edges.nth_edge.Given as goal

abbrev pub invariant-loop-cluster : goal.invariant-loop-cluster
invariant-loop-cluster l =
    (goal.iterator-loop-cluster).can_next l.rest × (goal.iterator-loop-cluster).is_finite l.rest ×
    Read (graphemes_left l.fn.clusters) (kinds_of l.fn.word (graphemes_left l.fn.clusters)) (edge_between l.fn.edge) l.fn.n
    (graphemes_left l.rest) l.previous l.before l.place l.left
