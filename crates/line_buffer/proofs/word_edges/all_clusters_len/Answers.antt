use Rattle.std.proofs.Common.{true, length, sym, ap, ◌∙◌, arith}
use Rattle.std.proofs.lemmas.List.{take_all}
use Rattle.std.specs.List.{concat}
use Rattle.unicode_segmentation.proofs.SegmentsLemmas.{concat-segments}
use Rattle.unicode_segmentation.specs.Grapheme.{is_grapheme_break}
use Rattle.line_buffer.specs.Cluster.{clusters}
use Rattle.line_buffer.proofs.word_edges.all_clusters_len.Goals as goal

pub returns-clause-len : goal.returns-clause-len
returns-clause-len c =
    let cs = clusters c.args.text.now in
    sym (ap (λ ps. length (concat ps)) (take_all (length cs) cs (omega arith)) ∙ ap length (concat-segments (is_grapheme_break true) c.args.text.now c.utf8.text))

pub returns-clause-whole : goal.returns-clause-whole
returns-clause-whole c = sym (ap length (concat-segments (is_grapheme_break true) c.args.text.now c.utf8.text))
