use Rattle.std.proofs.Common.{rules, sym, ◌∙◌}
use Rattle.line_buffer.specs.Cluster.{clusters}
use Rattle.line_buffer.specs.Word.{kinds_of, begins_word, ends_word, edges, nth}
use Rattle.line_buffer.proofs.WordPlaces.{edge_boundaries}
use Rattle.line_buffer.proofs.word_edges.on_by_words.Goals as goal

pub returns-in-Some : goal.returns-in-Some
returns-in-Some c =
    record {
      place = search rules;
      boundary =
          (edge_boundaries c.args.text.now (nth (edges begins_word (kinds_of c.args.word (clusters c.args.text.now))) c.args.n) c.in-Some.field-0-0 c.in-Some.start c.utf8.text
          (sym c.in-Some.is ∙ rw c.graphemes.ensures.left at c.nth_edge.ensures)).1;
    }

pub returns-in-Some-nth_edge : goal.returns-in-Some-nth_edge
returns-in-Some-nth_edge c =
    record {
      place = search rules;
      boundary =
          (edge_boundaries c.args.text.now (nth (edges ends_word (kinds_of c.args.word (clusters c.args.text.now))) c.args.n) c.in-Some-nth_edge.field-0-0 c.in-Some-nth_edge.end c.utf8.text
          (sym c.in-Some-nth_edge.is ∙ rw c.graphemes-in-AfterEnd.ensures.left at c.nth_edge-in-AfterEnd.ensures)).1;
    }
