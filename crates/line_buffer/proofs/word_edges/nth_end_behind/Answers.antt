use Rattle.std.proofs.Common.{drop, sym, ap, ◌∙◌, arith}
use Rattle.std.specs.Option.{option_map}
use Rattle.unicode_segmentation.specs.Iter.{graphemes_left}
use Rattle.line_buffer.specs.Cluster.{clusters}
use Rattle.line_buffer.specs.Word.{kinds_of, ends_word, edges, nth, edge_behind_first}
use Rattle.line_buffer.proofs.WordPlaces.{edges_positive, behind_places, text_behind}
use Rattle.line_buffer.proofs.word_edges.nth_end_behind.Goals as goal

pub overflow_sub-start : goal.overflow_sub-start
overflow_sub-start c =
    omega (
      arith,
      text_behind c.args.text.now c.in_ok-next.field-0.now (graphemes_left c.next.new.self) c.as_str.result.now c.utf8.text
          (sym c.graphemes-rest.ensures.left ∙ c.in_ok-next.ensures.steps) c.as_str.ensures,
    )

pub overflow_add-result : goal.overflow_add-result
overflow_add-result c =
    let places =
    behind_places c.args.text.now c.in_ok-next.field-0.now (graphemes_left c.next.new.self) c.as_str.result.now
    (nth (edges ends_word (kinds_of c.args.word (graphemes_left c.next.new.self))) c.args.n) c.in_ok-last.last c.in_ok-last.end c.utf8.text
    (sym c.graphemes-rest.ensures.left ∙ c.in_ok-next.ensures.steps) c.as_str.ensures
    (edges_positive ends_word (kinds_of c.args.word (graphemes_left c.next.new.self)) c.args.n) (sym c.in_ok-last.was ∙ c.nth_edge.ensures) in
    omega (arith, places.start.0)

pub overflow_add-result-2 : goal.overflow_add-result-2
overflow_add-result-2 c =
    let places =
    behind_places c.args.text.now c.in_ok-next.field-0.now (graphemes_left c.next.new.self) c.as_str.result.now
    (nth (edges ends_word (kinds_of c.args.word (graphemes_left c.next.new.self))) c.args.n) c.in_ok-last.last c.in_ok-last.end c.utf8.text
    (sym c.graphemes-rest.ensures.left ∙ c.in_ok-next.ensures.steps) c.as_str.ensures
    (edges_positive ends_word (kinds_of c.args.word (graphemes_left c.next.new.self)) c.args.n) (sym c.in_ok-last.was ∙ c.nth_edge.ensures) in
    omega (arith, places.stop.0)

pub returns-clause-start : goal.returns-clause-start
returns-clause-start c =
    let places =
    behind_places c.args.text.now c.in_ok-next.field-0.now (graphemes_left c.next.new.self) c.as_str.result.now
    (nth (edges ends_word (kinds_of c.args.word (graphemes_left c.next.new.self))) c.args.n) c.in_ok-last.last c.in_ok-last.end c.utf8.text
    (sym c.graphemes-rest.ensures.left ∙ c.in_ok-next.ensures.steps) c.as_str.ensures
    (edges_positive ends_word (kinds_of c.args.word (graphemes_left c.next.new.self)) c.args.n) (sym c.in_ok-last.was ∙ c.nth_edge.ensures) in
    places.start

pub returns-clause-end : goal.returns-clause-end
returns-clause-end c =
    let places =
    behind_places c.args.text.now c.in_ok-next.field-0.now (graphemes_left c.next.new.self) c.as_str.result.now
    (nth (edges ends_word (kinds_of c.args.word (graphemes_left c.next.new.self))) c.args.n) c.in_ok-last.last c.in_ok-last.end c.utf8.text
    (sym c.graphemes-rest.ensures.left ∙ c.in_ok-next.ensures.steps) c.as_str.ensures
    (edges_positive ends_word (kinds_of c.args.word (graphemes_left c.next.new.self)) c.args.n) (sym c.in_ok-last.was ∙ c.nth_edge.ensures) in
    places.stop

pub returns-clause-places : goal.returns-clause-places
returns-clause-places c =
    let places =
    behind_places c.args.text.now c.in_ok-next.field-0.now (graphemes_left c.next.new.self) c.as_str.result.now
    (nth (edges ends_word (kinds_of c.args.word (graphemes_left c.next.new.self))) c.args.n) c.in_ok-last.last c.in_ok-last.end c.utf8.text
    (sym c.graphemes-rest.ensures.left ∙ c.in_ok-next.ensures.steps) c.as_str.ensures
    (edges_positive ends_word (kinds_of c.args.word (graphemes_left c.next.new.self)) c.args.n) (sym c.in_ok-last.was ∙ c.nth_edge.ensures) in
    places.places ∙ ap (λ ps. option_map (edge_behind_first (clusters c.args.text.now)) (nth (edges ends_word (kinds_of c.args.word (drop 1 ps))) c.args.n)) (sym (sym c.graphemes-rest.ensures.left ∙ c.in_ok-next.ensures.steps))
