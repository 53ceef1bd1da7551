use Rattle.std.proofs.Common.{◌==◌, ◌∷◌, [], length, ap, sym, ◌∙◌}
use Rattle.std.proofs.lemmas.List.{length-map}
use Rattle.line_buffer.proofs.PlainClusterLemmas.{clusters-plain}
use Rattle.line_buffer.proofs.clusters.is_one_cluster.Goals as goal

pub returns-then-are_plain : goal.returns-then-are_plain
returns-then-are_plain c =
    let text = c.args.text.now in
    let plain = rw c.as_bytes.ensures.value at (sym c.are_plain.ensures ∙ c.if-are_plain.true) in
    ap (λ n. n == 1) (sym (ap length (clusters-plain text plain) ∙ length-map text (λ c. c ∷ [])))
