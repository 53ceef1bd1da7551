use Rattle.std.proofs.Common.{arith, sym, ◌∙◌}
use Rattle.std.proofs.lemmas.Grind.{common_steps}
use Rattle.std.proofs.lemmas.List.{drop_all}
use Rattle.line_buffer.proofs.WordLemmas.{drop_end}
use Rattle.line_host.proofs.pieces.Pieces.is_empty.Goals as goal

pub returns : goal.returns
returns c =
    let bytes = c.self.inside.bytes.items in
    let count = c.len.ensures in
    let room = c.self.invariant in (
      λ full. sym c.self.view_is ∙ drop_all c.self.inside.taken bytes (grind (arith, common_steps)),
      λ empty. let most = drop_end c.self.inside.taken bytes (c.self.view_is ∙ empty) in grind (arith, common_steps),
    )
