use Rattle.std.proofs.Common.{rules, ◌≡◌, ◌++◌}
use Rattle.std.specs.Prelude.{IsUtf8}
use Rattle.std.proofs.lemmas.Str.{IsCharBoundary-at_seam}
use Rattle.line_session.proofs.begun.line_of.Goals as goal

pub with_line-requires : goal.with_line-requires
with_line-requires c =
    let whole : c.as_str.result.now ≡ c.args.left.now ++ c.args.right.now = search rules in
    let utf8 : IsUtf8 c.args.right.now = search rules in
    IsCharBoundary-at_seam c.as_str.result.now c.args.left.now c.args.right.now whole utf8
