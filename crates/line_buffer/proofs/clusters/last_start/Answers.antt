use Rattle.std.proofs.Common.{rules}
use Rattle.line_buffer.proofs.ClusterLemmas.{boundary-before_last}
use Rattle.line_buffer.proofs.clusters.last_start.Goals as goal

pub returns : goal.returns
returns c =
    record {
      place = search rules;
      boundary = boundary-before_last _ _ c.args.n c.utf8.text c.before_last.utf8 c.before_last.ensures;
    }
