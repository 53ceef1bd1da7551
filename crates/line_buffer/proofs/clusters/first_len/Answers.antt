use Rattle.std.proofs.Common.{◌≡◌, ◌-◌, length, take, arith}
use Rattle.std.specs.List.{concat}
use Rattle.line_buffer.specs.Cluster.{clusters}
use Rattle.line_buffer.proofs.ClusterLemmas.{boundary-behind_first, length-behind_first}
use Rattle.line_buffer.proofs.clusters.first_len.Goals as goal

pub overflow_sub-result : goal.overflow_sub-result
overflow_sub-result c = omega (arith, length-behind_first _ _ c.args.n c.utf8.text c.behind_first.ensures)

pub returns : goal.returns
returns c =
    record {
      place = omega (arith, length-behind_first _ _ c.args.n c.utf8.text c.behind_first.ensures);
      boundary =
          let len : length c.args.text.now - length c.behind_first.result.now ≡ length (concat (take c.args.n (clusters c.args.text.now))) =
          omega (arith, length-behind_first _ _ c.args.n c.utf8.text c.behind_first.ensures) in
          rw len (boundary-behind_first _ _ c.args.n c.utf8.text c.behind_first.utf8 c.behind_first.ensures);
    }
