-- Where the cluster begins that holds a byte.
use Rattle.std.specs.Prelude.{ℕ, nat_le, List, length}
use Rattle.line_buffer.specs.Cluster.{clusters}
use Rattle.line_buffer.specs.Lines.{last_fitting}
use Rattle.line_buffer.specs.Word.{bytes_to}

-- the greatest place between clusters of a text that is not past a byte: there the cluster begins that holds it
abbrev pub cluster_start : List ℕ → ℕ → ℕ
cluster_start text place =
    bytes_to (clusters text) (last_fitting (λ i. nat_le (bytes_to (clusters text) i) place) (length (clusters text)))
