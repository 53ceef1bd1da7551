-- Kinds of characters and of clusters.
use Rattle.std.specs.Prelude.{ℕ, nat_lt, Bool, not, ◌==◌, ◌&&◌, List, length, chars, if◌then◌else◌}
use Rattle.std.specs.Char.{is_whitespace, is_ascii_alphanumeric}
use Rattle.std.specs.List.{list_all}
use Rattle.line_buffer.specs.Cluster.{clusters}

-- a letter or a digit of ASCII, or a character past ASCII that is no white space
abbrev pub is_alphanumeric : ℕ → Bool
is_alphanumeric c = if nat_lt c 128 then is_ascii_alphanumeric c else not (is_whitespace c)

-- all characters of the cluster are alphanumeric
abbrev pub is_alphanumeric_cluster : List ℕ → Bool
is_alphanumeric_cluster cluster = list_all is_alphanumeric (chars cluster)

-- the text is one alphanumeric cluster
abbrev pub is_one_alphanumeric : List ℕ → Bool
is_one_alphanumeric text = (length (clusters text) == 1) && is_alphanumeric_cluster text
