-- What commands measure by, and the groups of changes that they begin.
use Rattle.std.specs.Prelude.{ℕ}
use Rattle.line_buffer.specs.declared.layout.GraphemeClusterMode.{GraphemeClusterMode}
use Rattle.line_keys.specs.Command.{Command, replace, replace_to_bracket}
use Rattle.line_keys.specs.Model.Display.{Display}
use Rattle.line_keys.specs.Model.Draft.{Draft, in_group}

-- what a command looks at beside the editor, the environment and the input value: the column where the kept prompt ends, how clusters are counted, and by how many
-- spaces a line is indented
pub record Ruler : Type 0 where
  pub prompt_column : ℕ
  pub cluster_mode : GraphemeClusterMode
  pub indent_size : ℕ

-- the ruler of a display
abbrev pub ruler_of : Display → ℕ → Ruler
ruler_of display indent_size = record {
  prompt_column = display.layout.prompt_size.col;
  cluster_mode = display.layout.grapheme_cluster_mode;
  indent_size = indent_size;
}

-- the ruler after a display's own prompt
abbrev pub own_ruler : Display → ℕ → Ruler
own_ruler display indent_size = record {
  prompt_column = display.prompt_end.col;
  cluster_mode = display.surface.mode;
  indent_size = indent_size;
}

-- a group of changes begins for each replacement
abbrev pub grouped : Command → Draft → Draft
grouped (replace _ _) draft = in_group draft
grouped (replace_to_bracket _) draft = in_group draft
grouped _ draft = draft
