-- The settings of a line editor.
use Rattle.std.specs.Prelude.{ℕ, Bool, true, false, Option, Some, None, List, ◌∷◌}
use Rattle.line_buffer.specs.declared.layout.GraphemeClusterMode.{GraphemeClusterMode}
use Rattle.line_config.specs.declared.config.Behavior.{Behavior}
use Rattle.line_config.specs.declared.config.Behavior.TheVariants.{Stdio}
use Rattle.line_config.specs.declared.config.BellStyle.{BellStyle}
use Rattle.line_config.specs.declared.config.BellStyle.TheVariants.{Audible}
use Rattle.line_config.specs.declared.config.ColorMode.{ColorMode}
use Rattle.line_config.specs.declared.config.ColorMode.TheVariants.{Enabled, Disabled}
use Rattle.line_config.specs.declared.config.CompletionType.{CompletionType}
use Rattle.line_config.specs.declared.config.CompletionType.TheVariants.{Circular}
use Rattle.line_config.specs.declared.config.EditMode.{EditMode}
use Rattle.line_config.specs.declared.config.EditMode.TheVariants.{Emacs, Vi}
use Rattle.line_config.specs.declared.config.HistoryDuplicates.{HistoryDuplicates}
use Rattle.line_config.specs.declared.config.HistoryDuplicates.TheVariants.{AlwaysAdd, IgnoreConsecutive}

-- what a user sets, and reads back
pub record Settings : Type 0 where
  pub max_history_size : ℕ
  pub history_duplicates : HistoryDuplicates
  pub history_ignore_space : Bool
  pub completion_type : CompletionType
  pub completion_prompt_limit : ℕ
  pub completion_show_all_if_ambiguous : Bool
  pub keyseq_timeout : Option ℕ
  pub edit_mode : EditMode
  pub auto_add_history : Bool
  pub bell_style : BellStyle
  pub color_mode : ColorMode
  pub grapheme_cluster_mode : GraphemeClusterMode
  pub behavior : Behavior
  pub tab_stop : ℕ
  pub indent_size : ℕ
  pub check_cursor_position : Bool
  pub enable_bracketed_paste : Bool
  pub enable_synchronized_output : Bool
  pub enable_signals : Bool

-- the settings where none was set, with this way of measuring clusters
abbrev pub defaults : GraphemeClusterMode → Settings
defaults mode = record {
  max_history_size = 100;
  history_duplicates = IgnoreConsecutive;
  history_ignore_space = false;
  completion_type = Circular;
  completion_prompt_limit = 100;
  completion_show_all_if_ambiguous = false;
  keyseq_timeout = None;
  edit_mode = Emacs;
  auto_add_history = false;
  bell_style = Audible;
  color_mode = Enabled;
  grapheme_cluster_mode = mode;
  behavior = Stdio;
  tab_stop = 8;
  indent_size = 2;
  check_cursor_position = false;
  enable_bracketed_paste = true;
  enable_synchronized_output = true;
  enable_signals = false;
}

-- how many milliseconds an edit mode waits for the rest of a key sequence: no limit for Emacs
abbrev pub timeout_of : EditMode → Option ℕ
timeout_of Emacs = None
timeout_of Vi = Some 500

-- whether a line that equals the newest entry is kept out of the history
abbrev pub duplicates_of : Bool → HistoryDuplicates
duplicates_of true = IgnoreConsecutive
duplicates_of false = AlwaysAdd

-- whether colors are shown in a mode
abbrev pub shows_colors : ColorMode → Bool
shows_colors Disabled = false
shows_colors _ = true

-- the color mode under this value of `NO_COLOR`: one that is not empty disables `Enabled`
abbrev pub colors_under : ColorMode → Option (List ℕ) → ColorMode
colors_under Enabled (Some (_ ∷ _)) = Disabled
colors_under mode _ = mode
