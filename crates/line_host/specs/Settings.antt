-- The settings of a session.
use Rattle.std.specs.Prelude.{◌==◌, ℕ, Bool, not, if◌then◌else◌}
use Rattle.line_buffer.specs.declared.layout.GraphemeClusterMode.TheVariants.{Unicode}
use Rattle.line_config.specs.Settings.{duplicates_of, defaults, timeout_of}
use Rattle.line_config.specs.Settings as config
use Rattle.line_config.specs.declared.config.ColorMode.TheVariants as color
use Rattle.line_config.specs.declared.config.CompletionType.TheVariants as completion
use Rattle.line_config.specs.declared.config.EditMode.TheVariants as style
use Rattle.line_host.specs.declared.settings.Settings.{Settings}

-- whether a number says yes
abbrev pub is_yes : ℕ → Bool
is_yes number = not (number == 0)

-- the settings of the editor; those that are not handed over are the usual ones, and the timeout is the edit mode's
abbrev pub config_of : Settings → config.Settings
config_of s = let mode = if is_yes s.vi then style.Vi else style.Emacs in record (defaults Unicode) {
  max_history_size = s.max_history_size;
  history_duplicates = duplicates_of (is_yes s.history_ignore_dups);
  history_ignore_space = is_yes s.history_ignore_space;
  completion_type = if is_yes s.list_completions then completion.List else completion.Circular;
  completion_prompt_limit = s.completion_prompt_limit;
  completion_show_all_if_ambiguous = is_yes s.show_all_if_ambiguous;
  keyseq_timeout = timeout_of mode;
  edit_mode = mode;
  auto_add_history = is_yes s.auto_add_history;
  color_mode = if is_yes s.colors then color.Enabled else color.Disabled;
  indent_size = s.indent_size;
  enable_bracketed_paste = is_yes s.bracketed_paste;
  enable_synchronized_output = is_yes s.synchronized_output;
}
