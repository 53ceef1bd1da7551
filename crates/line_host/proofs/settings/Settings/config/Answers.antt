use Rattle.std.proofs.Common.{refl}
use Rattle.line_host.proofs.settings.Settings.config.Goals as goal

pub returns-clause-config : goal.returns-clause-config
returns-clause-config c =
    rw (
      c.enable_synchronized_output.ensures,
      c.is_yes-6.ensures,
      c.build-config.ensures,
      c.bracketed_paste-builder.ensures,
      c.is_yes-5.ensures,
      c.indent_size.ensures,
      c.color_mode-2.ensures,
      c.color_mode.ensures,
      c.auto_add_history.ensures,
      c.is_yes-4.ensures,
      c.edit_mode-2.ensures,
      c.edit_mode.ensures,
      c.completion_show_all_if_ambiguous.ensures,
      c.is_yes-3.ensures,
      c.completion_prompt_limit.ensures,
      c.completion_type-2.ensures,
      c.completion_type.ensures,
      c.history_ignore_space.ensures,
      c.is_yes-2.ensures,
      c.in_ok-history_ignore_dups.ensures,
      c.is_yes.ensures,
      c.in_ok-max_history_size.ensures,
      c.builder.ensures,
    ) refl
