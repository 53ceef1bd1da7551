use Rattle.std.proofs.Common.{ap, map, option_map, string_bytes, ◌∙◌, ◌≡◌}
use Rattle.line_parts.specs.History.{rules_of}
use Rattle.line_screen.specs.KeyQueue.{queue_binding}
use Rattle.line_host.specs.Settings.{config_of}
use Rattle.line_host.specs.declared.status.Status.{Status}
use Rattle.line_host.proofs.HostedLemmas.{mapped_ok, none_mapped}
use Rattle.line_host.proofs.session.Session.new.Goals as goal

pub returns : goal.returns
returns c =
    let config = mapped_ok Status (λ config. config ≡ config_of c.args.settings.now) _ c.config.result c.in_ok-config.config c.in_ok-config.ensures.cases
    c.in_ok-config.ensures.variant c.config.ensures.config in
    record {
      some_columns = search;
      line = none_mapped _ _ (c.resize.ensures.written ∙ ap (option_map _) c.new-editor.ensures.line);
      lines = search;
      takes = c.resize.ensures.keeps.takes ∙ (c.new-editor.ensures.takes ∙ (ap (λ h. h.rules) c.with_config-history.ensures ∙ ap rules_of config));
      helper = c.new-editor.result.helper;
      helps = record {
        words = ap (λ h. map string_bytes h.completer.words.items) c.new-editor.ensures.helper ∙ ap (map string_bytes) c.new.ensures.items;
        hints = ap (λ h. h.hinter.hints) c.new-editor.ensures.helper ∙ c.is_yes.ensures;
        brackets = ap (λ h. h.validator.brackets) c.new-editor.ensures.helper ∙ c.is_yes-2.ensures;
        lights = ap (λ h. h.highlighter.lights_brackets) c.new-editor.ensures.helper ∙ (c.new-2.ensures ∙ c.is_yes-3.ensures);
      };
      answers_alike = search;
      kills = search;
      items = search;
      own = c.resize.ensures.keeps.own ∙ ap queue_binding c.new-editor.ensures.binds;
      decoder = search;
      settings_are = c.resize.ensures.keeps.settings ∙ (c.new-editor.ensures.settings ∙ config);
      columns = search;
      rows = search;
      commands = search;
      submitted = search;
      output = search;
      saved = search;
    }
