-- A new session.
use Rattle.std.specs.Prelude.{◌≡◌, ◌≢◌, ◌⊎◌, [], ℕ, List, None, map, string_bytes, true}
use Rattle.line_buffer.specs.KillRing.{empty_ring}
use Rattle.line_parts.specs.History.{rules_of}
use Rattle.line_screen.specs.KeyQueue.{queue_binding}
use Rattle.line_term.specs.Decoder.{fresh}
use Rattle.line_host.specs.Helped.{Helped, answers_by}
use Rattle.line_host.specs.Hosted.{Hosted}
use Rattle.line_host.specs.Settings.{config_of, is_yes}
use Rattle.line_host.specs.Status.{ReportsFault}
use Rattle.line_host.specs.declared.settings.Settings.{Settings}
use Rattle.line_host.specs.declared.status.Status.{Status}
use Rattle.line_host.specs.declared.status.Status.TheVariants.{BadSetting}

-- a helper without words, of which the settings say whether it hints and looks at brackets
pub record HelpsBy (settings : Settings) (helper : Helped) : Type 0 where
  pub words : map string_bytes helper.completer.words.items ≡ []
  pub hints : helper.hinter.hints ≡ is_yes settings.hints
  pub brackets : helper.validator.brackets ≡ is_yes settings.brackets
  pub lights : helper.highlighter.lights_brackets ≡ is_yes settings.brackets

-- a session by these settings in which no line has begun, nothing was killed, bound, typed or written, and the history is empty
pub record IsNew (settings : Settings) (session : Hosted Helped) : Type 0 where
  pub some_columns : settings.columns ≢ 0
  pub line : session.editor.line ≡ None
  pub lines : session.editor.lines ≡ []
  pub takes : session.editor.takes ≡ rules_of (config_of settings)
  pub helper : Helped
  pub helps : HelpsBy settings helper
  pub answers_alike : (newest : List (List ℕ)) → answers_by session.editor.helper newest ≡ answers_by helper newest
  pub kills : session.editor.kills ≡ empty_ring 60
  pub items : session.editor.items ≡ []
  pub own : queue_binding session.editor.binds ≡ queue_binding true
  pub decoder : session.editor.decoder ≡ fresh
  pub settings_are : session.editor.settings ≡ config_of settings
  pub columns : session.editor.columns ≡ settings.columns
  pub rows : session.editor.rows ≡ settings.rows
  pub commands : session.commands ≡ []
  pub submitted : session.submitted ≡ None
  pub output : session.output ≡ []
  pub saved : session.saved ≡ []

-- why there is none: there was a fault, or there are no columns
abbrev pub Refuses : Settings → Status → Type 0
Refuses settings came = ReportsFault came ⊎ ((came ≡ BadSetting) × (settings.columns ≡ 0))
