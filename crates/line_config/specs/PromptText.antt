-- The texts of a prompt.
use Rattle.std.specs.Prelude.{ℕ, List}
use Rattle.line_config.specs.declared.prompt.Prompt.{Ghosts}

-- a prompt without styles, and with them
pub record PromptText : Type 0 where
  pub raw : List ℕ
  pub styled : List ℕ

-- the texts of a prompt
abbrev pub prompt_text : {P : Type 0} → Ghosts P → P → PromptText
prompt_text p prompt = record { raw = p.raw_text prompt; styled = p.styled_text prompt }
