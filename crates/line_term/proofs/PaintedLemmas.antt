-- The parts of a drawing are appended one after another.
use Rattle.std.proofs.Common.{◌≡◌, ℕ, Bool, List, [], ◌++◌, Option, option_map, cond, refl, append_assoc}
use Rattle.line_buffer.specs.declared.layout.Layout.{Layout}
use Rattle.line_config.specs.declared.prompt.Prompt as prompts
use Rattle.line_keys.specs.Model.Display.{Measure, corner}
use Rattle.line_parts.specs.declared.highlight.Highlighter as highlighters
use Rattle.line_term.specs.Escape.{hold, move_bytes, release}
use Rattle.line_term.specs.Painted.{AppendsSome, Draws, Handed, Painted, PaintsText, PaintsBehind, RedrawsInFull, clear_drawn, drawing, line_end, wrap_behind, wrap_ending}

-- seven pieces one after another
seven : (b₀ b₁ b₂ b₃ b₄ b₅ b₆ b₇ x₁ x₂ x₃ x₄ x₅ x₆ x₇ : List ℕ) → b₁ ≡ b₀ ++ x₁ → b₂ ≡ b₁ ++ x₂ → b₃ ≡ b₂ ++ x₃ → b₄ ≡ b₃ ++ x₄
    → b₅ ≡ b₄ ++ x₅ → b₆ ≡ b₅ ++ x₆ → b₇ ≡ b₆ ++ x₇ → b₇ ≡ b₀ ++ (x₁ ++ x₂ ++ x₃ ++ x₄ ++ x₅ ++ x₆ ++ x₇)
seven b₀ b₁ b₂ b₃ b₄ b₅ b₆ b₇ x₁ x₂ x₃ x₄ x₅ x₆ x₇ e₁ e₂ e₃ e₄ e₅ e₆ e₇ = rw (e₇, e₆, e₅, e₄, e₃, e₂, e₁) (simp append_assoc)

module _ {P H : Type 0} (p : prompts.Ghosts P) (h : highlighters.Ghosts H) where
  -- the parts, and what stands between them, are a drawing
  pub draws : (measure : Measure) (handed : Handed P H) (b₀ b₁ b₂ b₃ b₄ b₅ b₆ b₇ : List ℕ)
      → AppendsSome b₀ b₁ (PaintsText (option_map (λ o. h.highlighted_prompt o (p.styled_text handed.prompt) handed.layout.default_prompt) handed.highlighter) (p.raw_text handed.prompt))
      → b₂ ≡ b₁ ++ wrap_ending measure (p.raw_text handed.prompt) corner handed.layout.prompt_size
      → AppendsSome b₂ b₃ (PaintsText (option_map (λ o. h.highlighted o handed.line.text handed.line.cursor) handed.highlighter) handed.line.text)
      → b₄ ≡ b₃ ++ wrap_ending measure handed.line.text handed.layout.prompt_size (line_end measure handed.line.text handed.behind handed.layout)
      → AppendsSome b₄ b₅ (PaintsBehind (option_map h.highlighted_hint handed.highlighter) handed.behind)
      → b₆ ≡ b₅ ++ wrap_behind measure handed.behind (line_end measure handed.line.text handed.behind handed.layout) handed.layout.end
      → b₇ ≡ b₆ ++ move_bytes handed.layout.end handed.layout.cursor
      → AppendsSome b₀ b₇ (Draws p h measure handed)
  draws measure handed b₀ b₁ b₂ b₃ b₄ b₅ b₆ b₇ prompt e₂ line e₄ behind e₆ e₇ =
      let painted : Painted = record { prompt = prompt.bytes; line = line.bytes; behind = behind.bytes } in
      record {
        bytes = drawing measure (p.raw_text handed.prompt) handed.line.text handed.behind handed.layout painted;
        appended = seven b₀ b₁ b₂ b₃ b₄ b₅ b₆ b₇ prompt.bytes _ line.bytes _ behind.bytes _ _ prompt.appended e₂ line.appended e₄ behind.appended e₆ e₇;
        holds = record { painted = painted; prompt = prompt.holds; line = line.holds; behind = behind.holds; whole = refl };
      }

  -- a drawing between what is cleared and what is asked for is a full redraw
  pub redraws : (measure : Measure) (wanted : Bool) (old : Option Layout) (handed : Handed P H) (b₀ b₁ b₂ b₃ b₄ : List ℕ)
      → b₁ ≡ b₀ ++ cond wanted hold [] → b₂ ≡ b₁ ++ clear_drawn old → AppendsSome b₂ b₃ (Draws p h measure handed)
      → b₄ ≡ b₃ ++ cond wanted release [] → AppendsSome b₀ b₄ (RedrawsInFull p h measure wanted old handed)
  redraws measure wanted old handed b₀ b₁ b₂ b₃ b₄ e₁ e₂ drawn e₄ = record {
    bytes = cond wanted hold [] ++ (clear_drawn old ++ drawn.bytes) ++ cond wanted release [];
    appended = four b₀ b₁ b₂ b₃ b₄ _ _ drawn.bytes _ e₁ e₂ drawn.appended e₄;
    holds = record { drawn = drawn.bytes; draws = drawn.holds; whole = refl };
  }
    where
      four : (b₀ b₁ b₂ b₃ b₄ x₁ x₂ x₃ x₄ : List ℕ) → b₁ ≡ b₀ ++ x₁ → b₂ ≡ b₁ ++ x₂ → b₃ ≡ b₂ ++ x₃ → b₄ ≡ b₃ ++ x₄
          → b₄ ≡ b₀ ++ (x₁ ++ (x₂ ++ x₃) ++ x₄)
      four b₀ b₁ b₂ b₃ b₄ x₁ x₂ x₃ x₄ e₁ e₂ e₃ e₄ = rw (e₄, e₃, e₂, e₁) (simp append_assoc)
