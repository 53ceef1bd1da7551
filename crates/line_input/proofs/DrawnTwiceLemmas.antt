-- Facts on what is drawn in two steps.
use Rattle.std.proofs.Common.{◌≡◌, ℕ, ◌+◌, Bool, true, false, cond, List, Option, refl, sym, ◌∙◌, ap, subst, arith}
use Rattle.line_buffer.specs.Line.{Line}
use Rattle.line_keys.specs.Model.Display.{Display, IsRight, ShowsInFull, Surface, lit_after}
use Rattle.line_keys.specs.Model.Drawing.{DrewBehind, DrewLine, DrewNothing}
use Rattle.line_keys.specs.Model.Frame.{Frame}
use Rattle.line_keys.specs.Model.ShownLine.{Redraws}
use Rattle.line_keys.specs.declared.editor_state.EditorState.{Ghosts}
use Rattle.line_parts.specs.Environment.{Environment}
use Rattle.line_parts.specs.declared.highlight.CmdKind.{CmdKind}
use Rattle.line_parts.specs.declared.highlight.CmdKind.TheVariants.{Other}
use Rattle.line_input.proofs.CountLemmas.{rises_stays, rises_twice}

-- what stays twice stays
pub frame_then : {X : Type 0} (e : Ghosts X) (old middle new : X) → Frame e old middle → Frame e middle new → Frame e old new
frame_then e old middle new first second = record {
  environment = second.environment ∙ first.environment;
  loan = second.loan ∙ first.loan;
  surface = second.surface ∙ first.surface;
  prompt = second.prompt ∙ first.prompt;
  prompt_end = second.prompt_end ∙ first.prompt_end;
  sure = second.sure ∙ first.sure;
  failures = omega (arith, first.failures, second.failures);
}

-- the same answer of `highlight_char` where what is asked is the same, and no colors leave the last one
lit_same : (colors colors' asked asked' last last' : Bool) → colors' ≡ colors → asked' ≡ asked → (colors ≡ false → last' ≡ last)
    → cond colors' asked' last' ≡ cond colors asked last
lit_same true true asked asked' last last' same by none = by
lit_same false false asked asked' last last' same by none = none refl
lit_same true false asked asked' last last' same by none = absurd (cc)
lit_same false true asked asked' last last' same by none = absurd (cc)

module _ {X : Type 0} (e : Ghosts X) (old mid new : X) (frame : Frame e old mid) (lit : (e.display old).surface.colors ≡ false → (e.display mid).lit ≡ (e.display old).lit) where
  -- a full redraw behind another drawing is the last of both
  pub line_then : (before times : ℕ) (trailing : _) (kind : CmdKind) → Redraws e before before old mid → DrewLine e times trailing kind mid new
      → DrewLine e (before + times) trailing kind old new
  line_then before times trailing kind redraws drew = record {
    shows = drew.shows;
    right = drew.right;
    lit = drew.lit ∙ lit_same (e.display old).surface.colors (e.display mid).surface.colors
        ((e.environment old).lights (e.draft new).line.text (e.draft new).line.cursor kind) ((e.environment mid).lights (e.draft new).line.text (e.draft new).line.cursor kind)
        (e.display old).lit (e.display mid).lit (ap (λ (s : Surface). s.colors) frame.surface)
        (ap (λ (w : Environment). w.lights (e.draft new).line.text (e.draft new).line.cursor kind) frame.environment) lit;
    redraws = rises_twice before before times times (e.redraws old) (e.redraws mid) (e.redraws new) redraws drew.redraws;
  }

  -- so is one behind another prompt
  pub behind_then : (before times : ℕ) (prompt : List ℕ) → Redraws e before before old mid → DrewBehind e times prompt mid new
      → DrewBehind e (before + times) prompt old new
  behind_then before times prompt redraws drew = record {
    shows = drew.shows;
    other = drew.other;
    lit = drew.lit ∙ lit_same (e.display old).surface.colors (e.display mid).surface.colors
        ((e.environment old).lights (e.draft new).line.text (e.draft new).line.cursor Other) ((e.environment mid).lights (e.draft new).line.text (e.draft new).line.cursor Other)
        (e.display old).lit (e.display mid).lit (ap (λ (s : Surface). s.colors) frame.surface)
        (ap (λ (w : Environment). w.lights (e.draft new).line.text (e.draft new).line.cursor Other) frame.environment) lit;
    redraws = rises_twice before before times times (e.redraws old) (e.redraws mid) (e.redraws new) redraws drew.redraws;
  }

-- a full redraw that nothing was drawn behind
pub line_kept : {X : Type 0} (e : Ghosts X) (old mid new : X) (times : ℕ) (trailing : Option (List ℕ)) (kind : CmdKind) → DrewNothing e mid new
    → (e.draft new).line ≡ (e.draft mid).line → DrewLine e times trailing kind old mid → DrewLine e times trailing kind old new
line_kept e old mid new times trailing kind undrew line drew = record {
  shows = record {
    in_full =
        subst (λ (l : Line). ShowsInFull (e.display new) (e.display new).prompt (e.display new).prompt_end l trailing) (sym line)
        (subst (λ (d : Display). ShowsInFull d d.prompt d.prompt_end (e.draft mid).line trailing) (sym undrew.display) drew.shows.in_full);
    own_prompt = ap (λ (d : Display). d.layout.default_prompt) undrew.display ∙ drew.shows.own_prompt;
  };
  right =
      subst (λ (l : Line). IsRight (e.display new) l) (sym line)
      (subst (λ (d : Display). IsRight d (e.draft mid).line) (sym undrew.display) drew.right);
  lit = ap (λ (d : Display). d.lit) undrew.display ∙ drew.lit ∙ ap (λ (l : Line). lit_after (e.environment old) (e.display old) l kind) (sym line);
  redraws = rises_stays times times (e.redraws old) (e.redraws mid) (e.redraws new) drew.redraws undrew.redraws;
}

-- without colors the last answer of `highlight_char` stays
pub colorless : {X : Type 0} (e : Ghosts X) (w : Environment) (d : Display) (line : Line) (kind : CmdKind) → d.surface.colors ≡ false → lit_after w d line kind ≡ d.lit
colorless e w d line kind none = ap (λ b. cond b (w.lights line.text line.cursor kind) d.lit) none
