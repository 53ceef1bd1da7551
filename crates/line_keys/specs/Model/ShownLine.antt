-- What is shown of the line: by a kept layout, with what may stand after it, and in how many full redraws.
use Rattle.std.specs.Prelude.{◌≡◌, ◌⊎◌, ◌+◌, ◌≤◌, true, if◌then◌else◌, List, Option, None, ℕ}
use Rattle.line_buffer.specs.declared.layout.Layout.{Layout}
use Rattle.line_config.specs.Error.{max_count}
use Rattle.line_keys.specs.Model.Display.{HasCursorAt, IsFullRedraw, IsRight, ShowsInFull, shown_end}
use Rattle.line_keys.specs.Model.Draft.{Draft, hint_shown}
use Rattle.line_keys.specs.declared.editor_state.EditorState.{Ghosts}
use Rattle.line_parts.specs.Environment.{Environment, verdict_on}
use Rattle.line_parts.specs.Verdict.{message_of}

-- the kept layout is right for the line
abbrev pub HasRightLayout : {X : Type 0} → Ghosts X → X → Type 0
HasRightLayout e editor = IsRight (e.display editor) (e.draft editor).line

-- a kept layout that was right is right
abbrev pub KeepsLayoutRight : {X : Type 0} → Ghosts X → X → X → Type 0
KeepsLayoutRight e old new = HasRightLayout e old → HasRightLayout e new

-- the kept cursor is that of a full redraw of the line
abbrev pub HasCursorDrawn : {X : Type 0} → Ghosts X → X → Type 0
HasCursorDrawn e editor = HasCursorAt (e.display editor) (e.draft editor).line

-- the kept cursor is at the end of what is shown
abbrev pub IsAtEnd : {X : Type 0} → Ghosts X → X → Type 0
IsAtEnd e editor = (e.display editor).layout.cursor ≡ (e.display editor).layout.end

-- the renderer stands at the kept cursor
abbrev pub IsInPlace : {X : Type 0} → Ghosts X → X → Type 0
IsInPlace e editor = (e.display editor).screen.position ≡ (e.display editor).layout.cursor

-- whether what is shown is known stays
abbrev pub StaysKnown : {X : Type 0} → Ghosts X → X → X → Type 0
StaysKnown e old new = (e.display new).screen.known ≡ (e.display old).screen.known

-- the line was drawn in full after the editor's own prompt, with a trailing text if there is one
pub record Shows {X : Type 0} (e : Ghosts X) (editor : X) (trailing : Option (List ℕ)) : Type 0 where
  pub in_full : ShowsInFull (e.display editor) (e.display editor).prompt (e.display editor).prompt_end (e.draft editor).line trailing
  pub own_prompt : (e.display editor).layout.default_prompt ≡ true

-- what stands after a line that is drawn by a kept layout: the hint where the layout has an info, and else nothing
abbrev pub info_kept : Layout → Draft → Option (List ℕ)
info_kept layout draft = if layout.has_info then hint_shown draft else None

-- the kept layout is that of a full redraw of the line after the own prompt, with its hint or with nothing as the layout has it
pub record ShowsByLayout {X : Type 0} (e : Ghosts X) (editor : X) : Type 0 where
  pub layout : IsFullRedraw (e.display editor).surface (e.display editor).prompt_end (e.draft editor).line (info_kept (e.display editor).layout (e.draft editor)) (e.display editor).layout
  pub own_prompt : (e.display editor).layout.default_prompt ≡ true

-- a count of full redraws rose by at least so many and at most so many, where it can
abbrev pub Rises : ℕ → ℕ → ℕ → ℕ → Type 0
Rises least most old new = old + most ≤ max_count → (old + least ≤ new) × (new ≤ old + most)

-- so many full redraws were made, at least and at most
abbrev pub Redraws : {X : Type 0} → Ghosts X → ℕ → ℕ → X → X → Type 0
Redraws e least most old new = Rises least most (e.redraws old) (e.redraws new)

-- a text may trail the line: its hint, its validation message, or none
abbrev pub MayTrail : Environment → Draft → Option (List ℕ) → Type 0
MayTrail environment draft trailing =
    (trailing ≡ hint_shown draft) ⊎ (trailing ≡ message_of (verdict_on environment draft.line.text)) ⊎ (trailing ≡ None)

-- what is shown is the line with a text that may trail it
pub record ShowsLine {X : Type 0} (e : Ghosts X) (editor : X) : Type 0 where
  pub trailing : Option (List ℕ)
  pub shows : Shows e editor trailing
  pub trails : MayTrail (e.environment editor) (e.draft editor) trailing

-- what is shown is the line with at most its validation message after it
pub record ShowsNoHint {X : Type 0} (e : Ghosts X) (editor : X) : Type 0 where
  pub trailing : Option (List ℕ)
  pub shows : Shows e editor trailing
  pub trails : (trailing ≡ message_of (verdict_on (e.environment editor) (e.draft editor).line.text)) ⊎ (trailing ≡ None)

-- what is shown is known, the line after the own prompt and a text that may trail it, and ends with them
pub record HasShownEnd {X : Type 0} (e : Ghosts X) (editor : X) : Type 0 where
  pub trailing : Option (List ℕ)
  pub ends : (e.display editor).layout.end ≡ shown_end (e.display editor).surface.measure (e.display editor).prompt_end (e.draft editor).line.text trailing
  pub prompt_text : (e.display editor).screen.prompt ≡ (e.display editor).prompt
  pub text : (e.display editor).screen.text ≡ (e.draft editor).line.text
  pub origin : (e.display editor).screen.origin ≡ (e.display editor).prompt_end
  pub behind : (e.display editor).screen.behind ≡ trailing
  pub known : (e.display editor).screen.known ≡ true
  pub trails : MayTrail (e.environment editor) (e.draft editor) trailing

-- what is drawn stays good: a right layout, and a line with what may trail it
pub record KeepsDrawn {X : Type 0} (e : Ghosts X) (old new : X) : Type 0 where
  pub right : KeepsLayoutRight e old new
  pub line : ShowsLine e old → ShowsLine e new

-- what is drawn stays good after the own prompt, and no hint stands after the line any more
pub record LosesHint {X : Type 0} (e : Ghosts X) (old new : X) : Type 0 where
  pub own_prompt : (e.display new).layout.default_prompt ≡ true
  pub right : KeepsLayoutRight e old new
  pub no_hint : ShowsLine e old → ShowsNoHint e new

-- the kept cursor is at the end of what is shown, and the renderer stands there if it stood at the kept cursor
pub record GoesToEnd {X : Type 0} (e : Ghosts X) (old new : X) : Type 0 where
  pub at_end : IsAtEnd e new
  pub in_place : IsInPlace e old → IsInPlace e new
  pub ends : ShowsLine e old → HasShownEnd e new
