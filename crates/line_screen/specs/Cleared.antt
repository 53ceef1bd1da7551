-- What stays of a screen in memory, and what is cleared.
use Rattle.std.specs.Prelude.{◌≡◌, ◌++◌, ℕ, List, true, [], None}
use Rattle.line_keys.specs.Model.Display.{Screen, corner}
use Rattle.line_state.specs.declared.screen_state.ScreenState as screens

-- a screen that is known to show nothing, with the cursor at the first place
abbrev pub blank_screen : Screen
blank_screen = record {
  position = corner;
  prompt = [];
  text = [];
  origin = corner;
  behind = None;
  known = true;
}

-- the shown text loses an end, and nothing else of what is shown changes
pub record LosesEnd (old new : Screen) : Type 0 where
  pub gone : List ℕ
  pub parts : old.text ≡ new.text ++ gone
  pub rest : new ≡ record old { text = new.text }

module _ {X : Type 0} (e : screens.Ghosts X) where
  -- the measure stays, and no full redraw and no failure is counted
  pub record KeepsCounts (old new : X) : Type 0 where
    pub surface : e.surface new ≡ e.surface old
    pub redraws : e.redraws new ≡ e.redraws old
    pub failures : e.failures new ≡ e.failures old

  -- the screen is blank, without a prompt and a text after the line
  pub record Clears (old new : X) : Type 0 where
    pub counts : KeepsCounts old new
    pub screen : e.screen new ≡ blank_screen
