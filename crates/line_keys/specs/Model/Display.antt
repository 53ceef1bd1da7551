-- What is drawn of a line, and what a full redraw of it would show.
use Rattle.std.specs.Prelude.{◌≡◌, ◌⊎◌, ℕ, ◌+◌, ◌-◌, Bool, true, false, if◌then◌else◌, nat_lt, min, List, take, Option, Some, None, is_some, OnOk, OnErr, Result}
use Rattle.line_buffer.specs.Line.{Line}
use Rattle.line_buffer.specs.declared.layout.Position.{Position}
use Rattle.line_buffer.specs.declared.layout.Layout.{Layout}
use Rattle.line_buffer.specs.declared.layout.GraphemeClusterMode.{GraphemeClusterMode}
use Rattle.line_config.specs.declared.error.ReadlineError.{ReadlineError}
use Rattle.line_parts.specs.Environment.{Environment}
use Rattle.line_parts.specs.declared.highlight.CmdKind.{CmdKind}

-- where a text ends that begins at a screen position
abbrev pub Measure : Type 0
Measure = List ℕ → Position → Position

-- what no drawing changes of a screen: how it measures, how many columns and rows it has, whether it shows colors, and how it counts
-- clusters
pub record Surface : Type 0 where
  pub measure : Measure
  pub columns : ℕ
  pub rows : ℕ
  pub colors : Bool
  pub mode : GraphemeClusterMode

-- what a screen shows: the position of the screen cursor, the prompt, the text, which begins at the origin, and what stands after it, if
-- anything does; and whether this is known to be what it shows
pub record Screen : Type 0 where
  pub position : Position
  pub prompt : List ℕ
  pub text : List ℕ
  pub origin : Position
  pub behind : Option (List ℕ)
  pub known : Bool

-- what a screen shows stays, but for the position of its cursor and for what is known
pub record KeepsShown (old new : Screen) : Type 0 where
  pub prompt : new.prompt ≡ old.prompt
  pub text : new.text ≡ old.text
  pub origin : new.origin ≡ old.origin
  pub behind : new.behind ≡ old.behind

-- what a screen was asked to do beside drawing the line: whether it holds back what is drawn, how many texts it wrote that are not the
-- line, and how many beeps it made
pub record Beside : Type 0 where
  pub held : Bool
  pub written : ℕ
  pub beeps : ℕ

-- nothing was asked of a screen beside drawing; so says a screen that keeps no count of it
abbrev pub uncounted : Beside
uncounted = record { held = false; written = 0; beeps = 0 }

-- what is drawn of a line: the screen, the own prompt and where it ends, the layout that is kept of it, and the last answer of
-- `highlight_char`
pub record Display : Type 0 where
  pub surface : Surface
  pub prompt : List ℕ
  pub prompt_end : Position
  pub layout : Layout
  pub screen : Screen
  pub lit : Bool

-- the first column of the first row
abbrev pub corner : Position
corner = record { row = 0; col = 0 }

-- nothing is drawn yet: of the kept layout only the prompt's end and the mode are set
abbrev pub never_drawn : Surface → Screen → List ℕ → Display
never_drawn surface screen prompt = record {
  surface = surface;
  prompt = prompt;
  prompt_end = surface.measure prompt corner;
  layout = record {
    grapheme_cluster_mode = surface.mode;
    prompt_size = surface.measure prompt corner;
    default_prompt = false;
    cursor = corner;
    end = corner;
    has_info = false;
  };
  screen = screen;
  lit = false;
}

-- the kept prompt stays, and how clusters are counted
abbrev pub SamePrompt : Display → Display → Type 0
SamePrompt old new =
    (new.layout.prompt_size ≡ old.layout.prompt_size) × (new.layout.grapheme_cluster_mode ≡ old.layout.grapheme_cluster_mode)

-- the kept prompt stays, or it is the own one
abbrev pub KeepsPrompt : Display → Display → Type 0
KeepsPrompt old new = SamePrompt old new
    ⊎ ((new.layout.prompt_size ≡ old.prompt_end) × (new.layout.grapheme_cluster_mode ≡ old.surface.mode))

-- where the cursor of a line is in a full redraw
abbrev pub cursor_position : Measure → Position → Line → Position
cursor_position measure prompt_end line = measure (take line.cursor line.text) prompt_end

-- where a text ends in a full redraw
abbrev pub end_position : Measure → Position → List ℕ → Position
end_position measure prompt_end text = measure text prompt_end

-- where what is shown ends in a full redraw: a trailing text goes on from the text's end
abbrev pub shown_end : Measure → Position → List ℕ → Option (List ℕ) → Position
shown_end measure prompt_end text None = end_position measure prompt_end text
shown_end measure prompt_end text (Some trailing) = measure trailing (end_position measure prompt_end text)

-- the kept cursor is that of a full redraw of a line
abbrev pub HasCursorAt : Display → Line → Type 0
HasCursorAt display line = display.layout.cursor ≡ cursor_position display.surface.measure display.prompt_end line

-- the layout of a full redraw: each position measured from scratch, clusters counted as the screen counts them
pub record IsFullRedraw (surface : Surface) (prompt_end : Position) (line : Line) (trailing : Option (List ℕ)) (layout : Layout) : Type 0 where
  pub prompt : layout.prompt_size ≡ prompt_end
  pub cursor : layout.cursor ≡ cursor_position surface.measure prompt_end line
  pub ends : layout.end ≡ shown_end surface.measure prompt_end line.text trailing
  pub has_info : layout.has_info ≡ is_some trailing
  pub mode : layout.grapheme_cluster_mode ≡ surface.mode

-- a full redraw was made after this prompt, which ends there: the kept layout is its layout, and the screen is known to show the prompt,
-- the line from the prompt's end, with its cursor at the kept one, and the trailing text after it
pub record ShowsInFull (display : Display) (prompt : List ℕ) (prompt_end : Position) (line : Line) (trailing : Option (List ℕ)) : Type 0 where
  pub layout : IsFullRedraw display.surface prompt_end line trailing display.layout
  pub position : display.screen.position ≡ display.layout.cursor
  pub prompt_text : display.screen.prompt ≡ prompt
  pub shows : display.screen.text ≡ line.text
  pub origin : display.screen.origin ≡ prompt_end
  pub behind : display.screen.behind ≡ trailing
  pub known : display.screen.known ≡ true

-- the text is drawn: the screen is known to show it after the own prompt, its cursor stands at the kept one, the layout has an info
-- where something stands after the text, and else the kept end is a full redraw's
pub record ShowsText (display : Display) (text : List ℕ) : Type 0 where
  pub prompt : display.layout.prompt_size ≡ display.prompt_end
  pub ends : display.layout.has_info ≡ false → display.layout.end ≡ end_position display.surface.measure display.prompt_end text
  pub mode : display.layout.grapheme_cluster_mode ≡ display.surface.mode
  pub position : display.screen.position ≡ display.layout.cursor
  pub prompt_text : display.screen.prompt ≡ display.prompt
  pub shows : display.screen.text ≡ text
  pub origin : display.screen.origin ≡ display.prompt_end
  pub behind : display.layout.has_info ≡ is_some display.screen.behind
  pub known : display.screen.known ≡ true

-- the kept layout is right: the text is drawn, and the kept cursor is a full redraw's
pub record IsRight (display : Display) (line : Line) : Type 0 where
  pub drawn : ShowsText display line.text
  pub cursor : HasCursorAt display line

-- the cursor moves to a position: the kept one does, and the screen cursor with it where it stood there, and all else stays; after an
-- error the kept one too
pub record GoesToPosition {T : Type 0} (result : Result T ReadlineError) (old new : Display) (place : Position) : Type 0 where
  pub layout : OnOk result (new.layout ≡ record old.layout { cursor = place })
  pub kept : OnErr result (new.layout ≡ old.layout)
  pub position : old.screen.position ≡ old.layout.cursor → OnOk result (new.screen.position ≡ new.layout.cursor)
  pub known : old.screen.position ≡ old.layout.cursor → OnOk result (new.screen.known ≡ old.screen.known)
  pub shows : KeepsShown old.screen new.screen
  pub lit : new.lit ≡ old.lit

-- the cursor moves to the end of what is shown
abbrev pub GoesToShownEnd : {T : Type 0} → Result T ReadlineError → Display → Display → Type 0
GoesToShownEnd result old new = GoesToPosition result old new old.layout.end

-- the last answer of `highlight_char`, after it was asked where colors are shown
abbrev pub lit_after : Environment → Display → Line → CmdKind → Bool
lit_after environment display line kind =
    if display.surface.colors then environment.lights line.text line.cursor kind else display.lit

-- the row below, or the last one there is
abbrev pub next_row : ℕ → ℕ
next_row row = min (row + 1) 65535

-- one column on, or the first column of the next row from the last column
abbrev pub next_column : ℕ → Position → Position
next_column columns position =
    if nat_lt (position.col + 1) columns then record { row = position.row; col = position.col + 1 }
    else record { row = next_row position.row; col = 0 }

-- so many columns on, on the same row
abbrev pub columns_on : ℕ → Position → Position
columns_on columns position = record { row = position.row; col = position.col + columns }

-- so many columns back, on the same row
abbrev pub columns_back : ℕ → Position → Position
columns_back columns position = record { row = position.row; col = position.col - columns }

-- the layout with its cursor and its end at a position
abbrev pub ending_at : Position → Layout → Layout
ending_at position layout = record layout { cursor = position; end = position }
