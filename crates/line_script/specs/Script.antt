-- What the lines of a script add.
use Rattle.std.specs.Prelude.{◌≡◌, ◌==◌, ◌||◌, not, ◌∷◌, ◌++◌, Bool, true, false, List, [], map, chars, ℕ, Result, Ok, Err}
use Rattle.std.specs.List.{list_all}
use Rattle.line_config.specs.declared.error.ReadlineError.{ReadlineError}
use Rattle.line_keys.specs.Item.{key, paste}
use Rattle.line_keys.specs.declared.keys.KeyEvent.{KeyEvent}
use Rattle.line_parts.specs.EscapedLine.{Unescapes}
use Rattle.line_parts.specs.History.{FiledHistory, filed}
use Rattle.line_parts.specs.declared.escaped_line.Escapes.TheVariants.{V2}
use Rattle.line_screen.specs.KeyQueue.{Queued, paste_start, plain_key}

-- no byte of a text is a backslash or a newline
abbrev pub lacks_escapes : List ℕ → Bool
lacks_escapes text = list_all (λ b. not (b == 92 || b == 10)) text

-- a name that is known adds one key at the end; else, and after an error, the queue stays
abbrev pub AddsKey : Result Bool ReadlineError → Queued → Queued → Type 0
AddsKey (Ok true) old new = (k : KeyEvent) × (new ≡ record old { rest = old.rest ++ key k ∷ [] })
AddsKey (Ok false) old new = new ≡ old
AddsKey (Err _) old new = new ≡ old

-- an escaped text that is taken adds a key for each character that it stands for, at the end; else, and after an error, the queue stays
abbrev pub AddsTyped : Result Bool ReadlineError → List ℕ → Queued → Queued → Type 0
AddsTyped (Ok true) escaped old new =
    (text : List ℕ) × Unescapes V2 escaped text × (new ≡ record old { rest = old.rest ++ map plain_key (chars text) })
AddsTyped (Ok false) escaped old new = new ≡ old
AddsTyped (Err _) escaped old new = new ≡ old

-- an escaped text that is taken adds a paste of what it stands for, at the end; else, and after an error, the queue stays
abbrev pub AddsPasted : Result Bool ReadlineError → List ℕ → Queued → Queued → Type 0
AddsPasted (Ok true) escaped old new =
    (text : List ℕ) × Unescapes V2 escaped text × (new ≡ record old { rest = old.rest ++ key paste_start ∷ paste text ∷ [] })
AddsPasted (Ok false) escaped old new = new ≡ old
AddsPasted (Err _) escaped old new = new ≡ old

-- an escaped text that is taken: what it stands for is handed to the history; else, and after an error, the history stays
abbrev pub AddsToHistory : Result Bool ReadlineError → List ℕ → FiledHistory → FiledHistory → Type 0
AddsToHistory (Ok true) escaped old new = (line : List ℕ) × Unescapes V2 escaped line × (new ≡ filed old line)
AddsToHistory (Ok false) escaped old new = new ≡ old
AddsToHistory (Err _) escaped old new = new ≡ old
