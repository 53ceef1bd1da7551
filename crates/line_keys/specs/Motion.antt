-- What is read after the first key of a command: the motion of an operator, or the character of a search or a replacement.
use Rattle.std.specs.Prelude.{ℕ, ◌*◌, ◌==◌, ◌&&◌, Bool, false, if◌then◌else◌, min, List, [], ◌∷◌, find, Option, None, option_map, unwrap_or}
use Rattle.line_buffer.specs.Search.{opposite}
use Rattle.line_buffer.specs.declared.movement.At.{At}
use Rattle.line_buffer.specs.declared.movement.At.TheVariants.{AfterEnd, Start}
use Rattle.line_buffer.specs.declared.movement.CharSearch.{CharSearch}
use Rattle.line_buffer.specs.declared.movement.CharSearch.TheVariants.{Backward, BackwardAfter, Forward, ForwardBefore}
use Rattle.line_buffer.specs.declared.movement.Movement.{Movement}
use Rattle.line_buffer.specs.declared.movement.Movement.TheVariants.{BackwardChar, BackwardWord, BeginningOfLine, EndOfLine, ForwardChar, ForwardWord, LineDown, LineUp, ViFirstPrint}
use Rattle.line_buffer.specs.declared.movement.Word.TheVariants.{Big}
use Rattle.line_buffer.specs.declared.movement.Word.TheVariants as words
use Rattle.line_keys.specs.Command.{Command, dedent, indent, kill, kill_to_bracket, noop, replace, replace_char, replace_to_bracket, unknown, vi_yank_to, yank_to_bracket}
use Rattle.line_keys.specs.Count.{char_of, is_with}
use Rattle.line_keys.specs.Key.{bits_of}
use Rattle.line_keys.specs.declared.keys.KeyCode.{KeyCode}
use Rattle.line_keys.specs.declared.keys.KeyCode.TheVariants.{Backspace, Char, Esc}
use Rattle.line_keys.specs.declared.keys.KeyEvent.{KeyEvent}
use Rattle.line_keys.specs.declared.keys.TheConstants.Modifiers.{CTRL, NONE}
use Rattle.line_keys.specs.declared.tables.Operator.{Operator}
use Rattle.line_keys.specs.declared.tables.Operator.TheVariants.{Change, Dedent, Delete, Indent, Yank}

-- What an operator is done to: what a movement covers, or a search for the character that is typed next, or the last search,
-- changed by a function, or the text from the bracket at the cursor to its match. A key can be no motion.
pub data Motion : Type 0 where
  covers : Movement → Motion
  covers_search : ℕ → (ℕ → CharSearch) → Motion
  covers_last : ℕ → (CharSearch → CharSearch) → Motion
  covers_bracket : Motion
  no_motion : Motion

-- rows of characters: the motion of each, by the operator and the count
abbrev pub Motions : Type 0
Motions = List (ℕ × (Operator → ℕ → Motion))

-- the motion of a character
abbrev pub motion_at : Motions → ℕ → Operator → ℕ → Motion
motion_at motions c operator n =
    unwrap_or (option_map (λ entry. entry.1 operator n) (find (λ entry. entry.0 == c) motions)) no_motion

-- where an operator leads after w and W: a change to the end of a word, every other one to the start of the next
abbrev pub word_place : Operator → At
word_place Change = AfterEnd
word_place _ = Start

-- the motion of %: for c, d and y the text from a bracket to its match, for < and > none
abbrev pub bracket_motion : Operator → Motion
bracket_motion Indent = no_motion
bracket_motion Dedent = no_motion
bracket_motion _ = covers_bracket

-- plain characters
abbrev pub char_motions : Motions
char_motions =
    (36, λ _ n. covers EndOfLine)
    ∷ (37, λ operator _. bracket_motion operator)
    ∷ (48, λ _ n. covers BeginningOfLine)
    ∷ (94, λ _ n. covers ViFirstPrint)
    ∷ (98, λ _ n. covers (BackwardWord n words.Vi))
    ∷ (66, λ _ n. covers (BackwardWord n Big))
    ∷ (101, λ _ n. covers (ForwardWord n AfterEnd words.Vi))
    ∷ (69, λ _ n. covers (ForwardWord n AfterEnd Big))
    ∷ (119, λ operator n. covers (ForwardWord n (word_place operator) words.Vi))
    ∷ (87, λ operator n. covers (ForwardWord n (word_place operator) Big))
    ∷ (102, λ _ n. covers_search n (λ c. Forward c))
    ∷ (70, λ _ n. covers_search n (λ c. Backward c))
    ∷ (116, λ _ n. covers_search n (λ c. ForwardBefore c))
    ∷ (84, λ _ n. covers_search n (λ c. BackwardAfter c))
    ∷ (59, λ _ n. covers_last n (λ search. search))
    ∷ (44, λ _ n. covers_last n (λ search. opposite search))
    ∷ (104, λ _ n. covers (BackwardChar n))
    ∷ (108, λ _ n. covers (ForwardChar n))
    ∷ (32, λ _ n. covers (ForwardChar n))
    ∷ (106, λ _ n. covers (LineDown n))
    ∷ (43, λ _ n. covers (LineDown n))
    ∷ (107, λ _ n. covers (LineUp n))
    ∷ (45, λ _ n. covers (LineUp n))
    ∷ []

-- the motion of a key code with modifiers: of a plain character, of H with Ctrl, or of Backspace
abbrev pub motion_by : Operator → KeyCode → ℕ → ℕ → Motion
motion_by operator (Char c) mods n =
    if mods == bits_of NONE then motion_at char_motions c operator n
    else if mods == bits_of CTRL then (if c == 72 then covers (BackwardChar n) else no_motion)
    else no_motion
motion_by operator Backspace mods n = if mods == bits_of NONE then covers (BackwardChar n) else no_motion
motion_by operator _ mods n = no_motion

-- the motion of a key after an operator; its own key is none here
abbrev pub motion_of : Operator → KeyEvent → ℕ → Motion
motion_of operator key n = motion_by operator key.0 (bits_of key.1) n

-- the character of an operator: c, d, y, > and <
abbrev pub own_char : Operator → ℕ
own_char Change = 99
own_char Delete = 100
own_char Yank = 121
own_char Indent = 62
own_char Dedent = 60

-- whether a code is that of this character
abbrev pub is_char : ℕ → KeyCode → Bool
is_char c (Char d) = d == c
is_char c _ = false

-- whether a key is the operator's own, its plain character, after which it is done to the whole line
abbrev pub is_own_key : Operator → KeyEvent → Bool
is_own_key operator key = is_with NONE key && is_char (own_char operator) key.0

-- the count of a motion together with its operator's
abbrev pub multiplied : ℕ → ℕ → ℕ
multiplied n m = min 65535 (n * m)

-- the command of an operator over what a movement covers
abbrev pub operated : Operator → Movement → Command
operated Change movement = replace movement None
operated Delete movement = kill movement
operated Yank movement = vi_yank_to movement
operated Indent movement = indent movement
operated Dedent movement = dedent movement

-- the command of an operator over the text from a bracket to its match; < and > have none
abbrev pub operated_to_bracket : Operator → Command
operated_to_bracket Change = replace_to_bracket None
operated_to_bracket Delete = kill_to_bracket
operated_to_bracket Yank = yank_to_bracket
operated_to_bracket _ = unknown

-- the search for the character of a key, where the key is a plain character
abbrev pub search_to : (ℕ → CharSearch) → KeyEvent → Option CharSearch
search_to by typed = if is_with NONE typed then option_map by (char_of typed.0) else None

-- what the second key of a replacement stands for, by its code: a character replaces clusters, and Esc does nothing
abbrev pub replaced_by_code : ℕ → KeyCode → Command
replaced_by_code n (Char c) = replace_char n c
replaced_by_code n Esc = noop
replaced_by_code n _ = unknown

-- what the second key of a replacement stands for: a plain character replaces so many clusters, and Esc does nothing
abbrev pub replaced_by : ℕ → KeyEvent → Command
replaced_by n key = if is_with NONE key then replaced_by_code n key.0 else unknown
