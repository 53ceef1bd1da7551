-- Facts on edits.
use Rattle.std.proofs.Common.{◌≡◌, ◌∙◌, ℕ, true, false, cond, List, Option, Some, None, is_some, option_map, unwrap_or, refl, ap}
use Rattle.line_buffer.specs.Line.{Line, moved_to}
use Rattle.line_keys.specs.Command.{Command}
use Rattle.line_keys.specs.Model.Draft.{Draft, in_group, out_of_group}
use Rattle.line_parts.specs.Environment.{Environment, verdict_on}
use Rattle.line_parts.specs.Hint.{suggestion_of}
use Rattle.line_parts.specs.Verdict.{Verdict, valid}
use Rattle.line_parts.specs.declared.hint.Hint.{Ghosts}
use Rattle.line_input.specs.Ruler.{grouped}
use Rattle.line_editor.specs.Accept.{validated, unhinted_by}

-- a move keeps the text
pub moved_text : (line : Line) (place : Option ℕ) → (moved_to line place).text ≡ line.text
moved_text line None = refl
moved_text line (Some place) = refl

-- without a helper each text is valid
unasked : (verdict : Option (List ℕ → Verdict)) (text : List ℕ) → is_some verdict ≡ false
    → unwrap_or (option_map (λ v. v text) verdict) (valid None) ≡ valid None
unasked None text e = refl
unasked (Some verdict) text e = absurd (cc)

pub no_verdict : (environment : Environment) (text : List ℕ) → is_some environment.verdict_at ≡ false
    → verdict_on environment text ≡ valid None
no_verdict environment text e = unasked environment.verdict_at text e

-- without a helper nothing is validated
pub not_validated : (environment : Environment) (draft : Draft) → is_some environment.verdict_at ≡ false
    → validated environment draft ≡ draft
not_validated environment draft e =
    ap (λ b. cond b (unhinted_by (verdict_on environment draft.line.text) (out_of_group (in_group draft))) draft) e

-- with a helper the draft is validated
pub was_validated : (environment : Environment) (draft : Draft) → is_some environment.verdict_at ≡ true
    → validated environment draft ≡ unhinted_by (verdict_on environment draft.line.text) (out_of_group (in_group draft))
was_validated environment draft e =
    ap (λ b. cond b (unhinted_by (verdict_on environment draft.line.text) (out_of_group (in_group draft))) draft) e

-- what is shown of a hint is what it displays
pub shown_hint : {T : Type 0} → (words : Ghosts T) → (hint : Option T)
    → option_map (λ s. s.display) (option_map (suggestion_of words) hint) ≡ option_map words.display_text hint
shown_hint words None = refl
shown_hint words (Some h) = refl

-- a group begins alike for commands that are the same
pub grouped_so : (command command' : Command) (draft new : Draft) → command ≡ command' → new ≡ grouped command draft → new ≡ grouped command' draft
grouped_so command command' draft new same is = is ∙ ap (λ c. grouped c draft) same
