-- The answers of the tests' helper.
use Rattle.std.specs.Prelude.{Bool, true, false, ℕ, List, Option, None, Some, codes}
use Rattle.line_parts.specs.declared.highlight.CmdKind.{CmdKind}
use Rattle.line_parts.specs.declared.highlight.CmdKind.TheVariants.{MoveCursor, Other, ForcedRefresh}

-- whether this is the kind for which a full drawing is asked
abbrev pub is_lit_for : Option CmdKind → CmdKind → Bool
is_lit_for (Some MoveCursor) MoveCursor = true
is_lit_for (Some Other) Other = true
is_lit_for (Some ForcedRefresh) ForcedRefresh = true
is_lit_for lit kind = false

-- how a line is shown after a kind that was asked
abbrev pub shown_after : Option CmdKind → List ℕ
shown_after None = codes "unasked"
shown_after (Some MoveCursor) = codes "after a move"
shown_after (Some Other) = codes "after an edit"
shown_after (Some ForcedRefresh) = codes "for the last time"
