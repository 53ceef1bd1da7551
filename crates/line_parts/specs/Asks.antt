-- Who is asked about a line, and who is sure.
use Rattle.std.specs.Prelude.{Bool, true, ◌&&◌}

-- whom a call may ask: nobody; the helper for a hint, where the history may be asked too; the history; the history for a line, and
-- then for a hint; the helper for a validation result; or any of these
pub data Asks : Type 0 where
  nobody : Asks
  for_hint : Asks
  for_look_up : Asks
  for_line : Asks
  for_verdict : Asks
  for_all : Asks

-- whether no error of input or output comes from a hint, from a validation result, from a completion and from the history
pub record Sureness : Type 0 where
  pub hints : Bool
  pub verdicts : Bool
  pub completions : Bool
  pub history : Bool

-- whether no error of input or output comes from those that are asked
abbrev pub is_sure : Sureness → Asks → Bool
is_sure sure nobody = true
is_sure sure for_hint = sure.hints
is_sure sure for_look_up = sure.history
is_sure sure for_line = sure.hints && sure.history
is_sure sure for_verdict = sure.verdicts
is_sure sure for_all = sure.hints && sure.verdicts && sure.history
