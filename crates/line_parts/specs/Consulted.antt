-- What is said of those who are asked about a line.
use Rattle.std.specs.Prelude.{◌≡◌}
use Rattle.line_parts.specs.declared.consulted.Consulted.{Ghosts}

-- the answers, the history index, who is sure, and whose loan the helper is, stay
pub record Unchanged {X : Type 0} (context : Ghosts X) (old new : X) : Type 0 where
  pub environment : context.environment new ≡ context.environment old
  pub index : context.index new ≡ context.index old
  pub sure : context.sure new ≡ context.sure old
  pub loan : context.loan new ≡ context.loan old
