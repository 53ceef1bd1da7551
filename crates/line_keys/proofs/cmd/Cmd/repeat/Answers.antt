use Rattle.line_keys.proofs.RedoLemmas.{by_dot_as_bound}
use Rattle.line_keys.proofs.cmd.Cmd.repeat.Goals as goal

pub returns-in_default : goal.returns-in_default
returns-in_default g c = record {
  command = rw (by_dot_as_bound c.args.new _ c.args.self c.in_default.not-SelfInsert) at c.redo.ensures.command;
  memory = c.redo.ensures.memory;
}
