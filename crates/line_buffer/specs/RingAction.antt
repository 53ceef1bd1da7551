-- What a kill ring's last action was.
use Rattle.line_buffer.specs.KillRing.{LastAction, killed, yanked, other}
use Rattle.line_buffer.specs.declared.kill_ring.Action.{Action}
use Rattle.line_buffer.specs.declared.kill_ring.Action.TheVariants.{Kill, Yank, Other}

-- the last action, of the kept one
abbrev pub action_of : Action → LastAction
action_of Kill = killed
action_of (Yank size) = yanked size
action_of Other = other
