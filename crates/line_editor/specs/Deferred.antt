-- Commands that are deferred to the program.
use Rattle.std.specs.Prelude.{Option, Some, None}
use Rattle.line_keys.specs.Command.{Command, abort, complete, complete_backward, forward_search_history, quoted_insert, reverse_search_history, suspend}
use Rattle.line_editor.specs.declared.deferred.Deferred.{Deferred}
use Rattle.line_editor.specs.declared.deferred.Deferred.TheVariants as deferred

-- what a command leaves to the program, if it is one that does nothing itself
abbrev pub deferred_by : Command → Option Deferred
deferred_by abort = Some deferred.Abort
deferred_by complete = Some deferred.Complete
deferred_by complete_backward = Some deferred.CompleteBackward
deferred_by forward_search_history = Some deferred.ForwardSearchHistory
deferred_by quoted_insert = Some deferred.QuotedInsert
deferred_by reverse_search_history = Some deferred.ReverseSearchHistory
deferred_by suspend = Some deferred.Suspend
deferred_by _ = None
