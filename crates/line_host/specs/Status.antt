-- How a call of a session ended.
use Rattle.std.specs.Prelude.{ℕ}
use Rattle.std.specs.IoError.{error_kind}
use Rattle.std.specs.declared.io.ErrorKind.{ErrorKind}
use Rattle.std.specs.declared.io.ErrorKind.TheVariants as kinds
use Rattle.line_config.specs.declared.error.ReadlineError.{ReadlineError}
use Rattle.line_config.specs.declared.error.ReadlineError.TheVariants as errors
use Rattle.line_host.specs.declared.status.Status.{Status}
use Rattle.line_host.specs.declared.status.Status.TheVariants as status

-- the number that a host gets for a status
abbrev pub code_of : Status → ℕ
code_of status.Done = 0
code_of status.Submitted = 1
code_of status.Ended = 2
code_of status.Interrupted = 3
code_of status.Suspended = 4
code_of status.NoMemory = 16
code_of status.Failed = 17
code_of status.NotText = 18
code_of status.NoLine = 19
code_of status.HasLine = 20
code_of status.TooSmall = 21
code_of status.NoKey = 22
code_of status.NoCommand = 23
code_of status.Empty = 24
code_of status.InUse = 25
code_of status.BadSetting = 27

-- the status of a stream's error of a kind: one that wants memory is a want of memory
abbrev pub status_of_kind : ErrorKind → Status
status_of_kind kinds.OutOfMemory = status.NoMemory
status_of_kind _ = status.Failed

-- the status of an error
abbrev pub status_of : ReadlineError → Status
status_of errors.Eof = status.Ended
status_of errors.Interrupted = status.Interrupted
status_of errors.Memory = status.NoMemory
status_of (errors.Io cause) = status_of_kind (error_kind cause)

-- the status of a stream's error of a kind where a text is loaded: what is misread is no text
abbrev pub loading_status_of_kind : ErrorKind → Status
loading_status_of_kind kinds.InvalidData = status.NotText
loading_status_of_kind kind = status_of_kind kind

-- the status of an error where a text is loaded
abbrev pub loading_status_of : ReadlineError → Status
loading_status_of (errors.Io cause) = loading_status_of_kind (error_kind cause)
loading_status_of error = status_of error

-- memory ran out, or input or output failed
abbrev pub ReportsFault : Status → Type 0
ReportsFault status.NoMemory = Unit {0}
ReportsFault status.Failed = Unit {0}
ReportsFault _ = ⊥

-- it is done, or there was a fault
abbrev pub IsDoneOrFault : Status → Type 0
IsDoneOrFault status.Done = Unit {0}
IsDoneOrFault other = ReportsFault other

-- it is done, or memory ran out
abbrev pub IsDoneOrMemory : Status → Type 0
IsDoneOrMemory status.Done = Unit {0}
IsDoneOrMemory status.NoMemory = Unit {0}
IsDoneOrMemory _ = ⊥

-- keys were bound, or a name names no key or no command, or memory ran out
abbrev pub MayBind : Status → Type 0
MayBind status.NoKey = Unit {0}
MayBind status.NoCommand = Unit {0}
MayBind other = IsDoneOrMemory other
