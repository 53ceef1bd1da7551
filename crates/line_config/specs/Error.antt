-- Counts of failures, and which errors occur.
use Rattle.std.specs.Prelude.{◌≡◌, ℕ, ◌+◌, ◌-◌, ◌<◌, ◌^◌, Bool, true, false, Result, Ok, Err}
use Rattle.std.specs.IoError.{error_kind}
use Rattle.std.specs.declared.io.ErrorKind.{ErrorKind}
use Rattle.line_config.specs.declared.error.ReadlineError.{ReadlineError}
use Rattle.line_config.specs.declared.error.ReadlineError.TheVariants.{Eof, Interrupted, Io, Memory}

-- the greatest value of a count, where it stays
abbrev pub max_count : ℕ
max_count = 2 ^ 64 - 1

-- a count rose, or was at its greatest value
abbrev pub Rose : ℕ → ℕ → Type 0
Rose old new = old < max_count → old < new

-- a count rose by one, or was at its greatest value
abbrev pub IsOneMore : ℕ → ℕ → Type 0
IsOneMore old new = old < max_count → new ≡ old + 1

-- whether an error is one of input or output
abbrev pub is_io : ReadlineError → Bool
is_io Eof = false
is_io Interrupted = false
is_io (Io _) = true
is_io Memory = false

-- whether an error is a failed allocation
abbrev pub is_memory : ReadlineError → Bool
is_memory Eof = false
is_memory Interrupted = false
is_memory (Io _) = false
is_memory Memory = true

-- whether an error is one of input or output, or a failed allocation
abbrev pub is_fault : ReadlineError → Bool
is_fault Eof = false
is_fault Interrupted = false
is_fault (Io _) = true
is_fault Memory = true

-- an error of input or output occurs only where P holds
abbrev pub IoOnlyIf : {T : Type 0} → Result T ReadlineError → Type 0 → Type 0
IoOnlyIf (Ok _) P = Unit {0}
IoOnlyIf (Err e) P = is_io e ≡ true → P

-- the only errors are those of input or output, and failed allocations
abbrev pub FaultsOnly : {T : Type 0} → Result T ReadlineError → Type 0
FaultsOnly (Ok _) = Unit {0}
FaultsOnly (Err e) = is_fault e ≡ true

-- unless the error is one of input or output, or a failed allocation, this holds
abbrev pub UnlessFault : {T : Type 0} → Result T ReadlineError → Type 0 → Type 0
UnlessFault (Ok _) P = P
UnlessFault (Err e) P = is_fault e ≡ false → P

-- the only error is a failed allocation
abbrev pub MemoryOnly : {T : Type 0} → Result T ReadlineError → Type 0
MemoryOnly (Ok _) = Unit {0}
MemoryOnly (Err e) = is_memory e ≡ true

-- an error is one of input or output, of this kind
abbrev pub IsIoOfKind : ReadlineError → ErrorKind → Type 0
IsIoOfKind Eof _ = ⊥
IsIoOfKind Interrupted _ = ⊥
IsIoOfKind (Io cause) kind = error_kind cause ≡ kind
IsIoOfKind Memory _ = ⊥

-- an error of input or output has a kind for which this holds
abbrev pub IoOnlyOfKind : {T : Type 0} → Result T ReadlineError → (ErrorKind → Type 0) → Type 0
IoOnlyOfKind (Ok _) P = Unit {0}
IoOnlyOfKind (Err Eof) P = Unit {0}
IoOnlyOfKind (Err Interrupted) P = Unit {0}
IoOnlyOfKind (Err (Io cause)) P = P (error_kind cause)
IoOnlyOfKind (Err Memory) P = Unit {0}
