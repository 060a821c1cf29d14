-- What the two loops have done: reading a whole input, and writing a whole text.
use Rattle.std.specs.Io.KnownBytes.{Appends, Consumes, IsAtEnd}
use Rattle.std.specs.Prelude.{◌≡◌, ℕ, ◌+◌, true, ◌<◌, ◌≤◌, List, ◌++◌, length, Result, Ok, Err}
use Rattle.byte_streams.specs.{Streams.{SinkState, SourceState}, declared.fault.ReadError.{ReadError}, declared.streams.Failure.{Failure}}
use Rattle.byte_streams.specs.declared.fault.ReadError.TheVariants.{OutOfMemory, TooLong, Failed}

-- The most bytes of an input.
abbrev pub most_input : ℕ
most_input = 67108864

-- A bound on how often a source is read. Each read but the last takes at least one byte.
abbrev pub most_reads : ℕ
most_reads = most_input + 1

-- The source was read at most so often.
abbrev pub IsReadFewTimes : SourceState → SourceState → Type 0
IsReadFewTimes old new = new.reads ≤ old.reads + most_reads

-- The source gave these bytes. Where it knows its bytes, they are the first of those.
pub record HasGiven (old new : SourceState) (bytes : List ℕ) : Type 0 where
  pub all : new.given ≡ old.given ++ bytes
  pub known : Consumes old.remaining new.remaining bytes

-- The source is at its end.
pub record HasEnded (source : SourceState) : Type 0 where
  pub seen : source.at_end ≡ true
  pub known : IsAtEnd source.remaining

-- The sink took these bytes. Where it knows its bytes, they were appended to those.
pub record HasTaken (old new : SinkState) (bytes : List ℕ) : Type 0 where
  pub all : new.written ≡ old.written ++ bytes
  pub known : Appends old.taken new.taken bytes

-- All bytes up to the end of the source were read, and taken by the input; or there are too many; or a read failed; or memory ran out.
abbrev pub HasRead : (List ℕ → Type 0) → SourceState → SourceState → Result (Unit {0}) ReadError → Type 0
HasRead has_taken old new (Ok done) =
    (bytes : List ℕ) × has_taken bytes × (length bytes ≤ most_input) × HasGiven old new bytes × HasEnded new × (new.failed ≡ old.failed)
HasRead has_taken old new (Err OutOfMemory) = new.failed ≡ old.failed
HasRead has_taken old new (Err TooLong) =
    (bytes : List ℕ) × (most_input < length bytes) × HasGiven old new bytes × (new.failed ≡ old.failed)
HasRead has_taken old new (Err Failed) = new.failed ≡ old.failed + 1

-- The sink took the whole text; or a prefix of it, and then a write failed.
abbrev pub HasWritten : List ℕ → SinkState → SinkState → Result (Unit {0}) Failure → Type 0
HasWritten text old new (Ok done) = HasTaken old new text × (new.failed ≡ old.failed)
HasWritten text old new (Err failure) =
    (written rest : List ℕ) × (text ≡ written ++ rest) × HasTaken old new written × (new.failed ≡ old.failed + 1)
