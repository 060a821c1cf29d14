-- The result of a call that reads, and the reader after it.
use Rattle.std.specs.Prelude.{◌≡◌, ◌≢◌, ℕ, List, Result, Ok, Err, true}
use Rattle.line_text.specs.Prefixes.{IsPrefix}
use Rattle.trace_reader.specs.{Reading.{State, Reading, fed, is_open}, Reading.State.{Open, Failed, Finished}}
use Rattle.trace_reader.specs.declared.fault.{TraceError.{TraceError}, TraceError.TheVariants.{OutOfMemory}}

-- What a call answers if this is the state after it: the error, if the reading has failed.
abbrev pub answer_of : State → Result (Unit {0}) TraceError
answer_of (Open lines rest) = Ok tt
answer_of (Failed error) = Err error
answer_of Finished = Ok tt

-- A call that should turn the reading `old` into `wanted` turned it into `new`. These two differ only if memory ran out.
pub record HasReached (old wanted new : Reading) (result : Result (Unit {0}) TraceError) : Type 0 where
  pub answer : result ≡ answer_of new.state
  pub reading : result ≢ Err OutOfMemory → new ≡ wanted
  pub kept : IsPrefix old.events new.events
  pub prefix : IsPrefix new.events wanted.events

-- A call that feeds a text to the reading `old` has come to the open reading `new`, and the rest of the text is still to be fed.
pub record IsOnTheWay (old : Reading) (text : List ℕ) (new : Reading) (rest : List ℕ) : Type 0 where
  pub still_open : is_open new ≡ true
  pub fed_is : fed old text ≡ fed new rest
  pub kept : IsPrefix old.events new.events
