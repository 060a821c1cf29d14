-- What a source and a sink show of themselves.
use Rattle.std.specs.Prelude.{◌≡◌, ℕ, zero, suc, Bool, List, Option, Some, None, Result, IfOk, IsErr}
use Rattle.byte_streams.specs.declared.history.History.{History}

pub record SourceState : Type 0 where
  pub remaining : Option (List ℕ)  -- the bytes that are still to come, where they are known
  pub given : List ℕ  -- all bytes that it has given so far
  pub at_end : Bool  -- whether its last good read had room and gave none
  pub reads : ℕ  -- how often it was read
  pub failed : ℕ  -- how many reads failed

pub record SinkState : Type 0 where
  pub taken : Option (List ℕ)  -- the bytes that it holds, where they are known
  pub written : List ℕ  -- all bytes that it has taken so far
  pub failed : ℕ  -- how many writes failed

-- What a source shows that keeps the history of its reads.
abbrev pub source_state : Option (List ℕ) → History → SourceState
source_state remaining reads =
    record { remaining = remaining; given = reads.bytes; at_end = reads.at_end; reads = reads.calls; failed = reads.failed }

-- What a sink shows that keeps the history of its writes.
abbrev pub sink_state : Option (List ℕ) → History → SinkState
sink_state taken writes = record { taken = taken; written = writes.bytes; failed = writes.failed }

-- How many calls still succeed before one fails, after one more call: the one that fails is the last that was to.
abbrev pub one_call_fewer : Option ℕ → Option ℕ
one_call_fewer None = None
one_call_fewer (Some zero) = None
one_call_fewer (Some (suc n)) = Some n

-- A call of a stream over memory fails where it is set to, with one call fewer until then; one that does not fail moves exactly so many bytes.
pub record MovesInMemory {E : Type 0} (until until' : Option ℕ) (bytes : ℕ) (result : Result ℕ E) : Type 0 where
  pub failing : until ≡ Some 0 → IsErr result
  pub next : until' ≡ one_call_fewer until
  pub moved : IfOk result (λ n. n ≡ bytes)
