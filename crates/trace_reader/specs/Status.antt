-- The reading that a reader's fields mean.
use Rattle.std.specs.Prelude.{ℕ, List}
use Rattle.trace_reader.specs.{Reading.{State}, Reading.State.{Open, Failed, Finished}, declared.status.Status.{Status}}
use Rattle.trace_reader.specs.declared.status.Status.TheVariants.{Open as IsOpen, Failed as HasFailed, Finished as HasFinished}

abbrev pub state_of : Status → ℕ → List ℕ → State
state_of IsOpen lines rest = Open lines rest
state_of (HasFailed error) lines rest = Failed error
state_of HasFinished lines rest = Finished
