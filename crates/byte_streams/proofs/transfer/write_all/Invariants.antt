use Rattle.std.proofs.Common.{◌≡◌, List, ℕ, ◌++◌, length}
use Rattle.byte_streams.specs.Transfer.{HasTaken}
use Rattle.byte_streams.proofs.transfer.write_all.Given as goal

abbrev pub invariant-loop-sink : goal.invariant-loop-sink
invariant-loop-sink g l =
    let old = g.W.ByteSink.state l.fn.sink in
    let new = g.W.ByteSink.state l.sink in
    (written : List ℕ) × record {
      parts : g.O.Output.rest l.fn.output ≡ written ++ g.O.Output.rest l.output;
      taken : HasTaken old new written;
      failed : new.failed ≡ old.failed;
    }

abbrev pub decreases-loop-sink : goal.decreases-loop-sink
decreases-loop-sink g l = length (g.O.Output.rest l.output)
