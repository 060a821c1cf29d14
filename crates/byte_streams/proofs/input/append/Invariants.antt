use Rattle.std.proofs.Common.{◌≡◌, ◌++◌, length}
use Rattle.byte_streams.proofs.input.append.Given as goal

abbrev pub invariant-loop-rest : goal.invariant-loop-rest
invariant-loop-rest l = l.text.items ++ l.rest ≡ l.fn.text.items ++ l.piece

abbrev pub decreases-loop-rest : goal.decreases-loop-rest
decreases-loop-rest l = length l.rest
