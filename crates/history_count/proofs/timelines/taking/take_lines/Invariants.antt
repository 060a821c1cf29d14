use Rattle.std.proofs.Common.{None, length}
use Rattle.history_count.specs.Timelines.Pieces.{AreTaken}
use Rattle.history_count.proofs.timelines.taking.take_lines.Given as goal

abbrev pub invariant-lines : goal.invariant-lines
invariant-lines l = record { taken : AreTaken l.fn.events.items l.events.items None l.live l.fn.lines l.lines }

abbrev pub decreases-lines : goal.decreases-lines
decreases-lines l = length l.lines
