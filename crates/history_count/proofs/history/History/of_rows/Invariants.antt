use Rattle.tuner_theory.specs.Lists.{lists_of}
use Rattle.history_count.proofs.RowPeaks.{ArePeaksTo}
use Rattle.history_count.proofs.history.History.of_rows.Given as goal

abbrev pub invariant-loop-line : goal.invariant-loop-line
invariant-loop-line l = record { peaks : ArePeaksTo l.sizes (lists_of l.rows.items) l.line l.peaks }
