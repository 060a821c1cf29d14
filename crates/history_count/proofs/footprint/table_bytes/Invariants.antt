use Rattle.tuner_theory.specs.Lists.{lists_of}
use Rattle.history_count.proofs.ClassByClass.{TakenByLines}
use Rattle.history_count.proofs.footprint.table_bytes.Given as goal

abbrev pub invariant-loop-number : goal.invariant-loop-number
invariant-loop-number l = TakenByLines l.sizes (lists_of l.columns) l.table l.number l.line l.total
