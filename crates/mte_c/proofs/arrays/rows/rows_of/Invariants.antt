use Rattle.tuner_theory.specs.Lists.{lists_of}
use Rattle.mte_c.specs.Arrays.Spelled.{AreRows}
use Rattle.mte_c.proofs.arrays.rows.rows_of.Given as goal

abbrev pub invariant-loop-k : goal.invariant-loop-k
invariant-loop-k l = AreRows l.k l.places l.numbers (lists_of l.rows.items)
