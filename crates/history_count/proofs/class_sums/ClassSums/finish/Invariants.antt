use Rattle.std.proofs.Common.{◌≡◌, ◌-◌, ℕ, List, length}
use Rattle.history_count.specs.ClassSums.{Holds}
use Rattle.history_count.proofs.class_sums.ClassSums.finish.Given as goal

abbrev pub invariant-loop-sums : goal.invariant-loop-sums
invariant-loop-sums l = record {
  table : l.sums.table.now ≡ l.fn.self.table.now;
  kept : (snapshots : List (List ℕ)) (next : ℕ) → Holds l.fn.self snapshots next → (later : ℕ) × Holds l.sums snapshots later;
}

abbrev pub decreases-loop-sums : goal.decreases-loop-sums
decreases-loop-sums l = length l.sums.table.now - l.sums.number
