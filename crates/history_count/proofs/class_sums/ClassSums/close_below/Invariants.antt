use Rattle.std.proofs.Common.{◌≡◌, ◌-◌, ◌≤◌, ℕ, List, length}
use Rattle.history_count.specs.ClassSums.{Holds}
use Rattle.history_count.proofs.class_sums.ClassSums.close_below.Given as goal

abbrev pub invariant-loop-self : goal.invariant-loop-self
invariant-loop-self l = record {
  table : l.self.table.now ≡ l.fn.self.table.now;
  kept : (snapshots : List (List ℕ)) (next : ℕ) → Holds l.fn.self snapshots next → next ≤ l.size
      → (later : ℕ) × (later ≤ l.size) × Holds l.self snapshots later;
}

abbrev pub decreases-loop-self : goal.decreases-loop-self
decreases-loop-self l = length l.self.table.now - l.self.number
