use Rattle.std.proofs.Common.{ℕ, ◌<◌, ◌≤◌, slice_index}
use Rattle.potential_check.specs.RowConditions.{edge_bound}
use Rattle.potential_check.proofs.edge_walk.first_edges_hold.Given as goal

abbrev pub invariant-loop-j : goal.invariant-loop-j
invariant-loop-j l = (j : ℕ) → 0 < j → j < l.j → slice_index l.row 0 ≤ edge_bound l.spans l.before 0 j
