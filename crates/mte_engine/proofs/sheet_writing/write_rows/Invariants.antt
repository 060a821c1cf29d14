use Rattle.std.proofs.Common.{◌≡◌, ◌≤◌, ◌-◌, ◌++◌, drop, length, vec_capacity}
use Rattle.mte_engine.specs.RowLines.{row_lines}
use Rattle.mte_engine.proofs.sheet_writing.write_rows.Given as goal

abbrev pub invariant-loop-done : goal.invariant-loop-done
invariant-loop-done l = record {
  written : l.text.items ++ row_lines (drop l.done l.rows) ≡ l.fn.text.items ++ row_lines (drop l.from l.rows);
  room : 65536 ≤ vec_capacity l.text;
}

abbrev pub decreases-loop-done : goal.decreases-loop-done
decreases-loop-done l = length l.rows - l.done
