use Rattle.std.proofs.Common.{◌≡◌, ℕ, ◌+◌, ◌*◌, ◌/◌, ◌%◌, ◌<◌, drop, length, slice_index}
use Rattle.tuner_theory.specs.Rows.{number_at}
use Rattle.mte_c.proofs.arrays.rows.put_rows.Given as goal

abbrev pub invariant-loop-at : goal.invariant-loop-at
invariant-loop-at l = record {
  written : (k : ℕ) → k < l.at → slice_index l.numbers k ≡ number_at l.rows (k / l.places + 1) (k % l.places);
  rest : drop l.end l.numbers ≡ drop l.end l.initial.numbers;
  ends : l.end ≡ l.limit * l.places;
  long : length l.numbers ≡ length l.initial.numbers;
}
