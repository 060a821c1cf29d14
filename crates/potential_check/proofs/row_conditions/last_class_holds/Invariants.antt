use Rattle.std.proofs.Common.{ℕ, ◌<◌, ◌≤◌, slice_index}
use Rattle.tuner_theory.specs.Spans.{span_waste}
use Rattle.potential_check.proofs.row_conditions.last_class_holds.Given as goal

abbrev pub invariant-loop-i : goal.invariant-loop-i
invariant-loop-i l = (i : ℕ) → i < l.i → slice_index l.row i ≤ span_waste l.spans.counts l.spans.step i l.last
