use Rattle.std.proofs.Common.{◌≡◌, ◌+◌, ◌-◌, ◌*◌, ◌/◌, ◌<◌, ◌≤◌, ℕ, length, slice_index}
use Rattle.potential_check.specs.declared.footprints.slack.TheConstants.{BLOCK}
use Rattle.potential_check.proofs.footprints.slack.lower_slack.Given as goal

abbrev pub invariant-loop-block : goal.invariant-loop-block
invariant-loop-block l = record {
  size : length l.slack ≡ length l.fn.slack;
  less : (b : ℕ) → slice_index l.slack b ≤ slice_index l.fn.slack b;
  grown : (j : ℕ) → l.place + 1 < j → j < l.places
      → slice_index l.older j + slice_index l.fn.slack (j / BLOCK) ≤ slice_index l.costs j + slice_index l.slack (j / BLOCK);
  lost : (b : ℕ) → l.place + 1 < BLOCK * b → b < l.block
      → (j : ℕ) × (j < l.places) × (j / BLOCK ≡ b)
      × (slice_index l.slack b ≡ slice_index l.fn.slack b - (slice_index l.costs j - slice_index l.older j));
  first : (b : ℕ) → BLOCK * b ≤ l.place + 1 → slice_index l.slack b ≡ slice_index l.fn.slack b;
  others : (b : ℕ) → l.block ≤ b → slice_index l.slack b ≡ slice_index l.fn.slack b;
}
