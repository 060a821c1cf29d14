use Rattle.std.proofs.Common.{◌≡◌, ◌+◌, ◌-◌, ◌^◌, ◌<◌, ◌≤◌, ℕ, slice_index}
use Rattle.potential_check.proofs.footprints.slack.least_of_block.Given as goal

abbrev pub invariant-loop-k : goal.invariant-loop-k
invariant-loop-k l = record {
  least : (m : ℕ) → l.start ≤ m → m < l.start + l.k → l.growth ≤ slice_index l.costs m - slice_index l.older m;
  none : l.k ≡ 0 → l.growth ≡ 2 ^ 64 - 1;
  grown : 0 < l.k → (m : ℕ) × (l.start ≤ m) × (m < l.start + l.k) × (l.growth ≡ slice_index l.costs m - slice_index l.older m);
}
