use Rattle.std.proofs.Common.{◌≡◌, ◌-◌, ◌^◌, ◌<◌, ◌≤◌, ℕ, slice_index}
use Rattle.potential_check.proofs.footprints.slack.least_growth.Given as goal

abbrev pub invariant-loop-j : goal.invariant-loop-j
invariant-loop-j l = record {
  least : (m : ℕ) → l.start ≤ m → m < l.j → l.growth ≤ slice_index l.costs m - slice_index l.older m;
  none : l.j ≤ l.start → l.growth ≡ 2 ^ 64 - 1;
  grown : l.start < l.j → (m : ℕ) × (l.start ≤ m) × (m < l.j) × (l.growth ≡ slice_index l.costs m - slice_index l.older m);
}
