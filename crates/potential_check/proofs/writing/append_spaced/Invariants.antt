use Rattle.std.proofs.Common.{◌≡◌, ◌+◌, ◌-◌, ◌*◌, ◌≤◌, drop, length}
use Rattle.potential_check.specs.Spaced.{spaced}
use Rattle.potential_check.proofs.writing.append_spaced.Given as goal

abbrev pub invariant-loop-index : goal.invariant-loop-index
invariant-loop-index l = record {
  written : drop l.start l.buffer ≡ spaced (drop l.index l.numbers);
  room : 336 ≤ l.start + 21 * (length l.numbers - l.index);
  within : l.start ≤ 336;
  size : length l.buffer ≡ 336;
}
