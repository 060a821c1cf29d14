use Rattle.std.{proofs.Common.{◌+◌, ◌≤◌, All, length}, specs.List.{Contains}}
use Rattle.class_tuner.proofs.FitLemmas.TimelineLemmas.Unions.{AreAdded}
use Rattle.class_tuner.proofs.fits.timelines.moments.with_moments.Given as goal

abbrev pub invariant-loop-i : goal.invariant-loop-i
invariant-loop-i l = record {
  within : All (λ number. number ≤ l.most) l.more.items;
  kept : Contains l.more.items l.kept;
  few : length l.more.items + length l.further ≤ 1024 + l.i;
  added : AreAdded l.initial.more.items l.further l.i l.more.items;
}
