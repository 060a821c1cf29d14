use Rattle.std.proofs.Common.{◌≡◌, length, replicate, take}
use Rattle.raw_region.proofs.short_fill.fill_all.Given as goal

abbrev pub invariant-loop-place : goal.invariant-loop-place
invariant-loop-place l = record {
  filled : take l.place l.bytes ≡ replicate l.place l.value;
  long : length l.bytes ≡ length l.initial.bytes;
}
