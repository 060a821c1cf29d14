use Rattle.std.{proofs.Common.{◌≡◌, ◌<◌, ◌^◌, take}, specs.Fmt.{decimal}}
use Rattle.trace_reader.proofs.one_pass.more_digits.Given as goal

abbrev pub invariant-loop-place : goal.invariant-loop-place
invariant-loop-place l = record {
  spelled : take l.place l.text ≡ decimal l.value;
  some : 0 < l.value;
  few : l.value < 10 ^ l.place;
}
