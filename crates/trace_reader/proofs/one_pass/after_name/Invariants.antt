use Rattle.std.proofs.Common.{◌≡◌, take}
use Rattle.trace_reader.proofs.one_pass.after_name.Given as goal

abbrev pub invariant-loop-place : goal.invariant-loop-place
invariant-loop-place l = take l.place l.text ≡ take l.place l.name
