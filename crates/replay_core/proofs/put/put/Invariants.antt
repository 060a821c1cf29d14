use Rattle.std.proofs.Common.{◌≡◌, ◌+◌, ◌++◌, take}
use Rattle.replay_core.proofs.put.put.Given as goal

abbrev pub invariant-loop-place : goal.invariant-loop-place
invariant-loop-place l = take (l.at + l.place) l.text ≡ take l.at l.initial.text ++ take l.place l.bytes
