use Rattle.std.{proofs.Common.{◌≡◌, ◌-◌, ◌+◌, ◌*◌, ◌%◌, ◌++◌, ◌≤◌, length, take}, specs.List.{flat_map}}
use Rattle.line_text.specs.Hexadecimal.{hex}
use Rattle.replay_core.proofs.put.put_hex_strides.Given as goal

abbrev pub invariant-loop-done : goal.invariant-loop-done
invariant-loop-done l = record {
  whole : l.done % 32 ≡ 0;
  within : l.done ≤ length l.bytes;
  text : take (l.at + 2 * l.done) l.text ≡ take l.at l.initial.text ++ flat_map hex (take l.done l.bytes);
}

abbrev pub decreases-loop-done : goal.decreases-loop-done
decreases-loop-done l = length l.bytes - l.done
