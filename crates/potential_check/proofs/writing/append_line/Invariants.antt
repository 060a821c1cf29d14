use Rattle.std.proofs.Common.{◌≡◌, ◌+◌, ◌*◌, ◌≤◌, ◌++◌, length, vec_capacity, vec_len}
use Rattle.line_text.specs.Prefixes.{IsPrefix}
use Rattle.potential_check.specs.Spaced.{spaced}
use Rattle.potential_check.proofs.writing.append_line.Given as goal

abbrev pub invariant-loop-rest : goal.invariant-loop-rest
invariant-loop-rest l = record {
  written : l.text.items ++ spaced l.rest ≡ (l.fn.text.items ++ l.name) ++ spaced l.numbers;
  kept : IsPrefix l.fn.text.items l.text.items;
  capacity : vec_capacity l.fn.text ≤ vec_capacity l.text;
  len : vec_len l.text + 21 * length l.rest ≤ vec_len l.fn.text + length l.name + 21 * length l.numbers;
}

abbrev pub decreases-loop-rest : goal.decreases-loop-rest
decreases-loop-rest l = length l.rest
