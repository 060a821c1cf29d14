-- Masks of 32 rows. Those of the rows below 16 exclude the even tags, the others the odd ones and 0; each excludes the tag of its row, too.
use Rattle.std.specs.Prelude.{ℕ, ◌^◌, ◌/◌, ◌%◌, ◌==◌, bit_or, if◌then◌else◌}

abbrev pub row_mask : ℕ → ℕ
row_mask row = bit_or (if row / 16 == 0 then 0x5555 else 0xAAAB) (2 ^ (row % 16))
