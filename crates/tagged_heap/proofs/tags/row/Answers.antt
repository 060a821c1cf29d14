use Rattle.std.proofs.Common.{◌≡◌, ℕ, ◌+◌, ◌*◌, ◌%◌, ◌^◌, ◌<◌, arith, bit_or}
use Rattle.heap_theory.specs.Calls.{parity_exclude}
use Rattle.tag_machine.specs.Rows.{row_mask}
use Rattle.tagged_heap.proofs.tags.row.Goals as goal

mask_in : (row slot last : ℕ) → row ≡ 16 * (slot % 2) + last → last < 16 → row_mask row ≡ bit_or (parity_exclude slot) (2 ^ last)
mask_in row slot last is below = grind arith

pub returns-clause-mask : goal.returns-clause-mask
returns-clause-mask c = mask_in _ c.args.slot c.args.last (omega (arith, c.from.ensures)) c.requires
