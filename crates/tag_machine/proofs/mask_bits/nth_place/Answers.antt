use Rattle.std.proofs.{Common.{ℕ, ◌*◌, ◌/◌, ◌%◌, ◌^◌, ◌<◌, ap, ◌∙◌, arith, length}, lemmas.Nat.{ones-le}}
use Rattle.tag_machine.proofs.{BitTables.{packed_of_byte, unpacked}, MaskBits.{byte_place_below, length-set_bits}}
use Rattle.tag_machine.specs.MaskBits.{set_bits}
use Rattle.tag_machine.proofs.mask_bits.nth_place.Goals as goal

-- a byte has at most eight set bits
few : (byte skipped : ℕ) → byte < 256 → skipped < length (set_bits byte) → 4 * skipped < 32
few byte skipped small less = omega (arith, length-set_bits byte (omega arith), ones-le 8 byte small)

pub overflow_mul-result : goal.overflow_mul-result
overflow_mul-result c = omega (arith, few c.args.byte c.args.skipped c.requires.byte c.requires.skipped)

pub overflow_shr-result : goal.overflow_shr-result
overflow_shr-result c = few c.args.byte c.args.skipped c.requires.byte c.requires.skipped

pub returns-clause-place : goal.returns-clause-place
returns-clause-place c =
    ap (λ (p : ℕ). p / 2 ^ (4 * c.args.skipped) % 8) (packed_of_byte c.args.byte c.requires.byte)
    ∙ unpacked (set_bits c.args.byte) c.args.skipped (λ j less. byte_place_below c.args.byte j c.requires.byte less) c.requires.skipped
