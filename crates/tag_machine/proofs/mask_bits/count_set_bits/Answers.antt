use Rattle.std.proofs.Common.{◌/◌, ◌%◌, ap, ◌∙◌, arith, get_or}
use Rattle.tag_machine.{proofs.BitTables.{count_of_byte, ones_of_bytes}, specs.declared.mask_bits.TheConstants.{COUNTS}}
use Rattle.tag_machine.proofs.mask_bits.count_set_bits.Goals as goal

pub returns : goal.returns
returns c =
    let low = c.from-2.ensures ∙ ap (λ byte. get_or COUNTS byte 0) c.from.ensures ∙ count_of_byte (c.args.bits % 256) (omega arith) in
    let high = c.from-4.ensures ∙ ap (λ byte. get_or COUNTS byte 0) c.from-3.ensures ∙ count_of_byte (c.args.bits / 256) (omega arith) in
    omega (arith, low, high, ones_of_bytes c.args.bits)
