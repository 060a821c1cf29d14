use Rattle.std.proofs.Common.{◌≡◌, ℕ, ◌+◌, ◌-◌, ◌/◌, ◌%◌, ◌^◌, ◌<◌, ◌≤◌, List, map, refl, ap, subst, sym, ◌∙◌, arith, length, get_or}
use Rattle.std.proofs.{Common.{length-append}, lemmas.List.{get_or_append_left, get_or-append_right, get_or-map, length-map}}
use Rattle.tag_machine.{proofs.BitTables.{count_of_byte}, proofs.MaskBits.{length-set_bits, set_bits_of_bytes}, specs.MaskBits.{set_bits}}
use Rattle.tag_machine.specs.declared.mask_bits.TheConstants.{COUNTS}
use Rattle.tag_machine.proofs.mask_bits.nth_set_bit.Goals as goal

-- the set bits of the lower byte are counted
fewer_is : (bits low fewer : ℕ) → low ≡ bits % 256 → fewer ≡ get_or COUNTS low 0 → fewer ≡ length (set_bits (bits % 256))
fewer_is bits low fewer is count =
    count ∙ ap (λ byte. get_or COUNTS byte 0) is ∙ count_of_byte (bits % 256) (omega arith) ∙ sym (length-set_bits (bits % 256) (omega arith))

-- they are the first ones
low_place : (bits s : ℕ) → bits < 2 ^ 16 → s < length (set_bits (bits % 256)) → get_or (set_bits (bits % 256)) s 0 ≡ get_or (set_bits bits) s 0
low_place bits s small less =
    sym (ap (λ (xs : List ℕ). get_or xs s 0) (set_bits_of_bytes bits small) ∙ get_or_append_left (set_bits (bits % 256)) _ 0 s less)

-- and those of the upper byte are the others
high_inside : (bits s : ℕ) → bits < 2 ^ 16 → s < length (set_bits bits) → length (set_bits (bits % 256)) ≤ s →
    s - length (set_bits (bits % 256)) < length (set_bits (bits / 256))
high_inside bits s small less past =
    let high = set_bits (bits / 256) in
    let moved = map (λ p. p + 8) high in
    let long = ap length (set_bits_of_bytes bits small) in
    omega (arith, less, past, long, length-append (set_bits (bits % 256)) moved, length-map high (λ p. p + 8))

high_place : (bits s : ℕ) → bits < 2 ^ 16 → s < length (set_bits bits) → length (set_bits (bits % 256)) ≤ s →
    8 + get_or (set_bits (bits / 256)) (s - length (set_bits (bits % 256))) 0 ≡ get_or (set_bits bits) s 0
high_place bits s small less past =
    let low = set_bits (bits % 256) in
    let high = set_bits (bits / 256) in
    let moved = map (λ p. p + 8) high in
    let there = get_or-map (λ p. p + 8) high (s - length low) 0 0 (high_inside bits s small less past) in
    let right = get_or-append_right low moved (length low) s 0 refl past in
    let whole = ap (λ (xs : List ℕ). get_or xs s 0) (set_bits_of_bytes bits small) in
    omega (arith, there, right, whole)

pub nth_place-requires-clause-skipped : goal.nth_place-requires-clause-skipped
nth_place-requires-clause-skipped c =
    let fewer = fewer_is c.args.bits c.from-low.result c.from-fewer.result c.from-low.ensures c.from-fewer.ensures in
    subst (λ byte. c.args.skipped < length (set_bits byte)) (sym c.from-low.ensures) (omega (arith, fewer, c.if-skipped-fewer.true))

pub returns-then-skipped-fewer-clause-place : goal.returns-then-skipped-fewer-clause-place
returns-then-skipped-fewer-clause-place c =
    let fewer = fewer_is c.args.bits c.from-low.result c.from-fewer.result c.from-low.ensures c.from-fewer.ensures in
    c.nth_place.ensures.place ∙ ap (λ byte. get_or (set_bits byte) c.args.skipped 0) c.from-low.ensures
    ∙ low_place c.args.bits c.args.skipped (omega arith) (omega (arith, fewer, c.if-skipped-fewer.true))

pub nth_place-requires-2-clause-skipped : goal.nth_place-requires-2-clause-skipped
nth_place-requires-2-clause-skipped c =
    let fewer = fewer_is c.args.bits c.from-low.result c.from-fewer.result c.from-low.ensures c.from-fewer.ensures in
    let inside = high_inside c.args.bits c.args.skipped (omega arith) c.requires (omega (arith, fewer, c.if-skipped-fewer.false)) in
    subst (λ byte. c.args.skipped - c.from-fewer.result < length (set_bits byte)) (sym c.from.ensures) (omega (arith, fewer, inside))

pub returns-clause-place : goal.returns-clause-place
returns-clause-place c =
    let fewer = fewer_is c.args.bits c.from-low.result c.from-fewer.result c.from-low.ensures c.from-fewer.ensures in
    let place = high_place c.args.bits c.args.skipped (omega arith) c.requires (omega (arith, fewer, c.if-skipped-fewer.false)) in
    let upper =
    c.nth_place-2.ensures.place ∙ ap (λ byte. get_or (set_bits byte) (c.args.skipped - c.from-fewer.result) 0) c.from.ensures
    ∙ ap (λ n. get_or (set_bits (c.args.bits / 256)) (c.args.skipped - n) 0) fewer in
    ap (λ p. 8 + p) upper ∙ place
