-- Worked examples, computed.
use Rattle.std.{proofs.Common.{◌≡◌, ℕ, ◌+◌, ◌-◌, ◌*◌, ◌^◌, List, [], ◌∷◌, map, refl, replicate, Some, Ok}, specs.List.{range_with_len}}
use Rattle.machine_theory.specs.{Address.{logical_tag, region_start}, Machine.{Machine}, Seed.{next_offset, next_seed, seed_after}}
use Rattle.machine_theory.specs.Instructions.{irg_tag, after_irg, drawn_tag, addg, subg, gmi, ldg, tag_store_fault, stg}
use Rattle.machine_theory.specs.{Memory.{Granule, new_granule, each_granule, tagged}, Tags.{choose_tag, allowed_after}}
use Rattle.machine_theory.specs.declared.fault.Fault.TheVariants.{Unmapped, Alignment}

-- a memory of 64 granules
memory : List Granule
memory = replicate 64 new_granule

-- the offsets of the first nine draws with seed 1
first_offsets : map (λ k. next_offset (seed_after k 1)) (range_with_len 0 9) ≡ 1 ∷ 0 ∷ 8 ∷ 6 ∷ 1 ∷ 4 ∷ 4 ∷ 1 ∷ 11 ∷ []
unfolding next_offset next_seed
first_offsets = refl

machine : ℕ → ℕ → Machine
machine seed tag = record { memory = []; seed = seed; tag = tag }

-- a draw among the odd tags
draws_odd_tag : after_irg (machine 1 0) 0x5555 ≡ machine 0x1000 1
unfolding machine drawn_tag choose_tag allowed_after next_offset next_seed
draws_odd_tag = refl

-- a draw of offset 0, from an excluded tag
draws_from_excluded_tag : after_irg (machine 0x1000 1) 0xAAAB ≡ machine 0x0100 2
unfolding machine drawn_tag choose_tag allowed_after next_offset next_seed
draws_from_excluded_tag = refl

-- a draw of offset 8, once round the seven odd tags but 1 and on to the first
draws_once_round : after_irg (machine 0x0100 2) 0x5557 ≡ machine 0x8010 3
unfolding machine drawn_tag choose_tag allowed_after next_offset next_seed
draws_once_round = refl

-- tags that are drawn in a row among those of one parity and but one, as a heap draws them
tags_in_a_row : map (λ (d : ℕ × ℕ × ℕ). irg_tag (machine (seed_after d.0 1) d.1) d.2)
    ((0, 0, 0x5555) ∷ (1, 1, 0xAAAB) ∷ (2, 2, 0x5555) ∷ (3, 1, 0x5557) ∷ (4, 13, 0xAAAF) ∷ (5, 14, 0xAAAB) ∷ (6, 8, 0x5557)
    ∷ (7, 15, 0x5557) ∷ (8, 3, 0x5555) ∷ [])
    ≡ 1 ∷ 2 ∷ 1 ∷ 13 ∷ 14 ∷ 8 ∷ 15 ∷ 3 ∷ 9 ∷ []
unfolding machine drawn_tag choose_tag allowed_after next_offset next_seed
tags_in_a_row = refl

addg_steps_past_zero : logical_tag (addg (15 * 2 ^ 56) 0 1) ≡ 1
unfolding addg choose_tag allowed_after
addg_steps_past_zero = refl

addg_steps_once_round : logical_tag (addg (1 * 2 ^ 56) 0 15) ≡ 1
unfolding addg choose_tag allowed_after
addg_steps_once_round = refl

subg_steps_up : logical_tag (subg (15 * 2 ^ 56) 0 1) ≡ 1
unfolding subg choose_tag allowed_after
subg_steps_up = refl

gmi_sets_bit : gmi (3 * 2 ^ 56) 0 ≡ 8
unfolding gmi
gmi_sets_bit = refl

-- alignment is tested before the region
stg_unaligned : tag_store_fault memory 1 (region_start + 8) ≡ Some Alignment
unfolding memory tag_store_fault
stg_unaligned = refl

stg_unaligned_outside : tag_store_fault memory 1 (region_start - 8) ≡ Some Alignment
unfolding memory tag_store_fault
stg_unaligned_outside = refl

stg_below_region : tag_store_fault memory 1 (region_start - 16) ≡ Some Unmapped
unfolding memory tag_store_fault
stg_below_region = refl

st2g_at_last_granule : tag_store_fault memory 2 (region_start + 16 * 63) ≡ Some Unmapped
unfolding memory tag_store_fault
st2g_at_last_granule = refl

ldg_of_unaligned_address : ldg (stg memory (5 * 2 ^ 56) region_start) 0 (region_start + 8) ≡ Ok (5 * 2 ^ 56)
unfolding memory ldg tagged each_granule
ldg_of_unaligned_address = refl
