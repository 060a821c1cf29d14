-- Layouts of 64 granules, worked out.
use Rattle.std.proofs.Common.{◌≡◌, ℕ, List, [], ◌∷◌, Some, None, refl}
use Rattle.class_table.specs.Layout.{Partition, slots_of_classes, slots_of, slot_count, slot_of, slot_over}

abbrev divided_among : List ℕ → Partition
divided_among classes = record { classes = classes; granules = 64 }

-- sixteen slots of two granules, then eight of four
small_slots_first : (slot_count (divided_among (2 ∷ 4 ∷ [])) ≡ 24)
    × (slot_of (divided_among (2 ∷ 4 ∷ [])) 1 ≡ record { start = 2; class = 2 })
    × (slot_of (divided_among (2 ∷ 4 ∷ [])) 17 ≡ record { start = 36; class = 4 })
unfolding slots_of_classes slots_of
small_slots_first = (refl, refl, refl)

-- 21 slots of three granules leave the last granule
last_granule_is_slack : (slot_count (divided_among (3 ∷ [])) ≡ 21) × (slot_over (divided_among (3 ∷ [])) 62 ≡ Some 20)
    × (slot_over (divided_among (3 ∷ [])) 63 ≡ None)
unfolding slots_of_classes slots_of slot_over
last_granule_is_slack = (refl, refl, refl)

-- shares of 21 granules: seven slots of three, four of five, and a granule of slack after each share
slack_after_shares : (slot_count (divided_among (3 ∷ 5 ∷ 64 ∷ [])) ≡ 11)
    × (slot_of (divided_among (3 ∷ 5 ∷ 64 ∷ [])) 7 ≡ record { start = 21; class = 5 })
    × (slot_over (divided_among (3 ∷ 5 ∷ 64 ∷ [])) 41 ≡ None)
unfolding slots_of_classes slots_of slot_over
slack_after_shares = (refl, refl, refl)

-- with no class all granules are slack
no_slots : (slot_count (divided_among []) ≡ 0) × (slot_over (divided_among []) 0 ≡ None)
unfolding slots_of_classes slots_of slot_over
no_slots = (refl, refl)
