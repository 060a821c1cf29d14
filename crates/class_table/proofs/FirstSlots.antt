-- The numbers of first slots: how large they are, and where they lead.
use Rattle.std.proofs.Common.{◌≡◌, ℕ, ◌+◌, ◌*◌, ◌/◌, ◌<◌, ◌≤◌, length, take, get_or, arith, length-take, subst, All, sum_by}
use Rattle.std.proofs.lemmas.{List.{take-take}, List.Elements.{All-take}, List.Sums.{sum_by-le, sum_by_more, sum_by-take-le}}
use Rattle.std.proofs.lemmas.Nat.{mul-le}
use Rattle.class_table.{proofs.Slots.{length-slots_of_classes}}
use Rattle.class_table.specs.Layout.{Partition, IsPartition, share_of, slots_of, slot_count, first_slot}

pub first_slot-suc : (layout : Partition) (number : ℕ) → number < length layout.classes →
    first_slot layout (number + 1) ≡ first_slot layout number + share_of layout / get_or layout.classes number 0
first_slot-suc layout number within = sum_by_more (λ class. share_of layout / class) layout.classes number 0 within

pub first_slots_ascend : (layout : Partition) (a b : ℕ) → a ≤ b → first_slot layout a ≤ first_slot layout b
first_slots_ascend layout a b le =
    subst (λ classes. sum_by (λ class. share_of layout / class) classes ≤ first_slot layout b) (take-take a b layout.classes le)
    (sum_by-take-le (λ class. share_of layout / class) (take b layout.classes) a)

pub first_slot-most : (layout : Partition) (number : ℕ) → first_slot layout number ≤ slot_count layout
unfolding slots_of
first_slot-most layout number = grind (arith, sum_by-take-le, length-slots_of_classes)

-- a slot has two granules or more
halved : (share class : ℕ) → 2 ≤ class → share / class ≤ share / 2
halved share class wide = grind arith

pub first_slot-few : (layout : Partition) (number : ℕ) → IsPartition layout → first_slot layout number ≤ 131072
first_slot-few layout number is =
    let share = share_of layout in
    let count = length layout.classes in
    let each : All (λ class. share / class ≤ share / 2) layout.classes =
    grind (arith, halved) in
    let sum : first_slot layout number ≤ length (take number layout.classes) * (share / 2) =
    sum_by-le (λ class. share / class) (share / 2) (take number layout.classes)
    (All-take (λ class. share / class ≤ share / 2) number layout.classes each) in
    grind (arith, length-take, mul-le)
