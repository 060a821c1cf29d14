-- Addresses: their tags and places, and what a short move leaves of them.
use Rattle.std.proofs.Common.{◌≡◌, ℕ, ◌+◌, ◌<◌, ◌≤◌, ◌^◌, ℤ, arith, nat_abs}
use Rattle.machine_theory.specs.Address.{Holds, logical_tag, moved_by, place_of, region_start}

pub tag_fits : (address : ℕ) → logical_tag address < 16
tag_fits address = omega arith

-- a place lies in one granule
pub one_granule : (g k place : ℕ) → Holds g place → Holds k place → g ≡ k
one_granule g k place a b = omega (arith, a.from, a.to, b.from, b.to)

-- an address that is moved by at most 2 ^ 20 bytes to a place near the region keeps its tag, and stays below 2 ^ 60 if it was
pub moved_tag : (address : ℕ) (offset : ℤ) (i : ℕ) → nat_abs offset ≤ 2 ^ 20 → i < 64 →
    region_start ≤ place_of (moved_by address offset) + i → place_of (moved_by address offset) < 2 ^ 37 →
    logical_tag (moved_by address offset) ≡ logical_tag address
moved_tag address offset i near few from to = grind arith

pub moved_plain : (address : ℕ) (offset : ℤ) → nat_abs offset ≤ 2 ^ 20 → address < 2 ^ 60 →
    region_start ≤ place_of (moved_by address offset) → place_of (moved_by address offset) < 2 ^ 37 → moved_by address offset < 2 ^ 60
moved_plain address offset near plain from to = grind arith

-- null is moved to no such place
pub moved_null : (offset : ℤ) (i : ℕ) → nat_abs offset ≤ 2 ^ 20 → i < 64 →
    region_start ≤ place_of (moved_by 0 offset) + i → place_of (moved_by 0 offset) < 2 ^ 37 → ⊥
moved_null offset i near few from to = grind arith
