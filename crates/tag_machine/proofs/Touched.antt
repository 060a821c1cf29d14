-- The granules that an access touches are those from its first byte's to its last byte's.
use Rattle.std.proofs.Common.{ℕ, ◌+◌, ◌-◌, ◌*◌, ◌<◌, ◌≤◌, arith}
use Rattle.machine_theory.specs.Address.{place_of, region_start, granule_of, Touches}

-- a granule from the access's first to its last holds one of its bytes
pub touches : (address len g : ℕ) → region_start ≤ place_of address → 0 < len → granule_of (place_of address) ≤ g →
    g ≤ granule_of (place_of address + len - 1) → Touches address len g
touches address len g from some low high =
    (region_start + 16 * g - place_of address, omega arith, record { from = omega arith; to = omega arith })

-- one that holds one of its bytes is from its first on
pub touched_from : (address len g : ℕ) → Touches address len g → granule_of (place_of address) ≤ g
touched_from address len g t = omega (arith, t.2.from, t.2.to)

-- and up to its last
pub touched_to : (address len g : ℕ) → Touches address len g → g ≤ granule_of (place_of address + len - 1)
touched_to address len g t = omega (arith, t.1, t.2.from, t.2.to)
