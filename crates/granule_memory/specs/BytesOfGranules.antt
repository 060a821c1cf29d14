-- How granules lie in a list of bytes: the sixteen bytes of each, one granule after the other, and then the tag of each.
use Rattle.std.specs.{List.{range_with_len}, Prelude.{◌≡◌, ℕ, ◌+◌, ◌*◌, ◌<◌, ◌≤◌, List, map, length, slice_index, slice_range, All}}
use Rattle.machine_theory.specs.{Memory.{Granule}, declared.sizes.TheConstants.{FEWEST_GRANULES, GRANULE_BYTES, MOST_GRANULES}}

abbrev pub granule_in : List ℕ → ℕ → ℕ → Granule
granule_in bytes count g = record {
  tag = slice_index bytes (GRANULE_BYTES * count + g);
  bytes = slice_range bytes (GRANULE_BYTES * g) (GRANULE_BYTES * g + GRANULE_BYTES);
}

unfoldable pub granules_of : List ℕ → ℕ → List Granule
granules_of bytes count = map (λ g. granule_in bytes count g) (range_with_len 0 count)

pub record IsLaidOut (bytes : List ℕ) (count : ℕ) : Type 0 where
  pub long : length bytes ≡ (GRANULE_BYTES + 1) * count
  pub least : FEWEST_GRANULES ≤ count
  pub most : count ≤ MOST_GRANULES
  pub below : All (λ byte. byte < 256) bytes
  pub tags : (g : ℕ) → g < count → slice_index bytes (GRANULE_BYTES * count + g) < 16
