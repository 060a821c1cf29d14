-- The profile of requests, each given by its size in bytes.
use Rattle.std.specs.{List.{range_with_len}, Prelude.{◌≡◌, ℕ, ◌+◌, ◌≤◌, ◌==◌, nat_lt, List, length, map, fold, count_by, slice_index}}
use Rattle.class_table.specs.Sizes.{largest_counted}
use Rattle.tuner_theory.specs.Profiles.{Profile}
use Rattle.profile_count.specs.Counts.{with_one_more}

-- How many of the requests are of n bytes.
abbrev pub requests_of : List ℕ → ℕ → ℕ
requests_of sizes n = count_by (λ size. size == n) sizes

-- How many of them are large.
abbrev pub large_requests : List ℕ → ℕ
large_requests sizes = count_by (λ size. nat_lt largest_counted size) sizes

-- For each size below n the number of its requests. It is opaque, since there are many.
unfoldable pub requests_below : ℕ → List ℕ → List ℕ
requests_below n sizes = map (requests_of sizes) (range_with_len 0 n)

-- For each counted size the number of its requests, and the number of those above.
abbrev pub profile_of_sizes : List ℕ → Profile
profile_of_sizes sizes = record { counts = requests_below (largest_counted + 1) sizes; large = large_requests sizes }

-- What a profile of these requests has.
pub record CountsRequests (p : Profile) (sizes : List ℕ) : Type 0 where
  pub size_count : length p.counts ≡ largest_counted + 1
  pub each : (n : ℕ) → n ≤ largest_counted → slice_index p.counts n ≡ requests_of sizes n
  pub large : p.large ≡ large_requests sizes

-- A profile with these requests more, one after the other.
abbrev pub with_more : Profile → List ℕ → Profile
with_more p sizes = fold with_one_more p sizes
