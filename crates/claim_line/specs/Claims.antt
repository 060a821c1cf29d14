-- What a verdict `optimal` shows: what the table costs, of which tables none costs less, and what was counted.
use Rattle.std.specs.{Int.{from_bool}, Prelude.{ℕ, ◌*◌, Bool, true, false, List, length, slice_index, nat_lt}}
use Rattle.class_table.specs.declared.sizes.TheConstants.{LARGEST_CLASS}
use Rattle.history_count.specs.Histories.{History}
use Rattle.tuner_theory.specs.{Profiles.{Profile}, Sheets.{Sheet}, Waste.{sum_below}, declared.size_event.SizeEvent.{SizeEvent}}
use Rattle.claim_line.specs.declared.{claim.Claim.{Claim}, claim.InputCount.{InputCount}, requests.Requests.{Requests}}
use Rattle.claim_line.specs.declared.claim.InputCount.TheVariants.{Requests as OfRequests, Snapshots, Events}

-- How many sizes have a count above 0.
abbrev pub size_count : List ℕ → ℕ
size_count counts = sum_below (λ size. from_bool (nat_lt 0 (slice_index counts size))) (length counts)

-- How many requests there are of all sizes.
abbrev pub request_count : List ℕ → ℕ
request_count counts = sum_below (slice_index counts) (length counts)

-- How many bytes they ask for.
abbrev pub byte_count : List ℕ → ℕ
byte_count counts = sum_below (λ size. slice_index counts size * size) (length counts)

-- What a profile counts in all.
abbrev pub requests_of : Profile → Requests
requests_of profile = record {
  sizes = size_count profile.counts;
  requests = request_count profile.counts;
  bytes = byte_count profile.counts;
  large = profile.large;
}

-- The class that is forced, or 0.
abbrev pub forced_class : Bool → ℕ
forced_class true = LARGEST_CLASS
forced_class false = 0

-- The bounds of a certificate with its cost, for what was counted.
abbrev pub claim_for : Sheet → InputCount → Claim
claim_for sheet counted = record {
  cost = sheet.cost;
  limit = sheet.limit;
  step = sheet.step;
  forced = forced_class sheet.forced;
  counted = counted;
}

abbrev pub profile_claim : Sheet → Profile → Claim
profile_claim sheet profile = claim_for sheet (OfRequests (requests_of profile))

abbrev pub history_claim : Sheet → History → Claim
history_claim fit history = claim_for fit (Snapshots (length history.snapshots))

abbrev pub timeline_claim : Sheet → List SizeEvent → Claim
timeline_claim fit events = claim_for fit (Events (length events))
