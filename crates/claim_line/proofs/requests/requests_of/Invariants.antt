use Rattle.std.proofs.Common.{◌≡◌, ◌*◌, ◌≤◌, nat_lt, slice_index}
use Rattle.std.specs.Int.{from_bool}
use Rattle.class_table.specs.Sizes.{largest_counted}
use Rattle.tuner_theory.specs.{Profiles.{greatest_count}, Waste.{sum_below}}
use Rattle.claim_line.proofs.requests.requests_of.Given as goal

abbrev pub invariant-loop-size : goal.invariant-loop-size
invariant-loop-size l = record {
  sizes : l.sizes ≡ sum_below (λ size. from_bool (nat_lt 0 (slice_index l.profile.counts size))) l.size;
  few : l.sizes ≤ l.size;
  requests : l.requests ≡ sum_below (slice_index l.profile.counts) l.size;
  bounded : l.requests ≤ l.size * greatest_count;
  bytes : l.bytes ≡ sum_below (λ size. slice_index l.profile.counts size * size) l.size;
  small : l.bytes ≤ l.size * (greatest_count * largest_counted);
}
