use Rattle.std.proofs.Common.{◌≡◌, drop}
use Rattle.profile_count.specs.Requests.{profile_of_sizes, with_more}
use Rattle.engine_tests.proofs.callers.tuner.least_waste.Given as goal

abbrev pub invariant-loop-n : goal.invariant-loop-n
invariant-loop-n l = with_more l.profile (drop l.n-index l.sizes) ≡ profile_of_sizes l.sizes
