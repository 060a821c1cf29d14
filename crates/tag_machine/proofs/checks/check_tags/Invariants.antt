use Rattle.std.proofs.Common.{◌≡◌, ℕ, ◌<◌, ◌≤◌}
use Rattle.machine_theory.specs.{Address.{logical_tag, place_of, granule_of}, Memory.{tag_at}}
use Rattle.tag_machine.proofs.checks.check_tags.Given as goal

abbrev pub invariant-loop-granule : goal.invariant-loop-granule
invariant-loop-granule l = (k : ℕ) → granule_of (place_of l.address) ≤ k → k < l.granule → tag_at l.memory k ≡ logical_tag l.address
