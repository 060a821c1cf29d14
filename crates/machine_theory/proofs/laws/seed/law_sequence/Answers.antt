use Rattle.std.proofs.Common.{◌+◌, ◌*◌}
use Rattle.machine_theory.{proofs.SeedLaws.{Begins-some, next_offset-Begins, seed_after-Begins}, specs.Seed.{seed_after}}
use Rattle.machine_theory.proofs.laws.seed.law_sequence.Goals as goal

pub returns-clause-offset : goal.returns-clause-offset
returns-clause-offset c =
    λ seed x k fits b. next_offset-Begins (seed_after k seed) (λ n. x (4 * k + n)) (seed_after-Begins k seed x fits b).1

pub returns-clause-register : goal.returns-clause-register
returns-clause-register c = λ seed x k fits b. (seed_after-Begins k seed x fits b).1

pub returns-clause-begun : goal.returns-clause-begun
returns-clause-begun c = Begins-some
