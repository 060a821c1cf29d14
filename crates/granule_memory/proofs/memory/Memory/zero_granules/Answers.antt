use Rattle.std.proofs.Common.{◌≡◌, ℕ, ◌+◌, ◌*◌, ◌<◌, ◌≤◌, subst, arith, length, List, lit<, replicate}
use Rattle.std.proofs.lemmas.{List.{length-replicate}, List.Elements.{All-replicate}}
use Rattle.raw_region.specs.Bytes.{with_bytes}
use Rattle.granule_memory.proofs.{Granules.{granules_fit}, Writes.{written_is, written_fits, written_keeps}}
use Rattle.granule_memory.{proofs.memory.Memory.zero_granules.Goals.{After-fill}, specs.BytesOfGranules.{granules_of}}
use Rattle.granule_memory.specs.Changes.{ChangesOnlyBytes}
use Rattle.granule_memory.proofs.memory.Memory.zero_granules.Goals as goal

-- the zeros are written from the first granule on, and lie in the memory
module _ (c : After-fill) where
  abbrev zeros : List ℕ
  zeros = replicate (16 * c.args.count) 0

  at : c.fill.new.self ≡ with_bytes c.self.inside.region (16 * c.args.first) zeros
  at = grind arith

  fits : 16 * c.args.first + length zeros ≤ 16 * length c.args.self.now
  fits = omega (arith, length-replicate {A = ℕ} (16 * c.args.count) 0, c.requires)

pub invariant_of-self : goal.invariant_of-self
invariant_of-self c =
    written_fits _ _ _ c.args.self.now c.self.invariant c.self.view_is (16 * c.args.first) (zeros c) (at c) (fits c)
    (All-replicate (λ byte. byte < 256) (16 * c.args.count) 0 (lit< tt))

pub returns-clause-written : goal.returns-clause-written
returns-clause-written c = grind (arith, written_is, fits)

pub returns-clause-others : goal.returns-clause-others
returns-clause-others c =
    subst (λ n. ChangesOnlyBytes c.args.self.now (granules_of c.fill.new.self c.self.inside.granules) (16 * c.args.first)
    (16 * c.args.first + n)) (length-replicate {A = ℕ} (16 * c.args.count) 0)
    (written_keeps _ _ _ c.args.self.now c.self.invariant c.self.view_is (16 * c.args.first) (zeros c) (at c)
    (fits c))

pub returns-clause-memory : goal.returns-clause-memory
returns-clause-memory c = granules_fit _ _ (invariant_of-self c)
