use Rattle.std.proofs.{Common.{ℕ, ◌+◌, ◌*◌, ◌<◌, ◌≤◌, arith, length, replicate}, lemmas.List.{length-replicate}}
use Rattle.std.proofs.lemmas.List.Elements.{All-replicate}
use Rattle.granule_memory.proofs.{Granules.{granules_fit}, Writes.{written_is, written_fits}}
use Rattle.granule_memory.proofs.memory.Memory.fill_bytes.Goals.{After-fill_few}
use Rattle.granule_memory.proofs.memory.Memory.fill_bytes.Goals as goal

-- the run lies in the memory
fits : (c : After-fill_few) → c.args.i + length (replicate c.args.count c.args.b) ≤ 16 * length c.args.self.now
fits c = omega (arith, length-replicate {A = ℕ} c.args.count c.args.b, c.requires.place)

pub invariant_of-self : goal.invariant_of-self
invariant_of-self c =
    written_fits _ _ _ c.args.self.now c.self.invariant c.self.view_is c.args.i (replicate c.args.count c.args.b) c.fill_few.ensures.bytes
    (fits (goal.at.invariant_of-self c).After-fill_few) (All-replicate (λ byte. byte < 256) c.args.count c.args.b c.ranges.b.fits)

pub returns-clause-written : goal.returns-clause-written
returns-clause-written c = grind (arith, written_is, fits)

pub returns-clause-memory : goal.returns-clause-memory
returns-clause-memory c = granules_fit _ _ (invariant_of-self c)
