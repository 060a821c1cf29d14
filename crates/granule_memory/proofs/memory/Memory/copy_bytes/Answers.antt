use Rattle.std.proofs.Common.{◌≡◌, ℕ, ◌+◌, ◌*◌, ◌<◌, ◌≤◌, ◌∙◌, sym, ap, arith, length, List, slice_range}
use Rattle.std.proofs.lemmas.List.Elements.{All-take, All-drop}
use Rattle.machine_theory.specs.Memory.{bytes_at}
use Rattle.granule_memory.proofs.{Granules.{granules_counted, granules_fit, bytes_are, slice_range_long}, Writes.{written_is, written_fits}}
use Rattle.granule_memory.proofs.memory.Memory.copy_bytes.Goals.{After-copy_within}
use Rattle.granule_memory.proofs.memory.Memory.copy_bytes.Goals as goal

-- the bytes that are copied
module _ (c : After-copy_within) where
  abbrev run : List ℕ
  run = slice_range c.self.inside.region c.args.from (c.args.from + c.args.count)

  counted : length c.args.self.now ≡ c.self.inside.granules
  counted = ap length (sym c.self.view_is) ∙ granules_counted c.self.inside.region c.self.inside.granules

  fits : c.args.to + length run ≤ 16 * length c.args.self.now
  fits = grind (arith, slice_range_long, counted)

  read : bytes_at c.args.self.now c.args.from c.args.count ≡ run
  read = grind (arith, bytes_are, counted)

pub invariant_of-self : goal.invariant_of-self
invariant_of-self c =
    written_fits _ _ _ c.args.self.now c.self.invariant c.self.view_is c.args.to (run c) c.copy_within.ensures (fits c)
    (All-take (λ byte. byte < 256) _ _ (All-drop (λ byte. byte < 256) _ _ c.self.invariant.below))

pub returns-clause-written : goal.returns-clause-written
returns-clause-written c = grind (arith, written_is, fits, read)

pub returns-clause-memory : goal.returns-clause-memory
returns-clause-memory c = granules_fit _ _ (invariant_of-self c)
