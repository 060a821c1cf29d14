use Rattle.std.proofs.{Common.{◌<◌}, lemmas.List.Elements.{All-from_get_or}}
use Rattle.granule_memory.proofs.{Granules.{granules_fit}, Writes.{written_keeps, written_fits}}
use Rattle.granule_memory.proofs.memory.Memory.write_bytes.Goals as goal

pub invariant_of-self : goal.invariant_of-self
invariant_of-self c =
    written_fits _ _ _ c.args.self.now c.self.invariant c.self.view_is c.args.i c.args.bytes.now c.write_bytes.ensures.bytes c.requires
    (All-from_get_or (λ byte. byte < 256) c.args.bytes.now 0 (λ k inside. (c.type_inv.bytes k).fits))

pub returns-clause-others : goal.returns-clause-others
returns-clause-others c =
    written_keeps _ _ _ c.args.self.now c.self.invariant c.self.view_is c.args.i c.args.bytes.now c.write_bytes.ensures.bytes c.requires

pub returns-clause-memory : goal.returns-clause-memory
returns-clause-memory c = granules_fit _ _ (invariant_of-self c)
