use Rattle.granule_memory.proofs.{Granules.{granules_fit}, Writes.{cleared_is, cleared_fits}}
use Rattle.granule_memory.proofs.memory.Memory.set_tags_then_clear.Goals as goal

pub invariant_of-self : goal.invariant_of-self
invariant_of-self c =
    cleared_fits _ _ _ c.args.self.now c.self.invariant c.self.view_is c.args.first c.args.count c.args.rest c.args.tag
    c.place_of_tag-place.result c.place_of_tag-place.ensures c.fill_then_clear.ensures c.requires.granules c.requires.tag

pub returns-clause-tagged : goal.returns-clause-tagged
returns-clause-tagged c =
    cleared_is _ _ _ c.args.self.now c.self.invariant c.self.view_is c.args.first c.args.count c.args.rest c.args.tag
    c.place_of_tag-place.result c.place_of_tag-place.ensures c.fill_then_clear.ensures c.requires.granules c.requires.tag

pub returns-clause-memory : goal.returns-clause-memory
returns-clause-memory c = granules_fit _ _ (invariant_of-self c)
