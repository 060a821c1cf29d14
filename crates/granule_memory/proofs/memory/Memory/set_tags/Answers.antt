use Rattle.granule_memory.proofs.{Granules.{granules_fit}, Writes.{tagged_reads, tagged_keeps, tagged_fits}}
use Rattle.granule_memory.proofs.memory.Memory.set_tags.Goals as goal

pub invariant_of-self : goal.invariant_of-self
invariant_of-self c =
    tagged_fits _ _ _ c.args.self.now c.self.invariant c.self.view_is c.args.first c.args.count c.args.tag c.place_of_tag-place.result
    c.place_of_tag-place.ensures c.fill.ensures.bytes c.requires.granules
    c.requires.tag

pub returns-clause-tags : goal.returns-clause-tags
returns-clause-tags c =
    tagged_reads _ _ _ c.args.self.now c.self.invariant c.self.view_is c.args.first c.args.count c.args.tag c.place_of_tag-place.result
    c.place_of_tag-place.ensures c.fill.ensures.bytes c.requires.granules

pub returns-clause-others : goal.returns-clause-others
returns-clause-others c =
    tagged_keeps _ _ _ c.args.self.now c.self.invariant c.self.view_is c.args.first c.args.count c.args.tag c.place_of_tag-place.result
    c.place_of_tag-place.ensures c.fill.ensures.bytes c.requires.granules

pub returns-clause-memory : goal.returns-clause-memory
returns-clause-memory c = granules_fit _ _ (invariant_of-self c)
