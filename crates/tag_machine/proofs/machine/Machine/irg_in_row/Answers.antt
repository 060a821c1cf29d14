use Rattle.machine_theory.proofs.SeedLaws.{next_seed-below, next_seed-some}
use Rattle.tag_machine.proofs.machine.Machine.irg_in_row.Goals as goal

pub invariant_of-self : goal.invariant_of-self
invariant_of-self c =
    let register = c.self.invariant in
    rw c.next_seed-self-inside.ensures (record {
      seed_some = next_seed-some _ register.seed_some register.seed_fits;
      seed_fits = next_seed-below _ register.seed_fits;
      tag_fits = c.tag_in_row-self-inside.ensures.below;
    })
