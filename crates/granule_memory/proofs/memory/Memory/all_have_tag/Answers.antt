use Rattle.std.proofs.Common.{◌≡◌, ℕ, ◌+◌, ◌*◌, ◌<◌, ◌≤◌, List, length, sym, ap, ◌∙◌, arith, slice_index}
use Rattle.machine_theory.specs.Memory.{Granule, tag_at}
use Rattle.granule_memory.proofs.{Granules.{granules_counted, tag_is}, TagWords.{tags_compared}}
use Rattle.granule_memory.proofs.memory.Memory.all_have_tag.Goals as goal

pub returns : goal.returns
returns c =
    let bytes = c.self.inside.region in
    let count = c.self.inside.granules in
    let counted = granules_counted bytes count in
    let long = ap (λ (memory : List Granule). length memory) c.self.view_is in
    let within : c.args.last < count = omega (arith, counted, long) in
    let tags : (g : ℕ) → g ≤ c.args.last → tag_at c.args.self.now g ≡ slice_index bytes (16 * count + g) =
    (λ g most. sym (ap (λ (memory : List Granule). tag_at memory g) c.self.view_is) ∙ tag_is bytes count g (omega (arith, within, most))) in
    grind (arith, tags_compared)
