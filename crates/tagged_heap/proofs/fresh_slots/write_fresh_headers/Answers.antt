use Rattle.std.proofs.Common.{◌≡◌, ◌<◌, length, subst, arith}
use Rattle.class_table.specs.Layout.{first_slot}
use Rattle.tagged_heap.proofs.TheoryLemmas as laws
use Rattle.tagged_heap.proofs.fresh_slots.write_fresh_headers.Goals as goal

-- the first slot of the number of classes is the number of slots
pub returns-clause-headers : goal.returns-clause-headers
returns-clause-headers c = λ s within.
    let layout = c.args.layout.now in
    let ends : length layout.classes ≡ c.loop-number.number = omega (arith, c.classes-number-end.ensures.classes) in
    c.loop-number.invariant.headers s (subst (λ n. s < first_slot layout n) ends (omega (arith, within, laws.all_slots layout)))
