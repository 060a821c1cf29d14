use Rattle.std.proofs.Common.{◌≤◌, ◌-◌, ap, ◌∙◌, arith}
use Rattle.class_table.proofs.ClassOf.{firsts_of, firsts_of-ascending, class_of_point, class_is, last_of_firsts}
use Rattle.class_table.{proofs.Counted.{count_before, within_counts}, specs.Layout.{IsClassOf, slot_count}}
use Rattle.class_table.proofs.layout.Layout.class_of.Goals as goal

pub count_below_last-requires-clause-known : goal.count_below_last-requires-clause-known
count_below_last-requires-clause-known c =
    rw c.deref.ensures.0 (count_before _ _ c.self.inside.slot_shift c.args.slot _ c.self.invariant.slot_counts (omega arith)
    (within_counts c.args.slot (slot_count c.args.self.now) c.self.inside.slot_shift c.requires (rw c.self.view_is at c.self.invariant.reach)))

pub count_below_last-requires-clause-ascending : goal.count_below_last-requires-clause-ascending
count_below_last-requires-clause-ascending c = grind (arith, firsts_of-ascending)

pub count_below_last-requires-clause-last : goal.count_below_last-requires-clause-last
count_below_last-requires-clause-last c =
    let firsts = c.deref.ensures.0 ∙ c.self.invariant.firsts ∙ ap firsts_of c.self.view_is in
    rw firsts (last_of_firsts c.args.self.now c.args.slot c.requires)

class_of : (c : goal.After-count_below_last) → (1 ≤ c.count_below_last.result) × IsClassOf c.args.self.now c.args.slot (c.count_below_last.result - 1)
class_of c =
    let firsts = c.deref.ensures.0 ∙ c.self.invariant.firsts ∙ ap firsts_of c.self.view_is in
    class_of_point c.args.self.now c.args.slot c.count_below_last.result c.requires (rw (← firsts) c.count_below_last.ensures.bound)
    (rw (← firsts) c.count_below_last.ensures.below) (rw (← firsts) c.count_below_last.ensures.above)

pub overflow_sub-result : goal.overflow_sub-result
overflow_sub-result c = (class_of c).0

pub returns-clause-class : goal.returns-clause-class
returns-clause-class c = class_is c.args.self.now c.args.slot _ (class_of c).1

pub returns-clause-from : goal.returns-clause-from
returns-clause-from c = (class_of c).1.from

pub returns-clause-to : goal.returns-clause-to
returns-clause-to c = (class_of c).1.to
