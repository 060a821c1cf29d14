use Rattle.std.proofs.Common.{arith, refl}
use Rattle.profile_count.proofs.FirstServing.{class_at, next_served, past_last}
use Rattle.profile_count.proofs.waste_and_unserved.table_end.Goals as goal

pub returns-then-is_empty-clause-others : goal.returns-then-is_empty-clause-others
returns-then-is_empty-clause-others c = λ n le. rw (c.is_empty.ensures.0 c.if-is_empty.true) refl

pub returns-clause-served : goal.returns-clause-served
returns-clause-served c = λ n lt.
    let at = class_at c.args.table.now _ c.class.result c.class.ensures.class c.class.ensures.in_range.0 in
    next_served n _ c.class.result c.args.table.now at (omega (arith, lt, c.class_end.ensures))

pub returns-clause-others : goal.returns-clause-others
returns-clause-others c = λ n le.
    let at = class_at c.args.table.now _ c.class.result c.class.ensures.class c.class.ensures.in_range.0 in
    past_last 1 n _ c.class.result c.args.table.now c.len.ensures.legal (omega (arith, c.len.ensures.len, at.within)) at
    (omega (arith, le, c.class_end.ensures))
