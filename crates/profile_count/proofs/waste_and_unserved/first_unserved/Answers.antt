use Rattle.std.proofs.{Common.{◌≡◌, ℕ, ◌+◌, ◌-◌, ◌≤◌, ◌∙◌, List, length, None, sym, arith}}
use Rattle.profile_count.proofs.Unserved.{none_after, not_counted_up_to, skips_served, unserved_after, unserved_here}
use Rattle.profile_count.specs.Counts.{IsNextCounted, unserved_of}
use Rattle.profile_count.proofs.waste_and_unserved.first_unserved.Goals as goal

up_to_next : (counts classes : List ℕ) (from next : ℕ) → unserved_of counts classes ≡ unserved_after counts classes from
    → IsNextCounted counts from next → next ≤ length counts → unserved_of counts classes ≡ unserved_after counts classes next
up_to_next counts classes from next served is within =
    let there : from + (next - from) ≡ next = omega (arith, is.order) in
    grind (arith, not_counted_up_to)

none_left : (counts classes : List ℕ) (from next : ℕ) → unserved_of counts classes ≡ unserved_after counts classes from
    → IsNextCounted counts from next → length counts ≤ next → unserved_of counts classes ≡ None
none_left counts classes from next served is past = grind (arith, none_after, up_to_next)

pub returns-then-n-counts : goal.returns-then-n-counts
returns-then-n-counts c =
    let counts = c.args.counts.now in
    let table = c.args.table.now in
    sym (up_to_next counts table c.table_end.result c.next_counted-n.result (skips_served counts table c.table_end.result c.table_end.ensures.served)
    c.next_counted-n.ensures (omega arith)
    ∙ unserved_here counts table c.next_counted-n.result (omega arith) (c.next_counted-n.ensures.counted (omega arith))
    (c.table_end.ensures.others c.next_counted-n.result (omega (arith, c.next_counted-n.ensures.order))))

pub returns-else-n-counts : goal.returns-else-n-counts
returns-else-n-counts c =
    let counts = c.args.counts.now in
    let table = c.args.table.now in
    sym (search (arith, none_left, skips_served))
