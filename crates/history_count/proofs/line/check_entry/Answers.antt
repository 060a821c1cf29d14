use Rattle.std.proofs.Common.{length, Some, refl, sym, ◌∙◌}
use Rattle.history_count.proofs.Entries.{entry-filled, entry-not_ascending, entry-out_of_range}
use Rattle.history_count.proofs.line.check_entry.Goals as goal

pub returns-then-not-is_in_order : goal.returns-then-not-is_in_order
returns-then-not-is_in_order c = λ numbers is.
    entry-not_ascending (Some numbers) (length numbers) c.args.next c.args.subject c.args.counts.now
    (record { numbers = numbers; read = refl; size = refl; is = is }) (sym c.is_in_order.ensures ∙ c.if-not-is_in_order.true)

pub returns-then-not-are_in_range : goal.returns-then-not-are_in_range
returns-then-not-are_in_range c = λ numbers is.
    entry-out_of_range (Some numbers) (length numbers) c.args.next c.args.subject c.args.counts.now
    (record { numbers = numbers; read = refl; size = refl; is = is }) (sym c.is_in_order.ensures ∙ c.if-not-is_in_order.false)
    (sym c.are_in_range.ensures ∙ c.if-not-are_in_range.true)

pub returns : goal.returns
returns c = λ numbers is.
    entry-filled (Some numbers) (length numbers) c.args.next c.args.subject c.args.counts.now
    (record { numbers = numbers; read = refl; size = refl; is = is }) (sym c.is_in_order.ensures ∙ c.if-not-is_in_order.false)
    (sym c.are_in_range.ensures ∙ c.if-not-are_in_range.false)
