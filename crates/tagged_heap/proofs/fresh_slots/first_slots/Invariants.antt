use Rattle.std.{proofs.Common.{◌≡◌, map}, specs.List.{range_with_len}}
use Rattle.class_table.specs.Layout.{first_slot}
use Rattle.tagged_heap.proofs.fresh_slots.first_slots.Given as goal

abbrev pub invariant-loop-number : goal.invariant-loop-number
invariant-loop-number l = l.counters.items ≡ map (first_slot l.layout) (range_with_len 0 l.number)
