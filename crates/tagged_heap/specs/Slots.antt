-- What is told of a slot.
use Rattle.std.specs.Prelude.{ℕ}
use Rattle.heap_theory.specs.{Header.{code_of, size_of, standing_in}, State.{Heap, last_tag, slot_in, state_at}}
use Rattle.tagged_heap.specs.declared.slots.SlotFacts.{SlotFacts}

abbrev pub facts_of : Heap → ℕ → SlotFacts
facts_of heap s = record {
  number = s;
  start = (slot_in heap s).start;
  granules = (slot_in heap s).class;
  state = code_of (standing_in heap (state_at heap s));
  size = size_of (state_at heap s);
  tag = last_tag (state_at heap s);
}
