use Rattle.std.proofs.Common.{◌≡◌, ◌+◌, ◌*◌, ◌-◌, ◌≤◌, length, slice_index}
use Rattle.class_table.specs.Layout.{share_of}
use Rattle.machine_theory.specs.Memory.{IsMemory}
use Rattle.heap_theory.specs.State.{without_headers}
use Rattle.tagged_heap.specs.Representation.{AreFreshBelow}
use Rattle.tagged_heap.proofs.fresh_slots.write_class_headers.Given as goal

abbrev pub invariant-loop-slot : goal.invariant-loop-slot
invariant-loop-slot l = record {
  from : l.first ≤ l.slot;
  start : l.next ≡ share_of l.layout * l.number + slice_index l.layout.classes l.number * (l.slot - l.first);
  headers : AreFreshBelow l.layout l.memory l.slot;
  seen : without_headers l.layout l.memory ≡ without_headers l.layout l.initial.memory;
  memory : IsMemory l.memory;
  long : length l.memory ≡ length l.initial.memory;
}
