use Rattle.std.proofs.Common.{◌≡◌, length}
use Rattle.class_table.specs.Layout.{first_slot}
use Rattle.machine_theory.specs.Memory.{IsMemory}
use Rattle.heap_theory.specs.State.{without_headers}
use Rattle.tagged_heap.specs.Representation.{AreFreshBelow}
use Rattle.tagged_heap.proofs.fresh_slots.write_fresh_headers.Given as goal

abbrev pub invariant-loop-number : goal.invariant-loop-number
invariant-loop-number l = record {
  headers : AreFreshBelow l.layout l.memory (first_slot l.layout l.number);
  seen : without_headers l.layout l.memory ≡ without_headers l.layout l.initial.memory;
  memory : IsMemory l.memory;
  long : length l.memory ≡ length l.initial.memory;
}
