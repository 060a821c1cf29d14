-- The handle to a heap.
use mathlib.Core.Path.{refl}
use Rattle.handed_text.proofs.LawLemmas.Handles.{HandleOf}
use Rattle.mte_c.specs.contracts.heap.held_heap.HeldHeap as Held
use Rattle.mte_c.proofs.heap.held_heap.HeldHeap.TheLaws as held
use Rattle.mte_c.specs.contracts.heap.handle.Handle as Handle

abbrev pub K : HandleOf
K = record {
  held = Held.the_row;
  laws = held.the_row_laws;
  type = Handle.the_type;
  at = λ h. h.at;
  value = λ h. h.held;
  make = λ p o. record { at = p; held = o };
  at_made = λ p o. refl;
  value_made = λ p o. refl;
}
