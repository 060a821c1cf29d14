-- What a caller is told of a slot: its facts, if there is one; else nothing.
use Rattle.std.specs.Prelude.{◌≡◌, ℕ, Bool, true, false, Option, Some, None}
use Rattle.heap_theory.specs.State.{Heap}
use Rattle.tagged_heap.specs.{Slots.{facts_of}, declared.slots.SlotFacts.{SlotFacts}}

abbrev pub TellsSlot : Heap → Option ℕ → SlotFacts → SlotFacts → Bool → Type 0
TellsSlot heap None facts facts' found = (found ≡ false) × (facts' ≡ facts)
TellsSlot heap (Some s) facts facts' found = (found ≡ true) × (facts' ≡ facts_of heap s)
