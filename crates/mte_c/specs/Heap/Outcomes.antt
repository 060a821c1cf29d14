-- What C is told of each answer of the heap.
use Rattle.std.specs.Prelude.{ℕ, List, ◌&&◌, ◌||◌, Bool, ◌==◌, nat_lt, if◌then◌else◌, length, Option, Some, None, Result, Ok, Err}
use Rattle.class_table.specs.{Layout.{slot_over}, declared.fault.TableError.{TableError}}
use Rattle.class_table.specs.declared.fault.TableError.TheVariants.{BadLine, TooMany, OutOfRange, NotAscending}
use Rattle.handed_text.specs.declared.ends.TheConstants.{DONE, NO, BAD_OPTION, MISUSE}
use Rattle.heap_theory.specs.{GranuleKinds.{kind_number, place_kind}, State.{Heap, slot_in}, declared.refusal.FreeError.{FreeError}}
use Rattle.heap_theory.specs.declared.refusal.{FreeError.TheVariants.{Misplaced, NotLive, WrongTag}, NullCause.{NullCause}}
use Rattle.heap_theory.specs.declared.refusal.{NullCause.TheVariants.{Large, NoClass, Exhausted}, ReallocError.{ReallocError}}
use Rattle.heap_theory.specs.declared.refusal.ReallocError.TheVariants.{Null, Refused}
use Rattle.machine_theory.specs.{Access.{access_fault, is_mapped, stored}, Address.{logical_tag}, Memory.{tag_at}}
use Rattle.machine_theory.specs.declared.fault.{Fault.{Fault}, Fault.TheVariants.{Unmapped, Alignment, TagCheck}}
use Rattle.machine_theory.specs.declared.sizes.TheConstants.{LONGEST_ACCESS}
use Rattle.tagged_heap.specs.HeapAtRest.{HeapAndFrees}
use Rattle.mte_c.specs.declared.heap.outcome.Outcome.{Outcome}

-- An end and no answer.
abbrev pub plain : ℕ → Outcome
plain end = record { end = end; code = 0; value = 0; granule = 0; memory_tag = 0; pointer_tag = 0; granule_kind = 0 }

abbrev pub with_value : ℕ → Outcome
with_value value = record (plain DONE) { value = value }

abbrev pub refusal : ℕ → Outcome
refusal code = record (plain NO) { code = code }

-- The codes, as the texts of these answers begin with them.
abbrev pub code_of_table : TableError → ℕ
code_of_table TooMany = 20
code_of_table OutOfRange = 21
code_of_table NotAscending = 22
code_of_table BadLine = 23

abbrev pub code_of_cause : NullCause → ℕ
code_of_cause Large = 60
code_of_cause NoClass = 61
code_of_cause Exhausted = 62

abbrev pub code_of_error : FreeError → ℕ
code_of_error Misplaced = 63
code_of_error NotLive = 64
code_of_error WrongTag = 65

abbrev pub pointer_outcome : Result ℕ NullCause → Outcome
pointer_outcome (Ok address) = with_value address
pointer_outcome (Err cause) = refusal (code_of_cause cause)

abbrev pub resized_outcome : Result ℕ ReallocError → Outcome
resized_outcome (Ok address) = with_value address
resized_outcome (Err (Null cause)) = refusal (code_of_cause cause)
resized_outcome (Err (Refused error)) = refusal (code_of_error error)

abbrev pub freed_outcome : Result (Unit {0}) FreeError → Outcome
freed_outcome (Ok done) = plain DONE
freed_outcome (Err error) = refusal (code_of_error error)

abbrev pub fault_outcome : Heap → Fault → Outcome
fault_outcome heap Unmapped = refusal 50
fault_outcome heap Alignment = refusal 51
fault_outcome heap (TagCheck granule memory_tag pointer_tag) = record (refusal 52) {
  granule = granule;
  memory_tag = memory_tag;
  pointer_tag = pointer_tag;
  granule_kind = kind_number (place_kind heap granule);
}

abbrev pub with_slot : Heap → Option ℕ → Outcome → Outcome
with_slot heap None outcome = outcome
with_slot heap (Some s) outcome = record outcome { value = s; granule = (slot_in heap s).start }

-- What granule g is: its kind and its tag, and of the slot over it the number and the first granule.
unfoldable pub granule_outcome : Heap → ℕ → Outcome
granule_outcome heap g =
    if nat_lt g (length heap.memory) then with_slot heap (slot_over heap.layout g) (record (plain DONE) {
      memory_tag = tag_at heap.memory g;
      granule_kind = kind_number (place_kind heap g);
    })
    else plain BAD_OPTION

abbrev pub checked_outcome : Heap → Option Fault → Outcome
checked_outcome heap None = plain DONE
checked_outcome heap (Some fault) = fault_outcome heap fault

-- The outcome of an access to `len` bytes: 1 to 64 of them, or it is out of range. No chunk has tag 0, and headers have it; so an access by
-- it to the region is a misuse. Another one is checked.
unfoldable pub access_outcome : Heap → ℕ → ℕ → Outcome
access_outcome heap address len =
    if nat_lt len 1 || nat_lt LONGEST_ACCESS len then plain BAD_OPTION
    else if (logical_tag address == 0) && is_mapped (length heap.memory) address len then plain MISUSE
    else checked_outcome heap (access_fault heap.memory address len)

abbrev pub is_done : Outcome → Bool
is_done outcome = outcome.end == DONE

-- A heap with these bytes stored from an address on.
abbrev pub with_stored : HeapAndFrees → ℕ → List ℕ → HeapAndFrees
with_stored heap address bytes = record heap { state = record heap.state { memory = stored heap.state.memory address bytes } }
