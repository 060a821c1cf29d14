-- What the calls do to the heap of a handle.
use Rattle.std.specs.Prelude.{◌≡◌, ℕ, ◌+◌, ◌≤◌, ◌<◌, ◌^◌, ◌==◌, List, length, Option, Some, None, Result, Ok, Err, is_err, nat_lt, ◌||◌}
use Rattle.std.specs.Prelude.{if◌then◌else◌}
use Rattle.class_table.specs.{Faults.{table_of_classes}, declared.fault.TableError.{TableError}}
use Rattle.handed_text.specs.declared.ends.TheConstants.{DONE, REFUSED, OUT_OF_MEMORY, BAD_OPTION, MISUSE}
use Rattle.heap_theory.specs.{Calls.{calloc_step, free_step, malloc_step, realloc_step}, Config.{IsConfig, layout_for}}
use Rattle.heap_theory.specs.{State.{Heap, first_heap}, declared.config.Config.{Config}}
use Rattle.machine_theory.specs.{Access.{loaded}, Instructions.{addg}, declared.sizes.TheConstants.{FARTHEST_MOVE, LARGEST_TAG_STEP}}
use Rattle.tagged_heap.specs.{Frees.{frees_of_realloc}, HeapAtRest.{HeapAndFrees}}
use Rattle.mte_c.specs.Heap.Outcomes.{access_outcome, code_of_table, freed_outcome, granule_outcome, is_done, plain, with_stored}
use Rattle.mte_c.specs.{Heap.Outcomes.{with_value, pointer_outcome, resized_outcome}, declared.heap.outcome.Outcome.{Outcome}}
use Rattle.mte_c.specs.declared.heap.settings.Settings.{Settings}

abbrev pub config_of : Settings → Config
config_of settings = record { granules = settings.granules; seed = settings.seed; quarantine = settings.quarantine }

-- Why there is no heap over these classes: they are refused, or memory ran out.
abbrev pub IsUnmade : Result (List ℕ) TableError → Outcome → Type 0
IsUnmade (Err fault) outcome = outcome ≡ record (plain REFUSED) { code = code_of_table fault }
IsUnmade (Ok table) outcome = outcome ≡ plain OUT_OF_MEMORY

-- A new heap in a handle that has none; or none, and why. A handle that has a heap keeps it, and that is a misuse.
abbrev pub Makes : Config → List ℕ → Option HeapAndFrees → Option HeapAndFrees → Outcome → Type 0
Makes config classes (Some before) after outcome = (after ≡ Some before) × (outcome ≡ plain MISUSE)
Makes config classes None None outcome =
    ((IsConfig config → ⊥) → outcome ≡ plain BAD_OPTION) × (IsConfig config → IsUnmade (table_of_classes classes) outcome)
Makes config classes None (Some after) outcome =
    IsConfig config × (outcome ≡ plain DONE)
    × ((table : List ℕ) × (table_of_classes classes ≡ Ok table)
    × (after ≡ record { state = first_heap (layout_for config table) config.seed config.quarantine; frees = 0 }))

-- A call on a handle: this becomes of its heap. If it has none, that is a misuse.
abbrev pub Performs : Option HeapAndFrees → Option HeapAndFrees → Outcome → (HeapAndFrees → HeapAndFrees → Type 0) → Type 0
Performs None None outcome does = outcome ≡ plain MISUSE
Performs None (Some after) outcome does = ⊥
Performs (Some before) None outcome does = ⊥
Performs (Some before) (Some after) outcome does = does before after

-- ---- what becomes of the heap, with this outcome

abbrev pub IsMalloc : ℕ → Outcome → HeapAndFrees → HeapAndFrees → Type 0
IsMalloc n outcome before after =
    (outcome ≡ pointer_outcome (malloc_step before.state n).answer)
    × (after ≡ record before { state = (malloc_step before.state n).heap })

abbrev pub IsCalloc : ℕ → Outcome → HeapAndFrees → HeapAndFrees → Type 0
IsCalloc n outcome before after =
    (outcome ≡ pointer_outcome (calloc_step before.state n).answer)
    × (after ≡ record before { state = (calloc_step before.state n).heap })

-- The chunks that a free at an address frees: one, unless it is refused or the address is null.
abbrev pub frees_of_free : Heap → ℕ → ℕ
frees_of_free heap address = if (address == 0) || is_err (free_step heap address).answer then 0 else 1

-- After 2^48 frees nothing more is freed.
abbrev pub IsRealloc : ℕ → ℕ → Outcome → HeapAndFrees → HeapAndFrees → Type 0
IsRealloc address n outcome before after =
    (before.frees < 2 ^ 48 → (outcome ≡ resized_outcome (realloc_step before.state address n).answer)
    × (after.state ≡ (realloc_step before.state address n).heap)
    × (after.frees ≡ before.frees + frees_of_realloc before.state address n))
    × (2 ^ 48 ≤ before.frees → (outcome ≡ plain MISUSE) × (after ≡ before))

abbrev pub IsFree : ℕ → Outcome → HeapAndFrees → HeapAndFrees → Type 0
IsFree address outcome before after =
    (before.frees < 2 ^ 48 → (outcome ≡ freed_outcome (free_step before.state address).answer)
    × (after.state ≡ (free_step before.state address).heap)
    × (after.frees ≡ before.frees + frees_of_free before.state address))
    × (2 ^ 48 ≤ before.frees → (outcome ≡ plain MISUSE) × (after ≡ before))

-- A load that is done leaves what stands there in the room; another one leaves the room as it was.
abbrev pub IsLoad : ℕ → List ℕ → List ℕ → Outcome → HeapAndFrees → HeapAndFrees → Type 0
IsLoad address room room' outcome before after =
    (outcome ≡ access_outcome before.state address (length room))
    × (room' ≡ (if is_done outcome then loaded before.state.memory address (length room) else room))
    × (after ≡ before)

abbrev pub IsStore : ℕ → List ℕ → Outcome → HeapAndFrees → HeapAndFrees → Type 0
IsStore address bytes outcome before after =
    (outcome ≡ access_outcome before.state address (length bytes))
    × (after ≡ (if is_done outcome then with_stored before address bytes else before))

abbrev pub IsGranule : ℕ → Outcome → HeapAndFrees → HeapAndFrees → Type 0
IsGranule g outcome before after = (outcome ≡ granule_outcome before.state g) × (after ≡ before)

abbrev pub IsAddg : ℕ → ℕ → ℕ → Outcome → HeapAndFrees → HeapAndFrees → Type 0
IsAddg address u6 u4 outcome before after =
    (outcome ≡ (if nat_lt FARTHEST_MOVE u6 || nat_lt LARGEST_TAG_STEP u4 then plain BAD_OPTION else with_value (addg address u6 u4)))
    × (after ≡ before)
