-- The slots of a class: why a request gets none, which one is taken, and where a released one is put.
use Rattle.std.specs.Prelude.{◌≡◌, ℕ, ◌⊎◌, ◌+◌, ◌<◌, ◌≤◌, length, slice_index, slice_set, List, None, Some, Option}
use Rattle.machine_theory.specs.Memory.{Granule, IsMemory}
use Rattle.class_table.specs.{Layout.{Partition, IsClassOf, first_slot}, Sizes.{largest_counted}, Tables.{class_number_for}}
use Rattle.class_table.specs.declared.table.TheConstants.{MOST_CLASSES}
use Rattle.heap_theory.specs.declared.refusal.{NullCause.{NullCause}, NullCause.TheVariants.{Large, NoClass, Exhausted}}
use Rattle.class_lists.specs.Lists.{TakesFirst}

-- why a request of n bytes has no class
abbrev pub IsCauseFor : List ℕ → ℕ → NullCause → Type 0
IsCauseFor classes n Large = largest_counted < n
IsCauseFor classes n NoClass = (n ≤ largest_counted) × (class_number_for classes n ≡ None)
IsCauseFor classes n Exhausted = ⊥

-- ---- a slot is taken for a request

-- the class of this number has a counter and a front, which is the link to a slot of that class or 0
pub record HasClass (layout : Partition) (memory : List Granule) (fronts counters : List ℕ) (number : ℕ) : Type 0 where
  pub class : number < length layout.classes
  pub in_fronts : number < length fronts
  pub front : (s : ℕ) → slice_index fronts number ≡ s + 1 → IsClassOf layout s number
  pub in_counters : number < length counters
  pub counter_from : first_slot layout number ≤ slice_index counters number
  pub counter : slice_index counters number ≤ first_slot layout (number + 1)
  pub region : length memory ≡ layout.granules
  pub memory_is : IsMemory memory

-- The first slot of the class's list is taken off it, and no counter changes.
pub record TakesFront (layout : Partition) (memory new : List Granule) (fronts fronts' counters counters' : List ℕ)
    (number s : ℕ) : Type 0 where
  pub taken : TakesFirst layout memory new fronts fronts' number s
  pub counters_are : counters' ≡ counters

-- The list is empty, and the class's next fresh slot is taken.
pub record TakesFresh (layout : Partition) (memory new : List Granule) (fronts fronts' counters counters' : List ℕ)
    (number s : ℕ) : Type 0 where
  pub empty : slice_index fronts number ≡ 0
  pub counter : s ≡ slice_index counters number
  pub below : s < first_slot layout (number + 1)
  pub memory_stays : new ≡ memory
  pub fronts_are : fronts' ≡ fronts
  pub counters_are : counters' ≡ slice_set counters number (s + 1)

-- The list is empty, and the class has no fresh slot left.
pub record TakesNone (layout : Partition) (memory new : List Granule) (fronts fronts' counters counters' : List ℕ)
    (number : ℕ) : Type 0 where
  pub empty : slice_index fronts number ≡ 0
  pub counter : slice_index counters number ≡ first_slot layout (number + 1)
  pub memory_stays : new ≡ memory
  pub fronts_are : fronts' ≡ fronts
  pub counters_are : counters' ≡ counters

abbrev pub Takes : Partition → List Granule → List Granule → List ℕ → List ℕ → List ℕ → List ℕ → ℕ → Option ℕ → Type 0
Takes layout memory new fronts fronts' counters counters' number None =
    TakesNone layout memory new fronts fronts' counters counters' number
Takes layout memory new fronts fronts' counters counters' number (Some s) =
    TakesFront layout memory new fronts fronts' counters counters' number s
    ⊎ TakesFresh layout memory new fronts fronts' counters counters' number s

-- ---- a slot is put into its class's list

-- The class of this number has a front, and the number fits its field in a header.
pub record HasFront (fronts : List ℕ) (number : ℕ) : Type 0 where
  pub few : number < MOST_CLASSES
  pub listed : number < length fronts
