-- Class tables, and the class of a size.
use Rattle.std.specs.{List.Sorted.{IsStrictlyIncreasing}, Option.{option_map_or}}
use Rattle.std.specs.Prelude.{◌≡◌, ℕ, ◌%◌, ◌≤◌, List, length, find, position, sum_by, Option, IsSome, IsTrue, All, Contains}
use Rattle.class_table.specs.{Sizes.{IsBlockSize, loss_of, serves}, declared.table.TheConstants.{MOST_CLASSES}}

-- Each class is a multiple of the step.
abbrev pub FitsStep : ℕ → List ℕ → Type 0
FitsStep step classes = All (λ class. class % step ≡ 0) classes

-- A legal table, for blocks that come in multiples of a step: at most 32 classes from 2 to 1024 granules, strictly ascending.
pub record IsLegalTable (step : ℕ) (classes : List ℕ) : Type 0 where
  pub few : length classes ≤ MOST_CLASSES
  pub in_range : All IsBlockSize classes
  pub ascending : IsStrictlyIncreasing classes
  pub fitting : FitsStep step classes

-- The class of a size: the first that serves it, which in a table is the least. None where no class serves it.
abbrev pub class_for : List ℕ → ℕ → Option ℕ
class_for classes n = find (serves n) classes

-- The same class by its number, counted from 0.
abbrev pub class_number_for : List ℕ → ℕ → Option ℕ
class_number_for classes n = position (serves n) classes

-- The bytes that a request of n bytes loses in its class; none where it has no class.
abbrev pub loss_of_size : List ℕ → ℕ → ℕ
loss_of_size classes n = option_map_or (loss_of n) (class_for classes n) 0

-- The bytes that requests of these sizes lose in their classes.
abbrev pub rounding_loss : List ℕ → List ℕ → ℕ
rounding_loss classes sizes = sum_by (loss_of_size classes) sizes

-- Each of these sizes has a class.
abbrev pub ServesSizes : List ℕ → List ℕ → Type 0
ServesSizes classes sizes = All (λ n. IsSome (class_for classes n)) sizes

-- The least of the classes that serve n.
pub record IsLeastServing (classes : List ℕ) (n class : ℕ) : Type 0 where
  pub listed : Contains classes class
  pub serving : IsTrue (serves n class)
  pub least : All (λ other. IsTrue (serves n other) → class ≤ other) classes
