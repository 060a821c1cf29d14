-- What is wrong with a list of classes, and the table that a list without faults is.
use Rattle.std.specs.Prelude.{◌≡◌, ℕ, ◌||◌, Bool, List, [], ◌∷◌, length, Option, Some, None, Result, Ok, Err, nat_lt, nat_le, if◌then◌else◌}
use Rattle.class_table.specs.declared.fault.{TableError.{TableError}, TableError.TheVariants.{TooMany, OutOfRange, NotAscending}}
use Rattle.class_table.specs.declared.{sizes.TheConstants.{SMALLEST_CLASS, LARGEST_CLASS}, table.TheConstants.{MOST_CLASSES}}

-- Whether a number is no class.
abbrev pub is_out_of_range : ℕ → Bool
is_out_of_range class = nat_lt class SMALLEST_CLASS || nat_lt LARGEST_CLASS class

-- The fault of the first faulty class, where each has to be in range and above the one before it.
unfoldable pub fault_from : ℕ → List ℕ → Option TableError
fault_from below [] = None
fault_from below (class ∷ classes) =
    if is_out_of_range class then Some OutOfRange
    else if nat_le class below then Some NotAscending
    else fault_from class classes

abbrev pub unless : Option TableError → List ℕ → Result (List ℕ) TableError
unless None classes = Ok classes
unless (Some fault) classes = Err fault

-- The table of these classes, or the first fault: too many of them before a faulty one.
abbrev pub table_of_classes : List ℕ → Result (List ℕ) TableError
table_of_classes classes = if nat_lt MOST_CLASSES (length classes) then Err TooMany else unless (fault_from 0 classes) classes

-- What a reader returned is what the definition says.
abbrev pub Gives : {A : Type 0} → Result A TableError → Result A TableError → Type 0
Gives (Ok x) read = read ≡ Ok x
Gives (Err fault) read = read ≡ Err fault
