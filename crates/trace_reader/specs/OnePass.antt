-- The words of a line that spells an event, as they are read one after the other.
use Rattle.std.specs.{List.{list_any}, Prelude.{◌≡◌, ℕ, List, ◌∷◌, Result, Ok, Bool}}
use Rattle.trace_reader.specs.{TraceLine.{is_empty_word}, declared.fault.TraceFault.{TraceFault}}

-- The first word spells this value, and the words after it are left.
pub record IsRead {A : Type 0} (reading : List ℕ → Result A TraceFault) (old new : List (List ℕ)) (value : A) : Type 0 where
  pub word : List ℕ
  pub words : old ≡ word ∷ new
  pub is : reading word ≡ Ok value

-- All words together spell this value, and none is empty.
pub record AreRead {A : Type 0} (reading : List (List ℕ) → Result A TraceFault) (words : List (List ℕ)) (value : A) : Type 0 where
  pub is : reading words ≡ Ok value
  pub full : list_any is_empty_word words ≡ Bool.false
