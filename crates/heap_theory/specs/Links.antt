-- Lists that are linked through the headers of their slots. A link is the number of a slot plus one, or 0 where a list ends.
use Rattle.std.specs.Prelude.{◌≡◌, ℕ, suc, List, [], ◌∷◌, slice_index_or}

-- From the link `front` on, following the links of slots, these slots are met in order, and then the links end.
abbrev pub IsLinked : (ℕ → ℕ) → ℕ → List ℕ → Type 0
IsLinked next front [] = front ≡ 0
IsLinked next front (s ∷ rest) = (front ≡ suc s) × IsLinked next (next s) rest

-- the link to the last slot of a list
abbrev pub last_link : List ℕ → ℕ
last_link [] = 0
last_link (s ∷ []) = suc s
last_link (s ∷ r ∷ rest) = last_link (r ∷ rest)

-- the list of the class of this number
abbrev pub list_of : List (List ℕ) → ℕ → List ℕ
list_of lists number = slice_index_or lists number []
