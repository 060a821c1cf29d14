-- A line of two numbers.
use Rattle.std.specs.{Option.{option_map}, Prelude.{ℕ, List, [], ◌∷◌, Option, None, option_and_then}}
use Rattle.line_text.specs.Numbers.{short_number_of}

-- The numbers of a line's words, where they are two and each spells a number of at most 19 digits.
abbrev pub short_pair_of : List (List ℕ) → Option (ℕ × ℕ)
short_pair_of (first ∷ second ∷ []) = option_and_then (λ m. option_map (λ n. (m, n)) (short_number_of second)) (short_number_of first)
short_pair_of other = None
