-- A line of a name and numbers, as `classes 1 2 3` is one: how it is spelled, and which numbers are read off it.
use Rattle.std.specs.{Fmt.{decimal}, Option.{option_map}, Str.{bytes_eq}}
use Rattle.std.specs.Prelude.{ℕ, List, [], ◌∷◌, map, Option, Some, None, option_and_then, if◌then◌else◌}
use Rattle.line_text.specs.{Lines.{words, line_of}, Numbers.{number_of}}

-- The line of a name and numbers, without its newline.
abbrev pub named_line : List ℕ → List ℕ → List ℕ
named_line name numbers = line_of (name ∷ map decimal numbers)

-- The words of a line after this name; `None` if the first word is another.
abbrev pub words_after : List ℕ → List (List ℕ) → Option (List (List ℕ))
words_after name [] = None
words_after name (w ∷ ws) = if bytes_eq w name then Some ws else None

-- The numbers that words spell; none where a word spells none.
unfoldable pub numbers_of : List (List ℕ) → Option (List ℕ)
numbers_of [] = Some []
numbers_of (w ∷ ws) = option_and_then (λ n. option_map (λ ns. n ∷ ns) (numbers_of ws)) (number_of w)

-- The numbers of a line of this name; none where its first word is another, or a later one spells no number.
abbrev pub numbers_in : List ℕ → List ℕ → Option (List ℕ)
numbers_in name line = option_and_then numbers_of (words_after name (words line))
