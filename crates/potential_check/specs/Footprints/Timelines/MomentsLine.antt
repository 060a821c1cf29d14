-- The line that names the moments of a fit: `moments M1 M2 ..`, 1 to 1,024 numbers up to 1,000,000,000, strictly ascending.
use Rattle.std.specs.Option.{option_map}
use Rattle.std.specs.Prelude.{if◌then◌else◌, ℕ, suc, ◌&&◌, Bool, List, [], ◌∷◌, length, codes, Option, Some, None, is_some, option_and_then}
use Rattle.std.specs.Prelude.{nat_le}
use Rattle.class_table.specs.NamedLines.{named_line, words_after}
use Rattle.line_text.specs.{Lines.{words}, Numbers.{number_of}}
use Rattle.tuner_theory.specs.{Profiles.{greatest_count}, declared.most_snapshots.TheConstants.{MOST_SNAPSHOTS}}

abbrev pub moments_name : List ℕ
moments_name = codes "moments"

abbrev pub moments_line : List ℕ → List ℕ
moments_line numbers = named_line moments_name numbers

-- The first word of the line is its name.
abbrev pub names_moments : List ℕ → Bool
names_moments line = is_some (words_after moments_name (words line))

-- A number that is not below the next one, nor too great.
abbrev pub moment_of : ℕ → Option ℕ → Option ℕ
moment_of next None = None
moment_of next (Some n) = if nat_le next n && nat_le n greatest_count then Some n else None

-- The numbers of words.
unfoldable pub moments_from : ℕ → List (List ℕ) → Option (List ℕ)
moments_from next [] = Some []
moments_from next (w ∷ ws) =
    option_and_then (λ n. option_map (λ ns. n ∷ ns) (moments_from (suc n) ws)) (moment_of next (number_of w))

abbrev pub moments_of_words : List (List ℕ) → Option (List ℕ)
moments_of_words ws = if nat_le 1 (length ws) && nat_le (length ws) MOST_SNAPSHOTS then moments_from 0 ws else None

-- The numbers that a line names.
abbrev pub moments_of : List ℕ → Option (List ℕ)
moments_of line = option_and_then moments_of_words (words_after moments_name (words line))
