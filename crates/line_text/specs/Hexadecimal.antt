-- A byte as two digits to the base of 16, in small letters.
use Rattle.std.specs.{Char.{is_ascii_digit, digit_value, digit_char}, Int.{is_in_range}}
use Rattle.std.specs.Prelude.{ℕ, ◌+◌, ◌*◌, ◌/◌, ◌%◌, Bool, ◌&&◌, ◌||◌, List, [], ◌∷◌, Option, Some, None, if◌then◌else◌}

-- `0` to `9`, and 97 to 102, which are `a` to `f`.
abbrev pub is_hex_digit : ℕ → Bool
is_hex_digit c = is_ascii_digit c || is_in_range 97 102 c

-- The byte that a word spells; none where it spells none.
unfoldable pub hex_of : List ℕ → Option ℕ
hex_of (a ∷ b ∷ []) = if is_hex_digit a && is_hex_digit b then Some (16 * digit_value a + digit_value b) else None
hex_of word = None

-- How a byte is spelled.
abbrev pub hex : ℕ → List ℕ
hex n = digit_char (n / 16) ∷ digit_char (n % 16) ∷ []
