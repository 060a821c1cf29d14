-- How a number is spelled, and how a word is read as one.
use Rattle.std.specs.{Char.{is_ascii_digit}, List.{list_all, prefix_len, take_while}, Str.Parse.{digits_value}}
use Rattle.std.specs.Prelude.{◌≡◌, ◌<◌, ◌≤◌, ℕ, ◌+◌, ◌*◌, ◌^◌, Bool, true, false, ◌&&◌, ◌||◌, not, List, [], ◌∷◌, length, take, slice_index}
use Rattle.std.specs.Prelude.{Option, Some, None, ◌==◌, nat_lt, nat_le, if◌then◌else◌}
use Rattle.line_text.specs.{Lines.{line_of}, declared.number.Number.{Number}}
use Rattle.line_text.specs.declared.number.Number.TheVariants.{NoNumber, TooLarge, Value}

abbrev pub is_no_digit : ℕ → Bool
is_no_digit byte = not (is_ascii_digit byte)

-- Digits, without a leading 0: 48 is `0`.
abbrev pub is_numeral : List ℕ → Bool
is_numeral word = list_all is_ascii_digit word && not (length word == 0) && (length word == 1 || not (slice_index word 0 == 48))

-- The number that a word spells, however long; none where it spells none.
unfoldable pub number_of : List ℕ → Option ℕ
number_of word = if is_numeral word then Some (digits_value 10 word) else None

-- What a word spells, as far as 64 bits hold it.
abbrev pub classified : Option ℕ → Number
classified None = NoNumber
classified (Some n) = if nat_lt n (2 ^ 64) then Value n else TooLarge

-- The number that a word of at most 19 digits spells; none where it spells none, or is longer.
abbrev pub short_number_of : List ℕ → Option ℕ
short_number_of word = if nat_le (length word) 19 then number_of word else None

-- The digits at the start of a text, up to its first byte that is no digit.
abbrev pub leading_digits : List ℕ → List ℕ
leading_digits text = take_while is_ascii_digit text

-- The number that they spell, where they are at most 19.
abbrev pub leading_number_of : List ℕ → Option ℕ
leading_number_of text = short_number_of (leading_digits text)

-- The number that the first of these words spells, where it has at most 18 digits and is in a line of at least 19 bytes.
abbrev pub near_number_of : List (List ℕ) → Option ℕ
near_number_of [] = None
near_number_of (word ∷ ws) = if nat_le 19 (length (line_of (word ∷ ws))) && nat_le (length word) 18 then number_of word else None

-- The value and the number of the digits at the start of a text; `None` exactly if they are more than 19.
abbrev pub AreLeading : Option (ℕ × ℕ) → List ℕ → Type 0
AreLeading None text = 19 < prefix_len is_ascii_digit text
AreLeading (Some found) text =
    (found.0 ≡ digits_value 10 (leading_digits text)) × (found.1 ≡ prefix_len is_ascii_digit text) × (found.1 ≤ 19)

-- The number of the digits at the start of 19 bytes, and their value; `None` exactly if all are digits.
abbrev pub AreNear : Option (ℕ × ℕ) → List ℕ → Type 0
AreNear None bytes = list_all is_ascii_digit bytes ≡ Bool.true
AreNear (Some found) bytes =
    (found.0 ≡ prefix_len is_ascii_digit bytes) × (found.0 < 19) × (found.1 ≡ digits_value 10 (take found.0 bytes))

-- Bytes as one number, the first of them the lowest.
abbrev pub word_of : List ℕ → ℕ
word_of [] = 0
word_of (b ∷ bs) = b + 256 * word_of bs

-- Bytes with the digit 0, 48, in the place of a sign in front of them.
abbrev pub unsigned : Bool → List ℕ → List ℕ
unsigned false bytes = bytes
unsigned true [] = []
unsigned true (b ∷ bs) = 48 ∷ bs
