-- How a number with a sign is spelled, and how a word is read as one.
use Rattle.std.specs.Option.{option_map}
use Rattle.std.specs.Prelude.{◌==◌, nat_lt, if◌then◌else◌, ℤ, pos, negsuc, ℕ, zero, suc, ◌^◌, Bool, List, [], ◌∷◌, Option, Some, None}
use Rattle.std.specs.Prelude.{option_and_then}
use Rattle.line_text.specs.{Numbers.{number_of}, declared.signed_number.SignedNumber.{SignedNumber}}
use Rattle.line_text.specs.declared.signed_number.SignedNumber.TheVariants.{NoNumber, TooLarge, Value}

-- The number after a `-`, if it is not 0: `negsuc n` is -(n + 1).
abbrev pub negated : ℕ → Option ℤ
negated zero = None
negated (suc n) = Some (negsuc n)

-- The number that a word spells, however long: a number, or `-`, which is 45, and a number other than 0. None where it
-- spells neither.
unfoldable pub signed_of : List ℕ → Option ℤ
signed_of [] = None
signed_of (b ∷ word) = if b == 45 then option_and_then negated (number_of word) else option_map pos (number_of (b ∷ word))

-- From -2^63 to 2^63 - 1.
abbrev pub fits_i64 : ℤ → Bool
fits_i64 (pos n) = nat_lt n (2 ^ 63)
fits_i64 (negsuc n) = nat_lt n (2 ^ 63)

-- What a word spells, as far as 64 bits hold it with its sign.
abbrev pub signed_classified : Option ℤ → SignedNumber
signed_classified None = NoNumber
signed_classified (Some z) = if fits_i64 z then Value z else TooLarge
