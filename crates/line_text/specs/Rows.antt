-- A line of numbers.
use Rattle.std.specs.Prelude.{◌≡◌, ℕ, ◌-◌, ◌^◌, ◌<◌, min, List, [], ◌∷◌, ◌++◌, All, length, Option, None, Some}
use Rattle.line_text.specs.{Lines.{IsLine, IsWord, line_of, words}, Numbers.{number_of}}

-- Words that spell these numbers, of which a larger one stands as the largest that 32 bits hold.
abbrev pub SpellNumbers : List (List ℕ) → List ℕ → Type 0
SpellNumbers [] [] = Unit {0}
SpellNumbers (word ∷ ws) (x ∷ xs) = ((n : ℕ) × (number_of word ≡ Some n) × (x ≡ min n (2 ^ 32 - 1))) × SpellNumbers ws xs
SpellNumbers ws xs = ⊥

-- The words of a row: a number, and then these.
abbrev pub AreRowWords : List (List ℕ) → ℕ → List ℕ → Type 0
AreRowWords [] first numbers = ⊥
AreRowWords (word ∷ ws) first numbers = (number_of word ≡ Some first) × SpellNumbers ws numbers

-- There is a line, and it is such a row.
abbrev pub IsRow : Option (List ℕ) → ℕ → List ℕ → Type 0
IsRow None first numbers = ⊥
IsRow (Some line) first numbers = AreRowWords (words line) first numbers

-- The numbers that were read of the first line, and the rest of the text.
pub record IsRowSoFar (text rest : List ℕ) (first : ℕ) (numbers : List ℕ) : Type 0 where
  pub word : List ℕ
  pub ws : List (List ℕ)
  pub text_is : text ≡ line_of (word ∷ ws) ++ rest
  pub are_words : All IsWord (word ∷ ws)
  pub are_lines : All IsLine (word ∷ ws)
  pub some : 0 < length word
  pub first_is : number_of word ≡ Some first
  pub numbers_are : SpellNumbers ws numbers
