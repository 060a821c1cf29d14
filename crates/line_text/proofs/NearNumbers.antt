-- The first word of a line, where its digits end within the line's first bytes.
use Rattle.std.proofs.Common.{◌≡◌, ◌≢◌, ℕ, ◌+◌, ◌<◌, ◌≤◌, ◌∙◌, List, [], ◌∷◌, ◌++◌, length, length-drop, drop, take, sym, ap, arith, true}
use Rattle.std.proofs.{Common.{false, eqb, Option, Some, None, get_or, leb, refl, inl, inr, ◌⊎◌}, lemmas.Bool.{cases_Bool, le-leb, lt-leb}}
use Rattle.std.proofs.lemmas.{Bool.Decides.{nat_tests}, Grind.{common_steps}, List.Folds.{prefix_len-append}}
use Rattle.std.{proofs.lemmas.List.{drop-drop, get_or-drop, get_or-take, length-take-le, take-append-drop}, specs.Char.{is_ascii_digit}}
use Rattle.std.{proofs.lemmas.List.Sums.{prefix_len-le-length}, specs.List.{list_all, prefix_len}, specs.Str.Parse.{digits_value}}
use Rattle.line_text.proofs.{Cuts.{line_is_its_words}, LeadingDigits.{a_number, are_digits, no_number, reaches}}
use Rattle.line_text.proofs.FirstNumbers.{first_digits, first_number_of, no_first_number, no_word_end, not_digits, word_before}
use Rattle.line_text.specs.{Lines.{line_of, words}, Numbers.{near_number_of, number_of, short_number_of, leading_digits}}

-- so many digits are in front of the line's first bytes, and another byte ends them there
pub record IsNear (line : List ℕ) (size : ℕ) : Type 0 where
  pub long : 19 ≤ length line
  pub digits : size ≡ prefix_len is_ascii_digit (take 19 line)
  pub ended : size < 19

-- the line begins with no more digits
near_prefix : (line : List ℕ) (size : ℕ) → IsNear line size → prefix_len is_ascii_digit line ≡ size
near_prefix line size near =
    let whole =
    ap (prefix_len is_ascii_digit) (sym (take-append-drop 19 line)) ∙ prefix_len-append is_ascii_digit (take 19 line) (drop 19 line) in
    let bytes : length (take 19 line) ≡ 19 = length-take-le 19 line near.long in
    grind (arith, nat_tests)

near_digits_are : (line : List ℕ) (size : ℕ) → IsNear line size → leading_digits line ≡ take size line
near_digits_are line size near = ap (λ n. take n line) (near_prefix line size near)

-- after them the line goes on with the byte that ends them
record GoesOn (line : List ℕ) (size : ℕ) : Type 0 where
  pub cut : line ≡ leading_digits line ++ drop size line
  pub some : 0 < length (drop size line)
  pub byte : get_or (drop size line) 0 0 ≡ get_or (take 19 line) size 0

goes_on : (line : List ℕ) (size : ℕ) → IsNear line size → GoesOn line size
goes_on line size near =
    let here : size + 0 ≡ size = omega arith in record {
      cut = sym (take-append-drop size line) ∙ ap (λ ds. ds ++ drop size line) (sym (near_digits_are line size near));
      some = omega (arith, near.long, near.ended, length-drop size line);
      byte = get_or-drop size line 0 0 ∙ ap (λ n. get_or line n 0) here ∙ sym (get_or-take 19 line size 0 near.ended);
    }

-- where a space ends them, they are the first word,
pub near_word : (line : List ℕ) (size : ℕ) → IsNear line size → get_or (take 19 line) size 0 ≡ 32 →
    words line ≡ take size line ∷ words (drop (size + 1) line)
near_word line size near space =
    let on = goes_on line size near in
    let digits = near_digits_are line size near in
    word_before line (drop size line) on.cut on.some (on.byte ∙ space) ∙ ap (λ ds. ds ∷ words (drop 1 (drop size line))) digits
    ∙ ap (λ rest. take size line ∷ words rest) (drop-drop 1 size line)

-- and unless a needless 0 is in front, it spells their value.
pub near_number : (line : List ℕ) (size : ℕ) → IsNear line size → 0 < size → (size ≡ 1) ⊎ (eqb (get_or (take 19 line) 0 0) 48 ≡ false)
    → short_number_of (take size line) ≡ Some (digits_value 10 (take size line))
near_number line size near some first = grind (arith, near_digits_are, are_digits, get_or-take, a_number, near_prefix)

-- ---- the word that is read, or left

few_digits : (word : List ℕ) (found : Option ℕ) → length word ≤ 18 → short_number_of word ≡ found → number_of word ≡ found
few_digits word found few e = let short : leb (length word) 19 ≡ true = le-leb (length word) 19 (omega arith) in rw short at e

pub near_some : (line : List ℕ) (size : ℕ) → IsNear line size → get_or (take 19 line) size 0 ≡ 32 → 0 < size
    → (size ≡ 1) ⊎ (eqb (get_or (take 19 line) 0 0) 48 ≡ false) → near_number_of (words line) ≡ Some (digits_value 10 (take size line))
near_some line size near space some first =
    let parts = near_word line size near space in
    let whole : line_of (take size line ∷ words (drop (size + 1) line)) ≡ line = ap line_of (sym parts) ∙ line_is_its_words line in
    grind (arith, length-take-le, le-leb, few_digits, near_number)

short_line : (line : List ℕ) (ws : List (List ℕ)) → words line ≡ ws → length line < 19 → near_number_of ws ≡ None
short_line line [] parts short = refl
short_line line (word ∷ ws) parts short =
    let whole : line_of (word ∷ ws) ≡ line = ap line_of (sym parts) ∙ line_is_its_words line in
    grind (arith, lt-leb)

pub near_short : (line : List ℕ) → length line < 19 → near_number_of (words line) ≡ None
near_short line short = short_line line (words line) refl short

-- a first word that is no number, or one of more digits
left_word : (word : List ℕ) (ws : List (List ℕ)) → (length word ≤ 18 → number_of word ≡ None) → near_number_of (word ∷ ws) ≡ None
left_word word ws none = grind arith

pub near_none : (line : List ℕ) → first_number_of line ≡ None → near_number_of (words line) ≡ None
near_none line none = grind arith

pub near_many : (line : List ℕ) → 19 ≤ length line → list_all is_ascii_digit (take 19 line) ≡ true → near_number_of (words line) ≡ None
near_many line long all = go (words line) refl
  where
    digits : 19 ≤ length (leading_digits line)
    digits =
        omega (
          arith,
          reaches line 19 long all,
          length-take-le (prefix_len is_ascii_digit line) line (prefix_len-le-length is_ascii_digit line),
        )

    go : (ws : List (List ℕ)) → words line ≡ ws → near_number_of ws ≡ None
    go [] parts = refl
    go (word ∷ ws) parts = left_word word ws (λ few. elim (cases_Bool (list_all is_ascii_digit word)) [
      | inl digit ↦ absurd (omega (arith, ap length (first_digits line word ws parts digit), digits))
      | inr other ↦ few_digits word None few (not_digits word other)
    ])

-- where another byte than a space ends the digits, or they are no number
pub near_other : (line : List ℕ) (size : ℕ) → IsNear line size → get_or (take 19 line) size 0 ≢ 32 → near_number_of (words line) ≡ None
near_other line size near other =
    let on = goes_on line size near in
    near_none line (no_word_end line (drop size line) on.cut on.some (λ space. other (sym on.byte ∙ space)))

pub near_no_number : (line : List ℕ) (size : ℕ) → IsNear line size → (size ≡ 0) ⊎ ((get_or (take 19 line) 0 0 ≡ 48) × (1 < size))
    → near_number_of (words line) ≡ None
near_no_number line size near why = grind (arith, common_steps, get_or-take, near_none, no_first_number, no_number, near_prefix)
