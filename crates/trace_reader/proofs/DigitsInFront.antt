-- The digits in front of a text are the spelling of their number.
use Rattle.std.proofs.Common.{◌≡◌, ℕ, ◌+◌, ◌*◌, ◌^◌, ◌<◌, ◌≤◌, List, [], ◌∷◌, ◌++◌, length, get_or, take, drop, refl, ap}
use Rattle.std.proofs.{Common.{subst, ◌∙◌, arith, add-one}, Math.Nat.{pow-le-pow_right}, Math.Seq.{split_at, take-append_seam}}
use Rattle.std.proofs.lemmas.{Fmt.{decimal_digit, decimal_step}, Grind.{pow_more}, List.{take_more}}
use Rattle.std.specs.Fmt.{decimal}

-- one digit is the spelling of its value
pub first_digit : (text : List ℕ) (d : ℕ) → 0 < length text → get_or text 0 0 ≡ 48 + d → d ≤ 9 → take 1 text ≡ decimal d
first_digit text d some is small = grind (arith, decimal_digit)

-- and a digit more is that of ten times the number and the digit
pub longer : (value d : ℕ) → 0 < value → d < 10 → value * 10 + d < 2 ^ 64 → decimal (value * 10 + d) ≡ decimal value ++ (48 + d) ∷ []
longer value d some small fits = grind (arith, decimal_step)

pub digit_more : (text : List ℕ) (place value d : ℕ) → place < length text → get_or text place 0 ≡ 48 + d → d ≤ 9 → 0 < value
    → value < 10 ^ 7 → take place text ≡ decimal value → take (place + 1) text ≡ decimal (value * 10 + d)
digit_more text place value d within is small some few spelled = grind (arith, take_more, longer)

-- a word is the first four bytes of a text
pub front_four : (text word rest : List ℕ) → text ≡ word ++ rest → length word ≡ 4 → take 4 text ≡ word
front_four text word rest is long =
    ap (take 4) is ∙ subst (λ (n : ℕ). take n (word ++ rest) ≡ word) long (take-append_seam word rest)

-- a number of so many digits is below that power of 10
pub few_more : (place value d : ℕ) → value < 10 ^ place → d < 10 → value * 10 + d < 10 ^ (place + 1)
few_more place value d few small = rw (pow_more 10 place) (omega arith)

pub eight_digits : (place value : ℕ) → place < 8 → value < 10 ^ place → value < 10 ^ 7
eight_digits place value lt few = omega (arith, pow-le-pow_right {n = 10} (omega arith) {i = place} {j = 7} (omega arith))

-- a text up to a byte, and after it
pub cut_at : (text : List ℕ) (place after end : ℕ) → place < length text → after ≡ place + 1 → get_or text place 0 ≡ end
    → text ≡ take place text ++ end ∷ drop after text
cut_at text place after end within next is = split_at text place 0 within ∙ rw (is, next, add-one place) refl

pub digits_end : (text : List ℕ) (place after value end : ℕ) → place < length text → after ≡ place + 1 → take place text ≡ decimal value
    → get_or text place 0 ≡ end → text ≡ decimal value ++ end ∷ drop after text
digits_end text place after value end within next spelled is = grind (arith, cut_at)
