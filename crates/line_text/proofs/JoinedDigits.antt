-- The value of eight digits in one word, by three multiplications.
use Rattle.std.proofs.Common.{◌≡◌, ℕ, ◌+◌, ◌*◌, ◌/◌, ◌%◌, ◌^◌, ◌<◌, ◌≤◌, ◌∙◌, List, [], ◌∷◌, All, length, get_or, refl, ap, arith}
use Rattle.std.{proofs.lemmas.Nat.{and_block, and_mask}, specs.Int.Bits.{bit_and}, specs.Int.Digits.{number_from_digits}}
use Rattle.line_text.specs.Numbers.{word_of}

-- each two neighbours of these digits, as a number below 100
pairs : (a b c d e f g h : ℕ) → a ≤ 9 → b ≤ 9 → c ≤ 9 → d ≤ 9 → e ≤ 9 → f ≤ 9 → g ≤ 9 → h ≤ 9
    → (a + 256 * (b + 256 * (c + 256 * (d + 256 * (e + 256 * (f + 256 * (g + 256 * (h + 256 * 0)))))))) * 2561 % 2 ^ 64 / 256
    ≡ (((10 * g + h) * 2 ^ 16 + (10 * e + f + 256 * (10 * f + g))) * 2 ^ 16 + (10 * c + d + 256 * (10 * d + e))) * 2 ^ 16
    + (10 * a + b + 256 * (10 * b + c))
pairs a b c d e f g h sa sb sc sd se sf sg sh = omega arith

-- a block of two bytes with its lower byte kept
low_byte : (m q r s : ℕ) → r < 256 → s < 256 → bit_and (q * 2 ^ 16 + (r + 256 * s)) (m * 2 ^ 16 + 255) ≡ bit_and q m * 2 ^ 16 + r
low_byte m q r s small other =
    and_block 16 q m (r + 256 * s) 255 (omega arith) (omega arith)
    ∙ ap (λ n. bit_and q m * 2 ^ 16 + n) (and_mask (r + 256 * s) 8 ∙ omega arith)

low_bytes : (t u v w x y z : ℕ) → t < 256 → u < 256 → v < 256 → w < 256 → x < 256 → y < 256 → z < 256
    → bit_and (((z * 2 ^ 16 + (x + 256 * y)) * 2 ^ 16 + (v + 256 * w)) * 2 ^ 16 + (t + 256 * u)) 71777214294589695
    ≡ ((z * 2 ^ 16 + x) * 2 ^ 16 + v) * 2 ^ 16 + t
low_bytes t u v w x y z st su sv sw sx sy sz =
    let top : bit_and z 255 ≡ z = and_mask z 8 ∙ omega arith in
    low_byte ((255 * 2 ^ 16 + 255) * 2 ^ 16 + 255) _ t u st su
    ∙ ap (λ n. n * 2 ^ 16 + t) (low_byte (255 * 2 ^ 16 + 255) _ v w sv sw
    ∙ ap (λ n. n * 2 ^ 16 + v) (low_byte 255 z x y sx sy ∙ ap (λ n. n * 2 ^ 16 + x) top))

fours : (p q r s : ℕ) → p < 100 → q < 100 → r < 100 → s < 100
    → (((s * 2 ^ 16 + r) * 2 ^ 16 + q) * 2 ^ 16 + p) * 6553601 % 2 ^ 64 / 65536
    ≡ (100 * r + s) * 2 ^ 32 + (100 * p + q + 2 ^ 16 * (100 * q + r))
fours p q r s sp sq sr ss = omega arith

low_pairs : (x y z : ℕ) → x < 2 ^ 16 → y < 2 ^ 16 → z < 2 ^ 16 → bit_and (z * 2 ^ 32 + (x + 2 ^ 16 * y)) 281470681808895 ≡ z * 2 ^ 32 + x
low_pairs x y z sx sy sz =
    let low : bit_and (x + 2 ^ 16 * y) 65535 ≡ x = and_mask (x + 2 ^ 16 * y) 16 ∙ omega arith in
    let high : bit_and z 65535 ≡ z = and_mask z 16 ∙ omega arith in
    and_block 32 z 65535 (x + 2 ^ 16 * y) 65535 (omega arith) (omega arith) ∙ rw (low, high) refl

whole : (p q : ℕ) → p < 10000 → q < 10000 → (q * 2 ^ 32 + p) * 42949672960001 % 2 ^ 64 / 2 ^ 32 ≡ 10000 * p + q
whole p q sp sq = omega arith

abbrev pub joined : ℕ → ℕ
joined n =
    bit_and (bit_and (n * 2561 % 2 ^ 64 / 256) 71777214294589695 * 6553601 % 2 ^ 64 / 65536) 281470681808895
    * 42949672960001 % 2 ^ 64 / 2 ^ 32

joined_digits : (a b c d e f g h : ℕ) → a ≤ 9 → b ≤ 9 → c ≤ 9 → d ≤ 9 → e ≤ 9 → f ≤ 9 → g ≤ 9 → h ≤ 9
    → joined (a + 256 * (b + 256 * (c + 256 * (d + 256 * (e + 256 * (f + 256 * (g + 256 * (h + 256 * 0))))))))
    ≡ 10000 * (100 * (10 * a + b) + (10 * c + d)) + (100 * (10 * e + f) + (10 * g + h))
joined_digits a b c d e f g h sa sb sc sd se sf sg sh = grind (arith, pairs, low_bytes, fours, low_pairs, whole)

digit_at : (ds : List ℕ) (i : ℕ) → All (λ d. d < 10) ds → i < length ds → get_or ds i 0 ≤ 9
digit_at ds i small within = omega (arith, small i 0 within)

pub joined_is : (ds : List ℕ) → length ds ≡ 8 → All (λ d. d < 10) ds → joined (word_of ds) ≡ number_from_digits 10 ds
joined_is (a ∷ b ∷ c ∷ d ∷ e ∷ f ∷ g ∷ h ∷ []) eight small =
    let ds : List ℕ = a ∷ b ∷ c ∷ d ∷ e ∷ f ∷ g ∷ h ∷ [] in
    joined_digits a b c d e f g h (digit_at ds 0 small (omega arith)) (digit_at ds 1 small (omega arith)) (digit_at ds 2 small (omega arith))
    (digit_at ds 3 small (omega arith)) (digit_at ds 4 small (omega arith)) (digit_at ds 5 small (omega arith))
    (digit_at ds 6 small (omega arith)) (digit_at ds 7 small (omega arith))
    ∙ omega arith
joined_is ds eight small = absurd (omega (arith, eight))

-- ---- four digits

pairs_of_four : (a b c d : ℕ) → a ≤ 9 → b ≤ 9 → c ≤ 9 → d ≤ 9
    → (a + 256 * (b + 256 * (c + 256 * (d + 256 * 0)))) * 2561 % 2 ^ 32 / 256 ≡ (10 * c + d) * 2 ^ 16 + (10 * a + b + 256 * (10 * b + c))
pairs_of_four a b c d sa sb sc sd = omega arith

low_bytes_of_four : (t u v : ℕ) → t < 256 → u < 256 → v < 256 → bit_and (v * 2 ^ 16 + (t + 256 * u)) 16711935 ≡ v * 2 ^ 16 + t
low_bytes_of_four t u v st su sv =
    let top : bit_and v 255 ≡ v = and_mask v 8 ∙ omega arith in
    low_byte 255 v t u st su ∙ ap (λ n. n * 2 ^ 16 + t) top

whole_of_four : (p q : ℕ) → p < 100 → q < 100 → (q * 2 ^ 16 + p) * 6553601 % 2 ^ 32 / 2 ^ 16 ≡ 100 * p + q
whole_of_four p q sp sq = omega arith

pub joined_four : (ds : List ℕ) → length ds ≡ 4 → All (λ d. d < 10) ds
    → bit_and (word_of ds * 2561 % 2 ^ 32 / 256) 16711935 * 6553601 % 2 ^ 32 / 65536 ≡ number_from_digits 10 ds
joined_four (a ∷ b ∷ c ∷ d ∷ []) four small =
    let ds : List ℕ = a ∷ b ∷ c ∷ d ∷ [] in
    let sa = digit_at ds 0 small (omega arith) in
    let sb = digit_at ds 1 small (omega arith) in
    let sc = digit_at ds 2 small (omega arith) in
    let sd = digit_at ds 3 small (omega arith) in
    grind (arith, pairs_of_four, low_bytes_of_four, whole_of_four)
joined_four ds four small = absurd (omega (arith, four))
