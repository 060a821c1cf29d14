-- Bytes in one word: the byte at which their digits end.
use Rattle.std.proofs.Common.{◌≡◌, ℕ, zero, suc, ◌+◌, ◌*◌, ◌-◌, ◌/◌, ◌%◌, ◌^◌, ◌<◌, ◌∙◌, Bool, true, false, List, [], ◌∷◌, All, length}
use Rattle.std.proofs.{Common.{get_or, refl, sym, ap, arith}, Math.Pow.{split}, lemmas.Bool.Decides.{nat_tests}}
use Rattle.std.proofs.lemmas.{Nat.{and_block, or_lt, or_mod, or_shr, le_or_l, le_or_r, and_le_r}, List.Elements.{All-from_get_or}}
use Rattle.std.{proofs.lemmas.Nat.Bits.{and_high, bit_at-suc, bit_at-trailing_zeros}, specs.Char.{is_ascii_digit}}
use Rattle.std.specs.{Int.{bit_at, from_le_bytes, w64}, Int.Bits.{bit_and, bit_or}, Int.Count.{count_trailing_zeros}, List.{prefix_len}}
use Rattle.line_text.{proofs.DigitWords.{are_digits, clear_byte, each, past}, proofs.Digits.{digit_is}, specs.Numbers.{word_of}}
use Rattle.line_text.proofs.LeadingDigits.{all_digits_lead}

-- a number of so many bytes further up
abbrev pub upper : ℕ → ℕ → ℕ
upper zero r = r
upper (suc c) r = 256 * upper c r

-- the highest bits of one byte of two words, and those of the bytes after it
record AreHigh (x y m z : ℕ) : Type 0 where
  pub now : bit_and (bit_or (x % 256) (y % 256)) 128 ≡ z % 256
  pub after : bit_and (bit_or (x / 256) (y / 256)) m ≡ z / 256

are_high : (x y m z : ℕ) → bit_and (bit_or x y) (128 + 256 * m) ≡ z → AreHigh x y m z
are_high x y m z is =
    let o = bit_or x y in
    let cut : o / 256 * 2 ^ 8 + o % 256 ≡ o = split o 8 in
    let mask : m * 2 ^ 8 + 128 ≡ 128 + 256 * m = omega arith in
    let blocks : bit_and (o / 256 * 2 ^ 8 + o % 256) (m * 2 ^ 8 + 128) ≡ bit_and (o / 256) m * 2 ^ 8 + bit_and (o % 256) 128 =
    and_block 8 (o / 256) m (o % 256) 128 (omega arith) (omega arith) in
    let whole : bit_and (o / 256) m * 2 ^ 8 + bit_and (o % 256) 128 ≡ z = rw (cut, mask, is) at (sym blocks) in
    let low : bit_and (o % 256) 128 ≡ o % 256 / 2 ^ 7 % 2 ^ 1 * 2 ^ 7 = and_high (o % 256) 1 7 in
    record {
      now = ap (λ n. bit_and n 128) (sym (or_mod x y 8)) ∙ omega (arith, whole, low);
      after = ap (λ n. bit_and n m) (sym (or_shr x y 8)) ∙ omega (arith, whole, low);
    }

-- a number whose lowest set bit is in its byte c
record IsUpper (c o : ℕ) : Type 0 where
  pub r : ℕ
  pub is : o ≡ upper c r
  pub some : 0 < r % 256

some_bit : (o k : ℕ) → k < 8 → bit_at o k ≡ 1 → 0 < o % 256
some_bit o zero few one = omega (arith, one)
some_bit o (suc zero) few one = omega (arith, one)
some_bit o (suc (suc zero)) few one = omega (arith, one)
some_bit o (suc (suc (suc zero))) few one = omega (arith, one)
some_bit o (suc (suc (suc (suc zero)))) few one = omega (arith, one)
some_bit o (suc (suc (suc (suc (suc zero))))) few one = omega (arith, one)
some_bit o (suc (suc (suc (suc (suc (suc zero)))))) few one = omega (arith, one)
some_bit o (suc (suc (suc (suc (suc (suc (suc zero))))))) few one = omega (arith, one)
some_bit o k few one = absurd (omega (arith, few))

no_bit : (o : ℕ) → ((i : ℕ) → i < 8 → bit_at o i ≡ 0) → o ≡ 256 * (o / 256)
no_bit o zeros = grind arith

-- eight bits further up
up_eight : (o i : ℕ) → bit_at o (8 + i) ≡ bit_at (o / 256) i
up_eight o i =
    ap (bit_at o) (omega arith) ∙ bit_at-suc o (7 + i) ∙ ap (bit_at (o / 2)) (omega arith) ∙ bit_at-suc (o / 2) (6 + i)
    ∙ ap (bit_at (o / 2 / 2)) (omega arith) ∙ bit_at-suc (o / 2 / 2) (5 + i)
    ∙ ap (bit_at (o / 2 / 2 / 2)) (omega arith) ∙ bit_at-suc (o / 2 / 2 / 2) (4 + i)
    ∙ ap (bit_at (o / 2 / 2 / 2 / 2)) (omega arith) ∙ bit_at-suc (o / 2 / 2 / 2 / 2) (3 + i)
    ∙ ap (bit_at (o / 2 / 2 / 2 / 2 / 2)) (omega arith) ∙ bit_at-suc (o / 2 / 2 / 2 / 2 / 2) (2 + i)
    ∙ ap (bit_at (o / 2 / 2 / 2 / 2 / 2 / 2)) (omega arith) ∙ bit_at-suc (o / 2 / 2 / 2 / 2 / 2 / 2) (1 + i)
    ∙ ap (bit_at (o / 2 / 2 / 2 / 2 / 2 / 2 / 2)) (omega arith) ∙ bit_at-suc (o / 2 / 2 / 2 / 2 / 2 / 2 / 2) i
    ∙ ap (λ n. bit_at n i) (omega arith)

is_upper : (c o k : ℕ) → k < 8 → bit_at o (8 * c + k) ≡ 1 → ((i : ℕ) → i < 8 * c + k → bit_at o i ≡ 0) → IsUpper c o
is_upper zero o k few one zeros = record { r = o; is = refl; some = some_bit o k few (ap (bit_at o) (omega arith) ∙ one) }
is_upper (suc c) o k few one zeros =
    let low = no_bit o (λ i lt. zeros i (omega (arith, lt))) in
    let rest =
    is_upper c (o / 256) k few (sym (up_eight o (8 * c + k)) ∙ ap (bit_at o) (omega arith) ∙ one)
    (λ i lt. sym (up_eight o i) ∙ zeros (8 + i) (omega (arith, lt))) in
    record { r = rest.r; is = low ∙ ap (λ n. 256 * n) rest.is; some = rest.some }

-- nothing is above no byte
none_upper : (c r : ℕ) → 0 ≡ upper c r → r ≡ 0
none_upper zero r is = sym is
none_upper (suc c) r is = none_upper c r (omega (arith, is))

zero_and : (n : ℕ) → 0 ≡ bit_and n 0
zero_and n = omega (arith, and_le_r n 0)

-- The word less `0` at each byte, and that word with 118 more at each: the lowest byte of which one has its highest bit set is the first
-- that is no digit.
digits_end : (bs : List ℕ) (x y u v c r : ℕ) → All (λ b. b < 256) bs → x + each 48 bs ≡ word_of bs + past u bs
    → y + past v bs ≡ x + each 118 bs → bit_and (bit_or x y) (each 128 bs) ≡ upper c r → 0 < r % 256 → prefix_len is_ascii_digit bs ≡ c
digits_end [] x y u v c r small is_x is_y is some = absurd (omega (arith, some, none_upper c r (zero_and (bit_or x y) ∙ is)))
digits_end (b ∷ bs) x y u v zero r small is_x is_y is some =
    let high = are_high x y (each 128 bs) r is in
    let byte : b < 256 = small 0 0 (omega arith) in
    other (is_ascii_digit b) refl
  where
    other : (digit : Bool) → is_ascii_digit b ≡ digit → prefix_len is_ascii_digit (b ∷ bs) ≡ 0
    other false e = rw e refl
    other true e =
        let high = are_high x y (each 128 bs) r is in
        let d = digit_is b e in
        let a : x % 256 < 2 ^ 7 = omega (arith, is_x, d.1, d.2) in
        let s : y % 256 < 2 ^ 7 = omega (arith, is_x, is_y, d.1, d.2) in
        let o = bit_or (x % 256) (y % 256) in
        let below : o < 2 ^ 7 = or_lt 7 (x % 256) (y % 256) a s in
        let clear : bit_and o 128 ≡ o / 2 ^ 7 % 2 ^ 1 * 2 ^ 7 = and_high o 1 7 in
        absurd (omega (arith, some, high.now, below, clear))
digits_end (b ∷ bs) x y u v (suc c) r small is_x is_y is some =
    let high = are_high x y (each 128 bs) (256 * upper c r) is in
    let byte : b < 256 = small 0 0 (omega arith) in
    let o = bit_or (x % 256) (y % 256) in
    let now : bit_and o 128 ≡ 0 = omega (arith, high.now) in
    let below : o < 128 = clear_byte o (or_lt 8 (x % 256) (y % 256) (omega arith) (omega arith)) now in
    let a : x % 256 < 128 = omega (arith, below, le_or_l (x % 256) (y % 256)) in
    let s : y % 256 < 128 = omega (arith, below, le_or_r (x % 256) (y % 256)) in
    let is_byte : b ≡ x % 256 + 48 = omega (arith, is_x, a, byte) in
    let more : y % 256 ≡ x % 256 + 118 = omega (arith, is_y, a) in
    let few : x % 256 < 10 = omega (arith, more, s) in
    let digit : is_ascii_digit b ≡ true = grind (arith, nat_tests, is_byte, few) in
    let after : bit_and (bit_or (x / 256) (y / 256)) (each 128 bs) ≡ upper c r = high.after ∙ omega arith in
    let rest : prefix_len is_ascii_digit bs ≡ c =
    digits_end bs (x / 256) (y / 256) u v c r (λ k e lt. small (suc k) e (omega (arith, lt))) (omega (arith, is_x, is_byte))
    (omega (arith, is_y, more)) after some in
    rw digit (omega (arith, rest))

-- a word, and that word with 118 more at each byte
abbrev both : ℕ → ℕ
both x = bit_or x ((x + 8536140394893047414) % 2 ^ 64)

pub digit_end : (bytes : List ℕ) (n z : ℕ) → length bytes ≡ 8 → ((i : ℕ) → get_or bytes i 0 < 256) → n ≡ from_le_bytes w64 bytes
    → z ≡ bit_and (both ((n + 14974415777481871312) % 2 ^ 64)) 9259542123273814144
    → (z ≡ 0 → ⊥) → count_trailing_zeros 64 z / 8 ≡ prefix_len is_ascii_digit bytes
digit_end bytes n z eight small is mask some = go bytes eight small is
  where
    below : z < 2 ^ 64
    below = omega (arith, mask, and_le_r (both ((n + 14974415777481871312) % 2 ^ 64)) 9259542123273814144)

    place : ℕ
    place = count_trailing_zeros 64 z

    lowest : (place < 64) × (bit_at z place ≡ 1) × ((i : ℕ) → i < place → bit_at z i ≡ 0)
    lowest = bit_at-trailing_zeros w64 z (omega (arith, some)) below

    cut : 8 * (place / 8) + place % 8 ≡ place
    cut = omega arith

    up : IsUpper (place / 8) z
    up = is_upper (place / 8) z (place % 8) (omega arith) (ap (bit_at z) cut ∙ lowest.1) (λ i lt. lowest.2 i (omega (arith, lt, cut)))

    go : (bs : List ℕ) → length bs ≡ 8 → ((i : ℕ) → get_or bs i 0 < 256) → n ≡ from_le_bytes w64 bs → place / 8 ≡ prefix_len is_ascii_digit bs
    go (a ∷ b ∷ c ∷ d ∷ e ∷ f ∷ g ∷ h ∷ []) eight small is =
        let bs : List ℕ = a ∷ b ∷ c ∷ d ∷ e ∷ f ∷ g ∷ h ∷ [] in
        let x = (n + 14974415777481871312) % 2 ^ 64 in
        let fits : n < 2 ^ 64 = omega (arith, is, small 0, small 1, small 2, small 3, small 4, small 5, small 6, small 7) in
        sym (digits_end bs x ((x + 8536140394893047414) % 2 ^ 64) (1 - (n + 14974415777481871312) / 2 ^ 64) ((x + 8536140394893047414) / 2 ^ 64)
        (place / 8) up.r (All-from_get_or (λ b. b < 256) bs 0 (λ i _. small i)) (omega (arith, is, fits)) (omega arith) (sym mask ∙ up.is) up.some)
    go bs eight small is = absurd (omega (arith, eight))

-- Where neither has the highest bit of a byte set, all eight are digits.
pub all_eight : (bytes : List ℕ) (n : ℕ) → length bytes ≡ 8 → ((i : ℕ) → get_or bytes i 0 < 256) → n ≡ from_le_bytes w64 bytes
    → bit_and (both ((n + 14974415777481871312) % 2 ^ 64)) 9259542123273814144 ≡ 0 → 8 ≡ prefix_len is_ascii_digit bytes
all_eight bytes n eight small is clear = go bytes eight small is
  where
    go : (bs : List ℕ) → length bs ≡ 8 → ((i : ℕ) → get_or bs i 0 < 256) → n ≡ from_le_bytes w64 bs → 8 ≡ prefix_len is_ascii_digit bs
    go (a ∷ b ∷ c ∷ d ∷ e ∷ f ∷ g ∷ h ∷ []) eight small is =
        let bs : List ℕ = a ∷ b ∷ c ∷ d ∷ e ∷ f ∷ g ∷ h ∷ [] in
        let x = (n + 14974415777481871312) % 2 ^ 64 in
        let fits : n < 2 ^ 64 = omega (arith, is, small 0, small 1, small 2, small 3, small 4, small 5, small 6, small 7) in
        let found =
        are_digits bs x ((x + 8536140394893047414) % 2 ^ 64) (1 - (n + 14974415777481871312) / 2 ^ 64) ((x + 8536140394893047414) / 2 ^ 64)
        (All-from_get_or (λ b. b < 256) bs 0 (λ i _. small i)) (omega (arith, is, fits)) (omega arith) clear in
        sym (all_digits_lead bs found.digits)
    go bs eight small is = absurd (omega (arith, eight))
