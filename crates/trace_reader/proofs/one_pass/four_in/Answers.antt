use Rattle.std.proofs.Common.{ℕ, ◌+◌, ◌-◌, ◌%◌, ◌^◌, refl, arith, ◌≡◌, ◌*◌, ◌/◌, ◌<◌, ◌≤◌, [], ◌∷◌}
use Rattle.std.specs.{Fmt.{decimal}, Int.{to_le_bytes, w32}, Int.Bits.{bit_and, bit_or}}
use Rattle.trace_reader.proofs.{DigitsInFront.{longer}, ThreeDigits.{byte_apart, low_bits, spelled_three}}
use Rattle.trace_reader.proofs.one_pass.four_in.Goals as goal

-- Four digits in one word.

-- the number whose digits these are, the lowest byte first, and that byte one less
abbrev four_of : ℕ → ℕ
four_of x = ((x % 256 + 1) * 100 + x / 256 % 256 * 10 + x / 65536 % 256) * 10 + x / 16777216

-- the same number by one multiplication, which joins two digits in each half
abbrev four_joined : ℕ → ℕ
four_joined x = 1000 + x * 2561 % 2 ^ 32 / 256 % 256 * 100 + x * 2561 % 2 ^ 32 / 16777216

record AreFour (n x : ℕ) : Type 0 where
  pub spelled : to_le_bytes w32 n ≡ decimal (four_joined x)
  pub few : four_joined x ≤ 9999
  pub many : 1000 ≤ four_joined x

spelled_four : (h t o u : ℕ) → h < 9 → t < 10 → o < 10 → u < 10 →
    decimal (((h + 1) * 100 + t * 10 + o) * 10 + u) ≡ (49 + h) ∷ (48 + t) ∷ (48 + o) ∷ (48 + u) ∷ []
spelled_four h t o u h_in t_in o_in u_in = grind (arith, longer, spelled_three)

joined : (x h t o u : ℕ) → x ≡ h + 256 * (t + 256 * (o + 256 * u)) → h < 9 → t < 10 → o < 10 → u < 10 →
    four_joined x ≡ ((h + 1) * 100 + t * 10 + o) * 10 + u
joined x h t o u is h_in t_in o_in u_in = grind arith

are_four : (n x y : ℕ) → n < 2 ^ 32 → x < 2 ^ 32 → (x + 808464433) % 2 ^ 32 ≡ n → y ≡ (x + 1987475063) % 2 ^ 32
    → bit_and (bit_or x y) 2155905152 ≡ 0 → AreFour n x
are_four n x y n_in x_in is_x is_y clear =
    let a = low_bits x y 0 (byte_apart x y 2155905152 0 128 clear refl refl) in
    let b = low_bits x y 8 (byte_apart x y 2155905152 8 128 clear refl refl) in
    let c = low_bits x y 16 (byte_apart x y 2155905152 16 128 clear refl refl) in
    let d = low_bits x y 24 (byte_apart x y 2155905152 24 128 clear refl refl) in
    let more : y ≡ x + 1987475063 = omega (arith, is_y, d.0, x_in) in
    let h_in : x % 256 < 9 = omega (arith, more, a.0, a.1) in
    let t_in : x / 256 % 256 < 10 = omega (arith, more, h_in, b.0, b.1) in
    let o_in : x / 65536 % 256 < 10 = omega (arith, more, h_in, t_in, c.0, c.1) in
    let u_in : x / 16777216 < 10 = omega (arith, more, h_in, t_in, o_in, x_in, d.0, d.1) in
    let parts : x ≡ x % 256 + 256 * (x / 256 % 256 + 256 * (x / 65536 % 256 + 256 * (x / 16777216))) = omega arith in
    let whole : n ≡ (49 + x % 256) + 256 * ((48 + x / 256 % 256) + 256 * ((48 + x / 65536 % 256) + 256 * (48 + x / 16777216))) =
    omega (arith, is_x, parts, h_in, t_in, o_in, u_in) in
    let first : n % 256 ≡ 49 + x % 256 = omega (arith, whole, h_in) in
    let second : n / 256 % 256 ≡ 48 + x / 256 % 256 = omega (arith, whole, h_in, t_in) in
    let third : n / 65536 % 256 ≡ 48 + x / 65536 % 256 = omega (arith, whole, h_in, t_in, o_in) in
    let fourth : n / 16777216 % 256 ≡ 48 + x / 16777216 = omega (arith, whole, h_in, t_in, o_in, u_in) in
    let value : four_joined x ≡ four_of x = joined x _ _ _ _ parts h_in t_in o_in u_in in
    grind (arith, spelled_four)

-- the digits of the word, less those of 1000
abbrev digits : (c : goal.Else-digits-ne0) → ℕ
digits c = (c.args.word + (2 ^ 32 - 808464433)) % 2 ^ 32

four : (c : goal.Else-digits-ne0) → AreFour c.args.word (digits c)
four c =
    are_four c.args.word (digits c) ((digits c + 1987475063) % 2 ^ 32) (omega arith) (omega arith) (omega arith) refl c.if-digits-ne0.false

pub returns-clause-spelled : goal.returns-clause-spelled
returns-clause-spelled c = (four c).spelled

pub returns-clause-few : goal.returns-clause-few
returns-clause-few c = (four c).few

pub returns-clause-many : goal.returns-clause-many
returns-clause-many c = (four c).many
