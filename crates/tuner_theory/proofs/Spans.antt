-- The waste between two needs: spans that cross, and the two sums that give it.
use Rattle.std.proofs.Common.{◌≡◌, ℕ, ◌+◌, ◌-◌, ◌*◌, ◌^◌, ◌<◌, ◌≤◌, ◌&&◌, List, length, slice_index, cond, ltb, leb, arith, ap, inl, inr}
use Rattle.std.proofs.{Math.Nat.{mul-le-mul, mul-le-mul_left}, lemmas.Bool.{cond_both, cases_lt, lt-ltb, le-ltb, le-leb, lt-leb}}
use Rattle.std.proofs.lemmas.{Bool.Decides.{nat_tests}, List.{get_or_past}}
use Rattle.class_table.specs.{Sizes.{largest_counted, loss_of}, Steps.{IsStep}, declared.sizes.TheConstants.{GRANULE_BYTES, LARGEST_CLASS}}
use Rattle.tuner_theory.proofs.{Needs.{need_at-mono, place_is_class}, Rounding.{rounded-fits, step-positive}}
use Rattle.tuner_theory.{proofs.Sums.{sum_at_most, sum_balance, sum_bounded, sum_exchange, sum_none}, specs.Waste.{sum_below}}
use Rattle.tuner_theory.specs.Profiles.{AreCounts, greatest_count}
use Rattle.tuner_theory.specs.Spans.{bytes_up_to, counted_up_to, need_at, places, rounded_need, span_waste, waste_between}

-- ---- spans that cross

-- at one request, of need x, that loses u in the class c and v in the class d
cross-at_one : (x a b c d u v : ℕ) → a ≤ b → b ≤ c → c ≤ d → u ≤ v
    → cond (ltb a x && leb x c) u 0 + cond (ltb b x && leb x d) v 0
    ≤ cond (ltb a x && leb x d) v 0 + cond (ltb b x && leb x c) u 0
cross-at_one x a b c d u v ab bc cd uv = grind (arith, nat_tests)

pub loss-mono : (count n c d : ℕ) → c ≤ d → count * loss_of n c ≤ count * loss_of n d
loss-mono count n c d cd = mul-le-mul_left count (omega arith)

pub needs_cross : (counts : List ℕ) (step a b c d : ℕ) → a ≤ b → b ≤ c → c ≤ d
    → waste_between counts step a c + waste_between counts step b d ≤ waste_between counts step a d + waste_between counts step b c
needs_cross counts step a b c d ab bc cd = search (arith, sum_exchange, cross-at_one, loss-mono)

pub places_cross : (counts : List ℕ) (step a b c d : ℕ) → IsStep step → a ≤ b → b ≤ c → c ≤ d → d ≤ places counts step
    → span_waste counts step a c + span_waste counts step b d ≤ span_waste counts step a d + span_waste counts step b c
places_cross counts step a b c d is_step ab bc cd le =
    let up = need_at-mono counts step (step-positive step is_step) in
    needs_cross counts step _ _ _ _ (up a b ab (omega arith)) (up b c bc (omega arith)) (up c d cd le)

pub nothing_between : (counts : List ℕ) (step i : ℕ) → span_waste counts step i i ≡ 0
nothing_between counts step i = grind (arith, sum_none, nat_tests)

-- ---- the waste by two sums

-- one request, of need x: u is what it loses in the class high, and k what that class holds
sums-at_one : (x low high k count n u : ℕ) → low ≤ high → (x ≤ high → u + n ≡ k)
    → cond (ltb low x && leb x high) (count * u) 0 + cond (leb x high) (count * n) 0 + k * cond (leb x low) count 0
    ≡ k * cond (leb x high) count 0 + cond (leb x low) (count * n) 0
sums-at_one x low high k count n u le whole =
    elim (cases_lt high x) [
      | inl above ↦ grind (arith, nat_tests)
      | inr fits ↦ (let e : count * (u + n) ≡ count * k = ap (λ z. count * z) (whole fits) in
          elim (cases_lt low x) [
            | inl over ↦ simp (lt-ltb low x over, le-leb x high fits, lt-leb x low over) (omega (arith, e))
            | inr under ↦ simp (le-ltb low x under, le-leb x high fits, le-leb x low under) (omega arith)
          ])
    ]

-- the sums of counts and bytes up to low and up to high, with the waste w between: k is what the class high holds
solved : (w bytes_low bytes_high counted_low counted_high k : ℕ) → counted_low ≤ counted_high → bytes_low ≤ bytes_high
    → w + bytes_high + k * counted_low ≡ k * counted_high + bytes_low
    → (w ≡ k * (counted_high - counted_low) - (bytes_high - bytes_low)) × (bytes_high - bytes_low ≤ k * (counted_high - counted_low))
solved w bytes_low bytes_high counted_low counted_high k counted bytes balance = grind arith

-- no subtraction in the computation by two sums goes below 0
pub record HasNoUnderflow (high counted_low counted_high bytes_low bytes_high : ℕ) : Type 0 where
  pub counted : counted_low ≤ counted_high
  pub bytes : bytes_low ≤ bytes_high
  pub held : bytes_high - bytes_low ≤ GRANULE_BYTES * (high - 1) * (counted_high - counted_low)

module _ (counts : List ℕ) (step : ℕ) (pos : 0 < step) (low high : ℕ) (le : low ≤ high) where
  sums-balance : waste_between counts step low high + bytes_up_to counts step high + 16 * (high - 1) * counted_up_to counts step low
      ≡ 16 * (high - 1) * counted_up_to counts step high + bytes_up_to counts step low
  sums-balance =
      sum_balance _ _ _ _ _ (16 * (high - 1)) (length counts)
      (grind (arith, sums-at_one, rounded-fits))

  up_to-mono : (f : ℕ → ℕ)
      → sum_below (λ n. cond (leb (rounded_need step n) low) (f n) 0) (length counts) ≤ sum_below
      (λ n. cond (leb (rounded_need step n) high) (f n) 0) (length counts)
  up_to-mono f = grind (arith, sum_at_most, nat_tests)

  counted-mono : counted_up_to counts step low ≤ counted_up_to counts step high
  counted-mono = up_to-mono (slice_index counts)

  bytes-mono : bytes_up_to counts step low ≤ bytes_up_to counts step high
  bytes-mono = up_to-mono (λ n. slice_index counts n * n)

  pub sums_give_waste : waste_between counts step low high
      ≡ 16 * (high - 1) * (counted_up_to counts step high - counted_up_to counts step low)
      - (bytes_up_to counts step high - bytes_up_to counts step low)
  sums_give_waste = (solved _ _ _ _ _ (16 * (high - 1)) counted-mono bytes-mono sums-balance).0

  pub sums_ascend : HasNoUnderflow high (counted_up_to counts step low) (counted_up_to counts step high) (bytes_up_to counts step low)
      (bytes_up_to counts step high)
  sums_ascend = record {
    counted = counted-mono;
    bytes = bytes-mono;
    held = (solved _ _ _ _ _ (16 * (high - 1)) counted-mono bytes-mono sums-balance).1;
  }

-- ---- how large they are

pub count-small : (counts : List ℕ) (n : ℕ) → AreCounts counts → slice_index counts n ≤ greatest_count
count-small counts n are = grind (arith, cases_lt, get_or_past)

-- a sum of the requests up to a need is not above so many times the largest of its terms
up_to-bounded : (counts : List ℕ) (step high bound : ℕ) (f : ℕ → ℕ) → ((n : ℕ) → n < length counts → f n ≤ bound)
    → sum_below (λ n. cond (leb (rounded_need step n) high) (f n) 0) (length counts) ≤ length counts * bound
up_to-bounded counts step high bound f each = grind (arith, sum_bounded, cond_both)

pub sums_fit : (counts : List ℕ) (step high : ℕ) → AreCounts counts
    → (counted_up_to counts step high < 2 ^ 44) × (bytes_up_to counts step high < 2 ^ 58)
sums_fit counts step high are =
    let counted = up_to-bounded counts step high greatest_count (slice_index counts) (λ n lt. count-small counts n are) in
    let bytes = up_to-bounded counts step high (greatest_count * largest_counted) (λ n. slice_index counts n * n)
    (λ n lt. let within : n ≤ largest_counted = omega (arith, are.sizes) in mul-le-mul (count-small counts n are) within) in
    (omega (arith, counted, are.sizes), omega (arith, bytes, are.sizes))

pub spans_fit : (counts : List ℕ) (step i j : ℕ) → IsStep step → AreCounts counts → i < j → j ≤ places counts step →
    span_waste counts step i j < 2 ^ 58
spans_fit counts step i j is_step are lt le =
    let class = place_is_class counts step j is_step (omega (arith, are.sizes)) (omega arith) le in
    let each = sum_bounded _ (length counts) (greatest_count * largest_counted) (λ n within. at_one n class.0.1) in
    omega (arith, each, are.sizes)
  where
    at_one : (n : ℕ) → need_at counts step j ≤ LARGEST_CLASS
        → cond (ltb (need_at counts step i) (rounded_need step n) && leb (rounded_need step n) (need_at counts step j))
        (slice_index counts n * loss_of n (need_at counts step j)) 0
        ≤ greatest_count * largest_counted
    at_one n small =
        let loss : loss_of n (need_at counts step j) ≤ largest_counted = omega arith in
        cond_both _ (slice_index counts n * loss_of n (need_at counts step j)) 0 (λ v. v ≤ greatest_count * largest_counted)
        (λ e. mul-le-mul (count-small counts n are) loss) (λ e. omega arith)
