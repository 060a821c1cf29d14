-- The need at a place and the waste of a span, by the sums that are kept.
use Rattle.std.proofs.{Common.{◌≡◌, ℕ, zero, suc, ◌+◌, ◌-◌, ◌*◌, ◌^◌, ◌<◌, ◌≤◌, List, get_or, arith, sym}, Math.Nat.{mul-le-mul}}
use Rattle.std.proofs.lemmas.List.{get_or_default}
use Rattle.class_table.specs.{Sizes.{IsBlockSize, largest_counted}, declared.sizes.TheConstants.{GRANULE_BYTES}}
use Rattle.tuner_theory.proofs.LawLemmas.{HasNoUnderflow, place_is_class, places_ascend, step-positive, sums_ascend, sums_fit}
use Rattle.tuner_theory.{proofs.LawLemmas.{sums_give_waste}, specs.Spans.{bytes_up_to, counted_up_to, need_at, places, span_waste}}
use Rattle.potential_check.specs.Certificates.Spanned.{HoldsSums, IsSpanned, Spanned}

-- the need that is kept for a place is a class
pub need-class : (counts : List ℕ) (step place need : ℕ) (needs counted bytes : List ℕ) → HoldsSums counts step needs counted bytes
    → 0 < place → place ≤ places counts step → need ≡ get_or needs (place - 1) need → IsBlockSize need
need-class counts step zero need needs counted bytes held some le e = absurd (omega arith)
need-class counts step (suc i) need needs counted bytes held some le e =
    let front : suc i - 1 ≡ i = omega arith in
    let at = place_is_class counts step (suc i) held.is_step (omega (arith, held.are_counts.sizes)) some le in
    grind (arith, get_or_default)

-- the waste by the need at the span's end and the sums up to its two ends, each step of it a number of 64 bits
pub record HasSpanSums (waste need counted_low counted_high bytes_low bytes_high : ℕ) : Type 0 where
  pub no_underflow : HasNoUnderflow need counted_low counted_high bytes_low bytes_high
  pub fits : GRANULE_BYTES * (need - 1) * (counted_high - counted_low) < 2 ^ 64
  pub waste_is : GRANULE_BYTES * (need - 1) * (counted_high - counted_low) - (bytes_high - bytes_low) ≡ waste

pub span_sums : (s : Spanned) → IsSpanned s → (i j : ℕ) → i < j → j ≤ places s.counts s.step
    → HasSpanSums (span_waste s.counts s.step i j) (need_at s.counts s.step j)
    (counted_up_to s.counts s.step (need_at s.counts s.step i)) (counted_up_to s.counts s.step (need_at s.counts s.step j))
    (bytes_up_to s.counts s.step (need_at s.counts s.step i)) (bytes_up_to s.counts s.step (need_at s.counts s.step j))
span_sums s spanned i j lt le =
    let low = need_at s.counts s.step i in
    let high = need_at s.counts s.step j in
    let pos = step-positive s.step spanned.is_step in
    let up : low ≤ high = omega (arith, places_ascend s.counts s.step pos i j lt le) in
    let small = (place_is_class s.counts s.step j spanned.is_step (omega (arith, spanned.are_counts.sizes)) (omega arith) le).0.1 in
    let payload : GRANULE_BYTES * (high - 1) ≤ largest_counted = omega (arith, small) in
    let requests : counted_up_to s.counts s.step high - counted_up_to s.counts s.step low ≤ 2 ^ 44 =
    omega (arith, (sums_fit s.counts s.step high spanned.are_counts).0) in
    record {
      no_underflow = sums_ascend s.counts s.step pos low high up;
      fits = omega (arith, mul-le-mul payload requests);
      waste_is = sym (sums_give_waste s.counts s.step pos low high up);
    }

-- the payload at a place, for the requests up to any place
pub payload_fits : (s : Spanned) → IsSpanned s → (place upto : ℕ) → 0 < place → place ≤ places s.counts s.step
    → GRANULE_BYTES * (need_at s.counts s.step place - 1) * counted_up_to s.counts s.step (need_at s.counts s.step upto) < 2 ^ 58
payload_fits s spanned place upto some le = grind (arith, place_is_class, sums_fit, mul-le-mul)

-- a waste without differences of products
pub record HasBalance (waste payload counted_low counted_high bytes_low bytes_high : ℕ) : Type 0 where
  pub bytes : bytes_low ≤ bytes_high
  pub bytes_fit : bytes_high < 2 ^ 58
  pub balance : payload * counted_high ≡ waste + (payload * counted_low + (bytes_high - bytes_low))

balanced : (waste payload counted_low counted_high bytes : ℕ) → counted_low ≤ counted_high
    → bytes ≤ payload * (counted_high - counted_low) → payload * (counted_high - counted_low) - bytes ≡ waste
    → payload * counted_high ≡ waste + (payload * counted_low + bytes)
balanced waste payload counted_low counted_high bytes counted held is = grind arith

pub span_balance : (s : Spanned) → IsSpanned s → (i j : ℕ) → i < j → j ≤ places s.counts s.step
    → HasBalance (span_waste s.counts s.step i j) (GRANULE_BYTES * (need_at s.counts s.step j - 1))
    (counted_up_to s.counts s.step (need_at s.counts s.step i)) (counted_up_to s.counts s.step (need_at s.counts s.step j))
    (bytes_up_to s.counts s.step (need_at s.counts s.step i)) (bytes_up_to s.counts s.step (need_at s.counts s.step j))
span_balance s spanned i j lt le = let sums = span_sums s spanned i j lt le in grind (arith, sums_fit, balanced)
