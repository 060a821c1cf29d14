-- How many spans go from some places.
use Rattle.std.proofs.Common.{◌≡◌, ℕ, suc, ◌+◌, ◌-◌, ◌*◌, ◌^◌, ◌<◌, ◌≤◌, arith, ap}
use Rattle.class_table.specs.declared.sizes.TheConstants.{MOST_NEEDS}
use Rattle.potential_check.specs.Footprints.CallCounts.{span_count}

-- From place 0 of d + 1 places go d + 1 spans, and from the other places as many as from those of d places.
pub spans_of_places : (d : ℕ) → span_count (suc d) ≡ suc d + span_count d
spans_of_places d = let twice : suc d * (suc d + 1) ≡ d * (d + 1) + 2 * suc d = omega arith in omega (arith, twice)

pub no_spans : (d : ℕ) → span_count (d - d) ≡ 0
no_spans d = let none : d - d ≡ 0 = omega arith in ap span_count none

-- one place more
pub more_spans : (i d places : ℕ) → 0 < i → i ≤ d → places ≡ d → span_count (d - i) + (places - (i - 1)) ≡ span_count (d - (i - 1))
more_spans i d places some most same =
    let before : suc (d - i) ≡ d - (i - 1) = omega arith in
    omega (arith, same, spans_of_places (d - i), ap span_count before)

most_spans : (n : ℕ) → n ≤ MOST_NEEDS → span_count n ≤ 2 ^ 20
most_spans n le = let square : n * (n + 1) ≤ MOST_NEEDS * (MOST_NEEDS + 1) = grind arith in omega (arith, square)

-- so many calls fit
pub few_spans : (d i calls now : ℕ) → d ≤ MOST_NEEDS → now ≡ calls + span_count (d - i) → calls < 2 ^ 62 → now + (d - (i - 1)) < 2 ^ 63
few_spans d i calls now few is room = let most = most_spans (d - i) (omega arith) in omega (arith, most)
