-- How often the source is asked for a part of the places.
use Rattle.std.proofs.Common.{◌≡◌, ℕ, zero, suc, ◌+◌, ◌-◌, ◌*◌, ◌/◌, ◌^◌, ◌<◌, ◌≤◌, max, List, slice_index, arith}
use Rattle.std.specs.declared.ops.Range.{Range}
use Rattle.class_table.specs.declared.sizes.TheConstants.{MOST_NEEDS}
use Rattle.class_tuner.proofs.{Halves.{count-halves, half-digits}, Tried.{tried-none, tried-part}}
use Rattle.class_tuner.specs.{CallCounts.{AreCallsForPart, tried_within}, declared.halving.Window.{Window}}

-- a part without places
pub calls-none : (ends : List ℕ) (part : Range ℕ) (window : Window) (calls : ℕ) → part.end ≤ part.start
    → AreCallsForPart calls calls ends part window
calls-none ends part window calls none = grind (arith, tried-none)

-- a part with places: the calls for the middle one, and those for each half, whose ends stay
module _ (ends_left ends : List ℕ) (part : Range ℕ) (window : Window) (middle first end calls here left right : ℕ)
    (some : part.start < part.end) (is_middle : middle ≡ part.start + (part.end - part.start) / 2)
    (is_first : first ≡ max window.low (middle + 1)) (from : first ≤ end) (to : end ≤ window.high) (few : window.high ≤ MOST_NEEDS)
    (counted : here ≡ calls + (window.high - first) + 1) (is : slice_index ends middle ≡ end)
    (same : (i : ℕ) → part.start ≤ i → i < middle → slice_index ends_left i ≡ slice_index ends i)
    (of_left : AreCallsForPart here left ends_left (record { start = part.start; end = middle }) (record { low = window.low; high = end }))
    (of_right : AreCallsForPart left right ends (record { start = middle + 1; end = part.end })
    (record { low = end; high = window.high })) where
  left-few : (b : ℕ) → part.end - part.start < 2 ^ suc b → middle - part.start < 2 ^ b
  left-few b lt = let half = half-digits (part.end - part.start) b lt in omega arith

  right-few : (b : ℕ) → part.end - part.start < 2 ^ suc b → part.end - (middle + 1) < 2 ^ b
  right-few b lt = let half = half-digits (part.end - part.start) b lt in omega arith

  bounded : (b : ℕ) → part.end - part.start < 2 ^ b → right ≤ calls + (window.high - window.low) * b + (part.end - part.start)
  bounded zero lt = absurd (omega arith)
  bounded (suc b) lt =
      count-halves (part.end - part.start) (window.high - window.low) (end - window.low) (window.high - end) (middle - part.start)
      (part.end - (middle + 1)) b calls (window.high - first + 1) left right (omega arith) (omega arith) (omega arith)
      (omega (arith, of_left.bounded b (left-few b lt))) (of_right.bounded b (right-few b lt))

  exact : (b : ℕ) → part.end - part.start < 2 ^ b
      → right ≡ calls + tried_within (slice_index ends) b part.start part.end window.low window.high
  exact zero lt = absurd (omega arith)
  exact (suc b) lt =
      let at : part.start + (part.end - part.start) / 2 ≡ middle = omega arith in
      tried-part (slice_index ends_left) (slice_index ends) b part.start part.end window.low window.high first end calls here left right
      some (rw at is_first) (omega arith) (rw at is) (rw at same) counted (rw at (of_left.exact b (left-few b lt)))
      (rw at (of_right.exact b (right-few b lt)))

  pub calls-of_part : AreCallsForPart calls right ends part window
  calls-of_part = record { exact = exact; bounded = bounded; most = omega (arith, of_left.most, of_right.most) }
