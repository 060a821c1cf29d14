-- How often a source is asked for costs: for a part of a row, for a row and for all rows.
use Rattle.std.specs.{Int.Digits.{digits_of}, declared.ops.Range.{Range}}
use Rattle.std.specs.Prelude.{◌≡◌, ℕ, zero, suc, ◌+◌, ◌-◌, ◌*◌, ◌/◌, ◌^◌, ◌<◌, ◌≤◌, max, nat_lt, if◌then◌else◌, List, length, slice_index}
use Rattle.class_tuner.specs.declared.halving.Window.{Window}
use Rattle.class_table.specs.declared.sizes.TheConstants.{MOST_NEEDS}

-- How many binary digits a number has.
abbrev pub bits : ℕ → ℕ
bits n = length (digits_of 2 n)

-- The most calls of a source of d places for this number of rows.
abbrev pub most_calls : ℕ → ℕ → ℕ
most_calls limit d = limit * ((d - 1) * bits d + d)

-- How many of the ends from low to high are after place i.
abbrev pub ends_after : ℕ → ℕ → ℕ → ℕ
ends_after i low high = suc high - max low (suc i)

-- How many ends are tried for the places from start to below stop, whose least ends are from low to high, in so many halvings. For the
-- middle place all of these ends that are after it are tried. Its own least end is then the last one for the places left of it, and the
-- first one for the places right of it.
unfoldable pub tried_within : (ℕ → ℕ) → ℕ → ℕ → ℕ → ℕ → ℕ → ℕ
tried_within end zero start stop low high = 0
tried_within end (suc halvings) start stop low high =
    let middle = start + (stop - start) / 2 in
    let left = tried_within end halvings start middle low (end middle) in
    let right = tried_within end halvings (suc middle) stop (end middle) high in
    if nat_lt start stop then ends_after middle low high + left + right else 0

-- How many ends are tried for a later row of d places with these least ends.
abbrev pub tried_in_row : (ℕ → ℕ) → ℕ → ℕ
tried_in_row end d = tried_within end (bits d) 0 d 1 d

-- How often a source of d places is asked for so many rows with these least ends: once for each place of row 1, and once for
-- each end that is tried for a later row.
unfoldable pub calls_of : (ℕ → ℕ → ℕ) → ℕ → ℕ → ℕ
calls_of ends d zero = 0
calls_of ends d (suc zero) = d
calls_of ends d (suc (suc k)) = calls_of ends d (suc k) + tried_in_row (ends (suc (suc k))) d

-- A source's count of calls before and after a part is filled. If b halvings leave no place, the count rises by the number of ends that
-- these halvings try. That is at most the width of the window for each halving, and one for each place. It rises by at most 1,023 for each
-- place, since a place has no more ends than there are places.
pub record AreCallsForPart (old new : ℕ) (ends : List ℕ) (part : Range ℕ) (window : Window) : Type 0 where
  pub exact : (b : ℕ) → part.end - part.start < 2 ^ b
      → new ≡ old + tried_within (slice_index ends) b part.start part.end window.low window.high
  pub bounded : (b : ℕ) → part.end - part.start < 2 ^ b → new ≤ old + (window.high - window.low) * b + (part.end - part.start)
  pub most : new ≤ old + MOST_NEEDS * (part.end - part.start)
