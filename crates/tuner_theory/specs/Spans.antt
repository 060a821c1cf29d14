-- The distinct needs of a profile, and the waste of a span of them: of serving neighbouring needs by the greatest one.
use Rattle.std.specs.Prelude.{◌≤◌, ◌<◌, ℕ, zero, suc, ◌+◌, ◌*◌, ◌&&◌, nat_lt, nat_le, ◌==◌, if◌then◌else◌, List, [], ◌∷◌, length}
use Rattle.std.specs.Prelude.{slice_index}
use Rattle.class_table.specs.{Sizes.{need_of, loss_of}, Steps.{round_up}}
use Rattle.tuner_theory.specs.Waste.{sum_below}

-- The granules that a request of n bytes needs, rounded up to the step.
abbrev pub rounded_need : ℕ → ℕ → ℕ
rounded_need step n = round_up (need_of n) step

-- ---- places

-- The list with a need after it, unless the need is in it.
abbrev pub with_need : List ℕ → ℕ → List ℕ
with_need [] need = need ∷ []
with_need (x ∷ xs) need = if x == need then x ∷ xs else x ∷ with_need xs need

-- The distinct rounded needs of the counted sizes below n.
abbrev pub needs_below : List ℕ → ℕ → ℕ → List ℕ
needs_below counts step zero = []
needs_below counts step (suc n) =
    if nat_lt 0 (slice_index counts n) then with_need (needs_below counts step n) (rounded_need step n) else needs_below counts step n

-- The distinct rounded needs of all counted sizes.
abbrev pub distinct_needs : List ℕ → ℕ → List ℕ
distinct_needs counts step = needs_below counts step (length counts)

-- How many places there are: one for each distinct need, counted from 1. Place 0 is below them all.
abbrev pub places : List ℕ → ℕ → ℕ
places counts step = length (distinct_needs counts step)

-- The need at a place, and 0 at place 0.
abbrev pub need_at : List ℕ → ℕ → ℕ → ℕ
need_at counts step i = slice_index (0 ∷ distinct_needs counts step) i

-- ---- wastes

-- What the counted requests whose rounded need is above `low` and at most `high` lose in the class `high`.
abbrev pub waste_between : List ℕ → ℕ → ℕ → ℕ → ℕ
waste_between counts step low high =
    sum_below
    (λ n. if nat_lt low (rounded_need step n) && nat_le (rounded_need step n) high then slice_index counts n * loss_of n high else 0)
    (length counts)

-- The span waste: what the requests at the places above i up to j lose in the class that is the need at j.
abbrev pub span_waste : List ℕ → ℕ → ℕ → ℕ → ℕ
span_waste counts step i j = waste_between counts step (need_at counts step i) (need_at counts step j)

-- How many counted requests have a rounded need of at most `high`, and how many bytes they requested.
abbrev pub counted_up_to : List ℕ → ℕ → ℕ → ℕ
counted_up_to counts step high = sum_below (λ n. if nat_le (rounded_need step n) high then slice_index counts n else 0) (length counts)

abbrev pub bytes_up_to : List ℕ → ℕ → ℕ → ℕ
bytes_up_to counts step high = sum_below (λ n. if nat_le (rounded_need step n) high then slice_index counts n * n else 0) (length counts)

-- Exchanging the ends of two spans that cross never costs less. Of a span from a place to itself nothing is said.
abbrev pub IsCrossing : (ℕ → ℕ → ℕ) → ℕ → Type 0
IsCrossing cost d = (a b c e : ℕ) → a ≤ b → b < c → c ≤ e → e ≤ d → cost a c + cost b e ≤ cost a e + cost b c
