-- The first class that serves a size, as sizes ascend.
use Rattle.std.proofs.Common.{◌≡◌, ℕ, zero, suc, ◌+◌, ◌-◌, ◌*◌, ◌<◌, ◌≤◌, true, false, not, List, [], ◌∷◌, length, get_or, Some, None, refl}
use Rattle.std.proofs.{Common.{sym, ap, ◌∙◌, arith, inl, inr, IsSome, slice_get}, lemmas.List.Folds.{find_at}}
use Rattle.std.proofs.lemmas.Bool.{cases_Bool, cases_lt, not_from_true, le-leb, lt-leb, both_ways}
use Rattle.std.proofs.lemmas.List.{Kept.{AllPairs-from_increasing}, Sums.{position_or_len_is, prefix_len_passes}}
use Rattle.std.proofs.lemmas.Option.{get_or_from_slice_get, slice_get_past, slice_get_within, slice_get-get_or}
use Rattle.std.specs.List.{position_or_len}
use Rattle.class_table.specs.{Sizes.{serves}, Tables.{IsLegalTable, class_for}}

-- a place that the walk has come to, whose class serves n, is the first such
pub reached : (n i : ℕ) (classes : List ℕ) → i ≤ position_or_len (serves n) classes → i < length classes →
    serves n (get_or classes i 0) ≡ true → position_or_len (serves n) classes ≡ i
reached n i classes before within serving = grind (arith, cases_lt, both_ways, not_from_true, prefix_len_passes)

-- past a class that doesn't serve n the walk goes on
pub passed : (n i : ℕ) (classes : List ℕ) → i ≤ position_or_len (serves n) classes → i < length classes →
    serves n (get_or classes i 0) ≡ false → i + 1 ≤ position_or_len (serves n) classes
passed n i [] before within other = absurd (omega arith)
passed n zero (class ∷ classes) before within other = rw other (omega arith)
passed n (suc i) (class ∷ classes) before within other =
    elim (cases_Bool (serves n class)) [
      | inl first ↦ let f = rw first at before in absurd (omega arith)
      | inr later ↦
          let g = rw later at before in
          let rest = passed n i classes (omega arith) (omega arith) other in
          rw later (omega arith)
    ]

-- a larger size has no earlier first class
pub position-mono : (n m : ℕ) (classes : List ℕ) → n ≤ m → position_or_len (serves n) classes ≤ position_or_len (serves m) classes
position-mono n m [] le = omega arith
position-mono n m (class ∷ classes) le = grind (arith, position-mono n m classes le)

-- ---- the class of a size by that place

pub class_there : (n number : ℕ) (classes : List ℕ) → number ≡ position_or_len (serves n) classes →
    class_for classes n ≡ slice_get classes number
class_there n number classes e = find_at (serves n) classes ∙ ap (slice_get classes) (sym e)

pub no_class : (n number : ℕ) (classes : List ℕ) → number ≡ position_or_len (serves n) classes → length classes ≤ number →
    class_for classes n ≡ None
no_class n number classes e past = class_there n number classes e ∙ slice_get_past classes number past

-- a class that serves n there is
pub some_class : (n i : ℕ) (classes : List ℕ) → i < length classes → serves n (get_or classes i 0) ≡ true → IsSome (class_for classes n)
some_class n i classes within serving =
    elim (cases_lt i (position_or_len (serves n) classes)) [
      | inl earlier ↦ absurd (both_ways _ (not_from_true _ serving) (prefix_len_passes (λ class. not (serves n class)) classes i 0 earlier))
      | inr there ↦
          let within_too : position_or_len (serves n) classes < length classes = omega arith in
          rw (
            class_there n (position_or_len (serves n) classes) classes refl,
            slice_get-get_or classes (position_or_len (serves n) classes) 0 within_too,
          ) refl
    ]

-- ---- the sizes that a class serves

pub below_end : (n class : ℕ) → 2 ≤ class → n < 16 * class - 15 → serves n class ≡ true
below_end n class most before = le-leb n (16 * class - 16) (omega arith)

pub from_end : (n class : ℕ) → 2 ≤ class → 16 * class - 15 ≤ n → serves n class ≡ false
from_end n class most after = lt-leb n (16 * class - 16) (omega arith)

-- the class of this number, to which a walk over the classes has come
pub record IsClassAt (classes : List ℕ) (number class : ℕ) : Type 0 where
  pub within : number < length classes
  pub is : get_or classes number 0 ≡ class
  pub wide : 2 ≤ class

pub class_at : (classes : List ℕ) (number class : ℕ) → slice_get classes number ≡ Some class → 2 ≤ class → IsClassAt classes number class
class_at classes number class is wide = grind (arith, slice_get_within, get_or_from_slice_get)

-- the next class is the first that can serve what neither this one nor one before it serves
pub next_ready : (from next number class : ℕ) (classes : List ℕ) → IsClassAt classes number class
    → number ≤ position_or_len (serves from) classes → from ≤ next → 16 * class - 15 ≤ next
    → number + 1 ≤ position_or_len (serves next) classes
next_ready from next number class classes at ready later past = grind (arith, passed, position-mono, from_end)

-- it serves all sizes before its end,
pub next_served : (n number class : ℕ) (classes : List ℕ) → IsClassAt classes number class → n < 16 * class - 15
    → IsSome (class_for classes n)
next_served n number class classes at before =
    some_class n number classes at.within (ap (serves n) at.is ∙ below_end n class at.wide before)

-- and is the class of those that no earlier one serves
pub next_class : (from n number class : ℕ) (classes : List ℕ) → IsClassAt classes number class
    → number ≤ position_or_len (serves from) classes → from ≤ n → n < 16 * class - 15 → class_for classes n ≡ Some class
next_class from n number class classes at ready le before =
    let serving : serves n (get_or classes number 0) ≡ true = ap (serves n) at.is ∙ below_end n class at.wide before in
    grind (arith, reached, position-mono, class_there, slice_get-get_or)

-- after all classes none is left for any size from here on
pub none_left : (from n number : ℕ) (classes : List ℕ) → number ≤ position_or_len (serves from) classes → length classes ≤ number →
    from ≤ n → class_for classes n ≡ None
none_left from n number classes ready all le = grind (arith, no_class, position-mono)

-- ---- the ends of a legal table's classes

-- classes ascend, and so do their ends;
pub ends_ascend : (step number : ℕ) (classes : List ℕ) → IsLegalTable step classes → number + 1 < length classes
    → 16 * get_or classes number 0 - 15 < 16 * get_or classes (number + 1) 0 - 15
ends_ascend step number classes legal within = omega arith

-- so no class serves a size from the end of the last one on
pub past_last : (step n last class : ℕ) (classes : List ℕ) → IsLegalTable step classes → length classes ≡ last + 1
    → IsClassAt classes last class → 16 * class - 15 ≤ n → class_for classes n ≡ None
past_last step n last class classes legal all at past =
    let none = position_or_len_is (serves n) classes (length classes) 0 (omega arith)
    (λ k lt. from_end n (get_or classes k 0) (legal.in_range k 0 lt).0 (omega (arith, up_to k lt)))
    (λ lt. absurd (omega arith)) in
    no_class n (position_or_len (serves n) classes) classes refl (omega (arith, none))
  where
    up_to : (k : ℕ) → k < length classes → get_or classes k 0 ≤ class
    up_to k lt = elim (cases_lt k last) [
      | inl earlier ↦ omega (arith, AllPairs-from_increasing classes legal.ascending k last 0 earlier at.within, at.is)
      | inr not ↦ (let same : k ≡ last = omega arith in omega (arith, ap (λ m. get_or classes m 0) same, at.is))
    ]
