-- A legal table, class by class: classes without a fault are one, and the classes of a legal table have no fault.
use Rattle.std.proofs.Common.{◌≡◌, ℕ, zero, suc, ◌%◌, ◌<◌, ◌≤◌, Bool, true, false, List, [], ◌∷◌, length, slice_index, get_or, None, refl}
use Rattle.std.proofs.{Common.{arith, leb}, lemmas.Bool.{or_parts, ltb-false, leb-false}}
use Rattle.std.{proofs.lemmas.List.Kept.{AllPairs-from_increasing}, specs.List.{All, AllPairs}}
use Rattle.class_table.specs.{Faults.{fault_from, is_out_of_range}, Sizes.{IsBlockSize}, Tables.{FitsStep, IsLegalTable}}

-- Each class is above the one before it, the first above low, none above 1024, and each a multiple of the step. Where low is 1 or more,
-- they are the classes of a legal table.
abbrev pub AreClassesAbove : ℕ → ℕ → List ℕ → Type 0
AreClassesAbove step low [] = Unit {0}
AreClassesAbove step low (class ∷ classes) = (low < class) × (class ≤ 1024) × (class % step ≡ 0) × AreClassesAbove step class classes

-- ---- they are a legal table

class_in : (step low k d : ℕ) (classes : List ℕ) → AreClassesAbove step low classes → k < length classes
    → (low < get_or classes k d) × (get_or classes k d ≤ 1024) × (get_or classes k d % step ≡ 0)
class_in step low k d [] above within = absurd (omega arith)
class_in step low zero d (class ∷ classes) above within = (above.0, above.1, above.2)
class_in step low (suc k) d (class ∷ classes) above within = grind (arith, class_in step class k d classes above.3 (omega arith))

pub class_above : (step low k : ℕ) (classes : List ℕ) → AreClassesAbove step low classes → k < length classes → low < slice_index classes k
class_above step low k classes above within = (class_in step low k 0 classes above within).0

next_above : (step low k : ℕ) (classes : List ℕ) → AreClassesAbove step low classes → suc k < length classes →
    slice_index classes k < slice_index classes (suc k)
next_above step low k [] above within = absurd (omega arith)
next_above step low zero (class ∷ classes) above within = class_above step class 0 classes above.3 (omega arith)
next_above step low (suc k) (class ∷ classes) above within = next_above step class k classes above.3 (omega arith)

pub legal_table_of_classes : (step low : ℕ) (classes : List ℕ) → 1 ≤ low → length classes ≤ 32 → AreClassesAbove step low classes →
    IsLegalTable step classes
legal_table_of_classes step low classes one few above = record {
  few = few;
  in_range = λ k d within. let here = class_in step low k d classes above within in (omega (arith, one, here.0), here.1);
  ascending = λ k within. grind (arith, next_above);
  fitting = λ k d within. (class_in step low k d classes above within).2;
}

pub no_classes_are_legal : IsLegalTable 1 []
no_classes_are_legal = legal_table_of_classes 1 1 [] (omega arith) (omega arith) tt

-- ---- and back

classes_from : (step low : ℕ) (classes : List ℕ) → ((k : ℕ) → k < length classes → low < get_or classes k 0) →
    AllPairs (λ one other. one < other) classes
    → All IsBlockSize classes → FitsStep step classes → AreClassesAbove step low classes
classes_from step low [] first up range fits = tt
classes_from step low (class ∷ classes) first up range fits = (
  first 0 (omega arith),
  (range 0 0 (omega arith)).1,
  fits 0 0 (omega arith),
  classes_from step class classes (λ k within. up 0 (suc k) 0 (omega arith) (omega arith))
      (λ i j d lt within. up (suc i) (suc j) d (omega arith) (omega arith)) (λ k d within. range (suc k) d (omega arith))
      (λ k d within. fits (suc k) d (omega arith)),
)

pub classes_of_legal_table : (step : ℕ) (classes : List ℕ) → IsLegalTable step classes → AreClassesAbove step 1 classes
classes_of_legal_table step classes legal =
    classes_from step 1 classes (λ k within. let r = legal.in_range k 0 within in omega (arith, r.0))
    (AllPairs-from_increasing classes legal.ascending) legal.in_range legal.fitting

-- ---- the classes in which no fault is found

classes-faultless : (low below : ℕ) (classes : List ℕ) → ((class : ℕ) → 2 ≤ class → below < class → low < class)
    → fault_from below classes ≡ None → AreClassesAbove 1 low classes
unfolding fault_from
classes-faultless low below [] least none = tt
classes-faultless low below (class ∷ classes) least none =
    go (is_out_of_range class) refl (leb class below) refl (classes-faultless class class classes (λ next two lt. lt))
  where
    go : (out : Bool) → is_out_of_range class ≡ out → (not_above : Bool) → leb class below ≡ not_above
        → (fault_from class classes ≡ None → AreClassesAbove 1 class classes) → AreClassesAbove 1 low (class ∷ classes)
    go true h not_above k others = let f = rw h at none in absurd cc
    go false h true k others = let f = rw (h, k) at none in absurd cc
    go false h false k others =
        let range = or_parts _ _ h in
        let larger = least class (ltb-false class 2 range.0) (leb-false class below k) in
        (larger, ltb-false 1024 class range.1, omega arith, others (rw (h, k) at none))

pub classes-from_no_fault : (classes : List ℕ) → fault_from 0 classes ≡ None → AreClassesAbove 1 1 classes
classes-from_no_fault classes none = classes-faultless 1 0 classes (λ class two lt. omega (arith, two)) none

faultless-above : (step low below : ℕ) (classes : List ℕ) → 1 ≤ low → below ≤ low → AreClassesAbove step low classes →
    fault_from below classes ≡ None
unfolding fault_from
faultless-above step low below [] one le above = refl
faultless-above step low below (class ∷ classes) one le above =
    grind (arith, faultless-above step class class classes (omega (arith, above.0)) (omega arith) above.3)

pub no_fault-from_classes : (classes : List ℕ) → AreClassesAbove 1 1 classes → fault_from 0 classes ≡ None
no_fault-from_classes classes above = faultless-above 1 1 0 classes (omega arith) (omega arith) above
