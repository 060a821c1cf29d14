-- The slots of a region: in address order, class after class.
use Rattle.std.proofs.Common.{◌≡◌, ℕ, zero, suc, ◌+◌, ◌-◌, ◌*◌, ◌/◌, ◌%◌, ◌<◌, ◌≤◌, inl, inr, List, [], ◌∷◌, ◌++◌, map, length, take}
use Rattle.std.proofs.{Common.{get_or, refl, sym, ◌∙◌, ap, subst, arith, zero-add, All, Contains, sum_by}, lemmas.Bool.{cases_lt}}
use Rattle.std.proofs.lemmas.{List.{get_or_append_left, get_or-append-add, length-append, take_all}, List.Sums.{sum_by-cons}}
use Rattle.std.proofs.lemmas.{List.Elements.{All-contains, All-tail, Contains-get_or}, Nat.{div-add-mod'}}
use Rattle.std.{proofs.lemmas.List.FromFn.{length-map-range_with_len, get_or-map-range_with_len}, specs.List.{range_with_len}}
use Rattle.class_table.specs.Layout.{Partition, Slot, no_slot, end_of, share_of, slots_of_class, slots_of_classes, slots_of, slot_count}
use Rattle.class_table.specs.{Layout.{slot_of, first_slot, AreInOrder}, Sizes.{IsBlockSize}, Tables.{IsLegalTable}}

-- ---- in address order

-- Slots that stand one after the other between two granules, each of two granules or more.
abbrev IsSpread : ℕ → ℕ → List Slot → Type 0
IsSpread from to [] = from ≤ to
IsSpread from to (slot ∷ slots) = (from ≤ slot.start) × (2 ≤ slot.class) × IsSpread (end_of slot) to slots

spread_from : (a b c : ℕ) (slots : List Slot) → a ≤ b → IsSpread b c slots → IsSpread a c slots
spread_from a b c [] le spread = omega arith
spread_from a b c (slot ∷ slots) le spread = (omega (arith, spread.0), spread.1, spread.2)

spread_to : (a b c : ℕ) (slots : List Slot) → b ≤ c → IsSpread a b slots → IsSpread a c slots
spread_to a b c [] le spread = omega arith
spread_to a b c (slot ∷ slots) le spread = (spread.0, spread.1, spread_to (end_of slot) b c slots le spread.2)

spread_append : (a b c : ℕ) (front back : List Slot) → IsSpread a b front → IsSpread b c back → IsSpread a c (front ++ back)
spread_append a b c [] back spread after = spread_from a b c back spread after
spread_append a b c (slot ∷ slots) back spread after = (spread.0, spread.1, spread_append (end_of slot) b c slots back spread.2 after)

abbrev slots_in_a_row : ℕ → ℕ → ℕ → ℕ → List Slot
slots_in_a_row first class j n = map (λ k. record { start = first + class * k; class = class }) (range_with_len j n)

spread_row : (first class j n : ℕ) → 2 ≤ class → IsSpread (first + class * j) (first + class * (j + n)) (slots_in_a_row first class j n)
spread_row first class j zero wide = omega arith
spread_row first class j (suc n) wide = grind (arith, spread_row first class (j + 1) n wide)

spread_class : (first share class : ℕ) → 2 ≤ class → IsSpread first (first + share) (slots_of_class first share class)
spread_class first share class wide =
    let row : IsSpread (first + class * 0) (first + class * (0 + share / class)) (slots_of_class first share class) =
    spread_row first class 0 (share / class) wide in
    grind (arith, div-add-mod', spread_from, spread_to)

spread_classes : (first share : ℕ) (classes : List ℕ) → All IsBlockSize classes →
    IsSpread first (first + share * length classes) (slots_of_classes first share classes)
unfolding slots_of_classes
spread_classes first share [] in_range = omega arith
spread_classes first share (class ∷ classes) in_range =
    let rest : IsSpread (first + share) (first + share + share * length classes) (slots_of_classes (first + share) share classes) =
    spread_classes (first + share) share classes (All-tail IsBlockSize class classes in_range) in
    let to : first + share + share * length classes ≡ first + share * length (class ∷ classes) = omega arith in
    spread_append first (first + share) (first + share * length (class ∷ classes)) (slots_of_class first share class)
    (slots_of_classes (first + share) share classes)
    (spread_class first share class (in_range 0 0 (omega arith)).0)
    (subst (λ granule. IsSpread (first + share) granule (slots_of_classes (first + share) share classes)) to rest)

spread_slots : (step : ℕ) (layout : Partition) → IsLegalTable step layout.classes → IsSpread 0 layout.granules (slots_of layout)
unfolding slots_of
spread_slots step layout legal =
    let fits : share_of layout * length layout.classes + layout.granules % length layout.classes ≡ layout.granules =
    div-add-mod' layout.granules (length layout.classes) in
    spread_to 0 (0 + share_of layout * length layout.classes) layout.granules (slots_of_classes 0 (share_of layout) layout.classes)
    (omega arith)
    (spread_classes 0 (share_of layout) layout.classes legal.in_range)

record IsBetween (from to : ℕ) (slot : Slot) : Type 0 where
  after : from ≤ slot.start
  wide : 2 ≤ slot.class
  before : end_of slot ≤ to

spread_below : (a b : ℕ) (slots : List Slot) → IsSpread a b slots → a ≤ b
spread_below a b [] spread = spread
spread_below a b (slot ∷ slots) spread = omega (arith, spread.0, spread_below (end_of slot) b slots spread.2)

spread_at : (a b : ℕ) (slots : List Slot) (s : ℕ) → IsSpread a b slots → s < length slots → IsBetween a b (get_or slots s no_slot)
spread_at a b [] s spread within = absurd (omega arith)
spread_at a b (slot ∷ slots) zero spread within = grind (arith, spread_below)
spread_at a b (slot ∷ slots) (suc s) spread within = grind (arith, spread_at (end_of slot) b slots s spread.2 (omega arith))

spread_apart : (a b : ℕ) (slots : List Slot) (s r : ℕ) → IsSpread a b slots → s < r → r < length slots →
    end_of (get_or slots s no_slot) ≤ (get_or slots r no_slot).start
spread_apart a b [] s r spread before within = absurd (omega arith)
spread_apart a b (slot ∷ slots) s zero spread before within = absurd (omega arith)
spread_apart a b (slot ∷ slots) zero (suc r) spread before within = (spread_at (end_of slot) b slots r spread.2 (omega arith)).after
spread_apart a b (slot ∷ slots) (suc s) (suc r) spread before within =
    grind (arith, spread_apart (end_of slot) b slots s r spread.2 (omega arith) (omega arith))

pub legal_slots_are_in_order : (step : ℕ) (layout : Partition) → IsLegalTable step layout.classes → AreInOrder layout
legal_slots_are_in_order step layout legal =
    let spread = spread_slots step layout legal in
    record {
      inside = λ s within. (spread_at 0 layout.granules (slots_of layout) s spread within).before;
      wide = λ s within. (spread_at 0 layout.granules (slots_of layout) s spread within).wide;
      apart = λ s r before within. spread_apart 0 layout.granules (slots_of layout) s r spread before within;
    }

-- ---- class after class

abbrev slots_before : ℕ → ℕ → List ℕ → ℕ
slots_before share number classes = sum_by (λ class. share / class) (take number classes)

length-slots_of_class : (first share class : ℕ) → length (slots_of_class first share class) ≡ share / class
length-slots_of_class first share class = grind (arith, length-map-range_with_len)

slots_before-suc : (share number class : ℕ) (classes : List ℕ) →
    slots_before share (suc number) (class ∷ classes) ≡ share / class + slots_before share number classes
slots_before-suc share number class classes = sum_by-cons (λ class. share / class) class (take number classes)

pub length-slots_of_classes : (first share : ℕ) (classes : List ℕ) →
    length (slots_of_classes first share classes) ≡ sum_by (λ class. share / class) classes
unfolding slots_of_classes
length-slots_of_classes first share [] = refl
length-slots_of_classes first share (class ∷ classes) =
    length-append (slots_of_class first share class) (slots_of_classes (first + share) share classes)
    ∙ ap (λ n. n + length (slots_of_classes (first + share) share classes)) (length-slots_of_class first share class)
    ∙ ap (λ n. share / class + n) (length-slots_of_classes (first + share) share classes)
    ∙ sym (sum_by-cons (λ class. share / class) class classes)

pub slots_of_classes_are_all : (layout : Partition) → slot_count layout ≡ first_slot layout (length layout.classes)
unfolding slots_of
slots_of_classes_are_all layout = grind (arith, length-slots_of_classes, take_all)

-- the slot at a place of a class
slot_in_class : (first share : ℕ) (classes : List ℕ) (number k : ℕ) → number < length classes → k < share / get_or classes number 0 →
    get_or (slots_of_classes first share classes) (slots_before share number classes + k) no_slot
    ≡ record { start = first + share * number + get_or classes number 0 * k; class = get_or classes number 0 }
unfolding slots_of_classes
slot_in_class first share [] number k within fits = absurd (omega arith)
slot_in_class first share (class ∷ classes) zero k within fits =
    grind (arith, get_or_append_left, length-slots_of_class, get_or-map-range_with_len)
slot_in_class first share (class ∷ classes) (suc number) k within fits =
    grind (arith, slot_in_class (first + share) share classes number k (omega arith) fits, slots_before-suc, length-slots_of_class, get_or-append-add)

pub slot_of-class : (layout : Partition) (number k : ℕ) → number < length layout.classes →
    k < share_of layout / get_or layout.classes number 0 →
    slot_of layout (first_slot layout number + k)
    ≡ record { start = share_of layout * number + get_or layout.classes number 0 * k; class = get_or layout.classes number 0 }
unfolding slots_of
slot_of-class layout number k within fits =
    slot_in_class 0 (share_of layout) layout.classes number k within fits
    ∙ ap (λ n. record { start = n + get_or layout.classes number 0 * k; class = get_or layout.classes number 0 })
    (zero-add (share_of layout * number))

-- A place among the classes: a class, and the number of a slot in its share.
pub record Place (layout : Partition) (s : ℕ) : Type 0 where
  pub number : ℕ
  pub k : ℕ
  pub within : number < length layout.classes
  pub fits : k < share_of layout / get_or layout.classes number 0
  pub is : s ≡ first_slot layout number + k

record PlaceIn (share : ℕ) (classes : List ℕ) (s : ℕ) : Type 0 where
  number : ℕ
  k : ℕ
  within : number < length classes
  fits : k < share / get_or classes number 0
  is : s ≡ slots_before share number classes + k

place_in : (share : ℕ) (classes : List ℕ) (s : ℕ) → s < sum_by (λ class. share / class) classes → PlaceIn share classes s
place_in share [] s within = absurd (omega arith)
place_in share (class ∷ classes) s within = elim (cases_lt s (share / class)) [
  | inl here ↦ record { number = 0; k = s; within = omega arith; fits = here; is = sym (zero-add s) }
  | inr there ↦
      let all : sum_by (λ class. share / class) (class ∷ classes) ≡ share / class + sum_by (λ class. share / class) classes =
      sum_by-cons (λ class. share / class) class classes in
      let rest = place_in share classes (s - share / class) (omega arith) in
      record {
        number = suc rest.number;
        k = rest.k;
        within = omega (arith, rest.within);
        fits = rest.fits;
        is = omega (arith, rest.is, slots_before-suc share rest.number class classes);
      }
]

-- each slot has a place
pub place_of : (layout : Partition) (s : ℕ) → s < slot_count layout → Place layout s
unfolding slots_of
place_of layout s within =
    let place =
    place_in (share_of layout) layout.classes s
    (subst (λ n. s < n) (length-slots_of_classes 0 (share_of layout) layout.classes) within) in
    record { number = place.number; k = place.k; within = place.within; fits = place.fits; is = place.is }

pub slots_have_classes : (layout : Partition) (s : ℕ) → s < slot_count layout → Contains layout.classes (slot_of layout s).class
slots_have_classes layout s within =
    let place = place_of layout s within in
    let slot = slot_of-class layout place.number place.k place.within place.fits in
    let class : (slot_of layout s).class ≡ get_or layout.classes place.number 0 =
    ap (λ s. (slot_of layout s).class) place.is ∙ ap (λ (slot : Slot). slot.class) slot in
    subst (Contains layout.classes) (sym class) (Contains-get_or layout.classes place.number 0 place.within)

pub slots_have_at_most_1024_granules : (step : ℕ) (layout : Partition) (s : ℕ) → IsLegalTable step layout.classes → s < slot_count layout →
    (slot_of layout s).class ≤ 1024
slots_have_at_most_1024_granules step layout s table within =
    (All-contains IsBlockSize layout.classes (slot_of layout s).class table.in_range
    (slots_have_classes layout s within)).1
