-- The class of a request by its number.
use Rattle.std.proofs.Common.{◌≡◌, ℕ, ◌<◌, ◌≤◌, Bool, true, List, length, eqb, ltb, nat_eq, sym, ap, ◌∙◌, inl, inr, arith, Some}
use Rattle.std.{proofs.Common.{Result, Ok, Err, slice_get, slice_index, option_and_then, IfOk, IfErr}}
use Rattle.std.proofs.lemmas.Bool.{cases_eq, cond-true, cond-false, eq-eqb, eqb-true, ne_eqb, lt-ltb, le-ltb}
use Rattle.std.proofs.lemmas.{List.Quantifiers.{position-Some}, Option.{slice_get-get_or, slice_get_within, get_or_from_slice_get}}
use Rattle.std.specs.Result.{result_eq, result_map_both}
use Rattle.class_table.specs.{Layout.{Slot}, Sizes.{serves, chunk_granules, largest_counted}}
use Rattle.class_table.specs.Tables.{IsLegalTable, class_for, class_number_for}
use Rattle.heap_theory.{proofs.Marks.{one_number}, specs.Calls.{is_class_of}, specs.Lookups.{class_for_request}, specs.State.{Heap}}
use Rattle.heap_theory.specs.declared.refusal.{NullCause.{NullCause}, NullCause.TheVariants.{Large, NoClass, Exhausted}}
use Rattle.tagged_heap.specs.ClassSlots.{IsCauseFor}
use Rattle.tagged_heap.proofs.TheoryLemmas as laws

module _ (h : Heap) (n : ℕ) where
  pub class_for_is : (r : Result ℕ NullCause) → IfOk r (λ k. (n ≤ largest_counted) × (class_number_for h.layout.classes n ≡ Some k)) →
      IfErr r (IsCauseFor h.layout.classes n) → class_for_request h n ≡ result_map_both (λ k. slice_index h.layout.classes k) (λ e. e) r
  class_for_is (Ok k) ok err = grind (arith, position-Some, cond-false, le-ltb, laws.class_by_number, option_and_then, slice_get-get_or)
  class_for_is (Err Large) ok err = cond-true (ltb largest_counted n) _ _ (lt-ltb largest_counted n err)
  class_for_is (Err NoClass) ok err = grind (arith, cond-false, le-ltb, laws.class_by_number, option_and_then)
  class_for_is (Err Exhausted) ok err = absurd err

  -- a number is that of a slot's class exactly where its class is the slot's
  same_test : (classes : List ℕ) (slot : Slot) (k number : ℕ) → IsLegalTable 1 classes → k < length classes →
      slice_get classes number ≡ Some slot.class → eqb k number ≡ eqb (slice_index classes k) slot.class
  same_test classes slot k number legal within at = elim (cases_eq k number) [
    | inl is ↦ eq-eqb k number is ∙ sym (eq-eqb _ _ (ap (slice_index classes) is ∙ get_or_from_slice_get classes number slot.class 0 at))
    | inr other ↦
        ne_eqb k number other
        ∙ sym (ne_eqb _ _ (λ same. other
        (one_number 1 classes k number legal within (slice_get_within classes number slot.class at)
        (same ∙ sym (get_or_from_slice_get classes number slot.class 0 at)))))
  ]

  pub stays_is : (slot : Slot) (number : ℕ) (cause_eq : NullCause → NullCause → Bool) (r : Result ℕ NullCause) →
      IsLegalTable 1 h.layout.classes →
      slice_get h.layout.classes number ≡ Some slot.class → IfOk r (λ k. (n ≤ largest_counted) × (class_number_for h.layout.classes n ≡ Some k)) →
      IfErr r (IsCauseFor h.layout.classes n) → result_eq nat_eq cause_eq r (Ok number) ≡ is_class_of slot (class_for_request h n)
  stays_is slot number cause_eq x3 legal at ok err = grind (arith, class_for_is, position-Some, same_test)

  pub room_in_class : (slot : Slot) (number : ℕ) (cause_eq : NullCause → NullCause → Bool) (r : Result ℕ NullCause) → 2 ≤ slot.class →
      slice_get h.layout.classes number ≡ Some slot.class → IfOk r (λ k. (n ≤ largest_counted) × (class_number_for h.layout.classes n ≡ Some k)) →
      result_eq nat_eq cause_eq r (Ok number) ≡ true → chunk_granules n < slot.class
  room_in_class slot number cause_eq (Ok k) wide at ok same =
      let there = position-Some (serves n) h.layout.classes k 0 ok.1 in
      grind (arith, get_or_from_slice_get)
  room_in_class slot number cause_eq (Err e) wide at ok same = cc

  pub class_in : (slot : Slot) (number : ℕ) (cause_eq : NullCause → NullCause → Bool) (r : Result ℕ NullCause) →
      slice_get h.layout.classes number ≡ Some slot.class → IfOk r (λ k. (n ≤ largest_counted) × (class_number_for h.layout.classes n ≡ Some k)) →
      result_eq nat_eq cause_eq r (Ok number) ≡ true → class_for h.layout.classes n ≡ Some slot.class
  class_in slot number cause_eq (Ok k) at ok same = grind (arith, laws.class_by_number, option_and_then, eqb-true)
  class_in slot number cause_eq (Err e) at ok same = absurd cc
