-- Which slot a request gets: one of its class that is released, and a fresh one only where none is.
use Rattle.std.proofs.Common.{◌≡◌, ℕ, ◌<◌, ◌≤◌, Bool, true, false, List, [], ◌∷◌, refl, sym, ap, ◌∙◌, subst, inl, inr, arith}
use Rattle.std.proofs.{Common.{Some, None, Option, Ok, Contains, slice_get, ◌==◌, ◌&&◌}, lemmas.Bool.Decides.{nat_tests}}
use Rattle.std.proofs.lemmas.Bool.{both_ways, cases_Bool, cases_lt, le-leb, le-ltb}
use Rattle.std.specs.{List.{range_with_len, list_all}, Option.{ok_or, option_or}}
use Rattle.class_table.specs.{Layout.{slot_count}, Sizes.{largest_counted}, Tables.{class_for}}
use Rattle.heap_theory.proofs.ListSearch.{none_found, in_filter, Contains-range, Contains-head, Contains-tail, Contains-cases}
use Rattle.heap_theory.proofs.{ListSearch.{Contains-none}, Lookups.{class_for_request-is, freed_last-is, is_latest, slot_for_request-is}}
use Rattle.heap_theory.specs.Lookups.{MayBeGiven, class_for_request, freed_last, lowest_fresh, slot_for, slot_for_request, slot_in_class}
use Rattle.heap_theory.specs.{Lookups.{slots_with}, Sound.{IsSoundHeap}}
use Rattle.heap_theory.specs.{State.{State, Heap, slot_in, state_at, is_fresh, is_released, mark_of}}
use Rattle.heap_theory.specs.declared.refusal.NullCause.TheVariants.{Exhausted}

-- ---- of some slots one was freed last

record IsGreatest (f : ℕ → ℕ) (xs : List ℕ) (x : ℕ) : Type 0 where
  pub listed : Contains xs x
  pub above : (r : ℕ) → Contains xs r → f r ≤ f x

greatest : (f : ℕ → ℕ) (x : ℕ) (xs : List ℕ) → (y : ℕ) × IsGreatest f (x ∷ xs) y
greatest f x [] = (x, grind (arith, Contains-head, Contains-cases, Contains-none))
greatest f x (z ∷ zs) = from (greatest f z zs)
  where
    from : (y : ℕ) × IsGreatest f (z ∷ zs) y → (y : ℕ) × IsGreatest f (x ∷ z ∷ zs) y
    from (y, g) = elim (cases_lt (f y) (f x)) [
      | inl less ↦ (
        x,
        record { listed = Contains-head x (z ∷ zs); above = λ r there. grind (arith, Contains-cases x (z ∷ zs) r there, g.above r) },
      )
      | inr more ↦ (
        y,
        record {
          listed = Contains-tail x (z ∷ zs) y g.listed;
          above = λ r there. grind (arith, Contains-cases x (z ∷ zs) r there, g.above r);
        },
      )
    ]

all-true : (p : ℕ → Bool) (xs : List ℕ) → ((r : ℕ) → Contains xs r → p r ≡ true) → list_all p xs ≡ true
all-true p [] each = refl
all-true p (x ∷ xs) each = grind (arith, all-true p xs (λ r there. each r (Contains-tail x xs r there)), each x (Contains-head x xs))

none-listed : (h : Heap) (slots : List ℕ) (r : ℕ) → freed_last h slots ≡ None → Contains slots r → ⊥
none-listed h [] r none there = Contains-none r there
none-listed h (s ∷ slots) r none there =
    let g = greatest (λ r. mark_of (state_at h r)) s slots in
    both_ways _ (none_found (is_latest h (s ∷ slots)) (s ∷ slots) none g.1.listed.0 g.0 g.1.listed.1)
    (subst (λ i. is_latest h (s ∷ slots) i ≡ true) (sym g.1.listed.2) (all-true _ (s ∷ slots) (λ r there. le-leb _ _ (g.1.above r there))))

-- ---- what a class gives out

module _ (h : Heap) (class r : ℕ) (within : r < slot_count h.layout) (its : (slot_in h r).class ≡ class) where
  listed : (test : State → Bool) → test (state_at h r) ≡ true → Contains (slots_with h test class) r
  listed test passes =
      in_filter (λ s. (slot_in h s).class == class && test (state_at h s)) (range_with_len 0 (slot_count h.layout)) r
      (Contains-range (slot_count h.layout) r within) (grind (arith, nat_tests))

  fails : (test : State → Bool) → (Contains (slots_with h test class) r → ⊥) → test (state_at h r) ≡ false
  fails test not = grind (arith, cases_Bool, listed test)

  pub none_released : (s : ℕ) → slot_for h class ≡ Some s → is_fresh (state_at h s) ≡ true → is_released h (state_at h r) ≡ false
  unfolding slot_for
  none_released s is fresh = from (freed_last h (slots_with h (is_released h) class)) refl is
    where
      from : (o : Option ℕ) → freed_last h (slots_with h (is_released h) class) ≡ o → option_or o (lowest_fresh h class) ≡ Some s →
          is_released h (state_at h r) ≡ false
      from None was chosen = fails (is_released h) (none-listed h (slots_with h (is_released h) class) r was)
      from (Some q) was chosen = let c = freed_last-is h class q was in grind arith

  no-first : (xs : List ℕ) → slice_get xs 0 ≡ None → Contains xs r → ⊥
  no-first [] none there = Contains-none r there
  no-first (x ∷ xs) none there = (let e : Some x ≡ None = none in cc)

  -- where it gives out none, none is released or fresh
  pub none_left : slot_for h class ≡ None → (is_released h (state_at h r) ≡ false) × (is_fresh (state_at h r) ≡ false)
  unfolding slot_for
  none_left is = (
    fails (is_released h) (λ there. grind (arith, none-listed h (slots_with h (is_released h) class) r)),
    fails is_fresh (λ there. grind (arith, no-first (slots_with h is_fresh class))),
  )

-- ---- what a request gets

pub record IsChosen (h : Heap) (n s : ℕ) : Type 0 where
  pub may : MayBeGiven h n s
  pub small : n ≤ largest_counted
  pub next : slot_for h (slot_in h s).class ≡ Some s

pub class-small : (h : Heap) (n class : ℕ) → class_for_request h n ≡ Ok class → n ≤ largest_counted
class-small h n class is = grind (arith, nat_tests, cases_lt)

pub request_chosen : (h : Heap) (n s : ℕ) → IsSoundHeap h → slot_for_request h n ≡ Ok s → IsChosen h n s
unfolding slot_for_request
request_chosen h n s sound is = grind (arith, slot_for_request-is h n s sound is, class-small, class_for_request-is)

pub request_served : (h : Heap) (n class : ℕ) → n ≤ largest_counted → class_for h.layout.classes n ≡ Some class →
    (slot_for h class ≡ None → ⊥) → (s : ℕ) × (slot_for_request h n ≡ Ok s)
unfolding slot_for_request
request_served h n class small its left = by_slot (slot_for h class) refl
  where
    class-is : class_for_request h n ≡ Ok class
    class-is = grind (arith, le-ltb)

    by_slot : (o : Option ℕ) → slot_for h class ≡ o → (s : ℕ) × (slot_in_class h (class_for_request h n) ≡ Ok s)
    by_slot (Some s) was = (s, ap (slot_in_class h) class-is ∙ ap (λ o. ok_or o Exhausted) was)
    by_slot None was = absurd (left was)
