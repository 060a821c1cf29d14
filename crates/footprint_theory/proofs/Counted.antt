-- The live slots of a heap are the live blocks of its timeline, by their sizes and by their classes.
use Rattle.std.proofs.Common.{◌≡◌, ℕ, zero, suc, ◌+◌, ◌<◌, ◌≤◌, Bool, true, false, cond, eqb, ltb, List, [], ◌∷◌, ◌++◌, length, take}
use Rattle.std.proofs.Common.{get_or, arith}
use Rattle.std.proofs.Common.{refl, sym, ap, subst, ◌∙◌, inl, inr, slice_set, slice_index, IsSome, Some}
use Rattle.std.proofs.lemmas.{Bool.{cases_eq, cases_lt}, Bool.Decides.{nat_tests}, List.Sums.{sum_by_push}}
use Rattle.std.proofs.lemmas.List.{get_or-set_other, get_or-set_same, length-set, length_push, take-append-le, take_all}
use Rattle.class_table.specs.{Layout.{Partition, Slot, slot_count, slot_of}, Sizes.{largest_counted}, Tables.{class_for}}
use Rattle.footprint_theory.proofs.{Growing.{last-at, last_snapshot}, Slots.{live_in, sized_in, sum_by_states, sum_changes}}
use Rattle.heap_theory.specs.{State.{State}, State.State.{Fresh, Live, Dead}}
use Rattle.tuner_theory.proofs.{Sums.{sum_below-more, sum_below-none, sum_none, sum_same, sum_split}, TimelineBlocks.{sum-one}}
use Rattle.tuner_theory.proofs.{TimelineSteps.{frees_at, requests_at}, Timelines.{snapshot-length}}
use Rattle.tuner_theory.specs.{Footprint.{blocks, is_class_of}, Histories.{most}, Timelines.{freed, moments, requested}, Waste.{sum_below}}
use Rattle.tuner_theory.specs.declared.size_event.SizeEvent.{SizeEvent}

-- the size is counted, and of the slot's class
abbrev pub FitsSlot : Partition → ℕ → ℕ → Type 0
FitsSlot layout s n = (n ≤ largest_counted) × (class_for layout.classes n ≡ Some (slot_of layout s).class)

pub record IsCounted (layout : Partition) (states : List State) (past : List SizeEvent) : Type 0 where
  pub long : length states ≡ slot_count layout
  pub fitting : (s n t : ℕ) → s < slot_count layout → get_or states s Fresh ≡ Live n t → FitsSlot layout s n
  pub counted : (n : ℕ) → sum_by_states layout states (sized_in n) + freed past n ≡ requested past n
  pub before : (m n : ℕ) → freed (take m past) n ≤ requested (take m past) n
  pub served : (n : ℕ) → 0 < requested past n → IsSome (class_for layout.classes n)

-- ---- one slot changes, by one event

module _ (layout : Partition) (states : List State) (past : List SizeEvent) (c : IsCounted layout states past) (s : ℕ)
    (within : s < slot_count layout) (new : State) (e : SizeEvent)
    (balance : (n : ℕ) → sized_in n (slot_of layout s) new + frees_at n e
    ≡ sized_in n (slot_of layout s) (get_or states s Fresh) + requests_at n e)
    (fits : (n t : ℕ) → new ≡ Live n t → FitsSlot layout s n)
    (has_class : (n : ℕ) → 0 < requests_at n e → IsSome (class_for layout.classes n)) where
  counted-next : (n : ℕ) →
      sum_by_states layout (slice_set states s new) (sized_in n) + freed (past ++ e ∷ []) n ≡ requested (past ++ e ∷ []) n
  counted-next n =
      omega (
        arith,
        c.counted n,
        balance n,
        sum_changes layout states s c.long within new (sized_in n),
        sum_by_push (frees_at n) past e,
        sum_by_push (requests_at n) past e,
      )

  fitting-next : (r n t : ℕ) → r < slot_count layout → get_or (slice_set states s new) r Fresh ≡ Live n t → FitsSlot layout r n
  fitting-next r n t lt is = elim (cases_eq r s) [
    | inl here ↦ subst (λ i. FitsSlot layout i n) (sym here)
        (fits n t (sym (get_or-set_same states s new Fresh (omega (arith, c.long, within)))
        ∙ ap (λ i. get_or (slice_set states s new) i Fresh) (sym here)
        ∙ is))
    | inr not ↦ c.fitting r n t lt (sym (get_or-set_other states s r new Fresh not) ∙ is)
  ]

  before-next : (m n : ℕ) → freed (take m (past ++ e ∷ [])) n ≤ requested (take m (past ++ e ∷ [])) n
  before-next m n = elim (cases_lt (length past) m) [
    | inl past_end ↦ subst (λ es. freed es n ≤ requested es n)
        (sym (take_all m (past ++ e ∷ []) (omega (arith, length_push past e, past_end)))) (omega (arith, counted-next n))
    | inr within ↦ subst (λ es. freed es n ≤ requested es n) (sym (take-append-le m past (e ∷ []) within)) (c.before m n)
  ]

  served-next : (n : ℕ) → 0 < requested (past ++ e ∷ []) n → IsSome (class_for layout.classes n)
  served-next n some = elim (cases_lt 0 (requested past n)) [
    | inl before ↦ c.served n before
    | inr none ↦ has_class n (omega (arith, some, none, sum_by_push (requests_at n) past e))
  ]

  pub next_counted : IsCounted layout (slice_set states s new) (past ++ e ∷ [])
  next_counted = record {
    long = length-set states s new ∙ c.long;
    fitting = fitting-next;
    counted = counted-next;
    before = before-next;
    served = served-next;
  }

-- ---- by classes

swapped : (g : ℕ → ℕ → ℕ) (a b : ℕ) → sum_below (λ i. sum_below (g i) b) a ≡ sum_below (λ j. sum_below (λ i. g i j) a) b
swapped g zero b = grind (arith, sum_below-none, sum_none)
swapped g (suc a) b = grind (arith, sum_below-more, sum_split, swapped g a b)

masked : (b : Bool) (f : ℕ → ℕ) (m : ℕ) → cond b (sum_below f m) 0 ≡ sum_below (λ s. cond b (f s) 0) m
masked true f m = refl
masked false f m = sym (sum_none (λ s. 0) m (λ s lt. refl))

none-masked : (b : Bool) → cond {A = ℕ} b 0 0 ≡ 0
none-masked b = grind arith

pub class-test : (classes : List ℕ) (class own n : ℕ) → class_for classes n ≡ Some own → is_class_of classes class n ≡ eqb own class
class-test classes class own n is = grind arith

module _ (layout : Partition) (states : List State) (past : List SizeEvent) (c : IsCounted layout states past) (class : ℕ) where
  abbrev test : ℕ → Bool
  test n = is_class_of layout.classes class n

  by-slot : (s : ℕ) (x : State) → s < slot_count layout → get_or states s Fresh ≡ x →
      sum_below (λ n. cond (test n) (sized_in n (slot_of layout s) x) 0) (largest_counted + 1) ≡ live_in class (slot_of layout s) x
  by-slot s Fresh lt is = sum_none _ (largest_counted + 1) (λ n lt. none-masked (test n)) ∙ grind arith
  by-slot s (Dead n t m) lt is = sum_none _ (largest_counted + 1) (λ n lt. none-masked (test n)) ∙ grind arith
  by-slot s (Live n t) lt is =
      let f = c.fitting s n t lt is in
      sum-one test n (largest_counted + 1)
      ∙ counts (slot_of layout s) n t (test n) f.0 (class-test layout.classes class (slot_of layout s).class n f.1)
    where
      counts : (slot : Slot) (n t : ℕ) (b : Bool) → n ≤ largest_counted → b ≡ eqb slot.class class →
          cond (ltb n (largest_counted + 1)) (cond b 1 0) 0 ≡ live_in class slot (Live n t)
      counts slot n t b le is = grind (arith, nat_tests)

  pub blocks_are : blocks layout.classes class (last_snapshot past) ≡ sum_by_states layout states (live_in class)
  blocks_are =
      ap (sum_below (λ n. cond (test n) (slice_index (last_snapshot past) n) 0)) (snapshot-length past (length past))
      ∙ sum_same (λ n. cond (test n) (slice_index (last_snapshot past) n) 0)
      (λ n. sum_below (λ s. cond (test n) (sized_in n (slot_of layout s) (get_or states s Fresh)) 0) (slot_count layout))
      (largest_counted + 1) (λ n lt. ap (λ v. cond (test n) v 0) (sizes-at n (omega (arith, lt)))
      ∙ masked (test n) (λ s. sized_in n (slot_of layout s) (get_or states s Fresh)) (slot_count layout))
      ∙ swapped (λ n s. cond (test n) (sized_in n (slot_of layout s) (get_or states s Fresh)) 0) (largest_counted + 1) (slot_count layout)
      ∙ sum_same _ _ (slot_count layout) (λ s lt. by-slot s (get_or states s Fresh) lt refl)
    where
      sizes-at : (n : ℕ) → n ≤ largest_counted → slice_index (last_snapshot past) n ≡ sum_by_states layout states (sized_in n)
      sizes-at n le = omega (arith, last-at past n 0 le, c.counted n)

-- the most blocks of each class that were live
abbrev pub peaks_of : List ℕ → List SizeEvent → ℕ → ℕ
peaks_of classes past class = most (blocks classes class) (moments past)
