-- How many slots of a class were ever given out, against the most that were live: what each change of a slot keeps.
use Rattle.std.proofs.Common.{◌≡◌, ℕ, ◌+◌, ◌-◌, ◌*◌, ◌<◌, ◌≤◌, ◌&&◌, Bool, true, false, cond, eqb, List, length, get_or, max, arith}
use Rattle.std.proofs.Common.{slice_set, refl, sym, ◌∙◌, inl, inr, ◌⊎◌}
use Rattle.std.proofs.lemmas.{Bool.{cases_eq, cases_Bool}, Bool.Decides.{nat_tests}}
use Rattle.class_table.specs.Layout.{Partition, Slot, slot_count, slot_of}
use Rattle.footprint_theory.proofs.Slots.{freed_bytes_in, freed_in, is_live, live_in, released_by, sum_by_states, sum_changes}
use Rattle.footprint_theory.proofs.Slots.{taken_in}
use Rattle.heap_theory.specs.{State.{State, is_fresh}, State.State.{Fresh}}
use Rattle.tuner_theory.proofs.Sums.{sum_at_most, sum_balance, sum_none, sum_split}
use Rattle.tuner_theory.specs.Waste.{sum_below}

-- what a quarantine of this limit may hold of a class beyond its peak
pub record Excess (limit class taken peak : ℕ) : Type 0 where
  pub slots : ℕ
  pub covers : taken ≤ peak + slots
  pub held : 16 * class * slots ≤ limit

pub record IsWithinPeaks (layout : Partition) (limit : ℕ) (states : List State) (total : ℕ) (peak : ℕ → ℕ) : Type 0 where
  pub window : (class x : ℕ) → sum_by_states layout states (freed_bytes_in class x) ≤ total - x
  pub low : (class : ℕ) → peak class ≤ sum_by_states layout states (taken_in class)
  pub high : (class : ℕ) → Excess limit class (sum_by_states layout states (taken_in class)) (peak class)

-- ---- sums against one another

-- a sum that is scaled
pub scaled : (f : ℕ → ℕ) (k m : ℕ) → sum_below (λ n. k * f n) m ≡ k * sum_below f m
scaled f k m = grind (arith, sum_balance (λ n. k * f n) (λ n. 0) (λ n. 0) f (λ n. 0) k m (λ n lt. omega arith), sum_none)

live-below : (layout : Partition) (states : List State) (class : ℕ) →
    sum_by_states layout states (live_in class) ≤ sum_by_states layout states (taken_in class)
live-below layout states class =
    sum_at_most _ _ (slot_count layout) (λ s lt. at (eqb (slot_of layout s).class class) (get_or states s Fresh))
  where
    at : (b : Bool) (state : State) → cond (b && is_live state) 1 0 ≤ cond b (cond (is_fresh state) 0 1) 0
    at b x = grind arith

-- the bytes of freed slots are at least as many as the slots take
pub freed-bytes : (layout : Partition) (states : List State) (class x : ℕ) →
    16 * class * sum_by_states layout states (freed_in class x) ≤ sum_by_states layout states (freed_bytes_in class x)
freed-bytes layout states class x =
    omega (
      arith,
      scaled (λ s. freed_in class x (slot_of layout s) (get_or states s Fresh)) (16 * class) (slot_count layout),
      sum_at_most (λ s. 16 * class * freed_in class x (slot_of layout s) (get_or states s Fresh))
          (λ s. freed_bytes_in class x (slot_of layout s) (get_or states s Fresh)) (slot_count layout)
          (λ s lt. at (slot_of layout s) (get_or states s Fresh)),
    )
  where
    at : (slot : Slot) (state : State) → 16 * class * freed_in class x slot state ≤ freed_bytes_in class x slot state
    at slot state = grind (arith, nat_tests)

-- where no slot of a class is released, those that were ever given out are live, or held
pub taken-below : (layout : Partition) (states : List State) (limit total class : ℕ) →
    ((r : ℕ) → r < slot_count layout → (slot_of layout r).class ≡ class → released_by limit total (get_or states r Fresh) ≡ false) →
    sum_by_states layout states (taken_in class)
    ≤ sum_by_states layout states (live_in class) + sum_by_states layout states (freed_in class (total - limit))
taken-below layout states limit total class none =
    omega (
      arith,
      sum_at_most (λ s. taken_in class (slot_of layout s) (get_or states s Fresh))
          (λ s. live_in class (slot_of layout s) (get_or states s Fresh) + freed_in class (total - limit) (slot_of layout s)
          (get_or states s Fresh))
          (slot_count layout) (λ s lt. at (slot_of layout s) (get_or states s Fresh) (none s lt)),
      sum_split _ (λ s. live_in class (slot_of layout s) (get_or states s Fresh))
          (λ s. freed_in class (total - limit) (slot_of layout s) (get_or states s Fresh)) (slot_count layout) (λ s lt. refl),
    )
  where
    at : (slot : Slot) (state : State) → (slot.class ≡ class → released_by limit total state ≡ false) →
        taken_in class slot state ≤ live_in class slot state + freed_in class (total - limit) slot state
    at slot state not = grind (arith, nat_tests, cases_eq)

-- ---- one slot changes

-- A slot is given out first only where no slot of its class is released.
abbrev pub IsLastResort : Partition → ℕ → List State → ℕ → ℕ → State → Type 0
IsLastResort layout limit states total s new =
    is_fresh (get_or states s Fresh) ≡ true → (is_live new ≡ true) × ((r : ℕ) → r < slot_count layout →
    (slot_of layout r).class ≡ (slot_of layout s).class → released_by limit total (get_or states r Fresh) ≡ false)

module _ (layout : Partition) (limit : ℕ) (states : List State) (total total' : ℕ) (peak peak' : ℕ → ℕ) (s : ℕ) (new : State)
    (long : length states ≡ slot_count layout) (within : s < slot_count layout)
    (inv : IsWithinPeaks layout limit states total peak) (given : is_fresh new ≡ false)
    (chosen : IsLastResort layout limit states total s new)
    (window : (class x : ℕ) → freed_bytes_in class x (slot_of layout s) new + (total - x)
    ≤ freed_bytes_in class x (slot_of layout s) (get_or states s Fresh) + (total' - x))
    (goes_on : (class : ℕ) → peak' class ≡ max (peak class) (sum_by_states layout (slice_set states s new) (live_in class))) where
  change : (weight : Slot → State → ℕ) →
      sum_by_states layout (slice_set states s new) weight + weight (slot_of layout s) (get_or states s Fresh)
      ≡ sum_by_states layout states weight + weight (slot_of layout s) new
  change weight = sum_changes layout states s long within new weight

  more : (class : ℕ) (slot : Slot) (x y : State) → is_fresh y ≡ false → taken_in class slot x ≤ taken_in class slot y
  more class slot x y is = grind arith

  high-next : (class : ℕ) → Excess limit class (sum_by_states layout (slice_set states s new) (taken_in class)) (peak' class)
  high-next class = elim (same-or-fresh (slot_of layout s) (get_or states s Fresh) given) [
    | inl same ↦ (let e = inv.high class in
        record { slots = e.slots; covers = omega (arith, e.covers, change (taken_in class), same, goes_on class); held = e.held })
    | inr first ↦ (let c = chosen first.0 in
        record {
          slots = sum_by_states layout states (freed_in class (total - limit));
          covers = omega (
            arith,
            taken-below layout states limit total class (λ r lt its. c.1 r lt (its ∙ sym first.1)),
            change (taken_in class),
            change (live_in class),
            one (slot_of layout s) (get_or states s Fresh) first.0 c.0 first.1,
            goes_on class,
          );
          held = omega (arith, inv.window class (total - limit), freed-bytes layout states class (total - limit));
        })
  ]
    where
      same-or-fresh : (slot : Slot) (x : State) → is_fresh new ≡ false →
          (taken_in class slot new ≡ taken_in class slot x) ⊎ ((is_fresh x ≡ true) × (slot.class ≡ class))
      same-or-fresh slot x is = elim (cases_eq slot.class class) [
        | inl own ↦ elim (cases_Bool (is_fresh x)) [ inl fresh ↦ inr (fresh, own) | inr not ↦ inl (grind (arith, nat_tests)) ]
        | inr not ↦ inl (grind (arith, nat_tests))
      ]

      one : (slot : Slot) (x : State) → is_fresh x ≡ true → is_live new ≡ true → slot.class ≡ class →
          taken_in class slot new + live_in class slot x ≡ taken_in class slot x + live_in class slot new
      one slot x fresh live is = grind (arith, nat_tests)

  pub changed : IsWithinPeaks layout limit (slice_set states s new) total' peak'
  changed = record {
    window = λ class x. omega (arith, inv.window class x, change (freed_bytes_in class x), window class x);
    low = λ class. omega (
      arith,
      goes_on class,
      inv.low class,
      live-below layout (slice_set states s new) class,
      change (taken_in class),
      more class (slot_of layout s) (get_or states s Fresh) new given,
    );
    high = high-next;
  }
