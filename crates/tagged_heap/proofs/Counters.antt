-- The counters of fresh slots.
use Rattle.std.proofs.Common.{◌≡◌, ◌≢◌, ℕ, ◌+◌, ◌<◌, ◌≤◌, true, false, List, length, sym, ap, ◌∙◌, subst, arith, Some, None}
use Rattle.std.proofs.{Common.{slice_index, slice_set}, lemmas.List.{get_or-set_same, get_or-set_other, length-set}}
use Rattle.machine_theory.specs.Memory.{Granule}
use Rattle.class_table.specs.Layout.{first_slot}
use Rattle.heap_theory.{proofs.ChangedSlot.{changed, state_here, state_there}, proofs.Marks.{one_number}, specs.Lookups.{lowest_fresh}}
use Rattle.heap_theory.specs.{Sound.{IsSoundHeap}, State.{State, Heap, slot_in, state_at, is_fresh, IsSlot}}
use Rattle.tagged_heap.{proofs.Shares.{in_share, share_of_slot}, specs.Representation.{AreFirstFresh}}
use Rattle.tagged_heap.proofs.TheoryLemmas as laws

module _ (h : Heap) (sound : IsSoundHeap h) (counters : List ℕ) (f : AreFirstFresh h counters) (number : ℕ)
    (within : number < length h.layout.classes) where
  in_counters : number < length counters
  in_counters = subst (λ n. number < n) (sym f.long) within

  -- a counter that is not at its class's end shows the lowest fresh slot
  pub counted : slice_index counters number < first_slot h.layout (number + 1) →
      (IsSlot h (slice_index counters number)) × ((slot_in h (slice_index counters number)).class ≡ slice_index h.layout.classes number)
      × (is_fresh (state_at h (slice_index counters number)) ≡ true)
  counted below =
      let own = in_share h.layout number (slice_index counters number) within (f.from number in_counters) below in
      (own.0, own.1, f.fresh number (slice_index counters number) in_counters own.0 own.1 (omega arith))

  pub lowest_counted : slice_index counters number < first_slot h.layout (number + 1) →
      lowest_fresh h (slice_index h.layout.classes number) ≡ Some (slice_index counters number)
  lowest_counted below = grind (arith, counted, in_counters, laws.first_fresh)

  pub lowest_none : first_slot h.layout (number + 1) ≤ slice_index counters number →
      lowest_fresh h (slice_index h.layout.classes number) ≡ None
  lowest_none above = grind (arith, in_counters, share_of_slot, laws.none_fresh)

  -- the lowest fresh slot is given out
  pub counters_step : (s : ℕ) (state : State) (memory : List Granule) (total seed tag : ℕ) → s < length h.states →
      s ≡ slice_index counters number → s < first_slot h.layout (number + 1) → is_fresh state ≡ false →
      AreFirstFresh (changed h s state memory total seed tag) (slice_set counters number (s + 1))
  counters_step s state memory total seed tag in_states counter below used = record {
    long = length-set counters number (s + 1) ∙ f.long;
    from = by (λ n first. first_slot h.layout n ≤ first) (omega (arith, counter, f.from number in_counters)) (λ n other. f.from n);
    to = by (λ n first. first ≤ first_slot h.layout (n + 1)) (omega arith) (λ n other. f.to n);
    given =
        λ n r inside in_range. by (λ n first. (slot_in h r).class ≡ slice_index h.layout.classes n → r < first →
        is_fresh (state_at new r) ≡ false)
        (grind (arith, here, there))
        (λ n other k class less. ap is_fresh (there r (another n r other k class)) ∙ f.given n r k in_range class less) n inside;
    fresh =
        λ n r inside in_range. by (λ n first. (slot_in h r).class ≡ slice_index h.layout.classes n → first ≤ r →
        is_fresh (state_at new r) ≡ true)
        (λ class above. ap is_fresh (there r (λ is. omega arith)) ∙ f.fresh number r in_counters in_range class (omega (arith, counter)))
        (λ n other k class above. ap is_fresh (there r (another n r other k class)) ∙ f.fresh n r k in_range class above) n inside;
  }
    where
      new : Heap
      new = changed h s state memory total seed tag

      here : state_at (changed h s state memory total seed tag) s ≡ state
      here = state_here h s state memory total seed tag in_states

      there : (r : ℕ) → r ≢ s → state_at (changed h s state memory total seed tag) r ≡ state_at h r
      there = state_there h s state memory total seed tag in_states

      -- each counter is as it was, but for the one
      by : (P : ℕ → ℕ → Type 0) → P number (s + 1) → ((n : ℕ) → n ≢ number → n < length counters → P n (slice_index counters n)) →
          (n : ℕ) → n < length (slice_set counters number (s + 1)) → P n (slice_index (slice_set counters number (s + 1)) n)
      by x0 one others n inside = grind (arith, get_or-set_other, get_or-set_same, in_counters, length-set)

      -- a slot of another class is not the one
      another : (n r : ℕ) → n ≢ number → n < length counters → (slot_in h r).class ≡ slice_index h.layout.classes n → r ≢ s
      another n r other k class is =
          let own : (slot_in h s).class ≡ slice_index h.layout.classes number =
          ap (λ q. (slot_in h q).class) counter ∙ (counted (omega (arith, counter))).1 in
          other (one_number 1 h.layout.classes n number sound.partition.table (subst (λ m. n < m) f.long k) within
          (sym class ∙ ap (λ q. (slot_in h q).class) is ∙ own))
