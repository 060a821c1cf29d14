-- The front of a class's list is the slot that the class gives out next.
use Rattle.std.proofs.Common.{◌≡◌, ℕ, ◌-◌, ◌<◌, ◌≤◌, true, List, [], ◌∷◌, refl, sym, ap, ◌∙◌, subst, inl, inr, arith, Some, None, Option}
use Rattle.std.proofs.{Common.{nat_le, slice_get, Contains}, lemmas.List.Sums.{AllPass-from_list_all, list_all-from_AllPass}}
use Rattle.std.{proofs.lemmas.Bool.{cases_eq, le-leb, ltb-true, and_parts}}
use Rattle.std.specs.Option.{option_or}
use Rattle.heap_theory.{proofs.ListSearch.{find_only, in_filter, Contains-range, Contains-cases, Contains-none}, specs.Links.{list_of}}
use Rattle.heap_theory.{proofs.Lookups.{IsCandidate, All-slots_with, is_latest, freed_last-is}, specs.Sound.{IsSoundHeap}}
use Rattle.heap_theory.proofs.Marks.{HasMark-own, mark_of-is, same_mark, chain_bytes, list_mark, IsNumberOf, number_is}
use Rattle.heap_theory.specs.Lookups.{slots_with, freed_last, lowest_fresh, slot_for}
use Rattle.heap_theory.specs.QueueAndLists.{HasMark, IsFreedList, AgreeWithMarks}
use Rattle.heap_theory.specs.State.{Heap, state_at, is_dead, is_released, mark_of}

module _ (h : Heap) (queue : List ℕ) (lists : List (List ℕ)) (number class : ℕ) (sound : IsSoundHeap h) (b : AgreeWithMarks h queue lists)
    (numbered : slice_get h.layout.classes number ≡ Some class) where
  is_number : IsNumberOf h.layout.classes number class
  is_number = number_is h.layout.classes number class numbered

  pub freed_list : IsFreedList h class b.from (list_of lists number)
  freed_list = grind (arith, is_number)

  -- a released slot of the class stands in its list
  pub listed : (r : ℕ) → IsCandidate h (is_released h) class r → Contains (list_of lists number) r
  listed r c =
      let both = and_parts (is_dead (state_at h r)) _ c.passes in
      let over : h.quarantine < h.total - mark_of (state_at h r) = ltb-true _ _ both.1 in
      let sum = chain_bytes h b.from queue b.agree.chain in
      b.agree.listed r (mark_of (state_at h r)) number c.in_range (HasMark-own (state_at h r) both.0) (omega (arith, b.held))
      (numbered ∙ ap Some (sym c.of_class))

  marked : (r : ℕ) → IsCandidate h (is_released h) class r → HasMark (state_at h r) (mark_of (state_at h r))
  marked r c = HasMark-own (state_at h r) (and_parts (is_dead (state_at h r)) _ c.passes).0

  pub front_is_given : (s : ℕ) (rest : List ℕ) → list_of lists number ≡ s ∷ rest → slot_for h class ≡ Some s
  unfolding slot_for
  front_is_given s rest is =
      let f : IsFreedList h class b.from (s ∷ rest) = subst (λ list. IsFreedList h class b.from list) is freed_list in
      let over : h.quarantine < h.total - f.0 = b.agree.released s f.0 f.1 f.3 f.4 in
      let candidate : Contains (slots_with h (is_released h) class) s =
      grind (arith, in_filter, Contains-range) in
      ap (λ o. option_or o (lowest_fresh h class))
      (find_only (is_latest h (slots_with h (is_released h) class)) (slots_with h (is_released h) class) s candidate
      (list_all-from_AllPass (λ r. nat_le (mark_of (state_at h r)) (mark_of (state_at h s))) (slots_with h (is_released h) class)
      (λ k d inside. le-leb _ _ (before f _ (All-slots_with h (is_released h) class k d inside))))
      (λ k d inside latest. only f candidate _ (All-slots_with h (is_released h) class k d inside) latest))
    where
      -- each other one was freed before it
      before : IsFreedList h class b.from (s ∷ rest) → (r : ℕ) → IsCandidate h (is_released h) class r →
          mark_of (state_at h r) ≤ mark_of (state_at h s)
      before f r c =
          let here : mark_of (state_at h s) ≡ f.0 = mark_of-is (state_at h s) f.0 f.3 in
          elim (Contains-cases s rest r (subst (λ list. Contains list r) is (listed r c))) [
            | inl same ↦ subst (λ q. mark_of (state_at h q) ≤ mark_of (state_at h s)) same (omega arith)
            | inr after ↦ omega (arith, list_mark h class f.0 rest r (mark_of (state_at h r)) f.5 after (marked r c))
          ]

      only : IsFreedList h class b.from (s ∷ rest) → Contains (slots_with h (is_released h) class) s → (r : ℕ) →
          IsCandidate h (is_released h) class r →
          is_latest h (slots_with h (is_released h) class) r ≡ true → r ≡ s
      only f candidate r c latest =
          let here : mark_of (state_at h s) ≡ f.0 = mark_of-is (state_at h s) f.0 f.3 in
          let above : mark_of (state_at h s) ≤ mark_of (state_at h r) =
          grind (arith, AllPass-from_list_all) in
          let under : mark_of (state_at h r) ≤ mark_of (state_at h s) = before f r c in
          elim (cases_eq r s) [
            | inl same ↦ same
            | inr not ↦ absurd (same_mark (state_at h r) (state_at h s) (mark_of (state_at h r)) f.0 (marked r c) f.3 (omega arith)
                (sound.marks_differ r s not))
          ]

  pub lowest_fresh_is_given : list_of lists number ≡ [] → slot_for h class ≡ lowest_fresh h class
  unfolding slot_for
  lowest_fresh_is_given is = ap (λ o. option_or o (lowest_fresh h class)) (by (freed_last h (slots_with h (is_released h) class)) refl)
    where
      by : (o : Option ℕ) → freed_last h (slots_with h (is_released h) class) ≡ o → freed_last h (slots_with h (is_released h) class) ≡ None
      by None was = was
      by (Some r) was = absurd (Contains-none r (subst (λ list. Contains list r) is (listed r (freed_last-is h class r was))))
