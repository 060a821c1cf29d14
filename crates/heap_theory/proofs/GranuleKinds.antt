-- What the kinds of granules mean.
use Rattle.std.proofs.Common.{◌≡◌, ℕ, ◌+◌, ◌<◌, ◌≤◌, true, cond, refl, sym, ap, ◌∙◌, subst, inl, inr, arith, Some, None, Option, ◌==◌}
use Rattle.std.proofs.Common.{nat_le, nat_lt}
use Rattle.std.proofs.lemmas.Bool.{false_from_ne_true, ltb-true, and_parts, ne_eqb, cases_eq, cases_lt, cond-true}
use Rattle.std.proofs.lemmas.Bool.{cond-false, eq-eqb}
use Rattle.machine_theory.specs.Memory.{is_among}
use Rattle.class_table.specs.Layout.{Covers, slot_over}
use Rattle.heap_theory.specs.GranuleKinds.{IsChunkGranule, IsPayloadGranule, IsOfItsKind, kind_of_chunk, kind_in_slot, kind_at, place_kind}
use Rattle.heap_theory.specs.{Sound.{IsSoundHeap}, State.State.{Fresh, Live, Dead}, declared.place_kind.PlaceKind.{PlaceKind}}
use Rattle.heap_theory.specs.State.{State, Heap, IsLive, is_dead, slot_in, state_at, chunk_granules_of, payload_start, IsSlot}
use Rattle.heap_theory.specs.declared.place_kind.PlaceKind.TheVariants.{Slack, Header, Tail, Dead as DeadChunk, Other}
use Rattle.heap_theory.proofs.TheoryLemmas as laws

is_among-to : (first count n : ℕ) → is_among first count n ≡ true → n < first + count
is_among-to first count n among = ltb-true n (first + count) (and_parts (nat_le first n) (nat_lt n (first + count)) among).1

module _ (h : Heap) (sound : IsSoundHeap h) (g : ℕ) where
  -- ---- the kind of a granule whose place is known

  slack_is : ((s : ℕ) → IsSlot h s → Covers (slot_in h s) g → ⊥) → place_kind h g ≡ Slack
  unfolding place_kind
  slack_is none = by (slot_over h.layout g) refl
    where
      by : (o : Option ℕ) → slot_over h.layout g ≡ o → kind_at h o g ≡ Slack
      by None was = refl
      by (Some s) was = let at = (laws.one_slot_covers 1 h.layout g s sound.partition.table).0 was in absurd (none s at.0 at.1)

  in_slot : (s : ℕ) → IsSlot h s → Covers (slot_in h s) g → place_kind h g ≡ kind_in_slot (slot_in h s) (state_at h s) g
  unfolding place_kind
  in_slot s within c = ap (λ o. kind_at h o g) ((laws.one_slot_covers 1 h.layout g s sound.partition.table).1 (within, c))

  header_is : (s : ℕ) → IsSlot h s → (slot_in h s).start ≡ g → place_kind h g ≡ Header
  header_is s within first =
      let wide = sound.slots.wide s within in
      in_slot s within (record { from = omega arith; to = omega arith }) ∙ cond-true ((slot_in h s).start == g) Header _ (eq-eqb _ _ first)

  -- past the header
  in_payload : (s : ℕ) → IsPayloadGranule h s g →
      place_kind h g
      ≡ cond (is_among (payload_start (slot_in h s)) (chunk_granules_of (state_at h s)) g) (kind_of_chunk (state_at h s)) Tail
  in_payload s p =
      let from : (slot_in h s).start < g = p.from in
      in_slot s p.in_range (record { from = omega arith; to = p.to })
      ∙ cond-false ((slot_in h s).start == g) Header _ (ne_eqb _ _ (λ is. omega arith))

  chunk_is : (s : ℕ) → IsChunkGranule h s g → place_kind h g ≡ kind_of_chunk (state_at h s)
  chunk_is s c =
      in_payload s (grind arith)
      ∙ cond-true (is_among (payload_start (slot_in h s)) (chunk_granules_of (state_at h s)) g) (kind_of_chunk (state_at h s)) Tail
      (grind arith)

  tail_is : (s : ℕ) → IsPayloadGranule h s g → (IsChunkGranule h s g → ⊥) → place_kind h g ≡ Tail
  tail_is s p rest =
      in_payload s p
      ∙ cond-false (is_among (payload_start (slot_in h s)) (chunk_granules_of (state_at h s)) g) (kind_of_chunk (state_at h s)) Tail
      (grind (arith, false_from_ne_true, is_among-to))

  live_is : (x : State) → IsLive x → kind_of_chunk x ≡ Other
  live_is x live = grind arith

  dead_is : (x : State) → is_dead x ≡ true → kind_of_chunk x ≡ DeadChunk
  dead_is x dead = grind arith

  -- ---- the place of a granule whose kind is known

  abbrev Means : PlaceKind → Type 0
  Means Slack = (s : ℕ) → IsSlot h s → Covers (slot_in h s) g → ⊥
  Means Header = (s : ℕ) × IsSlot h s × ((slot_in h s).start ≡ g)
  Means Tail = (s : ℕ) × IsPayloadGranule h s g × (IsChunkGranule h s g → ⊥)
  Means DeadChunk = (s : ℕ) × (is_dead (state_at h s) ≡ true) × IsChunkGranule h s g
  Means Other = (s : ℕ) × IsLive (state_at h s) × IsChunkGranule h s g

  means : Means (place_kind h g)
  means = by (slot_over h.layout g) refl
    where
      -- the chunk of a fresh slot has no granule
      chunk_means : (s : ℕ) → IsChunkGranule h s g → (x : State) → state_at h s ≡ x → Means (kind_of_chunk x)
      chunk_means s c Fresh was = grind arith
      chunk_means s c (Live size tag) was = (s, subst IsLive (sym was) tt, c)
      chunk_means s c (Dead size tag mark) was = (s, ap is_dead was, c)

      by : (o : Option ℕ) → slot_over h.layout g ≡ o → Means (place_kind h g)
      by None was =
          let none : (s : ℕ) → IsSlot h s → Covers (slot_in h s) g → ⊥ = λ s within c.
          let some = sym was ∙ (laws.one_slot_covers 1 h.layout g s sound.partition.table).1 (within, c) in absurd cc in
          subst Means (sym (slack_is none)) none
      by (Some s) was =
          let at = (laws.one_slot_covers 1 h.layout g s sound.partition.table).0 was in
          let from : (slot_in h s).start ≤ g = at.1.from in
          elim (cases_eq (slot_in h s).start g) [
            | inl first ↦ subst Means (sym (header_is s at.0 first)) (s, at.0, first)
            | inr past ↦ elim (cases_lt ((slot_in h s).start + chunk_granules_of (state_at h s)) g) [
              | inl above ↦
                  grind (arith, tail_is)
              | inr below ↦
                  let c : IsChunkGranule h s g = record { in_range = at.0; from = omega arith; to = below } in
                  subst Means (sym (chunk_is s c)) (chunk_means s c (state_at h s) refl)
            ]
          ]

  of_its_kind : IsOfItsKind h g
  of_its_kind = record {
    slack = (λ is. subst Means is means, slack_is);
    header = (λ is. subst Means is means, λ at. header_is at.0 at.1 at.2);
    other = (λ is. subst Means is means, λ at. chunk_is at.0 at.2 ∙ live_is (state_at h at.0) at.1);
    dead = (λ is. subst Means is means, λ at. chunk_is at.0 at.2 ∙ dead_is (state_at h at.0) at.1);
    tail = (λ is. subst Means is means, λ at. tail_is at.0 at.1 at.2);
  }

pub is_of_its_kind : (heap : Heap) → IsSoundHeap heap → (g : ℕ) → IsOfItsKind heap g
is_of_its_kind h sound g = of_its_kind h sound g
