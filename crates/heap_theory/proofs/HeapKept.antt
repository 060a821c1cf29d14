-- Each change that a call makes of a heap keeps it sound.
use Rattle.std.proofs.Common.{◌≡◌, ◌≢◌, ◌⊎◌, ℕ, ◌+◌, ◌<◌, ◌≤◌, List, length, get_or, refl, sym, ◌∙◌, subst, inl, inr, ⊎_elim, arith}
use Rattle.std.proofs.{Common.{slice_set}, lemmas.Bool.{cases_lt, cases_eq}, lemmas.List.{get_or-set_same, get_or-set_other, length-set}}
use Rattle.machine_theory.specs.{Memory.{Granule, tag_at, tagged, written}, Seed.{next_seed}}
use Rattle.class_table.specs.{Layout.{Slot, end_of, slot_count, block_bytes}, Sizes.{chunk_granules}}
use Rattle.heap_theory.{proofs.Tags.{IsTagOf-next_tag, next_tag-differs}, specs.Sound.{IsTagOf, IsTaggedSlot, IfDead, IsSoundHeap}}
use Rattle.heap_theory.specs.{Calls.{next_tag, chunk_tagged, given_out, freed, resized, with_payload}, State.State.{Fresh, Live, Dead}}
use Rattle.heap_theory.specs.State.{State, Heap, slot_in, state_at, last_tag, chunk_granules_of, payload_start}
use Rattle.heap_theory.proofs.TheoryLemmas as laws

-- a slot inside the region
pub in_region : (h : Heap) (s : ℕ) → IsSoundHeap h → s < slot_count h.layout → end_of (slot_in h s) ≤ length h.memory
in_region h s sound within = subst (λ n. end_of (slot_in h s) ≤ n) (sym sound.long) (sound.slots.inside s within)

pub in_states : (h : Heap) (s : ℕ) → IsSoundHeap h → s < slot_count h.layout → s < length h.states
in_states h s sound within = subst (λ n. s < n) (sym sound.states) within

-- a slot whose granules keep their tags stays tagged
IsTaggedSlot-same : (memory other : List Granule) (s : ℕ) (slot : Slot) (state : State) →
    ((g : ℕ) → slot.start ≤ g → g < end_of slot → tag_at other g ≡ tag_at memory g) → IsTaggedSlot memory s slot state →
    IsTaggedSlot other s slot state
IsTaggedSlot-same memory other s slot state same t = grind arith

-- Slot s gets another state, its payload other tags, and the heap another total, seed and tag.
module _ (h : Heap) (s : ℕ) (state : State) (memory : List Granule) (total seed tag : ℕ) (sound : IsSoundHeap h)
    (in_range : s < slot_count h.layout) where
  here : (r : ℕ) → r ≡ s → get_or (slice_set h.states s state) r Fresh ≡ state
  here r is = grind (arith, get_or-set_same, in_states)

  there : (r : ℕ) → (r ≡ s → ⊥) → get_or (slice_set h.states s state) r Fresh ≡ state_at h r
  there r not = get_or-set_other h.states s r state Fresh not

  -- a granule of another slot, or of none, is outside of the payload of s
  apart : (r g : ℕ) → r < slot_count h.layout → (r ≡ s → ⊥) → (slot_in h r).start ≤ g → g < end_of (slot_in h r) →
      (g ≤ (slot_in h s).start) ⊎ (end_of (slot_in h s) ≤ g)
  apart r g within not from to = grind (arith, cases_lt)

  pub IsSoundHeap-retagged : length memory ≡ length h.memory →
      ((g : ℕ) → (g ≤ (slot_in h s).start) ⊎ (end_of (slot_in h s) ≤ g) → tag_at memory g ≡ tag_at h.memory g) →
      IsTaggedSlot memory s (slot_in h s) state → h.total ≤ total → IfDead state (λ mark. (h.total ≤ mark) × (mark < total)) → tag < 16 →
      IsSoundHeap (record h { states = slice_set h.states s state; memory = memory; total = total; seed = seed; tag = tag })
  IsSoundHeap-retagged long others tagged grows marked tag_below =
      record {
        partition = sound.partition;
        slots = sound.slots;
        long = long ∙ sound.long;
        states = length-set h.states s state ∙ sound.states;
        tag_below = tag_below;
        tagged = λ r within. ⊎_elim (λ is. tagged_here r is) (λ not. tagged_there r within not) (cases_eq r s);
        slack = grind arith;
        marks = λ r. ⊎_elim
            (grind (arith, here))
            (grind (arith, there))
            (cases_eq r s);
        marks_differ = λ r q apart. differ r q apart (cases_eq r s) (cases_eq q s);
      }
    where
      tagged_here : (r : ℕ) → r ≡ s → IsTaggedSlot memory r (slot_in h r) (get_or (slice_set h.states s state) r Fresh)
      tagged_here r is =
          subst (λ x. IsTaggedSlot memory r (slot_in h r) x) (sym (here r is))
          (subst (λ q. IsTaggedSlot memory q (slot_in h q) state) (sym is) tagged)

      tagged_there : (r : ℕ) → r < slot_count h.layout → (r ≡ s → ⊥) →
          IsTaggedSlot memory r (slot_in h r) (get_or (slice_set h.states s state) r Fresh)
      tagged_there r within not = subst (λ x. IsTaggedSlot memory r (slot_in h r) x) (sym (there r not))
          (IsTaggedSlot-same h.memory memory r (slot_in h r) (state_at h r) (λ g from to. others g (apart r g within not from to))
          (sound.tagged r within))

      IsOld : ℕ → Type 0
      IsOld mark = mark < h.total

      IsNew : ℕ → Type 0
      IsNew mark = (h.total ≤ mark) × (mark < total)

      IsBelow : ℕ → Type 0
      IsBelow mark = mark < total

      Differ : State → State → Type 0
      Differ x y = IfDead x (λ mark. IfDead y (λ other. mark ≢ other))

      now_differ : (r q : ℕ) (x y : State) → get_or (slice_set h.states s state) r Fresh ≡ x →
          get_or (slice_set h.states s state) q Fresh ≡ y → Differ x y →
          Differ (get_or (slice_set h.states s state) r Fresh) (get_or (slice_set h.states s state) q Fresh)
      now_differ r q x y r_is q_is differ =
          subst (λ x. Differ x (get_or (slice_set h.states s state) q Fresh)) (sym r_is) (subst (Differ x) (sym q_is) differ)

      differ : (r q : ℕ) → r ≢ q → (r ≡ s) ⊎ (r ≡ s → ⊥) → (q ≡ s) ⊎ (q ≡ s → ⊥) →
          Differ (get_or (slice_set h.states s state) r Fresh) (get_or (slice_set h.states s state) q Fresh)
      differ r q apart (inl a) (inl b) = absurd (apart (a ∙ sym b))
      differ r q apart (inl a) (inr b) = grind (arith, here, there)
      differ r q apart (inr a) (inl b) = grind (arith, there, here)
      differ r q apart (inr a) (inr b) = grind (arith, there)

-- the tag of a live slot is one that it may take
IsTagOf-live : (h : Heap) (s n t : ℕ) → IsSoundHeap h → s < slot_count h.layout → state_at h s ≡ Live n t →
    IsTagOf s (last_tag (state_at h s))
IsTagOf-live h s n t sound in_range live = grind arith

module _ where
  pub length-chunk_tagged : (slot : Slot) (n tag : ℕ) (memory : List Granule) → length (chunk_tagged slot n tag memory) ≡ length memory
  length-chunk_tagged slot n tag memory = grind (arith, laws.tagged_length)

  module _ (slot : Slot) (n tag : ℕ) (memory : List Granule) (room : chunk_granules n < slot.class) (inside : end_of slot ≤ length memory)
    where
      chunk_tagged_others : (g : ℕ) → (g ≤ slot.start) ⊎ (end_of slot ≤ g) → tag_at (chunk_tagged slot n tag memory) g ≡ tag_at memory g
      chunk_tagged_others g out = grind (arith, laws.other_tag)

      chunk_tagged_chunk : (g : ℕ) → slot.start < g → g ≤ slot.start + chunk_granules n → tag_at (chunk_tagged slot n tag memory) g ≡ tag
      chunk_tagged_chunk g from to = grind (arith, laws.other_tag, laws.written_tag)

      chunk_tagged_tail : (g : ℕ) → slot.start + chunk_granules n < g → g < end_of slot → tag_at (chunk_tagged slot n tag memory) g ≡ 0
      chunk_tagged_tail g from to = grind (arith, laws.written_tag, laws.tagged_length)

  -- a slot that becomes live for n bytes, under a tag that it may take
  IsSoundHeap-live : (h : Heap) (s n tag seed drawn : ℕ) → IsSoundHeap h → s < slot_count h.layout →
      chunk_granules n < (slot_in h s).class → IsTagOf s tag → drawn < 16 →
      IsSoundHeap (record h {
        states = slice_set h.states s (Live n tag);
        memory = chunk_tagged (slot_in h s) n tag h.memory;
        seed = seed;
        tag = drawn;
      })
  IsSoundHeap-live h s n tag seed drawn sound in_range room is_tag below =
      let inside = in_region h s sound in_range in
      IsSoundHeap-retagged h s (Live n tag) (chunk_tagged (slot_in h s) n tag h.memory) h.total seed drawn sound in_range
      (length-chunk_tagged (slot_in h s) n tag h.memory)
      (λ g out. chunk_tagged_others (slot_in h s) n tag h.memory room inside g out)
      (record {
        room = room;
        chunk_tag = tag;
        is_chunk_tag = (is_tag, refl);
        header =
            chunk_tagged_others (slot_in h s) n tag h.memory room inside (slot_in h s).start (inl (omega arith))
            ∙ (sound.tagged s in_range).header;
        chunk = chunk_tagged_chunk (slot_in h s) n tag h.memory room inside;
        tail = chunk_tagged_tail (slot_in h s) n tag h.memory room inside;
      })
      (omega arith) tt below

  pub IsSoundHeap-given_out : (h : Heap) (s n : ℕ) → IsSoundHeap h → s < slot_count h.layout → chunk_granules n < (slot_in h s).class →
      IsSoundHeap (given_out h s n)
  unfolding given_out
  IsSoundHeap-given_out h s n sound in_range room =
      let is_tag = IsTagOf-next_tag h s sound.tag_below in
      IsSoundHeap-live h s n (next_tag h s) (next_seed h.seed) (next_tag h s) sound in_range room is_tag is_tag.below

  pub IsSoundHeap-resized : (h : Heap) (s n m t : ℕ) → IsSoundHeap h → s < slot_count h.layout → state_at h s ≡ Live m t →
      chunk_granules n < (slot_in h s).class → IsSoundHeap (resized h s n)
  unfolding resized
  IsSoundHeap-resized h s n m t sound in_range live room =
      IsSoundHeap-live h s n (last_tag (state_at h s)) h.seed h.tag sound in_range room (IsTagOf-live h s m t sound in_range live)
      sound.tag_below

  pub IsSoundHeap-freed : (h : Heap) (s n t : ℕ) → IsSoundHeap h → s < slot_count h.layout → state_at h s ≡ Live n t →
      IsSoundHeap (freed h s n)
  unfolding freed
  IsSoundHeap-freed h s n t sound in_range live =
      let inside = in_region h s sound in_range in
      let old = sound.tagged s in_range in
      let room : chunk_granules n < (slot_in h s).class = subst (λ x. chunk_granules_of x < (slot_in h s).class) live old.room in
      let is_tag = IsTagOf-next_tag h s sound.tag_below in
      IsSoundHeap-retagged h s (Dead n (last_tag (state_at h s)) h.total)
      (tagged (payload_start (slot_in h s)) (chunk_granules n) (next_tag h s) h.memory)
      (h.total + block_bytes (slot_in h s)) (next_seed h.seed) (next_tag h s) sound in_range
      (laws.tagged_length (payload_start (slot_in h s)) (chunk_granules n) (next_tag h s) h.memory)
      (λ g out. laws.other_tag _ _ (next_tag h s) g h.memory (⊎_elim (λ low. inl (omega arith)) (λ high. inr (omega arith)) out))
      (record {
        room = room;
        chunk_tag = next_tag h s;
        is_chunk_tag = (IsTagOf-live h s n t sound in_range live, is_tag, next_tag-differs h s sound.tag_below);
        header = laws.other_tag _ _ (next_tag h s) (slot_in h s).start h.memory (inl (omega arith)) ∙ old.header;
        chunk = λ g from to. laws.written_tag _ _ (next_tag h s) g h.memory (omega arith) (omega arith) (omega arith);
        tail =
            λ g from to. laws.other_tag _ _ (next_tag h s) g h.memory (inr (omega arith))
            ∙ old.tail g (subst (λ x. (slot_in h s).start + chunk_granules_of x < g) (sym live) from) to;
      })
      (omega arith) (omega arith, omega arith) is_tag.below

  -- bytes that are written leave a sound heap
  pub IsSoundHeap-written : (h : Heap) (i : ℕ) (bytes : List ℕ) → IsSoundHeap h →
      IsSoundHeap (record h { memory = written i bytes h.memory })
  IsSoundHeap-written h i bytes sound = grind (arith, IsTaggedSlot-same, laws.written_length, laws.tag_under_bytes)

  pub IsSoundHeap-with_payload : (h : Heap) (s : ℕ) (bytes : List ℕ) → IsSoundHeap h → IsSoundHeap (with_payload h s bytes)
  unfolding with_payload
  IsSoundHeap-with_payload h s bytes sound = IsSoundHeap-written h _ bytes sound
