-- A heap at a moment of its timeline: its live slots are the live blocks, and the slots that were ever given out are within the peaks.
use Rattle.std.proofs.Common.{◌≡◌, ℕ, ◌+◌, ◌-◌, ◌*◌, ◌<◌, ◌≤◌, false, cond, eqb, List, [], ◌∷◌, ◌++◌, length, get_or, max, arith}
use Rattle.std.proofs.Common.{slice_set, refl, sym, ap, subst, ◌∙◌}
use Rattle.std.proofs.lemmas.{Bool.Decides.{nat_tests}, List.{get_or-set_other, get_or-set_same, length-set, set-set, set_comm}}
use Rattle.machine_theory.specs.{Address.{logical_tag}}
use Rattle.class_table.specs.{Layout.{Partition, Slot, slot_count, slot_of}, Sizes.{chunk_granules}}
use Rattle.footprint_theory.proofs.{Chosen.{IsChosen, none_released}, Counted.{FitsSlot, IsCounted, blocks_are, next_counted, peaks_of}}
use Rattle.footprint_theory.proofs.{Growing.{most-next}, Peaks.{IsLastResort, IsWithinPeaks, changed}}
use Rattle.footprint_theory.proofs.Slots.{freed_bytes_in, is_live, live_in, released_by, sized_in, sum_by_states, sum_changes}
use Rattle.heap_theory.proofs.{CallsKept.{IsSoundHeap-moved, not_reusable}, HeapKept.{IsSoundHeap-freed, IsSoundHeap-given_out}}
use Rattle.heap_theory.proofs.HeapKept.{IsSoundHeap-resized}
use Rattle.heap_theory.specs.{Calls.{given_out, freed as freed_heap, moved, next_tag, resized, with_payload}, Sound.{IsSoundHeap}}
use Rattle.heap_theory.specs.Lookups.{Chunk, IsLiveChunk, IsReusable}
use Rattle.heap_theory.specs.{State.{State, Heap, slot_in, state_at, last_tag, is_released}, State.State.{Fresh, Live, Dead}}
use Rattle.tuner_theory.proofs.{TimelineSteps.{frees_at, requests_at}, Timelines.{moment-below}}
use Rattle.tuner_theory.specs.{Footprint.{blocks}}
use Rattle.tuner_theory.specs.declared.size_event.{SizeEvent.{SizeEvent}, SizeEvent.TheVariants.{Request, Free}}

pub record IsAt (h : Heap) (past : List SizeEvent) : Type 0 where
  pub sound : IsSoundHeap h
  pub counts : IsCounted h.layout h.states past
  pub within : IsWithinPeaks h.layout h.quarantine h.states h.total (peaks_of h.layout.classes past)

-- ---- one event

-- the states of a class that goes on
peaks-next : (layout : Partition) (states : List State) (past : List SizeEvent) (e : SizeEvent) → IsCounted layout states (past ++ e ∷ []) →
    (class : ℕ) → peaks_of layout.classes (past ++ e ∷ []) class
    ≡ max (peaks_of layout.classes past class) (sum_by_states layout states (live_in class))
peaks-next layout states past e c class = grind (arith, most-next, blocks_are)

live-below-peak : (layout : Partition) (states : List State) (past : List SizeEvent) → IsCounted layout states past → (class : ℕ) →
    sum_by_states layout states (live_in class) ≤ peaks_of layout.classes past class
live-below-peak layout states past c class =
    omega (arith, blocks_are layout states past c class, moment-below (blocks layout.classes class) past (length past) (omega arith))

module _ (layout : Partition) (states : List State) (past : List SizeEvent) (c : IsCounted layout states past) (s n t : ℕ)
    (within : s < slot_count layout) where
  -- a slot without a live block gets one
  counts-given : is_live (get_or states s Fresh) ≡ false → FitsSlot layout s n →
      IsCounted layout (slice_set states s (Live n t)) (past ++ Request n ∷ [])
  counts-given not fits =
      next_counted layout states past c s within (Live n t) (Request n) (λ m. balance m (slot_of layout s) (get_or states s Fresh) not)
      (λ m u is. let same : n ≡ m = cc in subst (FitsSlot layout s) same fits) (λ m some. grind (arith, nat_tests, fits.1))
    where
      balance : (m : ℕ) (slot : Slot) (x : State) → is_live x ≡ false →
          sized_in m slot (Live n t) + frees_at m (Request n) ≡ sized_in m slot x + requests_at m (Request n)
      balance m slot x not = grind arith

  -- the block of a slot is freed
  counts-freed : (k u m : ℕ) → get_or states s Fresh ≡ Live n t → IsCounted layout (slice_set states s (Dead k u m)) (past ++ Free n ∷ [])
  counts-freed k u m was =
      next_counted layout states past c s within (Dead k u m) (Free n) (λ m. balance m (slot_of layout s) (get_or states s Fresh) was)
      (λ m u is. absurd cc) (λ m some. absurd (omega (arith, some)))
    where
      balance : (i : ℕ) (slot : Slot) (x : State) → x ≡ Live n t →
          sized_in i slot (Dead k u m) + frees_at i (Free n) ≡ sized_in i slot x + requests_at i (Free n)
      balance i slot x was = grind arith

-- ---- what a request leaves

not-live : (h : Heap) (s : ℕ) → IsReusable h s → is_live (state_at h s) ≡ false
not-live h s reusable = grind arith

pub released-same : (h : Heap) (x : State) → released_by h.quarantine h.total x ≡ is_released h x
released-same h x = grind arith

last-resort : (h : Heap) (n s t : ℕ) → IsChosen h n s → IsLastResort h.layout h.quarantine h.states h.total s (Live n t)
last-resort h n s t c fresh = (
  refl,
  λ r lt its. released-same h (state_at h r) ∙ none_released h (slot_in h s).class r lt its s c.next fresh,
)

-- one that is live, or was, is not fresh
no-resort : (h : Heap) (states : List State) (s n t : ℕ) (new : State) → get_or states s Fresh ≡ Live n t →
    IsLastResort h.layout h.quarantine states h.total s new
no-resort h states s n t new was fresh = grind arith

-- a live slot holds no freed bytes
live-window : (class x total rest : ℕ) (slot : Slot) (n t : ℕ) → freed_bytes_in class x slot (Live n t) + (total - x) ≤ rest + (total - x)
live-window class x total rest slot n t = grind arith

dead-window : (class x total rest : ℕ) (slot : Slot) (n t : ℕ) →
    freed_bytes_in class x slot (Dead n t total) + (total - x) ≤ rest + (total + 16 * slot.class - x)
dead-window class x total rest slot n t = grind (arith, nat_tests)

module _ (h : Heap) (past : List SizeEvent) (at : IsAt h past) where
  pub given_at : (n s : ℕ) → IsChosen h n s → IsAt (given_out h s n) (past ++ Request n ∷ [])
  unfolding given_out
  given_at n s c =
      let slot = slot_in h s in
      let in_range = c.may.reusable.in_range in
      let counts = counts-given h.layout h.states past at.counts s n (next_tag h s) in_range
      (not-live h s c.may.reusable) (c.small, c.may.class) in
      record {
        sound = IsSoundHeap-given_out h s n at.sound in_range c.may.room;
        counts = counts;
        within =
            changed _ _ _ _ _ _ _ s (Live n (next_tag h s)) at.counts.long in_range at.within refl (last-resort h n s (next_tag h s) c)
            (λ class x. live-window class x _ _ slot n (next_tag h s))
            (peaks-next h.layout (slice_set h.states s (Live n (next_tag h s))) past (Request n) counts);
      }

  pub freed_at : (n s t : ℕ) → s < slot_count h.layout → state_at h s ≡ Live n t → IsAt (freed_heap h s n) (past ++ Free n ∷ [])
  unfolding freed_heap
  freed_at n s t in_range live =
      let slot = slot_in h s in
      let new = Dead n (last_tag (state_at h s)) h.total in
      let counts = counts-freed h.layout h.states past at.counts s n t in_range n (last_tag (state_at h s)) h.total live in
      record {
        sound = IsSoundHeap-freed h s n t at.sound in_range live;
        counts = counts;
        within =
            changed _ _ _ _ _ _ _ s new at.counts.long in_range at.within refl (no-resort h h.states s n t new live)
            (λ class x. dead-window class x _ _ slot n (last_tag (state_at h s)))
            (peaks-next h.layout (slice_set h.states s new) past (Free n) counts);
      }

  -- ---- what a realloc leaves: the free of the old block, and the request of the new one

  module _ (p : ℕ) (chunk : Chunk) (live : IsLiveChunk h p chunk) (n : ℕ) where
    abbrev both : List SizeEvent
    both = (past ++ Free chunk.size ∷ []) ++ Request n ∷ []

    abbrev dead : ℕ → State
    dead u = Dead chunk.size u h.total

    counts-free : (u : ℕ) → IsCounted h.layout (slice_set h.states chunk.slot (dead u)) (past ++ Free chunk.size ∷ [])
    counts-free u =
        counts-freed h.layout h.states past at.counts chunk.slot chunk.size (logical_tag p) live.in_range chunk.size u h.total live.live

    change : (new : State) (class : ℕ) →
        sum_by_states h.layout (slice_set h.states chunk.slot new) (live_in class)
        + live_in class (slot_in h chunk.slot) (state_at h chunk.slot)
        ≡ sum_by_states h.layout h.states (live_in class) + live_in class (slot_in h chunk.slot) new
    change new class = sum_changes h.layout h.states chunk.slot at.counts.long live.in_range new (live_in class)

    -- the most of a class is that before, or what is live in the end
    peaks-both : (states : List State) → IsCounted h.layout states both → (class : ℕ) → peaks_of h.layout.classes both class
        ≡ max (peaks_of h.layout.classes past class) (sum_by_states h.layout states (live_in class))
    peaks-both states c class =
        omega (
          arith,
          peaks-next h.layout states (past ++ Free chunk.size ∷ []) (Request n) c class,
          peaks-next h.layout (slice_set h.states chunk.slot (dead 0)) past (Free chunk.size) (counts-free 0) class,
          change (dead 0) class,
          none class (slot_in h chunk.slot),
          live-below-peak h.layout h.states past at.counts class,
        )
      where
        none : (class : ℕ) (slot : Slot) → live_in class slot (dead 0) ≡ 0
        none class slot = grind arith

    -- in place
    pub resized_at : FitsSlot h.layout chunk.slot n → chunk_granules n < (slot_in h chunk.slot).class → IsAt (resized h chunk.slot n) both
    unfolding resized
    resized_at fits room =
        let t = last_tag (state_at h chunk.slot) in
        let slot = slot_in h chunk.slot in
        let counts = counts-in-place t fits in
        record {
          sound = IsSoundHeap-resized h chunk.slot n chunk.size (logical_tag p) at.sound live.in_range live.live room;
          counts = counts;
          within =
              changed _ _ _ _ _ _ _ chunk.slot (Live n t) at.counts.long live.in_range at.within refl
              (no-resort h h.states chunk.slot chunk.size (logical_tag p) (Live n t) live.live)
              (λ class x. live-window class x _ _ slot n t)
              (peaks-both (slice_set h.states chunk.slot (Live n t)) counts);
        }
      where
        counts-in-place : (t : ℕ) → FitsSlot h.layout chunk.slot n → IsCounted h.layout (slice_set h.states chunk.slot (Live n t)) both
        counts-in-place t fits =
            subst (λ states. IsCounted h.layout states both) (set-set h.states chunk.slot (dead 0) (Live n t))
            (counts-given h.layout (slice_set h.states chunk.slot (dead 0)) (past ++ Free chunk.size ∷ []) (counts-free 0) chunk.slot n t
            live.in_range (now-dead 0) fits)
          where
            now-dead : (u : ℕ) → is_live (get_or (slice_set h.states chunk.slot (dead u)) chunk.slot Fresh) ≡ false
            now-dead u = ap is_live (get_or-set_same h.states chunk.slot (dead u) Fresh (omega (arith, at.counts.long, live.in_range)))

    -- to another class
    module _ (s : ℕ) (c : IsChosen h n s) (differ : (slot_in h chunk.slot).class ≡ (slot_in h s).class → ⊥) where
      other : chunk.slot ≡ s → ⊥
      other is = not_reusable h s chunk.size (logical_tag p) c.may.reusable (ap (state_at h) (sym is) ∙ live.live)

      abbrev given : ℕ → List State
      given t = slice_set h.states s (Live n t)

      still-live : (t : ℕ) → get_or (given t) chunk.slot Fresh ≡ Live chunk.size (logical_tag p)
      still-live t = get_or-set_other h.states s chunk.slot (Live n t) Fresh other ∙ live.live

      counts-moved : (t u : ℕ) → IsCounted h.layout (slice_set (given t) chunk.slot (dead u)) both
      counts-moved t u =
          subst (λ states. IsCounted h.layout states both) (set_comm h.states chunk.slot s (dead u) (Live n t) other)
          (counts-given h.layout (slice_set h.states chunk.slot (dead u)) (past ++ Free chunk.size ∷ []) (counts-free u) s n t
          c.may.reusable.in_range
          (ap is_live (get_or-set_other h.states chunk.slot s (dead u) Fresh (λ is. other (sym is))) ∙ not-live h s c.may.reusable)
          (c.small, c.may.class))

      -- while both blocks are there, no class has more of them than in the end, or before
      peaks-given : (t u class : ℕ) → (peaks_of h.layout.classes both class
          ≡ max (peaks_of h.layout.classes past class) (sum_by_states h.layout (given t) (live_in class)))
          × (peaks_of h.layout.classes both class ≡ max (peaks_of h.layout.classes both class)
          (sum_by_states h.layout (slice_set (given t) chunk.slot (dead u)) (live_in class)))
      peaks-given t u class =
          let both_is = peaks-both (slice_set (given t) chunk.slot (dead u)) (counts-moved t u) class in
          let first = sum_changes h.layout h.states s at.counts.long c.may.reusable.in_range (Live n t) (live_in class) in
          let second = sum_changes h.layout (given t) chunk.slot (length-set h.states s (Live n t) ∙ at.counts.long) live.in_range (dead u)
          (live_in class) in
          let before = live-below-peak h.layout h.states past at.counts class in
          let w = weights (slot_in h s) (state_at h s) (not-live h s c.may.reusable) in
          let v = old-weights (slot_in h chunk.slot) (get_or (given t) chunk.slot Fresh) (still-live t) in
          let one = not-both (slot_in h chunk.slot).class (slot_in h s).class differ in (
            omega (arith, both_is, first, second, before, w.0, w.1, v.0, v.1, one),
            omega (arith, both_is),
          )
        where
          weights : (slot : Slot) (x : State) → is_live x ≡ false →
              (live_in class slot x ≡ 0) × (live_in class slot (Live n t) ≡ cond (eqb slot.class class) 1 0)
          weights slot x not = grind arith

          old-weights : (slot : Slot) (x : State) → x ≡ Live chunk.size (logical_tag p) →
              (live_in class slot x ≡ cond (eqb slot.class class) 1 0) × (live_in class slot (dead u) ≡ 0)
          old-weights slot x is = grind arith

          not-both : (a b : ℕ) → (a ≡ b → ⊥) → cond (eqb a class) 1 0 + cond (eqb b class) 1 0 ≤ 1
          not-both a b differ = grind (arith, nat_tests)

      within-moved : (t u : ℕ) → IsWithinPeaks h.layout h.quarantine (slice_set (given t) chunk.slot (dead u))
          (h.total + 16 * (slot_in h chunk.slot).class) (peaks_of h.layout.classes both)
      within-moved t u =
          changed _ _ _ _ _ (peaks_of h.layout.classes both) _ chunk.slot (dead u) (length-set h.states s (Live n t) ∙ at.counts.long)
          live.in_range
          (changed _ _ _ _ _ _ _ s (Live n t) at.counts.long c.may.reusable.in_range at.within refl (last-resort h n s t c)
          (λ class x. live-window class x _ _ (slot_in h s) n t) (λ class. (peaks-given t u class).0))
          refl (no-resort h (given t) chunk.slot chunk.size (logical_tag p) (dead u) (still-live t))
          (λ class x. dead-window class x _ _ (slot_in h chunk.slot) chunk.size u) (λ class. (peaks-given t u class).1)

      pub moved_at : IsAt (moved h chunk s n) both
      unfolding moved freed_heap with_payload given_out
      moved_at =
          let t = next_tag h s in
          let u = last_tag (get_or (given t) chunk.slot Fresh) in
          record {
            sound = IsSoundHeap-moved h p chunk s n at.sound live c.may;
            counts = counts-moved t u;
            within = within-moved t u;
          }
