-- In a region with room for the peaks there is a run through each timeline.
use Rattle.std.proofs.Common.{◌≡◌, ℕ, zero, suc, ◌/◌, ◌<◌, ◌≤◌, true, cond, eqb, List, [], ◌∷◌, ◌++◌, length, get_or, take, arith, All}
use Rattle.std.proofs.Common.{refl, sym, ap, subst, ◌∙◌, Some, Option, Ok, IsSome, append_assoc}
use Rattle.std.proofs.lemmas.Bool.{cases_Bool, cases_eq, cases_lt, eqb-true, leb-true}
use Rattle.std.proofs.lemmas.{Bool.Decides.{nat_tests}, List.{get_or_at, length-append, take_at}}
use Rattle.std.proofs.lemmas.{List.Elements.{All-contains, All-tail, filter_passes}, List.Sums.{sum_by-append, sum_by-cons}}
use Rattle.class_table.specs.Layout.{IsPartition, Partition, share_of, slot_count, slot_of}
use Rattle.class_table.specs.{Sizes.{largest_counted}, Tables.{class_for}}
use Rattle.footprint_theory.proofs.{Counted.{class-test}, Growing.{last_snapshot, same-before}, LawLemmas.{first_after}}
use Rattle.footprint_theory.proofs.LargeSizes.{counted_is_timeline, most-counted, requested-counted}
use Rattle.footprint_theory.proofs.{Room.{gets_a_slot}, Runs.{IsAfter, after_call}, Slots.{sized_in}}
use Rattle.footprint_theory.specs.Calls.{AreAnswered, IsAnswered, events_of, heap_after, Call, Call.{Malloc, Release}, IsRun}
use Rattle.footprint_theory.specs.Calls.{counted_events, is_counted}
use Rattle.footprint_theory.specs.{Calls.{timeline_of}, Room.{HasRoom, slots_needed}}
use Rattle.heap_theory.proofs.{Lookups.{chunk_at-is}, OwnPointers.{frees_chunk}, Pointers.{own_chunk}}
use Rattle.heap_theory.specs.Calls.{malloc_step}
use Rattle.heap_theory.specs.{Lookups.{slot_for_request}, Sound.{IsSoundHeap}, State.{Heap, State, first_heap, pointer_to, state_at}}
use Rattle.heap_theory.specs.{State.State.{Live}}
use Rattle.tuner_theory.proofs.{Sums.{sum_below-more, sum_below-none}, TimelineBlocks.{blocks-step, comes_at, goes_at, request-comes}}
use Rattle.tuner_theory.proofs.{TimelineSteps.{frees_at, freed-more, requested-more, requests_at}, Timelines.{moment-below}}
use Rattle.tuner_theory.specs.{Footprint.{blocks}, Timelines.{IsTimeline, freed, requested, snapshot_at}}
use Rattle.tuner_theory.specs.{Waste.{sum_below}, declared.size_event.{SizeEvent.{SizeEvent}, SizeEvent.TheVariants.{Request, Free}}}

-- ---- a live slot of a size

positive : (f : ℕ → ℕ) (m : ℕ) → 0 < sum_below f m → (s : ℕ) × (s < m) × (0 < f s)
positive f zero some = absurd (omega (arith, some, sum_below-none f))
positive f (suc m) some = grind (arith, cases_lt, sum_below-more f m, positive f m)

live-sized : (n : ℕ) (x : State) (slot : _) → 0 < sized_in n slot x → (t : ℕ) × (x ≡ Live n t)
live-sized n x slot some = grind (arith, nat_tests, cases_eq)

-- ---- the calls for what is left of a timeline

pub record Calls (h : Heap) (rest : List SizeEvent) : Type 0 where
  pub calls : List Call
  pub answered : AreAnswered h calls
  pub timeline : timeline_of h calls ≡ rest

some-is : {A : Type 0} (o : Option A) → IsSome o → (a : A) × (o ≡ Some a)
some-is o some = grind arith

malloc-is : (h : Heap) (n s : ℕ) → slot_for_request h n ≡ Ok s →
    IsAnswered h (Malloc n) × (events_of h (Malloc n) ≡ Request n ∷ [])
unfolding malloc_step
malloc-is h n s was = grind arith

own-not-null : (h : Heap) (s n t : ℕ) → IsSoundHeap h → s < slot_count h.layout → state_at h s ≡ Live n t → pointer_to h s ≡ 0 → ⊥
own-not-null h s n t sound within live is = grind (arith, chunk_at-is, own_chunk)

free-is : (h : Heap) (s n t : ℕ) → IsSoundHeap h → s < slot_count h.layout → state_at h s ≡ Live n t →
    IsAnswered h (Release (pointer_to h s)) × (events_of h (Release (pointer_to h s)) ≡ Free n ∷ [])
free-is h s n t sound within live = grind (arith, cases_Bool, frees_chunk, own_chunk, own-not-null, eqb-true)

one : (n : ℕ) → cond {A = ℕ} (eqb n n) 1 0 ≡ 1
one n = grind (arith, nat_tests)

module _ (events : List SizeEvent) (timeline : IsTimeline events) (layout : Partition) (limit : ℕ) (is : IsPartition layout)
    (serving : (n : ℕ) → n ≤ largest_counted → 0 < requested events n → IsSome (class_for layout.classes n))
    (room : HasRoom layout limit events) where
  abbrev counted : List SizeEvent
  counted = counted_events events

  module _ (past rest : List SizeEvent) (e : SizeEvent) (parts : past ++ e ∷ rest ≡ counted) where
    event : get_or counted (length past) (Free 0) ≡ e
    event = ap (λ es. get_or es (length past) (Free 0)) (sym parts) ∙ get_or_at past e rest (Free 0) (length past) refl

    within : length past < length counted
    within = omega (arith, ap length parts, length-append past (e ∷ rest))

    here : snapshot_at counted (length past) ≡ last_snapshot past
    here =
        ap (λ es. snapshot_at es (length past)) (sym parts) ∙ same-before past (e ∷ rest) (length past) (omega arith)

    first : take (length past) counted ≡ past
    first = ap (take (length past)) (sym parts) ∙ take_at past (e ∷ rest) (length past) refl

    -- a request gets a slot
    gets : (h : Heap) (n : ℕ) → IsAfter layout limit h past → e ≡ Request n → n ≤ largest_counted → (s : ℕ) × (slot_for_request h n ≡ Ok s)
    gets h n after was le =
        let c = some-is (class_for layout.classes n) (serving n le (omega (
          arith,
          requested-counted events n le,
          ap (λ es. requested es n) (sym parts),
          sum_by-append (requests_at n) past (e ∷ rest),
          sum_by-cons (requests_at n) e rest,
          ap (requests_at n) was,
          one n,
        ))) in
        let class = c.0 in
        let of_class : class_for layout.classes n ≡ Some class = c.1 in
        gets_a_slot layout limit h past is after n class le of_class (λ listed. omega (
          arith,
          All-contains (λ class. slots_needed layout.classes limit events class ≤ share_of layout / class) layout.classes class room listed,
          most-counted (blocks layout.classes class) events,
          moment-below (blocks layout.classes class) counted (suc (length past)) within,
          blocks-step counted layout.classes class (length past) (Free 0) (counted_is_timeline events timeline) within,
          ap (blocks layout.classes class) here,
          ap (goes_at layout.classes class) (event ∙ was),
          ap (comes_at layout.classes class) (event ∙ was),
          (request-comes layout.classes class n le).0,
          (request-comes layout.classes class n le).1,
          ap (λ b. cond {A = ℕ} b 1 0) (class-test layout.classes class class n of_class),
          one class,
        ))

    -- and a free finds a block
    finds : (h : Heap) (n : ℕ) → IsAfter layout limit h past → e ≡ Free n → n ≤ largest_counted →
        (s : ℕ) × (s < slot_count h.layout) × ((t : ℕ) × (state_at h s ≡ Live n t))
    finds h n after was le =
        let found = positive (λ s. sized_in n (slot_of h.layout s) (state_at h s)) (slot_count h.layout) (omega (
          arith,
          after.at.counts.counted n,
          (counted_is_timeline events timeline).live (suc (length past)) n le,
          requested-more counted (length past) n (Free 0) within,
          freed-more counted (length past) n (Free 0) within,
          ap (requests_at n) (event ∙ was),
          ap (frees_at n) (event ∙ was),
          ap (λ es. requested es n) first,
          ap (λ es. freed es n) first,
          one n,
        )) in
        (found.0, found.1, live-sized n (state_at h found.0) (slot_of h.layout found.0) found.2)

    -- a call that is this event, and those for the rest
    begins : (h : Heap) (call : Call) → IsAfter layout limit h past → IsAnswered h call × (events_of h call ≡ e ∷ []) →
        ((g : Heap) → (past ++ e ∷ []) ++ rest ≡ counted → IsAfter layout limit g (past ++ e ∷ []) → Calls g rest) → Calls h (e ∷ rest)
    begins h call after is later =
        let its = later (heap_after h call) (append_assoc past (e ∷ []) rest ∙ parts)
        (subst (λ es. IsAfter layout limit (heap_after h call) (past ++ es)) is.1 (after_call layout limit h past call after)) in
        record {
          calls = call ∷ its.calls;
          answered = (is.0, its.answered);
          timeline = ap (λ es. es ++ timeline_of (heap_after h call) its.calls) is.1 ∙ ap (λ es. e ∷ es) its.timeline;
        }

  from : (rest : List SizeEvent) (h : Heap) (past : List SizeEvent) → All (λ e. is_counted e ≡ true) rest → past ++ rest ≡ counted →
      IsAfter layout limit h past → Calls h rest
  from [] h past small parts after = record { calls = []; answered = tt; timeline = refl }
  from (Request n ∷ rest) h past small parts after =
      let s = gets past rest (Request n) parts h n after refl (leb-true _ _ (small 0 (Free 0) (omega arith))) in
      begins past rest (Request n) parts h (Malloc n) after (malloc-is h n s.0 s.1) (λ g.
      from rest g (past ++ Request n ∷ []) (All-tail (λ e. is_counted e ≡ true) (Request n) rest small))
  from (Free n ∷ rest) h past small parts after =
      let s = finds past rest (Free n) parts h n after refl (leb-true _ _ (small 0 (Free 0) (omega arith))) in
      begins past rest (Free n) parts h (Release (pointer_to h s.0)) after (free-is h s.0 n s.2.0 after.at.sound s.1 s.2.1) (λ g.
      from rest g (past ++ Free n ∷ []) (All-tail (λ e. is_counted e ≡ true) (Free n) rest small))

  pub a_run : (seed : ℕ) →
      (calls : List Call) × IsRun layout seed limit calls events × AreAnswered (first_heap layout seed limit) calls
  a_run seed =
      let made = from counted (first_heap layout seed limit) [] (filter_passes is_counted events) refl (first_after layout seed limit is) in
      (made.calls, record { partition = is; few = timeline.few; timeline = made.timeline }, made.answered)
