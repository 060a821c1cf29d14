-- The sizes of the classes of a table, and the peak of each class.
use Rattle.std.proofs.Common.{◌≡◌, ℕ, ◌+◌, ◌-◌, ◌*◌, ◌<◌, ◌≤◌, List, [], ◌∷◌, ◌++◌, length, take, sum_by, slice_get, slice_index}
use Rattle.std.proofs.{Common.{get_or, arith, ap, sym, ◌∙◌, All, Some, add-one}}
use Rattle.std.proofs.{Math.Seq.{get_or-append_seam}, lemmas.List.{get_or_append_left}}
use Rattle.std.proofs.lemmas.List.{Elements.{All-map}, Sums.{sum_by_more}}
use Rattle.std.{proofs.lemmas.Option.{get_or_from_slice_get, slice_get_within}, specs.List.{range_with_len}}
use Rattle.class_table.{proofs.LawLemmas.{classes_of_legal_table}, specs.Tables.{IsLegalTable}}
use Rattle.tuner_theory.{proofs.Footprint.{blocks-of_number}, proofs.Timelines.{snapshot-counts}, specs.Footprint.{blocks}}
use Rattle.tuner_theory.specs.{Histories.{most}, Profiles.{AreCounts, greatest_count}, Timelines.{IsTimeline, moments, snapshot_at}}
use Rattle.tuner_theory.specs.declared.size_event.SizeEvent.{SizeEvent}
use Rattle.history_count.proofs.{ClassByClass.{blocks-cut, cut-class, most-same}, TimelineLemmas.Peaks.{span-few}}
use Rattle.history_count.specs.{Histories.{blocks_from}, Timelines.LiveBlocks.{IsFirst, class_bytes}, declared.timelines.peaks.Peak.{Peak}}
use Rattle.history_count.specs.Timelines.Stretches.{AreInOrder, class_start}

-- ---- where the sizes of a class begin and end

module _ (classes : List ℕ) (legal : IsLegalTable 1 classes) where
  measure-at : (number : ℕ) (s : List ℕ) → number < length classes → AreCounts s
      → blocks classes (get_or classes number 0) s ≡ blocks_from (class_start classes number) (16 * get_or classes number 0 - 15) s
  measure-at number s lt counts =
      blocks-of_number 1 (omega arith) number classes s (classes_of_legal_table 1 classes legal) lt
      ∙ blocks-cut (get_or (1 ∷ classes) number 0) (get_or classes number 0) (class_start classes number)
      (16 * get_or classes number 0 - 15) s (grind arith) (cut-class (get_or classes number 0) (legal.in_range number 0 lt).0)
      (grind arith) (omega arith)

  module _ (number class : ℕ) (found : slice_get classes number ≡ Some class) where
    within : number < length classes
    within = slice_get_within classes number class found

    pub class-here : get_or classes number 0 ≡ class
    class-here = get_or_from_slice_get classes number class 0 found

    pub class-order : AreInOrder (class_start classes number) (16 * class - 15)
    class-order = grind (arith, class-here, within)

    pub class-next : class_start classes (number + 1) ≡ 16 * class - 15
    class-next = ap (class_start classes) (add-one number) ∙ ap (λ (c : ℕ). 16 * c - 15) class-here

    -- no more blocks are live than events came
    pub class-product : (events : List SizeEvent) (peak : Peak) (low end bytes : ℕ) → IsTimeline events → low ≡ class_start classes number
        → end ≡ 16 * class - 15 → IsFirst (blocks_from low end) events (length events) peak.most peak.first → bytes ≡ 16 * class
        → bytes * peak.most ≤ 16 * 1024 * greatest_count
    class-product events peak low end bytes timeline low_is end_is first bytes_is = grind (arith, class-order, span-few, class-here, within)

    -- the blocks of a class are those of its sizes
    measure : (s : List ℕ) → AreCounts s → blocks classes class s ≡ blocks_from (class_start classes number) (16 * class - 15) s
    measure s counts = grind (arith, class-here, measure-at, within)

    module _ (events : List SizeEvent) (timeline : IsTimeline events) (peak : Peak)
        (is : peak.most ≡ most (blocks_from (class_start classes number) (16 * class - 15)) (moments events))
        (first : IsFirst (blocks_from (class_start classes number) (16 * class - 15)) events (length events) peak.most peak.first) where
      all-counts : All AreCounts (moments events)
      unfolding moments
      all-counts =
          All-map AreCounts (snapshot_at events) (range_with_len 0 (length events + 1))
          (λ k d lt. snapshot-counts events (get_or (range_with_len 0 (length events + 1)) k d) timeline)

      pub class-most : peak.most ≡ most (blocks classes class) (moments events)
      class-most = is ∙ sym (most-same _ _ (moments events) all-counts (λ s counts. measure s counts))

      pub class-first : IsFirst (blocks classes class) events (length events) (most (blocks classes class) (moments events)) peak.first
      class-first = grind (arith, class-most, measure, snapshot-counts)

      -- what the classes take up to this one
      pub class-sum : (total bytes : ℕ) → bytes ≡ 16 * class → total ≡ sum_by (class_bytes events classes) (take number classes)
          → total + bytes * peak.most ≡ sum_by (class_bytes events classes) (take (number + 1) classes)
      class-sum total bytes bytes-is so_far = grind (arith, sum_by_more, within, class-here, class-most)

      -- and the first moment of each of them
      pub class-firsts : (firsts : List ℕ) → length firsts ≡ number
          → ((j : ℕ) → j < number
          → IsFirst (blocks classes (slice_index classes j)) events (length events)
          (most (blocks classes (slice_index classes j)) (moments events)) (slice_index firsts j))
          → (j : ℕ) → j < number + 1
          → IsFirst (blocks classes (slice_index classes j)) events (length events)
          (most (blocks classes (slice_index classes j)) (moments events)) (slice_index (firsts ++ peak.first ∷ []) j)
      class-firsts firsts len before j lt = grind (arith, get_or_append_left, get_or-append_seam, class-here, class-first)
