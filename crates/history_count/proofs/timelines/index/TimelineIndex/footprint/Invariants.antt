use Rattle.std.proofs.Common.{◌≡◌, ℕ, ◌*◌, ◌^◌, ◌<◌, ◌≤◌, length, slice_index, take, sum_by}
use Rattle.tuner_theory.specs.{Footprint.{blocks}, Histories.{most}, Timelines.{moments}}
use Rattle.history_count.specs.{CountedLines.{IsCutAt}, Timelines.LiveBlocks.{IsFirst, class_bytes}, Timelines.Stretches.{class_start}}
use Rattle.history_count.proofs.timelines.index.TimelineIndex.footprint.Given as goal

abbrev pub invariant-loop-number : goal.invariant-loop-number
invariant-loop-number l =
    let events = l.self-inside.events.now in
    record {
      low : l.low ≡ class_start l.table l.number;
      cut : IsCutAt l.self-inside.requested.sizes.items l.start l.low;
      sum : l.taken.bytes ≡ sum_by (class_bytes events l.table) (take l.number l.table);
      small : l.taken.bytes ≤ l.number * 2 ^ 45;
      len : length l.taken.firsts.items ≡ l.number;
      first : (j : ℕ) → j < l.number
          → IsFirst (blocks l.table (slice_index l.table j)) events (length events)
          (most (blocks l.table (slice_index l.table j)) (moments events)) (slice_index l.taken.firsts.items j);
    }
