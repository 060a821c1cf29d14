use Rattle.std.proofs.Common.{◌≤◌, length}
use Rattle.potential_check.proofs.FootprintLemmas.TimelineLemmas.Moments.{ReadSoFar}
use Rattle.potential_check.proofs.footprints.timelines.moments_line.moments_of_words.Given as goal

abbrev pub invariant-loop-next : goal.invariant-loop-next
invariant-loop-next l = record {
  so_far : ReadSoFar l.fn.words l.words l.next l.numbers.items;
  next : l.next ≤ 1000000001;
  few : length l.numbers.items ≤ 1024;
}

abbrev pub decreases-loop-next : goal.decreases-loop-next
decreases-loop-next l = length l.words
