use Rattle.std.proofs.Common.{◌≡◌, ◌≤◌, List, ℕ, length, true}
use Rattle.trace_reader.specs.Reading.{is_at_start}
use Rattle.mte_engine.specs.Traces.{CountsFront, KeepsCounts}
use Rattle.mte_engine.proofs.trace_counting.count_lines.Given as goal

abbrev pub invariant-loop-event : goal.invariant-loop-event
invariant-loop-event l = record {
  counted : (bytes : List ℕ) → KeepsCounts l.fn.reader l.fn.profile bytes → CountsFront bytes l.text l.reader l.profile l.rest;
  start : is_at_start l.reader ≡ true;
  shorter : length l.rest ≤ length l.text;
}

abbrev pub decreases-loop-event : goal.decreases-loop-event
decreases-loop-event l = length l.rest
