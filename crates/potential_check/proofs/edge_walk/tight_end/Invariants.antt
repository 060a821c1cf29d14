use Rattle.std.proofs.Common.{ℕ, ◌<◌, ◌≤◌, slice_index}
use Rattle.potential_check.specs.{EdgeWalk.{IsEnd}, RowConditions.{edge_bound}}
use Rattle.potential_check.proofs.edge_walk.tight_end.Given as goal

abbrev pub invariant-end : goal.invariant-end
invariant-end l = record {
  end : IsEnd l.spans l.before l.end;
  after : l.start.place < l.end.place;
  upto : l.end.place ≤ l.fn.last.place;
  here : (j : ℕ) → l.end.place < j → j ≤ l.fn.last.place → slice_index l.row l.start.place < edge_bound l.spans l.before l.start.place j;
  next : (j : ℕ) → l.next.place < j → l.end.place ≤ j → j < l.fn.last.place
      → slice_index l.row l.next.place ≤ edge_bound l.spans l.before l.next.place j;
}

abbrev pub decreases-end : goal.decreases-end
decreases-end l = l.end.place
